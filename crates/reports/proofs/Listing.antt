-- A list that is made entry by entry: the components under a parent, in number order.
use Rattle.std.proofs.Common.{◌≡◌, ℕ, ◌+◌, ◌<◌, ◌≤◌, true, cond, List, [], ◌++◌, Option, ◌∙◌, arith}
use Rattle.model.specs.Studies.{Model}
use Rattle.plans.specs.Questions.{count}
use Rattle.reports.specs.LineOrder.{is_under, listed_below, listed}
use Rattle.reports.specs.NextUnder.{NoneUnder}
use Rattle.reports.proofs.Ranges.{upto_skip, upto_next, upto_split}

module _ (s : Model) (entry : ℕ → List ℕ) (p : Option ℕ) where
  -- one entry more
  pub listed_next : (m i : ℕ) → m ≤ i → is_under s p i ≡ true → NoneUnder s p m i → listed_below s entry p (i + 1) ≡ listed_below s entry p m ++ entry i
  listed_next m i h u none =
      upto_next (λ k. cond (is_under s p k) (entry k) []) m i h (λ k low high. grind (arith, none k low high)) ∙ rw u

  -- no entry more
  pub listed_all : (m n : ℕ) → m ≤ n → NoneUnder s p m n → listed_below s entry p n ≡ listed_below s entry p m
  listed_all m n h none = upto_skip _ m n h (λ k low high. grind (arith, none k low high))

  -- the list, split at the entry of a component under p
  pub listed_split : (i : ℕ) → i < count s → is_under s p i ≡ true → (rest : List ℕ) × (listed s entry p ≡ listed_below s entry p i ++ (entry i ++ rest))
  listed_split i h u =
      let r = upto_split (λ k. cond (is_under s p k) (entry k) []) i (count s) h in
      (r.0, rw u at r.1)
