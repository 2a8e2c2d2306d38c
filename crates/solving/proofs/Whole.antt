-- The total of a walk: what stands at the whole when every component is taken is what the walk's plan posts.
use Rattle.std.proofs.Common.{◌≡◌, ℕ, zero, suc, ◌-◌, ◌≤◌, Bool, Some, None, Option, sym, refl, ap, ◌∙◌, subst, arith, length-append}
use Rattle.std.proofs.lemmas.Bool.{and_parts}
use Rattle.costs.specs.Kinds.{Adding, Laws}
use Rattle.model.specs.Studies.{Model, Limits}
use Rattle.plans.specs.Questions.{count}
use Rattle.plans.specs.Starts.{parent}
use Rattle.plans.specs.Orders.{rank}
use Rattle.theory.specs.Amounts.{Amount, nothing, both, value}
use Rattle.theory.specs.Options.{Options}
use Rattle.theory.specs.Breakdowns.{Sums, total, spent, plan}
use Rattle.theory.specs.Tables.{Table, breakdown, notes, sums, sums_at, walked}
use Rattle.theory.proofs.Tables.{regular}
use Rattle.theory.proofs.Totals.{total_is_spent}
use Rattle.theory.proofs.Walks.{plan_step}
use Rattle.theory.proofs.Walked.{one_more, sums_bounded, notes_small}
use Rattle.solutions.specs.Problems.{parent_number}
use Rattle.solving.specs.Sums.{Posts}
use Rattle.solving.specs.Steps.{tabled, best_on}
use Rattle.solving.proofs.Holding.{best_posts}
use Rattle.solving.proofs.Tabled.{parent_before, sound}
use Rattle.solving.proofs.Stepping.{whole_top}

-- an amount posts something if its last part does
both_posts : (x a b : Amount) → x ≡ both a b → Posts b → Posts x
both_posts x a b is h = subst Posts (sym is) (λ e. omega (arith, h (and_parts _ _ e).1, length-append a.row b.row))

no_parent : (p : Option ℕ) → parent_number p ≤ 0 → p ≡ None
no_parent None h = refl
no_parent (Some p) h = absurd (omega arith)

module _ {C : Type 0} (k : Adding C) (lower : C → C → Bool) (s : Model) (limits : Limits s) (o : ℕ → Options) where
  abbrev t : Table
  t = tabled s o

  -- at first nothing is taken
  pub sums_none : sums_at k lower t (count s) ≡ (λ _ _. nothing)
  unfolding sums_at sums
  sums_none = let e : count s - count s ≡ 0 = omega arith in ap (sums k lower t) e

  -- the first component is a top component, so the total posts something
  pub whole_posts : 1 ≤ count s → Posts (sums_at k lower t 0 0 0)
  whole_posts h =
      both_posts (sums_at k lower t 0 0 0) (sums_at k lower t 1 0 0) (best_on k lower s o 0 0).sum (whole_top k lower s limits o 0 h (no_parent (parent s 0) (parent_before s limits 0)))
      (best_posts k lower rank (o 1) suc (sums_at k lower t 1 1) (s.echelons - 0) 1)

  module _ (laws : Laws k lower) where
    walked_down : (n : ℕ) → n ≤ count s → value k (total (breakdown t) n (sums_at k lower t n) (plan (breakdown t) (notes k lower t) n)) ≡ value k (sums_at k lower t 0 0 0)
    walked_down zero l = refl
    walked_down (suc n) l =
        let ok = sound s limits o in
        let b = breakdown t in
        plan_step b (regular t ok) (notes k lower t) (notes_small k lower t ok) laws n (sums_at k lower t (suc n)) (sums_bounded k lower t ok (suc n) l)
        ∙ ap (λ (ex : Sums). value k (total b n ex (plan b (notes k lower t) n))) (sym (one_more k lower t ok n l))
        ∙ walked_down n (omega arith)

    -- the cost of the walk's plan is the cost of the total
    pub walked_value : value k (spent (breakdown t) (count s) (walked k lower t)) ≡ value k (sums_at k lower t 0 0 0)
    unfolding walked
    walked_value =
        let b = breakdown t in
        let a = plan b (notes k lower t) (count s) in
        ap (value k) (sym (total_is_spent b a (count s)))
        ∙ ap (λ (ex : Sums). value k (total b (count s) ex a)) (sym sums_none)
        ∙ walked_down (count s) (omega arith)
