-- Entries and lists of a study within its limits: an entry is its component and the list under it.
use Rattle.std.proofs.Common.{◌≡◌, ℕ, zero, suc, ◌+◌, ◌-◌, ◌<◌, ◌≤◌, true, List, ◌∷◌, Some, None, Option, sym, ap, ◌∙◌, arith}
use Rattle.std.specs.Option.{option_eq}
use Rattle.std.specs.Prelude.{nat_eq}
use Rattle.model.specs.declared.component.Component.{Component}
use Rattle.model.specs.Components.{level_under}
use Rattle.model.specs.Studies.{Model, Limits}
use Rattle.plans.specs.Postings.{component}
use Rattle.plans.specs.Questions.{count}
use Rattle.plans.specs.Starts.{parent}
use Rattle.reports.specs.LineOrder.{is_under, listed, entry, entry_of, order}
use Rattle.reports.proofs.Ranges.{upto_same, upto_skip}

pub option_eq_true : (a b : Option ℕ) → option_eq nat_eq a b ≡ true → a ≡ b
option_eq_true a b h = grind arith

-- the indenture level of a component
abbrev pub level : Model → ℕ → ℕ
level s i = (component s i).level

under_low : (cs : List Component) (p : Option ℕ) → 1 ≤ level_under cs p
under_low cs p = grind arith

module _ (s : Model) (limits : Limits s) where
  -- a component under p is one level deeper
  pub level_is : (p : Option ℕ) (k : ℕ) → k < count s → is_under s p k ≡ true → level s k ≡ level_under s.components p
  level_is p k h u = (limits.sound_rows k h).1 ∙ ap (level_under s.components) (option_eq_true (parent s k) p u)

  pub level_low : (k : ℕ) → k < count s → 1 ≤ level s k
  level_low k h = omega (arith, (limits.sound_rows k h).1, under_low s.components (parent s k))

  pub level_high : (k : ℕ) → k < count s → level s k ≤ 5
  level_high k h = (limits.sound_rows k h).2

  -- two lists under p are equal if they have equal entries for the components there
  pub listed_same : (f g : ℕ → List ℕ) (p : Option ℕ) → ((k : ℕ) → k < count s → is_under s p k ≡ true → f k ≡ g k) → listed s f p ≡ listed s g p
  listed_same f g p same = upto_same _ _ (count s) (λ k h. grind (arith, same k h))

  pub entry_step : (left i : ℕ) → i < count s → level s i + left ≡ 5 → entry s left i ≡ i ∷ listed s (entry_of s) (Some i)
  unfolding entry
  entry_step zero i h e =
      ap (λ l. i ∷ l) (sym (upto_skip _ 0 (count s) (omega arith) (λ k low high. grind (arith, level_is (Some i) k high, level_high k high))))
  entry_step (suc left) i h e =
      ap (λ l. i ∷ l) (listed_same (entry s left) (entry_of s) (Some i) (λ k b u.
      let deep = level_is (Some i) k b u in
      let rest : left ≡ 5 - level s k = omega arith in
      ap (λ m. entry s m k) rest))

  -- an entry: the component, and then the list under it
  pub entry_is : (i : ℕ) → i < count s → entry_of s i ≡ i ∷ listed s (entry_of s) (Some i)
  entry_is i h = let few = level_high i h in entry_step (5 - level s i) i h (omega arith)

  -- the order of the lines: the list of the top components
  pub order_is : order s ≡ listed s (entry_of s) None
  order_is =
      listed_same (entry s 4) (entry_of s) None (λ k h u.
      let top = level_is None k h u in
      let rest : 4 ≡ 5 - level s k = omega arith in
      ap (λ m. entry s m k) rest)
