-- The component that the code reads off a study's list.
use Rattle.std.proofs.Common.{◌≡◌, ℕ, ◌<◌, ◌≤◌, true, false, List, get_or, length, Some, None, Option, Bool, sym, ap, ◌∙◌, arith}
use Rattle.std.specs.Option.{option_eq}
use Rattle.std.specs.Prelude.{MatchOption, nat_eq}
use Rattle.std.proofs.lemmas.List.{get_or_default}
use Rattle.model.specs.declared.component.Component.{Component}
use Rattle.model.specs.Components.{no_component}
use Rattle.model.specs.Studies.{Model}
use Rattle.plans.specs.Postings.{component}
use Rattle.plans.specs.Questions.{count}
use Rattle.reports.specs.LineOrder.{is_under}
use Rattle.reports.specs.NextUnder.{NextUnder}

-- what a read past the end of the list would give
abbrev pub unset : Component
unset = record { parent = None; level = 0; needs = record { discard = 0; repair = 0; moving = 0 }; rate = 0 }

module _ (s : Model) (rows : List Component) (same : rows ≡ s.components) where
  pub read : (i : ℕ) → i < count s → get_or rows i unset ≡ component s i
  read i h =
      let inside : i < length rows = omega (arith, ap length same) in
      get_or_default rows i unset no_component inside ∙ ap (λ xs. get_or xs i no_component) same

  -- whether the component that is read stands under p
  abbrev pub Under : Option ℕ → Bool → ℕ → Type 0
  Under p b i = option_eq nat_eq (get_or rows i unset).parent p ≡ b

  under : (p : Option ℕ) (b : Bool) (i : ℕ) → i < count s → Under p b i → is_under s p i ≡ b
  under p b i h u = sym (ap (λ (x : Component). option_eq nat_eq x.parent p) (read i h)) ∙ u

  pub next_read : (p : Option ℕ) (from : ℕ) (r : Option ℕ) → MatchOption r ((k : ℕ) → from ≤ k → k < length rows → Under p false k) (λ i. (from ≤ i) × (i < length rows) × Under p true i × ((k : ℕ) → from ≤ k → k < i → Under p false k)) → NextUnder s p from r
  next_read p from None none =
      λ k low high. let inside : k < length rows = omega (arith, ap length same) in under p false k high (none k low inside)
  next_read p from (Some i) found =
      let inside : i < count s = omega (arith, ap length same, found.1) in
      (found.0, inside, under p true i inside found.2, λ k low high. under p false k (omega arith) (found.3 k low high))
