-- The table of a study is one that the solver's argument speaks of.
use Rattle.std.proofs.Common.{◌≡◌, ℕ, zero, suc, ◌<◌, ◌≤◌, true, List, length, get_or, Some, None, Option, sym, refl, ap, subst, inl, inr, arith}
use Rattle.std.proofs.lemmas.List.{get_or_past}
use Rattle.std.proofs.lemmas.Bool.{cases_lt, ltb-true}
use Rattle.model.specs.Components.{no_component, is_entered}
use Rattle.model.specs.declared.component.Component.{Component}
use Rattle.model.specs.Studies.{Model, Limits}
use Rattle.plans.specs.Questions.{count}
use Rattle.plans.specs.Postings.{component}
use Rattle.plans.specs.Starts.{parent}
use Rattle.planning.specs.Surveys.{by_echelon}
use Rattle.planning.proofs.Needing.{component_read}
use Rattle.theory.specs.Options.{Options}
use Rattle.theory.specs.Tables.{Sound}
use Rattle.theory.proofs.Places.{echelons_rise}
use Rattle.solutions.specs.Problems.{parent_number}
use Rattle.solving.specs.Steps.{tabled}

-- what a list by echelon has at a place, which is one below the echelon
pub at_echelon : {A : Type 0} (f : ℕ → A) (place : ℕ) (none : A) → place < 4 → get_or (by_echelon f) place none ≡ f (suc place)
at_echelon f zero none h = refl
at_echelon f (suc zero) none h = refl
at_echelon f (suc (suc zero)) none h = refl
at_echelon f (suc (suc (suc zero))) none h = refl
at_echelon f (suc (suc (suc (suc n)))) none h = absurd (omega arith)

-- what the code reads past the last component, which it never does
abbrev pub unread : Component
unread = record { parent = None; level = 0; needs = record { discard = 0; repair = 0; moving = 0 }; rate = 0 }

-- component i, as the code reads it
pub component_at : (s : Model) (xs : List Component) (i : ℕ) → xs ≡ s.components → i < count s → get_or xs i unread ≡ component s i
component_at s xs i same h = component_read s xs i unread same (omega (arith, ap length same))

before_it : (i : ℕ) (p : Option ℕ) → is_entered i p ≡ true → parent_number p ≤ i
before_it i None h = omega arith
before_it i (Some p) h = ltb-true p i h

module _ (s : Model) (limits : Limits s) where
  -- a parent is entered before its components
  pub parent_before : (i : ℕ) → parent_number (parent s i) ≤ i
  parent_before i =
      elim (cases_lt i (count s)) [
        | inl h ↦ before_it i (parent s i) (limits.sound_rows i h).0
        | inr h ↦ subst (λ (c : Component). parent_number c.parent ≤ i) (sym (get_or_past s.components i no_component h)) (omega arith)
      ]

  pub sound : (o : ℕ → Options) → Sound (tabled s o)
  sound o =
      let few = limits.few_echelons in
      record {
        few = limits.few_components;
        rising = echelons_rise s.echelons limits.few_echelons;
        after_parent = parent_before;
        starts = λ i h. omega arith;
        ranks = record { below = λ b h. omega arith; told_apart = λ b c _ _ e. e };
      }
