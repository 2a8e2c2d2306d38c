-- The worked examples on study X.
use Rattle.std.proofs.Common.{◌≡◌, ℕ, zero, suc, ◌<◌, true, length, get_or, Ok, refl, subst, arith}
use Rattle.std.proofs.lemmas.List.{take_all}
use Rattle.costs.specs.Amounts.{money}
use Rattle.model.specs.declared.question.RepairOption.TheVariants.{Discard}
use Rattle.model.specs.Components.{no_component, Row}
use Rattle.model.specs.Studies.{Limits}
use Rattle.plans.specs.Ranges.{every}
use Rattle.plans.specs.Questions.{option_questions}
use Rattle.plans.specs.Plans.{IsPlan, Costs}
use Rattle.plans.specs.Prices.{priced}
use Rattle.plans.proofs.Pricing.{accepts_exactly_plans}
use Rattle.cases.specs.StudyX.{study_x, book_x}
use Rattle.selections.specs.Selections.{AskedFor}
use Rattle.selections.specs.Examples.{selecting, Example, with_superfluous, Agrees, ExamplesAgree}
use Rattle.selections.proofs.Described.{described_is_consistent}
use Rattle.selections.proofs.Chosen.{chosen}
use Rattle.selections.proofs.Listed.{listed_if_used, listed_described}
use Rattle.selections.proofs.Twofold.{same_cost}

sound_x : (i : ℕ) → i < 2 → Row 1 study_x.components i (get_or study_x.components i no_component)
sound_x zero l = (refl, refl, omega arith, refl, refl)
sound_x (suc zero) l = (refl, refl, omega arith, refl, refl)
sound_x (suc (suc i)) l = absurd (omega arith)

limits_x : Limits study_x
limits_x = record {
  some_echelon = omega arith;
  few_echelons = omega arith;
  few_resources = omega arith;
  few_pairs = omega arith;
  few_components = omega arith;
  sound_rows = sound_x;
}

-- an example agrees where pricing its plan answers its cost, every choice is used and every used option is chosen
module _ (x : Example) (two : length x.plan ≡ 2) (answer : priced money study_x book_x x.plan ≡ Ok x.cost) where
  plan_and_cost : IsPlan study_x book_x x.plan × Costs money study_x book_x x.plan x.cost
  plan_and_cost =
      subst (λ p. IsPlan study_x book_x p × Costs money study_x book_x p x.cost) (take_all 2 x.plan (omega arith))
      ((accepts_exactly_plans _ money study_x book_x x.plan limits_x (record { some_component = omega arith; enough_bytes = omega arith; no_fault = refl })
      ).accepted_is_plan x.cost answer)

  agrees :
      every (λ c. chosen study_x x.plan c.0 c.1 c.2) x.options ≡ true
      → every (listed_if_used study_x x.plan x.options) (option_questions study_x) ≡ true → Agrees x
  agrees used listed =
      let is_plan = plan_and_cost.0 in
      let describes = listed_described study_x book_x x.plan x.options limits_x is_plan used listed in
      record {
        is_plan = is_plan;
        describes = describes;
        consistent = described_is_consistent study_x book_x x.plan is_plan (selecting x.options) describes;
        costs = (same_cost money study_x book_x limits_x x.plan (selecting x.options) x.cost is_plan describes).plan_to_selection plan_and_cost.1;
      }

-- nothing asks for component 1 at echelon 1: it is no top component, is not moved from below, and its parent is not repaired there
not_asked : {e : ℕ} → AskedFor study_x (selecting with_superfluous) 1 e → e ≡ 1 → ⊥
not_asked asked same = grind arith

pub examples_agree : ExamplesAgree
examples_agree = record {
  each_agrees = (agrees _ refl refl refl refl, (agrees _ refl refl refl refl, tt));
  superfluous_is_not = λ consistent. not_asked (consistent.nothing_else 1 1 Discard refl) refl;
}
