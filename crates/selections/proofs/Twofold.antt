-- Plans and consistent selections are the same thing, said twice.
use Rattle.std.proofs.Common.{ℕ, List, sym, ap, ◌∙◌}
use Rattle.costs.specs.Kinds.{Adding}
use Rattle.model.specs.Books.{Book}
use Rattle.model.specs.Studies.{Model, Limits}
use Rattle.plans.specs.Postings.{postings_for, summed}
use Rattle.plans.specs.Plans.{IsPlan}
use Rattle.selections.specs.Selections.{Selection, Consistent}
use Rattle.selections.specs.Laws.{Describes, DescribesOne, DescribedByOne, SameCost, PlansAreSelections}
use Rattle.selections.proofs.Described.{described_is_consistent}
use Rattle.selections.proofs.Chosen.{chosen, chosen_described, same_selection}
use Rattle.selections.proofs.Bytes.{plan_of}
use Rattle.selections.proofs.Encoded.{plan_of_describes, plan_of_is_plan}
use Rattle.selections.proofs.Alike.{same_plan}
use Rattle.selections.proofs.SameCosts.{same_questions}

plan_has_selection : (s : Model) (b : Book) → Limits s → (plan : List ℕ) → IsPlan s b plan → DescribesOne s b plan
plan_has_selection s b limits plan is_plan =
    let described = chosen_described s b plan limits is_plan in
    record {
      selection = chosen s plan;
      consistent = described_is_consistent s b plan is_plan (chosen s plan) described;
      described = described;
      no_other = λ y of-y. same_selection s plan y (chosen s plan) of-y described;
    }

selection_has_plan : (s : Model) (b : Book) → Limits s → (x : Selection) → Consistent s b x → DescribedByOne s b x
selection_has_plan s b limits x consistent =
    let is_plan = plan_of_is_plan s b x limits consistent in
    let describes = plan_of_describes s b x limits consistent in
    record {
      plan = plan_of s x;
      is_plan = is_plan;
      describes = describes;
      no_other = λ other is-other of_other. same_plan s b x other (plan_of s x) is-other of_other is_plan describes;
    }

module _ {C : Type 0} (k : Adding C) (s : Model) (b : Book) (limits : Limits s) where
  pub same_cost : (plan : List ℕ) (x : Selection) (c : C) → IsPlan s b plan → Describes s plan x → SameCost k s b plan x c
  same_cost plan x c is_plan described =
      let same = ap (λ qs. summed k (postings_for s b qs)) (same_questions s b plan x limits is_plan described) in
      record { plan_to_selection = λ h. sym same ∙ h; selection_to_plan = λ h. same ∙ h }

pub plans_are_selections : (C : Type 0) → PlansAreSelections C
plans_are_selections C k s b limits = record {
  plan_has_selection = plan_has_selection s b limits;
  selection_has_plan = selection_has_plan s b limits;
  same_cost = same_cost k s b limits;
}
