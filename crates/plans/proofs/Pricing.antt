-- Pricing accepts exactly the plans.
use Rattle.std.proofs.Common.{arith}
use Rattle.std.proofs.Common.{◌≡◌, ℕ, ◌≤◌, leb, List, length, take, Some, None, Ok, Option, Result, sym, ap, ◌∙◌}
use Rattle.std.proofs.lemmas.List.{length-take-le}
use Rattle.std.proofs.lemmas.Bool.{le-leb, cond-true}
use Rattle.costs.specs.Kinds.{Adding}
use Rattle.model.specs.declared.refusal.Refusal.{Refusal}
use Rattle.model.specs.Books.{Book}
use Rattle.model.specs.Studies.{Model, Limits}
use Rattle.plans.specs.Questions.{count}
use Rattle.plans.specs.Postings.{summed}
use Rattle.plans.specs.Plans.{IsPlan, postings, Costs}
use Rattle.plans.specs.Prices.{objection, first_objection, or_refuse, fault_refusal, cost_or_refuse, judged, priced, Ready}
use Rattle.plans.specs.Laws.{PriceAcceptsExactlyPlans}
use Rattle.plans.proofs.Below.{none_below, first_none}
use Rattle.plans.proofs.Objecting.{passes, no_objection}
use Rattle.plans.proofs.Accepted.{passed_is_plan, plan_passes}
use Rattle.plans.proofs.Costing.{plan_has_cost}

-- an answer is a cost where there is no refusal before it
not_refused : {C : Type 0} (why : Option Refusal) (rest : Result C Refusal) (c : C) → or_refuse why rest ≡ Ok c → (why ≡ None) × (rest ≡ Ok c)
not_refused why rest c h = grind arith

has_cost : {C : Type 0} (sum : Option C) (c : C) → cost_or_refuse sum ≡ Ok c → sum ≡ Some c
has_cost sum c h = grind arith

module _ {C : Type 0} (k : Adding C) (s : Model) (b : Book) where
  -- where the study and the survey are in order, the components alone decide
  pub priced_is_judged : (bytes : List ℕ) → Ready s b bytes → priced k s b bytes ≡ judged k s b (take (count s) bytes)
  priced_is_judged bytes ready =
      cond-true (leb 1 (count s)) _ _ (le-leb _ _ ready.some_component)
      ∙ cond-true (leb (count s) (length bytes)) _ _ (le-leb _ _ ready.enough_bytes)
      ∙ ap (λ f. or_refuse (fault_refusal f) (judged k s b (take (count s) bytes))) ready.no_fault

  module _ (plan : List ℕ) (limits : Limits s) where
    judged_is_plan : length plan ≡ count s → (c : C) → judged k s b plan ≡ Ok c → IsPlan s b plan × Costs k s b plan c
    judged_is_plan long c h =
        let both = not_refused (first_objection s b plan) (cost_or_refuse (summed k (postings s b plan))) c h in
        let none = none_below (objection s b plan) (count s) both.0 in
        (passed_is_plan s b plan limits (λ i l. passes s b plan i (none i l)) long, has_cost (summed k (postings s b plan)) c both.1)

    plan_is_judged : 1 ≤ count s → IsPlan s b plan → (c : C) × (judged k s b plan ≡ Ok c) × Costs k s b plan c
    plan_is_judged some is_plan =
        let cost = plan_has_cost k s b plan limits some is_plan in
        let none = first_none (objection s b plan) (count s) (λ i l. no_objection s b plan i (plan_passes s b plan limits is_plan i l)) in
        (cost.0, ap (λ o. or_refuse o (cost_or_refuse (summed k (postings s b plan)))) none ∙ ap cost_or_refuse cost.1, cost.1)

pub accepts_exactly_plans : (C : Type 0) → PriceAcceptsExactlyPlans C
accepts_exactly_plans C k s b bytes limits ready =
    let judging = priced_is_judged k s b bytes ready in
    let plan = take (count s) bytes in
    record {
      accepted_is_plan = λ c h. judged_is_plan k s b plan limits (length-take-le (count s) bytes ready.enough_bytes) c (sym judging ∙ h);
      plan_is_accepted = λ is_plan.
          let found = plan_is_judged k s b plan limits ready.some_component is_plan in
          (found.0, judging ∙ found.1, found.2);
    }
