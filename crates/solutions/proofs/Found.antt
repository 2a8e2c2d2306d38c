-- What a search of a study finds is its least plan.
use Rattle.std.proofs.Common.{◌≡◌, ℕ, ◌≤◌, Bool, false, List, Some, None, Option, sym, refl, ap, ◌∙◌}
use Rattle.costs.specs.Kinds.{Adding, Laws}
use Rattle.model.specs.Books.{Book, KeepsLimits}
use Rattle.model.specs.Studies.{Model, Limits}
use Rattle.plans.specs.Questions.{count}
use Rattle.theory.specs.Answers.{costs_of}
use Rattle.theory.specs.Amounts.{value}
use Rattle.theory.specs.Problems.{Problem, plans, costs, no_plan, plan_if}
use Rattle.theory.specs.Searches.{Best, Found}
use Rattle.theory.proofs.Solves.{found_solves}
use Rattle.solutions.specs.Problems.{problem}
use Rattle.solutions.specs.Solved.{bytes, least_plan}
use Rattle.solutions.proofs.Bytes.{bytes_in_order}
use Rattle.solutions.proofs.Least.{plan_at, with_cost, least_is_named}
use Rattle.solutions.proofs.Proper.{problem_proper}

module _ {C : Type 0} {k : Adding C} {lower : C → C → Bool} (laws : Laws k lower) (s : Model) (b : Book) (limits : Limits s) (kept : KeepsLimits b) (some : 1 ≤ count s) where
  abbrev y : Problem
  y = problem s b limits kept

  module _ (r₀ : List ℕ) (r : Best (List ℕ) C) (found : Found k lower (plans y) y.is_closed (λ _. false) y.is_closed (no_plan r₀) r) where
    -- the plan that is found, at the cost that is found; none where no cost is found
    pub found_solved : least_plan k lower s b ≡ plan_at r.cost r.plan
    found_solved =
        let sol = found_solves laws y (problem_proper s b limits kept some) (bytes s.echelons) (bytes_in_order s.echelons) r₀ r found in
        least_is_named k lower s b limits kept some ∙ ap (with_cost k (costs y)) (sym sol.plan) ∙ go r.cost refl (sol.cost ∙ ap (λ o. value k (costs_of (costs y) o)) (sym sol.plan))
      where
        go : (o : Option C) → r.cost ≡ o → r.cost ≡ value k (costs_of (costs y) (plan_if r.cost r.plan)) → with_cost k (costs y) (plan_if r.cost r.plan) ≡ plan_at r.cost r.plan
        go None e h = ap (λ o. with_cost k (costs y) (plan_if o r.plan)) e ∙ sym (ap (λ o. plan_at o r.plan) e)
        go (Some c) e h =
            let cost : r.cost ≡ value k (costs y r.plan) = h ∙ ap (λ o. value k (costs_of (costs y) (plan_if o r.plan))) e in
            ap (λ o. with_cost k (costs y) (plan_if o r.plan)) e ∙ sym (ap (λ o. plan_at o r.plan) cost)

    pub found_none : r.cost ≡ None → least_plan k lower s b ≡ None
    found_none e = found_solved ∙ ap (λ o. plan_at o r.plan) e

    pub found_plan : (c : C) → r.cost ≡ Some c → least_plan k lower s b ≡ Some (record { plan = r.plan; cost = c })
    found_plan c e = found_solved ∙ ap (λ o. plan_at o r.plan) e
