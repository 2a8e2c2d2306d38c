-- The least plan by the definition in the words of plans is what the definition of the solver's argument names.
use Rattle.std.proofs.Common.{arith}
use Rattle.std.proofs.Common.{◌≡◌, ℕ, ◌*◌, ◌≤◌, Bool, cond, List, [], ◌∷◌, Some, None, fold, Option, Result, sym, refl, ap, ◌∙◌}
use Rattle.std.specs.Result.{result_ok}
use Rattle.std.specs.List.{AllByRecursion}
use Rattle.std.proofs.ByRecursion.{All-weaker}
use Rattle.costs.specs.Kinds.{Adding}
use Rattle.model.specs.declared.refusal.Refusal.{Refusal}
use Rattle.model.specs.Books.{Book, KeepsLimits}
use Rattle.model.specs.Studies.{Model, Limits}
use Rattle.plans.specs.Questions.{count}
use Rattle.plans.specs.Prices.{judged}
use Rattle.theory.specs.Amounts.{Amount, value}
use Rattle.theory.specs.Answers.{rows, is_lower, costs_of, solved}
use Rattle.theory.specs.Answers as theory
use Rattle.theory.specs.Problems.{costs}
use Rattle.theory.proofs.Rows.{RowOf, rows_are_rows}
use Rattle.solutions.specs.Problems.{problem}
use Rattle.solutions.specs.Solved.{bytes, assignments, Priced, keep_cost, keep_if, keep, least_plan}
use Rattle.solutions.proofs.Judging.{costs_are_judged}
use Rattle.solutions.proofs.Bytes.{bytes_in_order}

-- a plan with its cost, none where it has no cost
abbrev pub plan_at : {C : Type 0} → Option C → List ℕ → Option (Priced C)
plan_at None plan = None
plan_at (Some c) plan = Some (record { plan = plan; cost = c })

-- a row that is named, with its cost
abbrev pub with_cost : {C : Type 0} → Adding C → (List ℕ → Amount) → Option (List ℕ) → Option (Priced C)
with_cost k f None = None
with_cost k f (Some plan) = plan_at (value k (f plan)) plan

module _ {C : Type 0} (k : Adding C) (lower : C → C → Bool) where
  -- one plan more: what is judged of it enters by its cost only
  abbrev keep_some : Option (Priced C) → List ℕ → Option C → Option (Priced C)
  keep_some best plan None = best
  keep_some best plan (Some c) = keep_cost lower best plan c

  by_cost : (best : Option (Priced C)) (plan : List ℕ) (r : Result C Refusal) → keep_if lower best plan r ≡ keep_some best plan (result_ok r)
  by_cost best plan r = grind arith

  same_kept : (f : List ℕ → Amount) (best : Option (List ℕ)) (u : Option C) (plan : List ℕ) → keep_some (with_cost k f best) plan u ≡ cond (is_lower lower u (value k (costs_of f best))) (plan_at u plan) (with_cost k f best)
  same_kept f best u plan = grind arith

  cost_of_either : (f : List ℕ → Amount) (t : Bool) (plan : List ℕ) (best : Option (List ℕ)) → cond t (plan_at (value k (f plan)) plan) (with_cost k f best) ≡ with_cost k f (cond t (Some plan) best)
  cost_of_either f t plan best = grind arith

  module _ (s : Model) (b : Book) (f : List ℕ → Amount) where
    keeps_alike : (best : Option (List ℕ)) (plan : List ℕ) → value k (f plan) ≡ result_ok (judged k s b plan) → keep k lower s b (with_cost k f best) plan ≡ with_cost k f (theory.keep k lower f best plan)
    keeps_alike best plan h =
        by_cost (with_cost k f best) plan (judged k s b plan) ∙ ap (keep_some (with_cost k f best) plan) (sym h)
        ∙ same_kept f best (value k (f plan)) plan
        ∙ cost_of_either f (is_lower lower (value k (f plan)) (value k (costs_of f best))) plan best

    folds_alike : (xs : List (List ℕ)) → AllByRecursion (λ plan. value k (f plan) ≡ result_ok (judged k s b plan)) xs → (best : Option (List ℕ)) → fold (keep k lower s b) (with_cost k f best) xs ≡ with_cost k f (fold (theory.keep k lower f) best xs)
    folds_alike [] h best = refl
    folds_alike (x ∷ xs) h best =
        ap (λ o. fold (keep k lower s b) o xs) (keeps_alike best x h.0)
        ∙ folds_alike xs h.1 (theory.keep k lower f best x)

  -- so the least plan is the row that is named, with its cost: the assignments are the rows of the solver's argument
  pub least_is_named :
      (s : Model) (b : Book) (limits : Limits s) (kept : KeepsLimits b) → 1 ≤ count s
      → least_plan k lower s b ≡ with_cost k (costs (problem s b limits kept)) (solved k lower (costs (problem s b limits kept)) (bytes s.echelons) (count s))
  unfolding least_plan assignments solved rows
  least_is_named s b limits kept some =
      folds_alike s b (costs (problem s b limits kept)) (rows (bytes s.echelons) (count s))
      (All-weaker (RowOf (2 * s.echelons) (count s)) (λ r. value k (costs (problem s b limits kept) r) ≡ result_ok (judged k s b r))
      (λ r h. costs_are_judged k s b limits kept some r h.0) (rows (bytes s.echelons) (count s))
      (rows_are_rows (2 * s.echelons) (bytes s.echelons) (bytes_in_order s.echelons).only_bytes (count s)))
      None
