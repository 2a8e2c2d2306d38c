-- What a row of bytes costs in the solver's argument is what pricing judges of it.
use Rattle.std.proofs.Common.{◌≡◌, ℕ, ◌≤◌, Bool, true, false, cond, List, length, Some, None, Option, sym, refl, ap, ◌∙◌, arith, length-append}
use Rattle.std.specs.Result.{result_ok}
use Rattle.std.proofs.lemmas.Bool.{false≢true}
use Rattle.costs.specs.Kinds.{Adding}
use Rattle.model.specs.declared.refusal.Refusal.{Refusal}
use Rattle.model.specs.Books.{Book, KeepsLimits}
use Rattle.model.specs.Studies.{Model, Limits}
use Rattle.plans.specs.Questions.{count}
use Rattle.plans.specs.Postings.{summed}
use Rattle.plans.specs.Plans.{IsPlan, postings, Costs}
use Rattle.plans.specs.Prices.{objection, first_objection, or_refuse, cost_or_refuse, judged}
use Rattle.plans.proofs.Accepted.{passed_is_plan, plan_passes}
use Rattle.plans.proofs.Below.{none_below, first_none}
use Rattle.plans.proofs.Objecting.{passes, no_objection}
use Rattle.theory.specs.Amounts.{value}
use Rattle.theory.specs.Entries.{sum}
use Rattle.theory.specs.Problems.{Problem, options_of, needs_of, costs}
use Rattle.theory.specs.Searches.{pair_postings}
use Rattle.theory.proofs.Problems.{countable, plan_is_clear}
use Rattle.solutions.specs.Problems.{problem}
use Rattle.solutions.proofs.Amounts.{plain_sum}
use Rattle.solutions.proofs.Passing.{open_posts_plan, opens, open_passes, passes_open}
use Rattle.solutions.proofs.Proper.{problem_proper}

module _ {C : Type 0} (k : Adding C) (s : Model) (b : Book) (limits : Limits s) (kept : KeepsLimits b) (some : 1 ≤ count s) (plan : List ℕ) where
  abbrev y : Problem
  y = problem s b limits kept

  -- an open row has a posting, so it costs what the plan's postings sum to
  pub open_costs : (costs y plan).is_open ≡ true → Costs k s b plan (sum k (costs y plan).row)
  open_costs h =
      let ok = problem_proper s b limits kept some in
      let options = (countable y ok).posts plan (plan_is_clear y ok plan h).0 in
      let all = length-append (options_of y plan).row (pair_postings y.pair (needs_of y plan) y.pairs) in
      sym (ap (summed k) (open_posts_plan s b limits kept plan h)) ∙ plain_sum k (costs y plan).row (omega arith)

  -- an open row is a plan, and a plan is open
  pub open_is_plan : (costs y plan).is_open ≡ true → IsPlan s b plan
  open_is_plan h = passed_is_plan s b plan limits (open_passes s b limits kept plan h) (opens s b limits kept plan h).long

  pub plan_is_open : IsPlan s b plan → (costs y plan).is_open ≡ true
  plan_is_open p = passes_open s b limits kept plan p.one_byte_each (plan_passes s b plan limits p)

  abbrev judging : Option Refusal → Option C
  judging o = result_ok (or_refuse o (cost_or_refuse (summed k (postings s b plan))))

  open_is_judged : (costs y plan).is_open ≡ true → Some (sum k (costs y plan).row) ≡ result_ok (judged k s b plan)
  open_is_judged h =
      let none = first_none (objection s b plan) (count s) (λ i l. no_objection s b plan i (open_passes s b limits kept plan h i l)) in
      sym (ap judging none ∙ ap (λ o. result_ok (cost_or_refuse o)) (open_costs h))

  closed_is_refused : length plan ≡ count s → (costs y plan).is_open ≡ false → (o : Option Refusal) → first_objection s b plan ≡ o → None ≡ judging o
  closed_is_refused long h None e =
      let pass = none_below (objection s b plan) (count s) e in
      absurd (false≢true (sym h ∙ passes_open s b limits kept plan long (λ i l. passes s b plan i (pass i l))))
  closed_is_refused long h (Some why) e = refl

  -- a row with a byte for each component costs what is judged of it, and none where it is refused
  pub costs_are_judged : length plan ≡ count s → value k (costs y plan) ≡ result_ok (judged k s b plan)
  costs_are_judged long = go (costs y plan).is_open refl
    where
      go : (t : Bool) → (costs y plan).is_open ≡ t → cond t (Some (sum k (costs y plan).row)) None ≡ result_ok (judged k s b plan)
      go true h = open_is_judged h
      go false h = closed_is_refused long h (first_objection s b plan) refl
