-- The answers of price, once the survey has met no fault.
use Rattle.std.proofs.Common.{◌≡◌, ℕ, List, take, Some, None, Ok, Err, Option, Result, sym, refl, ap, ◌∙◌, subst}
use Rattle.std.specs.Option.{ok_or}
use Rattle.costs.specs.Kinds.{Adding}
use Rattle.model.specs.declared.refusal.Refusal.{Refusal}
use Rattle.model.specs.declared.refusal.Refusal.TheVariants.{NoComponent}
use Rattle.model.specs.Books.{Book}
use Rattle.model.specs.Studies.{Model, Limits}
use Rattle.plans.specs.Questions.{count}
use Rattle.plans.specs.Postings.{summed}
use Rattle.plans.specs.Plans.{postings}
use Rattle.plans.specs.Prices.{first_objection, or_refuse, cost_or_refuse, judged, priced, Ready, AcceptsExactlyPlans}
use Rattle.plans.proofs.Pricing.{priced_is_judged, accepts_exactly_plans}
use Rattle.planning.proofs.FirstBelow.{none_refused, some_refused}

cost_is_answered : {C : Type 0} (sum : Option C) → ok_or sum NoComponent ≡ cost_or_refuse sum
cost_is_answered None = refl
cost_is_answered (Some c) = refl

module _ {C : Type 0} (k : Adding C) (s : Model) (b : Book) (bytes cut : List ℕ) (same : cut ≡ take (count s) bytes) (ready : Ready s b bytes) where
  judged_is_priced : judged k s b cut ≡ priced k s b bytes
  judged_is_priced = ap (judged k s b) same ∙ sym (priced_is_judged k s b bytes ready)

  -- a component's objection is the answer
  pub objected : (why : Refusal) → Err why ≡ or_refuse (first_objection s b cut) (Ok (tt {0})) → Err why ≡ priced k s b bytes
  objected why o =
      ap (λ x. or_refuse x (cost_or_refuse (summed k (postings s b cut)))) (some_refused (tt {0}) (first_objection s b cut) why o) ∙ judged_is_priced

  -- where there is none, the cost is
  pub costed : (sum : Option C) → Ok (tt {0}) ≡ or_refuse (first_objection s b cut) (Ok (tt {0})) → sum ≡ summed k (postings s b cut) → ok_or sum NoComponent ≡ priced k s b bytes
  costed sum o e =
      cost_is_answered sum ∙ ap cost_or_refuse e
      ∙ ap (λ x. or_refuse x (cost_or_refuse (summed k (postings s b cut)))) (none_refused (tt {0}) (first_objection s b cut) o)
      ∙ judged_is_priced

  -- what is answered accepts exactly the plans
  pub accepts : Limits s → (r : Result C Refusal) → r ≡ priced k s b bytes → AcceptsExactlyPlans k s b bytes r
  accepts limits r answer = subst (AcceptsExactlyPlans k s b bytes) (sym answer) (accepts_exactly_plans C k s b bytes limits ready)
