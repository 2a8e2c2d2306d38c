-- What a solve answers once every question before the last has passed.
use Rattle.std.proofs.Common.{◌≡◌, ℕ, ◌*◌, ◌≤◌, Bool, leb, List, ◌++◌, length, drop, Some, None, Ok, Result, sym, ap, ◌∙◌, subst, subst₂, arith}
use Rattle.std.proofs.lemmas.Bool.{cond-true, le-leb}
use Rattle.costs.specs.Kinds.{Adding, Laws}
use Rattle.model.specs.declared.refusal.Refusal.{Refusal}
use Rattle.model.specs.declared.refusal.Refusal.TheVariants.{NoPlan}
use Rattle.model.specs.Books.{Book, KeepsLimits}
use Rattle.model.specs.Studies.{Model, Limits}
use Rattle.plans.specs.Questions.{count, questions, first_fault}
use Rattle.solutions.specs.Solved.{least_plan, answered, refused, unless_fault, solved}
use Rattle.solutions.specs.Promises.{Ready, SolvesLeast}
use Rattle.solutions.proofs.Promised.{solves_least_and_first}

-- the questions have passed
pub is_ready : (s : Model) (b : Book) (room : ℕ) (place : List ℕ) (n e : ℕ) → n ≡ count s → e ≡ s.echelons → (n ≡ 0 → ⊥) → n ≤ length place → n * e ≤ room → first_fault b (questions s) ≡ None → Ready s b room place
is_ready s b room place n e all last some enough working no_fault = record {
  some_component = omega arith;
  enough_bytes = omega arith;
  enough_working = subst₂ (λ i j. i * j ≤ room) all last working;
  no_fault = no_fault;
}

module _ {C : Type 0} (k : Adding C) (lower : C → C → Bool) (s : Model) (b : Book) (room : ℕ) (place : List ℕ) (ready : Ready s b room place) where
  solved_ready : solved k lower s b room place ≡ answered s place (least_plan k lower s b)
  solved_ready =
      cond-true (leb 1 (count s)) _ _ (le-leb 1 (count s) ready.some_component)
      ∙ cond-true (leb (count s) (length place)) _ _ (le-leb (count s) (length place) ready.enough_bytes)
      ∙ cond-true (leb (count s * s.echelons) room) _ _ (le-leb (count s * s.echelons) room ready.enough_working)
      ∙ ap (λ fault. unless_fault place fault (answered s place (least_plan k lower s b))) ready.no_fault

  pub none_answered : least_plan k lower s b ≡ None → solved k lower s b room place ≡ refused place NoPlan
  none_answered e = solved_ready ∙ ap (answered s place) e

  pub some_answered : (plan : List ℕ) (c : C) → least_plan k lower s b ≡ Some (record { plan = plan; cost = c }) → solved k lower s b room place ≡ record { answer = Ok c; place = plan ++ drop (count s) place }
  some_answered plan c e = solved_ready ∙ ap (answered s place) e

  -- the promise, for the answer and the place as they are
  pub promised : Laws k lower → Limits s → KeepsLimits b → (r : Result C Refusal) (after : List ℕ) → r ≡ (solved k lower s b room place).answer → after ≡ (solved k lower s b room place).place → SolvesLeast k lower s b after r
  promised laws limits kept r after answer is =
      subst (λ p. SolvesLeast k lower s b p r) (sym is) (subst (λ x. SolvesLeast k lower s b (solved k lower s b room place).place x) (sym answer) (solves_least_and_first C k lower s b room place laws limits kept ready))
