-- What solving answers: the definition that goes through every assignment of bytes in reading order, and keeps the first of
-- the least plans.
use Rattle.std.specs.Prelude.{ℕ, zero, suc, ◌+◌, ◌*◌, Bool, cond, List, [], ◌∷◌, ◌++◌, map, length, drop, Some, None, Ok, Err, fold, Option, Result, nat_le}
use Rattle.std.specs.List.{range_with_len, flat_map}
use Rattle.costs.specs.Kinds.{Adding}
use Rattle.model.specs.declared.answer.Fault.{Fault}
use Rattle.model.specs.declared.refusal.Refusal.{Refusal}
use Rattle.model.specs.declared.refusal.Refusal.TheVariants.{NoComponent, ShortPlan, ShortWorking, BookFault, NoPlan}
use Rattle.model.specs.Books.{Book}
use Rattle.model.specs.Studies.{Model}
use Rattle.plans.specs.Questions.{count, questions, first_fault}
use Rattle.plans.specs.Prices.{judged}

-- the bytes of a study with so many echelons, in the order of their ranks
abbrev pub bytes : ℕ → List ℕ
bytes last = range_with_len 0 (2 * last + 1)

-- every assignment of those bytes to n components, in reading order
unfoldable pub assignments : List ℕ → ℕ → List (List ℕ)
assignments choices zero = [] ∷ []
assignments choices (suc n) = flat_map (λ b. map (λ rest. b ∷ rest) (assignments choices n)) choices

-- a plan with its cost
pub record Priced (C : Type 0) : Type 0 where
  pub plan : List ℕ
  pub cost : C

-- the best so far, unless the assignment is a plan at a lower cost
abbrev pub keep_cost : {C : Type 0} → (C → C → Bool) → Option (Priced C) → List ℕ → C → Option (Priced C)
keep_cost lower None plan c = Some (record { plan = plan; cost = c })
keep_cost lower (Some best) plan c = cond (lower c best.cost) (Some (record { plan = plan; cost = c })) (Some best)

abbrev pub keep_if : {C : Type 0} → (C → C → Bool) → Option (Priced C) → List ℕ → Result C Refusal → Option (Priced C)
keep_if lower best plan (Ok c) = keep_cost lower best plan c
keep_if lower best plan (Err why) = best

abbrev pub keep : {C : Type 0} → Adding C → (C → C → Bool) → Model → Book → Option (Priced C) → List ℕ → Option (Priced C)
keep k lower s b best plan = keep_if lower best plan (judged k s b plan)

-- the first of the least plans, none where there is no plan
unfoldable pub least_plan : {C : Type 0} → Adding C → (C → C → Bool) → Model → Book → Option (Priced C)
least_plan k lower s b = fold (keep k lower s b) None (assignments (bytes s.echelons) (count s))

-- what a solve answers, and what its plan place holds then
pub record Outcome (C : Type 0) : Type 0 where
  pub answer : Result C Refusal
  pub place : List ℕ

abbrev pub refused : {C : Type 0} → List ℕ → Refusal → Outcome C
refused place why = record { answer = Err why; place = place }

-- the plan's bytes are written, and the bytes after them stay
abbrev pub answered : {C : Type 0} → Model → List ℕ → Option (Priced C) → Outcome C
answered s place None = refused place NoPlan
answered s place (Some best) = record { answer = Ok best.cost; place = best.plan ++ drop (count s) place }

abbrev pub unless_fault : {C : Type 0} → List ℕ → Option Fault → Outcome C → Outcome C
unless_fault place None rest = rest
unless_fault place (Some f) rest = refused place (BookFault f)

-- The answer of solve: is there a component? has the plan place a byte for each? has the list a working cost for each
-- component and echelon? is the survey free of faults? does a plan exist?
abbrev pub solved : {C : Type 0} → Adding C → (C → C → Bool) → Model → Book → ℕ → List ℕ → Outcome C
solved k lower s b room place =
    cond (nat_le 1 (count s))
    (cond (nat_le (count s) (length place))
    (cond (nat_le (count s * s.echelons) room)
    (unless_fault place (first_fault b (questions s)) (answered s place (least_plan k lower s b)))
    (refused place ShortWorking))
    (refused place ShortPlan))
    (refused place NoComponent)
