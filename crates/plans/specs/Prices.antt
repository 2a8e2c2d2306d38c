-- What pricing answers: the questions in their order, each refused with its own refusal, and then the cost.
use Rattle.std.specs.Prelude.{◌≡◌, ℕ, ◌*◌, ◌≤◌, Bool, true, false, cond, not, ◌||◌, List, length, take, Some, None, Ok, Err, Option, Result, nat_le}
use Rattle.costs.specs.Kinds.{Adding}
use Rattle.model.specs.declared.answer.Fault.{Fault}
use Rattle.model.specs.declared.question.Question.{Question}
use Rattle.model.specs.declared.question.Question.TheVariants.{OfOption, OfResource}
use Rattle.model.specs.declared.refusal.Refusal.{Refusal}
use Rattle.model.specs.declared.refusal.Refusal.TheVariants.{NoComponent, ShortPlan, BookFault, ByteTooLarge, ReachMismatch, BeforeStart, OptionClosed, ResourceClosed}
use Rattle.model.specs.Books.{Book}
use Rattle.model.specs.Studies.{Model}
use Rattle.plans.specs.Ranges.{every, first_below}
use Rattle.plans.specs.Questions.{count, component_questions, pair_questions, questions, first_fault, is_open}
use Rattle.plans.specs.Postings.{summed}
use Rattle.plans.specs.Starts.{byte, final, start}
use Rattle.plans.specs.Uses.{uses, needs_at}
use Rattle.plans.specs.Plans.{IsPlan, postings, Costs}

-- where a question passes the next is put; the first that fails is the objection
abbrev pub object : Bool → Refusal → Option Refusal → Option Refusal
object test why rest = cond test rest (Some why)

-- the same truth value
abbrev pub agree : Bool → Bool → Bool
agree true y = y
agree false y = not y

-- what is used is open
abbrev pub open_if : Book → Bool → Question → Bool
open_if b used q = not used || is_open b q

-- component i needs the resource of a pair at its echelon
abbrev pub needs_pair : Model → List ℕ → ℕ → Question → Bool
needs_pair s plan i (OfOption j e o) = false
needs_pair s plan i (OfResource r e) = needs_at s plan r e i

-- The questions that are put to component i: is its byte at most twice the echelons? is the byte not 0 exactly where the
-- component is reached? is the final echelon not before the start? is every option that it uses open? every resource?
abbrev pub objection : Model → Book → List ℕ → ℕ → Option Refusal
objection s b plan i =
    object (nat_le (byte plan i) (2 * s.echelons)) (ByteTooLarge i)
    (object (agree (nat_le 1 (byte plan i)) (nat_le 1 (start s plan i))) (ReachMismatch i)
    (object (nat_le (start s plan i) (final (byte plan i))) (BeforeStart i)
    (object (every (λ q. open_if b (uses s plan q) q) (component_questions s.echelons i)) (OptionClosed i)
    (object (every (λ q. open_if b (needs_pair s plan i q) q) (pair_questions s)) (ResourceClosed i)
    None))))

-- the first component's objection, by number
abbrev pub first_objection : Model → Book → List ℕ → Option Refusal
first_objection s b plan = first_below (objection s b plan) (count s)

abbrev pub or_refuse : {C : Type 0} → Option Refusal → Result C Refusal → Result C Refusal
or_refuse None rest = rest
or_refuse (Some why) rest = Err why

abbrev pub fault_refusal : Option Fault → Option Refusal
fault_refusal None = None
fault_refusal (Some f) = Some (BookFault f)

-- the cost as an answer; a plan always has one
abbrev pub cost_or_refuse : {C : Type 0} → Option C → Result C Refusal
cost_or_refuse None = Err NoComponent
cost_or_refuse (Some c) = Ok c

-- the answer once the survey has met no fault
abbrev pub judged : {C : Type 0} → Adding C → Model → Book → List ℕ → Result C Refusal
judged k s b plan = or_refuse (first_objection s b plan) (cost_or_refuse (summed k (postings s b plan)))

-- The answer of price: is there a component? has the place a byte for each? is the survey free of faults? Then the
-- components in turn. Only the first bytes are read, one for each component.
abbrev pub priced : {C : Type 0} → Adding C → Model → Book → List ℕ → Result C Refusal
priced k s b bytes =
    cond (nat_le 1 (count s))
    (cond (nat_le (count s) (length bytes))
    (or_refuse (fault_refusal (first_fault b (questions s))) (judged k s b (take (count s) bytes)))
    (Err ShortPlan))
    (Err NoComponent)

-- Where a component is entered, the bytes suffice and the survey meets no fault, the answer is a cost exactly when the
-- bytes are a plan, and the cost is that plan's.
pub record AcceptsExactlyPlans {C : Type 0} (k : Adding C) (s : Model) (b : Book) (bytes : List ℕ) (r : Result C Refusal) : Type 0 where
  pub accepted_is_plan : (c : C) → r ≡ Ok c → IsPlan s b (take (count s) bytes) × Costs k s b (take (count s) bytes) c
  pub plan_is_accepted : IsPlan s b (take (count s) bytes) → (c : C) × (r ≡ Ok c) × Costs k s b (take (count s) bytes) c

-- a component is entered, the bytes suffice and the survey meets no fault
pub record Ready (s : Model) (b : Book) (bytes : List ℕ) : Type 0 where
  pub some_component : 1 ≤ count s
  pub enough_bytes : count s ≤ length bytes
  pub no_fault : first_fault b (questions s) ≡ None
