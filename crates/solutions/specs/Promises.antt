-- What solving promises, in the subject's words.
use Rattle.std.specs.Prelude.{◌≡◌, ℕ, ◌*◌, ◌≤◌, Bool, false, ◌⊎◌, List, length, take, None, Ok, Err, Result}
use Rattle.costs.specs.Kinds.{Adding, Laws}
use Rattle.model.specs.declared.refusal.Refusal.{Refusal}
use Rattle.model.specs.declared.refusal.Refusal.TheVariants.{NoPlan}
use Rattle.model.specs.Books.{Book, KeepsLimits}
use Rattle.model.specs.Studies.{Model, Limits}
use Rattle.plans.specs.Questions.{count, questions, first_fault}
use Rattle.plans.specs.Plans.{IsPlan, Costs}
use Rattle.plans.specs.Orders.{Before}
use Rattle.solutions.specs.Solved.{solved}

-- a component is entered, the places are long enough, and the survey meets no fault
pub record Ready (s : Model) (b : Book) (room : ℕ) (place : List ℕ) : Type 0 where
  pub some_component : 1 ≤ count s
  pub enough_bytes : count s ≤ length place
  pub enough_working : count s * s.echelons ≤ room
  pub no_fault : first_fault b (questions s) ≡ None

-- the answer r, and the place afterwards, of which the first bytes are the plan
pub record SolvesLeast {C : Type 0} (k : Adding C) (lower : C → C → Bool) (s : Model) (b : Book) (place : List ℕ) (r : Result C Refusal) : Type 0 where
  -- a plan is answered exactly when a plan exists for the study and the book, otherwise the call is refused with 13
  pub a_plan_if_one_exists : (p : List ℕ) → IsPlan s b p → (c : C) × (r ≡ Ok c)
  pub refused_if_none_exists : ((p : List ℕ) → IsPlan s b p → ⊥) → r ≡ Err NoPlan
  -- the cost is the plan's own, and no other plan's is lower
  pub a_plan_at_its_cost : (c : C) → r ≡ Ok c → IsPlan s b (take (count s) place) × Costs k s b (take (count s) place) c
  pub none_is_lower : (c d : C) (p : List ℕ) → r ≡ Ok c → IsPlan s b p → Costs k s b p d → lower d c ≡ false
  -- of all plans at that cost it is the first in reading order
  pub first_at_its_cost : (c : C) (p : List ℕ) → r ≡ Ok c → IsPlan s b p → Costs k s b p c → (p ≡ take (count s) place) ⊎ Before (take (count s) place) p

-- every solve that is ready answers so
abbrev pub SolvesLeastAndFirst : Type 0 → Type 0
SolvesLeastAndFirst C =
    (k : Adding C) (lower : C → C → Bool) (s : Model) (b : Book) (room : ℕ) (place : List ℕ)
    → Laws k lower → Limits s → KeepsLimits b → Ready s b room place
    → SolvesLeast k lower s b (solved k lower s b room place).place (solved k lower s b room place).answer
