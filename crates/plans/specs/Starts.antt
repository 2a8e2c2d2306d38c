-- Which components a plan reaches, and at which echelon each of them starts.
-- A plan has one byte for each component: 0 for not reached, 2e - 1 for discard at echelon e, 2e for repair at echelon e.
use Rattle.std.specs.Prelude.{◌≡◌, ℕ, ◌+◌, ◌*◌, ◌/◌, ◌%◌, ◌<◌, ◌≤◌, cond, List, Some, None, Option, ◌==◌, slice_index}
use Rattle.model.specs.Studies.{Model}
use Rattle.plans.specs.Questions.{count}
use Rattle.plans.specs.Postings.{component}

-- the byte of component i
abbrev pub byte : List ℕ → ℕ → ℕ
byte plan i = slice_index plan i

-- the final echelon that a byte names: e for 2e - 1 and 2e
abbrev pub final : ℕ → ℕ
final b = (b + 1) / 2

abbrev pub parent : Model → ℕ → Option ℕ
parent s i = (component s i).parent

-- `Starts s plan i e`: the plan reaches component i, and it starts at echelon e. A top component is reached and starts at
-- echelon 1; a subcomponent is reached where its parent is reached and repaired, and starts at the echelon of that repair.
pub data Starts (s : Model) (plan : List ℕ) : ℕ → ℕ → Type 0 where
  top : (i : ℕ) → i < count s → parent s i ≡ None → Starts s plan i 1
  under : (i p a e : ℕ) → i < count s → parent s i ≡ Some p → Starts s plan p a → byte plan p ≡ 2 * e → 1 ≤ e → Starts s plan i e

-- the echelon at which a byte repairs, 0 where it does not
abbrev pub repaired_at : ℕ → ℕ
repaired_at b = cond (b % 2 == 0) (b / 2) 0

-- the start as it is read off the parent's byte, 0 where the component is not reached
abbrev pub start_under : List ℕ → Option ℕ → ℕ
start_under plan None = 1
start_under plan (Some p) = repaired_at (byte plan p)

abbrev pub start : Model → List ℕ → ℕ → ℕ
start s plan i = start_under plan (parent s i)
