-- Which options a plan uses, and which pairs of a resource and an echelon it needs.
use Rattle.std.specs.Prelude.{◌≡◌, ℕ, ◌+◌, ◌*◌, ◌<◌, ◌≤◌, Bool, true, ◌&&◌, ◌||◌, List, ◌==◌, nat_le, nat_lt}
use Rattle.model.specs.declared.question.Question.{Question}
use Rattle.model.specs.declared.question.Question.TheVariants.{OfOption, OfResource}
use Rattle.model.specs.declared.question.RepairOption.{RepairOption}
use Rattle.model.specs.declared.question.RepairOption.TheVariants.{Discard, Repair, Move}
use Rattle.model.specs.Components.{needs_resource}
use Rattle.model.specs.Studies.{Model}
use Rattle.plans.specs.Ranges.{some_below}
use Rattle.plans.specs.Questions.{count}
use Rattle.plans.specs.Postings.{component}
use Rattle.plans.specs.Starts.{byte, final, Starts, start}

-- `Uses s plan i e o`: component i uses option o at echelon e. It is moved at each echelon from its start to the one before
-- the final echelon, and discarded or repaired there.
pub data Uses (s : Model) (plan : List ℕ) : ℕ → ℕ → RepairOption → Type 0 where
  discards : (i a e : ℕ) → Starts s plan i a → byte plan i + 1 ≡ 2 * e → Uses s plan i e Discard
  repairs : (i a e : ℕ) → Starts s plan i a → byte plan i ≡ 2 * e → Uses s plan i e Repair
  moves : (i a e : ℕ) → Starts s plan i a → a ≤ e → e < final (byte plan i) → Uses s plan i e Move

-- the plan needs resource r at echelon e: some component uses an option there that needs it
pub record Needed (s : Model) (plan : List ℕ) (r e : ℕ) : Type 0 where
  pub by : ℕ
  pub option : RepairOption
  pub used : Uses s plan by e option
  pub needs : needs_resource (component s by).needs option r ≡ true

-- the same, as a test: a component that starts at echelon a, 0 where it is not reached, and has byte b
abbrev pub uses_at : ℕ → ℕ → ℕ → RepairOption → Bool
uses_at a b e Discard = nat_le 1 a && b + 1 == 2 * e
uses_at a b e Repair = nat_le 1 a && b == 2 * e
uses_at a b e Move = nat_le 1 a && (nat_le a e && nat_lt e (final b))

abbrev pub uses_option : Model → List ℕ → ℕ → ℕ → RepairOption → Bool
uses_option s plan i e o = uses_at (start s plan i) (byte plan i) e o

-- component i needs resource r at echelon e by one option
abbrev pub needs_by : Model → List ℕ → ℕ → ℕ → ℕ → RepairOption → Bool
needs_by s plan r e i o = uses_option s plan i e o && needs_resource (component s i).needs o r

-- component i needs resource r at echelon e
abbrev pub needs_at : Model → List ℕ → ℕ → ℕ → ℕ → Bool
needs_at s plan r e i = needs_by s plan r e i Discard || (needs_by s plan r e i Repair || needs_by s plan r e i Move)

-- the plan uses what the question asks about: the option, or the resource at that echelon for at least one component
abbrev pub uses : Model → List ℕ → Question → Bool
uses s plan (OfOption i e o) = uses_option s plan i e o
uses s plan (OfResource r e) = some_below (needs_at s plan r e) (count s)
