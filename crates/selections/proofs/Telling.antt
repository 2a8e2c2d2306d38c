-- What an option that a plan uses tells of the component's byte.
use Rattle.std.proofs.Common.{◌≡◌, ℕ, ◌+◌, ◌*◌, ◌<◌, List, arith}
use Rattle.model.specs.declared.question.RepairOption.{RepairOption}
use Rattle.model.specs.declared.question.RepairOption.TheVariants.{Discard, Repair, Move}
use Rattle.model.specs.Studies.{Model}
use Rattle.plans.specs.Starts.{byte, final}
use Rattle.plans.specs.Uses.{Uses, discards, repairs, moves}

-- what an option that is used says of the byte
abbrev pub Tells : ℕ → ℕ → RepairOption → Type 0
Tells b e Discard = b + 1 ≡ 2 * e
Tells b e Repair = b ≡ 2 * e
Tells b e Move = e < final b

pub used_tells : {s : Model} {plan : List ℕ} {i e : ℕ} {o : RepairOption} → Uses s plan i e o → Tells (byte plan i) e o
used_tells (discards i a e r h) = h
used_tells (repairs i a e r h) = h
used_tells (moves i a e r l h) = h

-- the byte tells of one option at an echelon
pub tells_one : (b e : ℕ) (o p : RepairOption) → Tells b e o → Tells b e p → o ≡ p
tells_one b e o p h k = grind arith
