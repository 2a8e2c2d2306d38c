-- The letter of each option: D, R, M.
use Rattle.std.specs.Prelude.{ℕ}
use Rattle.model.specs.declared.question.RepairOption.{RepairOption}
use Rattle.model.specs.declared.question.RepairOption.TheVariants.{Discard, Repair, Move}

abbrev pub letter : RepairOption → ℕ
letter Discard = 68
letter Repair = 82
letter Move = 77
