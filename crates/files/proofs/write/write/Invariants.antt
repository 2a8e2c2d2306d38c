use Rattle.std.proofs.Common.{◌≡◌, ◌+◌, ◌*◌, ◌++◌, take, drop}
use Rattle.model.specs.Studies.{model}
use Rattle.files.specs.Writes.{in_a_row, written_records}
use Rattle.files.proofs.write.write.Given as goal

-- the N and the first C stand, and beyond them what stood there
abbrev pub invariant-loop-i : goal.invariant-loop-i
invariant-loop-i l = l.place ≡ in_a_row (take (l.i + 1) (written_records (model l.study))) ++ drop (24 * (l.i + 1)) l.initial.place
