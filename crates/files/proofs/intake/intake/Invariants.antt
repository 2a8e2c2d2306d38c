use Rattle.std.proofs.Common.{◌≡◌, drop}
use Rattle.files.specs.Intakes.{state, start, run}
use Rattle.files.proofs.intake.intake.Given as goal

-- what the records to come make of what was read is what all of them make
abbrev pub invariant-loop-at : goal.invariant-loop-at
invariant-loop-at l = run l.at (state l.reading) (drop l.at l.records) ≡ run 0 start l.records
