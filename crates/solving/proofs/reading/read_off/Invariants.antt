use Rattle.model.specs.Studies.{model}
use Rattle.solving.specs.Steps.{ReadsOff}
use Rattle.solving.proofs.reading.read_off.Given as goal

-- the bytes so far are read off
abbrev pub invariant-loop-number : goal.invariant-loop-number
invariant-loop-number l = ReadsOff (model l.study) l.notes l.number l.plan
