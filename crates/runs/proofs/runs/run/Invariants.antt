use Rattle.std.proofs.Common.{◌≡◌, take, drop}
use Rattle.model.specs.Studies.{model}
use Rattle.runs.specs.Runs.{Run}
use Rattle.runs.proofs.runs.run.Given as goal

-- the calls so far are a run, and the others are as they were
abbrev pub invariant-loop-call : goal.invariant-loop-call
invariant-loop-call g l =
    Run g.B.ChargeBook.meaning g.K.CostKind.adding g.K.CostKind.lower (model l.initial.study) (take l.call-index l.initial.calls) (take l.call-index l.calls) (model l.study) ×
    (drop l.call-index l.calls ≡ drop l.call-index l.initial.calls)
