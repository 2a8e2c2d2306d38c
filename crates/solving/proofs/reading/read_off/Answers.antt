use Rattle.std.proofs.Common.{◌<◌, length, ap, arith}
use Rattle.model.specs.Studies.{model}
use Rattle.model.proofs.Limited.{limited}
use Rattle.plans.specs.Questions.{count}
use Rattle.planning.proofs.Needing.{start_read}
use Rattle.solving.proofs.ReadOff.{read_more}
use Rattle.solving.proofs.reading.read_off.Goals as goal

pub loop-number-preserved : goal.loop-number-preserved
loop-number-preserved c =
    let s = model c.args.study.now in
    let l = c.loop-number in
    let lent = c.components-component-items.ensures in
    let h : l.number < count s = omega (arith, ap length lent) in
    read_more s (limited c.args.study.now) c.args.notes.now l.number c.start_under-start.result c.noted_at.result l.plan (omega arith) (start_read s l.plan _ l.number _ lent c.loop-number-test.true _ c.start_under-start.ensures) c.noted_at.ensures l.invariant
