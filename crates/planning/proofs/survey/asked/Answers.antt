use Rattle.std.proofs.Common.{◌≡◌, ◌<◌, length, Ok, Err, subst, arith}
use Rattle.std.proofs.lemmas.Result.{err_from_is_err_and}
use Rattle.plans.specs.Ranges.{upto}
use Rattle.planning.specs.Asking.{Asked, Filled}
use Rattle.planning.proofs.Faults.{upto_more, upto_stops}
use Rattle.planning.proofs.Filled.{filled_more}
use Rattle.planning.proofs.survey.asked.Goals as goal

pub returns-in_err-filled : goal.returns-in_err-filled
returns-in_err-filled g c b questions kept asks =
    let i = c.loop-number.number in
    let so_far = c.loop-number.invariant b questions kept asks in
    let p = err_from_is_err_and c.from_residual.result c.from_residual.ensures.1 in
    rw (p.1, p.2) (upto_stops b questions c.args.count i c.loop-number-test.true so_far.0 (asks i (Err c.in_err-filled.field-0.0) c.in_err-filled.ensures))

pub loop-number-preserved : goal.loop-number-preserved
loop-number-preserved g c b questions kept asks =
    let i = c.loop-number.number in
    let so_far = c.loop-number.invariant b questions kept asks in
    let here = asks i (Ok c.in_ok-filled.field-0) c.in_ok-filled.ensures in
    let l : i < length c.args.places = omega arith in (
      upto_more b questions i so_far.0 here.0,
      rw c.from.ensures (filled_more kept c.args.places c.loop-number.filled i c.in_ok-filled.field-0 l so_far.1 here.1),
    )

pub returns : goal.returns
returns g c b questions kept asks =
    let all : c.loop-number.number ≡ c.args.count = omega arith in
    subst (λ n. Asked b (upto questions n) (Filled kept n c.args.places) (Ok c.loop-number.filled)) all (c.loop-number.invariant b questions kept asks)
