use Rattle.std.proofs.Common.{◌≡◌, length, take, ap, ◌∙◌, arith}
use Rattle.std.proofs.lemmas.Result.{err_from_is_err_and}
use Rattle.model.specs.Studies.{model}
use Rattle.model.proofs.Limited.{limited}
use Rattle.plans.specs.Prices.{priced, Ready}
use Rattle.planning.proofs.Answered.{objected, costed, accepts}
use Rattle.planning.proofs.price.price.Goals as goal

pub returns-in_err-first_objection : goal.returns-in_err-first_objection
returns-in_err-first_objection g c =
    let k = g.K.CostKind.adding in
    let s = model c.args.study.now in
    let b = g.B.ChargeBook.meaning c.args.book.now in
    let bytes = c.args.plan.now in
    let entered = ap length c.components-count.ensures in
    let found = c.in_ok-survey.ensures in
    let ready : Ready s b bytes = record { some_component = omega arith; enough_bytes = omega arith; no_fault = found.0 } in
    let same = ap (λ n. take n bytes) (omega (arith, entered)) in
    let p = err_from_is_err_and c.from_residual-in_err-first_objection.result c.from_residual-in_err-first_objection.ensures.1 in
    let refused = objected k s b bytes _ same ready c.in_err-first_objection.field-0.0 (c.in_err-first_objection.ensures b found.1) in
    let answer : c.from_residual-in_err-first_objection.result ≡ priced k s b bytes = rw (p.1, p.2) refused in
    record { answer = answer; accepts_exactly_plans = λ _. accepts k s b bytes _ same ready (limited c.args.study.now) _ answer }

pub returns : goal.returns
returns g c =
    let k = g.K.CostKind.adding in
    let s = model c.args.study.now in
    let b = g.B.ChargeBook.meaning c.args.book.now in
    let bytes = c.args.plan.now in
    let entered = ap length c.components-count.ensures in
    let found = c.in_ok-survey.ensures in
    let ready : Ready s b bytes = record { some_component = omega arith; enough_bytes = omega arith; no_fault = found.0 } in
    let same = ap (λ n. take n bytes) (omega (arith, entered)) in
    let sum = c.total.ensures b (g.B.ChargeBook.limited c.args.book.now) found.1 in
    let answer = c.ok_or.ensures.value ∙ costed k s b bytes _ same ready c.total.result (c.in_ok-first_objection.ensures b found.1) sum in
    record { answer = answer; accepts_exactly_plans = λ _. accepts k s b bytes _ same ready (limited c.args.study.now) _ answer }
