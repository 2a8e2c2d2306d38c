use Rattle.std.proofs.Common.{◌≡◌, ◌++◌, length, take, drop, Some, None, Err, sym, ap, rules, ◌∙◌, arith}
use Rattle.model.specs.declared.refusal.Refusal.TheVariants.{NoPlan}
use Rattle.model.specs.Studies.{model}
use Rattle.model.proofs.Limited.{limited}
use Rattle.plans.specs.Questions.{count}
use Rattle.solutions.specs.Solved.{Outcome}
use Rattle.solving.proofs.Solved.{is_ready, none_answered, some_answered, promised}
use Rattle.solving.proofs.solve.solve.Goals as goal

pub returns-in_err-cost : goal.returns-in_err-cost
returns-in_err-cost g c =
    let k = g.K.CostKind.adding in
    let lower = g.K.CostKind.lower in
    let s = model c.args.study.now in
    let b = g.B.ChargeBook.meaning c.args.book.now in
    let limits = limited c.args.study.now in
    let kept = g.B.ChargeBook.limited c.args.book.now in
    let room = length c.args.working.now in
    let bytes = c.args.plan.now in
    let surveyed = c.in_ok-survey.ensures in
    let ready = is_ready s b room bytes (length c.components-count.result.now) c.from.result (ap length c.components-count.ensures) (c.from.ensures ∙ c.echelons.ensures) c.if-count-eq0.false c.if-plan-count.false (omega (arith, c.if-working-count.false)) surveyed.0 in
    let cost_none : c.find-found.result.cost ≡ None = search (rules, c.ok_or.ensures.value, c.ok_or.ensures.variant, c.ok_or.ensures.ok_part) in
    let out = none_answered k lower s b room bytes ready ((c.find-found.ensures b kept surveyed.1).0 cost_none) in
    let refused : c.from_residual-in_err-cost.result ≡ Err NoPlan = search rules in
    let answer = refused ∙ sym (ap (λ (o : Outcome g.row.K-Cost.Denot). o.answer) out) in
    let place = sym (ap (λ (o : Outcome g.row.K-Cost.Denot). o.place) out) in
    record { answer = answer; place = place; solves_least = λ _. promised k lower s b room bytes ready g.met.K.CostKind.laws limits kept _ _ answer place }

pub returns : goal.returns
returns g c =
    let k = g.K.CostKind.adding in
    let lower = g.K.CostKind.lower in
    let s = model c.args.study.now in
    let b = g.B.ChargeBook.meaning c.args.book.now in
    let limits = limited c.args.study.now in
    let kept = g.B.ChargeBook.limited c.args.book.now in
    let room = length c.args.working.now in
    let bytes = c.args.plan.now in
    let plan = c.find-found.result.plan in
    let n = length c.components-count.result.now in
    let entered : n ≡ count s = ap length c.components-count.ensures in
    let surveyed = c.in_ok-survey.ensures in
    let ready = is_ready s b room bytes n c.from.result entered (c.from.ensures ∙ c.echelons.ensures) c.if-count-eq0.false c.if-plan-count.false (omega (arith, c.if-working-count.false)) surveyed.0 in
    let cost_some : c.find-found.result.cost ≡ Some c.in_ok-cost.cost = search (rules, c.in_ok-cost.ensures.value, c.in_ok-cost.ensures.variant) in
    let out = some_answered k lower s b room bytes ready (take (count s) plan) c.in_ok-cost.cost ((c.find-found.ensures b kept surveyed.1).1 c.in_ok-cost.cost cost_some) in
    let answer = sym (ap (λ (o : Outcome g.row.K-Cost.Denot). o.answer) out) in
    let written = ap (λ xs. xs ++ drop n bytes) c.copy_from_slice.ensures.after ∙ ap (λ i. take i plan ++ drop i bytes) entered in
    let place = written ∙ sym (ap (λ (o : Outcome g.row.K-Cost.Denot). o.place) out) in
    record { answer = answer; place = place; solves_least = λ _. promised k lower s b room bytes ready g.met.K.CostKind.laws limits kept _ _ answer place }
