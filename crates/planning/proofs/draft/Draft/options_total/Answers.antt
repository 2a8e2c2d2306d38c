use Rattle.std.proofs.Common.{◌≡◌, ◌<◌, length, None, ap, subst, arith}
use Rattle.model.specs.Studies.{model}
use Rattle.model.proofs.Limited.{limited}
use Rattle.plans.specs.Ranges.{upto}
use Rattle.plans.specs.Questions.{count, component_questions}
use Rattle.planning.specs.Sums.{AddsUsed}
use Rattle.planning.proofs.Needing.{start_read}
use Rattle.planning.proofs.Stepwise.{component_kept, used_more}
use Rattle.planning.proofs.draft.Draft.options_total.Goals as goal

pub loop-number-preserved : goal.loop-number-preserved
loop-number-preserved g c =
    let s = model c.args.self.now.study.now in
    let plan = c.args.self.now.plan.now in
    let t = c.args.self.now.survey.now in
    let i = c.loop-number.number in
    let lent = c.components-component-items.ensures in
    let h : i < count s = omega (arith, ap length lent, c.loop-number-test.true) in
    let starts = start_read s plan _ i _ lent c.loop-number-test.true _ c.of-route.ensures.start in
    used_more g.K.CostKind.adding s plan t (component_questions s.echelons) None _ _ i _
    (component_kept s plan t (limited c.args.self.now.study.now) i _ _ h starts c.of-route.ensures.byte)
    c.loop-number.invariant c.plus_component-sum.ensures

pub returns : goal.returns
returns g c =
    let s = model c.args.self.now.study.now in
    let all : c.loop-number.number ≡ count s = omega (arith, ap length c.components-component-items.ensures) in
    subst (λ n. AddsUsed g.K.CostKind.adding s c.args.self.now.survey.now c.args.self.now.plan.now None (upto (component_questions s.echelons) n) c.loop-number.sum) all c.loop-number.invariant
