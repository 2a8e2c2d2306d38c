use Rattle.std.proofs.Common.{◌<◌, length, ap, arith}
use Rattle.std.proofs.lemmas.Result.{err_from_is_err_and}
use Rattle.model.specs.Studies.{model}
use Rattle.model.proofs.Limited.{limited}
use Rattle.plans.specs.Prices.{objection}
use Rattle.plans.specs.Questions.{count}
use Rattle.planning.proofs.FirstBelow.{passed, refused}
use Rattle.planning.proofs.Needing.{component_read}
use Rattle.planning.proofs.Objections.{objection_same}
use Rattle.planning.proofs.draft.Draft.first_objection.Goals as goal

pub loop-number-preserved : goal.loop-number-preserved
loop-number-preserved c b kept =
    let study = c.args.self.now.study.now in
    let s = model study in
    let plan = c.args.self.now.plan.now in
    let i = c.loop-number.number in
    let lent = c.components-component-items.ensures in
    let h : i < count s = omega (arith, ap length lent, c.loop-number-test.true) in
    let same = objection_same s b c.args.self.now.survey.now plan i (limited study) kept h _ _ _ _ _ _ (component_read s _ i _ lent c.loop-number-test.true) c.of-route.ensures.start c.of-route.ensures.byte c.of-route.ensures.needs c.echelons.ensures c.resources.ensures c.options_open-options.ensures c.resources_open-resources.ensures in
    passed (tt {0}) (objection s b plan) i (c.loop-number.invariant b kept) _ same c.in_ok-first_failed.ensures

pub returns-in_err-first_failed : goal.returns-in_err-first_failed
returns-in_err-first_failed c b kept =
    let study = c.args.self.now.study.now in
    let s = model study in
    let plan = c.args.self.now.plan.now in
    let i = c.loop-number.number in
    let lent = c.components-component-items.ensures in
    let h : i < count s = omega (arith, ap length lent, c.loop-number-test.true) in
    let same = objection_same s b c.args.self.now.survey.now plan i (limited study) kept h _ _ _ _ _ _ (component_read s _ i _ lent c.loop-number-test.true) c.of-route.ensures.start c.of-route.ensures.byte c.of-route.ensures.needs c.echelons.ensures c.resources.ensures c.options_open-options.ensures c.resources_open-resources.ensures in
    let p = err_from_is_err_and c.from_residual.result c.from_residual.ensures.1 in
    rw (p.1, p.2) (refused (tt {0}) (objection s b plan) i (c.loop-number.invariant b kept) _ same (count s) _ h c.in_err-first_failed.ensures)
