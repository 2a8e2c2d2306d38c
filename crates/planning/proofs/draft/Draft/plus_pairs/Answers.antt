use Rattle.std.proofs.Common.{◌≡◌, ◌<◌, length, sym, ap, ◌∙◌, subst, inl, inr, arith, length-drop}
use Rattle.std.specs.Iterator.Adapters.{zip_first}
use Rattle.model.specs.Studies.{model}
use Rattle.model.proofs.Limited.{limited}
use Rattle.plans.specs.Ranges.{upto}
use Rattle.plans.specs.Questions.{resource_questions}
use Rattle.planning.specs.Surveys.{no_resource}
use Rattle.planning.specs.Sums.{AddsUsed}
use Rattle.planning.proofs.Stepwise.{all_read, next_read, resource_kept, used_more}
use Rattle.planning.proofs.draft.Draft.plus_pairs.Goals as goal

pub loop-resource-preserved : goal.loop-resource-preserved
loop-resource-preserved g c =
    let k = g.K.CostKind.adding in
    let s = model c.args.self.now.study.now in
    let plan = c.args.self.now.plan.now in
    let t = c.args.self.now.survey.now in
    let left = c.in-Some.ensures.steps.0 in
    let rows = c.in-Some.ensures.steps.1 in
    let so_far = c.loop-resource.invariant in
    let r = (zip_first c.loop-resource.resource-iterator).start in
    let h : r < s.resources = omega (arith, so_far.0, left.1.0) in
    let here : r < length t.resources = omega (arith, ap length so_far.2, ap length rows, length-drop r t.resources) in
    let read = next_read t.resources r _ no_resource _ _ _ here so_far.2 rows left.1.2 in
    let kept = resource_kept s plan t (limited c.args.self.now.study.now) r _ _ h left.1.1 read.1 in
    let next = used_more k s plan t (resource_questions s.echelons) c.args.options _ _ r _ kept so_far.3 c.plus_resource-sum.ensures in (
      left.0 ∙ so_far.0,
      omega (arith, left.0, left.1.0, left.1.2),
      read.0,
      subst (λ n. AddsUsed k s t plan c.args.options (upto (resource_questions s.echelons) n) c.plus_resource-sum.result) (sym left.1.2) next,
    )

pub returns : goal.returns
returns g c b keeps =
    let s = model c.args.self.now.study.now in
    let t = c.args.self.now.survey.now in
    let so_far = c.loop-resource.invariant in
    let r = (zip_first c.loop-resource.resource-iterator).start in
    let all : r ≡ s.resources = elim c.in-None.ensures.steps [ inl u ↦ omega (arith, so_far.0, so_far.1, u) | inr u ↦ all_read s b t keeps r (omega (arith, so_far.0, so_far.1)) (omega (arith, u, ap length so_far.2, length-drop r t.resources)) ] in
    subst (λ n. AddsUsed g.K.CostKind.adding s t c.args.self.now.plan.now c.args.options (upto (resource_questions s.echelons) n) c.loop-resource.sum) all so_far.3 b keeps
