use Rattle.std.proofs.Common.{length, refl, ap, ◌∙◌, subst, arith}
use Rattle.model.specs.Studies.{model}
use Rattle.solving.specs.Finds.{Searches}
use Rattle.solving.proofs.Frees.{marks_fall}
use Rattle.solving.proofs.Searching.{nothing_better, here, both_branches}
use Rattle.solving.proofs.search.+search.Goals as goal

pub returns-then-not-is_ahead-clause-searches : goal.returns-then-not-is_ahead-clause-searches
returns-then-not-is_ahead-clause-searches g t c =
    nothing_better g.met.K.CostKind.laws (model c.args.table.now.problem.now.study.now) c.args.table.now.problem.now.survey.now c.args.marks c.args.table.now.problem.now.some_component c.args.best c.bound-found.result c.bound-found.ensures.bounds _ (ap length c.components-count.ensures) _ c.is_ahead.ensures c.if-not-is_ahead.true

pub search-next-requires : goal.search-next-requires
search-next-requires g t c κs within =
    let less = marks_fall c.args.marks _ _ _ _ c.in-Some.ensures.free c.marked-held.ensures refl in
    (omega (arith, less, c.decreases), (within.0, within.1))

pub search-requires : goal.search-requires
search-requires g t c κs within =
    let less = marks_fall c.args.marks _ _ _ _ c.in-Some.ensures.free c.marked-shut.ensures refl in
    (omega (arith, less, c.decreases), (within.0, within.1))

pub returns-in-None-clause-searches : goal.returns-in-None-clause-searches
returns-in-None-clause-searches g t c =
    here g.met.K.CostKind.laws (model c.args.table.now.problem.now.study.now) c.args.table.now.problem.now.survey.now c.args.marks c.args.table.now.problem.now.some_component c.args.best c.bound-found.result c.bound-found.ensures.bounds _ (ap length c.components-count.ensures) _ c.is_ahead.ensures _ refl c.in-None.ensures c.if-not-is_ahead.false

pub returns-in-Some-clause-searches : goal.returns-in-Some-clause-searches
returns-in-Some-clause-searches g t c =
    both_branches g.met.K.CostKind.laws (model c.args.table.now.problem.now.study.now) c.args.table.now.problem.now.survey.now c.args.marks c.args.table.now.problem.now.some_component c.args.best c.in-Some.resource c.in-Some.place c.in-Some.ensures _ _ c.marked-held.ensures c.marked-shut.ensures _ _ (subst (λ p. Searches g.K.CostKind.adding g.K.CostKind.lower (model p.now.study.now) p.now.survey.now c.marked-held.result c.args.best c.search-next.result) c.bound-found.ensures.same c.search-next.ensures.searches) (subst (λ p. Searches g.K.CostKind.adding g.K.CostKind.lower (model p.now.study.now) p.now.survey.now c.marked-shut.result c.search-next.result c.search.result) (c.search-next.ensures.same ∙ c.bound-found.ensures.same) c.search.ensures.searches)
