use Rattle.std.proofs.Common.{◌≡◌, [], length, set, sym, ap, ◌∙◌, subst, append-nil, arith}
use Rattle.model.specs.Studies.{model}
use Rattle.model.proofs.Limited.{limited}
use Rattle.theory.specs.Tables.{sums_at}
use Rattle.solving.specs.Sums.{held}
use Rattle.solving.specs.Working.{view}
use Rattle.solving.specs.Steps.{tabled}
use Rattle.solving.proofs.AllTaken.{Done, last_left, none_taken, one_taken}
use Rattle.solving.proofs.walk.take_all.Goals as goal

pub loop-number-init : goal.loop-number-init
loop-number-init g c =
    let s = model c.args.problem.now.study.now in
    let counts : c.into_iter-number-iterator.result.iter.count ≡ 0 = cc in
    let rest : c.into_iter-number-iterator.result.iter.iter.rest.now ≡ s.components = cc in (
      record { from_zero = counts; taken = []; all = append-nil _ ∙ rest },
      λ o offers blank.
          none_taken g.K.CostKind.adding g.K.CostKind.lower s (limited c.args.problem.now.study.now) o _ c.args.notes.now (view c.args.tags.now c.args.working.now) (ap length rest) blank,
    )

pub take_component-taken-requires : goal.take_component-taken-requires
take_component-taken-requires g c =
    let h = c.in-Some.ensures.steps in
    let last = last_left (model c.args.problem.now.study.now) _ _ c.in-Some.number _ _ c.in-Some.component.now c.loop-number.invariant.0 h.0 h.1.0 h.1.1 in
    record { entered = last.2; tags = omega (arith, c.requires.tags); working = omega (arith, c.requires.working) }

pub loop-number-preserved : goal.loop-number-preserved
loop-number-preserved g c =
    let l = c.loop-number in
    let s = model c.args.problem.now.study.now in
    let h = c.in-Some.ensures.steps in
    let n = c.in-Some.number in
    let comp = c.in-Some.component.now in
    let last = last_left s _ _ n _ _ comp l.invariant.0 h.0 h.1.0 h.1.1 in (
      last.0,
      λ o offers blank. subst (λ i. Done g.K.CostKind.adding g.K.CostKind.lower s o i c.add_top-total.result (set l.notes n c.take_component-taken.result.bytes) (view c.take_component-taken.new.tags c.take_component-taken.new.working)) (sym last.3)
          (one_taken g.K.CostKind.adding g.K.CostKind.lower s (limited c.args.problem.now.study.now) o c.args.problem.now.survey.now c.args.shut.now _ n comp l.total c.add_top-total.result c.take_component-taken.result l.notes (view l.tags l.working) (view c.take_component-taken.new.tags c.take_component-taken.new.working) last.4 last.2 (omega (arith, last.2, c.requires.notes)) last.1 offers (l.invariant.1 o offers blank) c.take_component-taken.ensures c.add_top-total.ensures),
    )

pub returns : goal.returns
returns g c = λ o offers blank.
    let k = g.K.CostKind.adding in
    let s = model c.args.problem.now.study.now in
    let done = c.loop-number.invariant.1 o offers blank in
    let zero : length c.loop-number.number-iterator.iter.iter.rest.now ≡ 0 = c.in-None.ensures.steps.1.0 in
    (done.sum_is ∙ ap (λ n. held k (sums_at k g.K.CostKind.lower (tabled s o) n 0 0)) zero, (λ i l. done.all_noted i (omega arith) l))
