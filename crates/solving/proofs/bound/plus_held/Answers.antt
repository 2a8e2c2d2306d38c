use Rattle.std.proofs.Common.{◌≡◌, ◌+◌, ◌<◌, [], ◌∷◌, ◌++◌, length, take, get_or, sym, ap, ◌∙◌, subst, ap₂, inl, inr, arith, length-append, length-drop, length-take}
use Rattle.std.proofs.lemmas.List.{get_or-take}
use Rattle.model.specs.Studies.{model}
use Rattle.planning.specs.Surveys.{by_echelon, no_resource, resource_row}
use Rattle.planning.specs.Sums.{Adds, of_resource, used_at}
use Rattle.planning.proofs.Adding.{adds_none, adds_more}
use Rattle.planning.proofs.Stepwise.{all_read, next_read}
use Rattle.solving.specs.Marked.{held_at}
use Rattle.solving.specs.Bounds.{held_postings}
use Rattle.solving.proofs.bound.plus_held.Goals as goal

pub loop-line-init : goal.loop-line-init
loop-line-init g c = (omega arith, cc, cc, λ b keeps. adds_none g.K.CostKind.adding c.args.cost)

pub loop-line-preserved : goal.loop-line-preserved
loop-line-preserved g c =
    let k = g.K.CostKind.adding in
    let s = model c.args.problem.now.study.now in
    let t = c.args.problem.now.survey.now in
    let marks = c.args.marks.now in
    let used = c.from-resources.result in
    let lines = c.in-Some.ensures.steps.0 in
    let rows = c.in-Some.ensures.steps.1 in
    let so_far = c.loop-line.invariant in
    let i = length c.loop-line.yielded in
    let more : length (c.loop-line.yielded ++ (c.in-Some.line, c.in-Some.row) ∷ []) ≡ i + 1 = length-append _ _ in
    let long = length-take used marks in
    let here : i < length (take used marks) = omega (arith, ap length so_far.1, ap length lines, length-drop i (take used marks)) in
    let there : i < length t.resources = omega (arith, ap length so_far.2, ap length rows, length-drop i t.resources) in
    let h : i < s.resources = omega (arith, long, c.resources.ensures, c.from-resources.ensures) in
    let line = next_read (take used marks) i _ [] _ _ _ here so_far.1 lines more in
    let row = next_read t.resources i _ no_resource _ _ _ there so_far.2 rows more in
    let held : c.held_at.result ≡ by_echelon (held_at (get_or marks i [])) = c.held_at.ensures ∙ ap (λ l. by_echelon (held_at l)) (line.1 ∙ get_or-take used marks i [] (omega arith)) in (
      omega (arith, more),
      line.0,
      row.0,
      λ b keeps. subst (λ n. Adds k c.args.cost (held_postings s b marks n) c.plus_row-sum.result) (sym more)
          (adds_more k (λ r. of_resource (held_at (get_or marks r [])) (resource_row s b r)) _ _ _ i _
          (ap₂ (λ used row. of_resource (used_at used) row) held (row.1 ∙ keeps.resources i h)) (so_far.3 b keeps) c.plus_row-sum.ensures),
    )

pub returns : goal.returns
returns g c b keeps =
    let s = model c.args.problem.now.study.now in
    let t = c.args.problem.now.survey.now in
    let marks = c.args.marks.now in
    let used = c.from-resources.result in
    let so_far = c.loop-line.invariant in
    let i = length c.loop-line.yielded in
    let long = length-take used marks in
    let all : i ≡ s.resources = elim c.in-None.ensures.steps [ inl u ↦ omega (arith, u.1.0, so_far.0, long, ap length so_far.1, length-drop i (take used marks), c.resources.ensures, c.from-resources.ensures) | inr u ↦ all_read s b t keeps i so_far.0 (omega (arith, u, ap length so_far.2, length-drop i t.resources)) ] in
    subst (λ n. Adds g.K.CostKind.adding c.args.cost (held_postings s b marks n) c.loop-line.sum) all (so_far.3 b keeps)
