use Rattle.std.proofs.Common.{◌<◌, length, set, sym, subst, arith}
use Rattle.std.proofs.lemmas.List.{get_or_read}
use Rattle.model.specs.Components.{no_component, with_needs, Rows}
use Rattle.model.proofs.Rowwise.{rows_set}
use Rattle.model.proofs.study.Study.require.Goals as goal

pub invariant_of-self-clause-rows : goal.invariant_of-self-clause-rows
invariant_of-self-clause-rows c =
    let s = c.args.self.now in
    let xs = s.table.rows.items in
    let i = c.from-number.result in
    let ok = s.table.rows.ok.0 in
    let l : i < length xs = omega arith in
    subst (λ r. Rows s.resources (set xs i (with_needs r c.args.needs))) (sym (get_or_read xs i c.row.result.now l c.row.ensures.value no_component))
    (rows_set _ xs i c.args.needs l s.rows (sym c.if-not-covers.ensures))
