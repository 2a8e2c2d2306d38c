use Rattle.std.proofs.Common.{sym, subst, arith, rules}
use Rattle.model.specs.Components.{Rows}
use Rattle.model.proofs.Rowwise.{rows_push}
use Rattle.model.proofs.study.Study.enter.Goals as goal

-- the new row is sound: each of its five facts is what a question of the call asked
pub invariant_of-self-clause-rows : goal.invariant_of-self-clause-rows
invariant_of-self-clause-rows c =
    let ok = c.args.self.now.table.rows.ok.0 in
    subst (Rows _) (sym c.push_reserved.ensures.items)
    (rows_push _ _ _ c.args.self.now.rows (search rules, c.level_under-level.ensures, omega arith, sym c.if-not-covers.ensures, search rules))
