use Rattle.std.proofs.Common.{true, false, sym, ◌∙◌, add-zero, arith}
use Rattle.books.proofs.Grossing.{gross_is}
use Rattle.books.proofs.Later.{later_more}
use Rattle.books.proofs.gross.+gross_price.Goals as goal
use Rattle.books.proofs.gross.+gross_price.Goals.{then-is_under, else-is_under}

pub loop-after-init : goal.loop-after-init
loop-after-init t c = simp add-zero (gross_is c.args.rows.now c.args.row c.requires.row)

pub loop-after-preserved : goal.loop-after-preserved
loop-after-preserved t c =
    let more = later_more c.args.row c.loop-after.after c.args.rows.now in
    elim c.if-is_under.branch [
      | then-is_under w ↦
          let m = more true c.loop-after-test.true (sym w.if-is_under.true ∙ c.is_under.ensures) in
          omega (arith, m, c.loop-after.invariant, w.gross_price-sum.ensures, w.sum-is)
      | else-is_under w ↦
          let m = more false c.loop-after-test.true (sym w.if-is_under.false ∙ c.is_under.ensures) in
          omega (arith, m, c.loop-after.invariant, w.sum-is)
    ]
