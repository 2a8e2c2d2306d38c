use Rattle.std.proofs.Common.{◌≡◌, ◌+◌, ◌-◌, length}
use Rattle.books.specs.Gross.{gross}
use Rattle.books.proofs.Grossing.{under_from}
use Rattle.books.proofs.gross.+gross_price.Given as goal

abbrev pub decreases-gross_price : goal.decreases-gross_price
decreases-gross_price l = length l.rows.now - l.row

abbrev pub invariant-loop-after : goal.invariant-loop-after
invariant-loop-after l = l.sum + under_from l.row l.rows (l.row + 1 + l.after) ≡ gross l.rows l.row
