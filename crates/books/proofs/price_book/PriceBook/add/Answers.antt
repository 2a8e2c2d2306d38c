use Rattle.std.proofs.Common.{◌≤◌, length, sym, subst, rules}
use Rattle.books.specs.PriceRows.{Rows}
use Rattle.books.proofs.Ranging.{rows_push, gross_bounded}
use Rattle.books.proofs.price_book.PriceBook.add.Goals as goal
use Rattle.books.proofs.price_book.PriceBook.add.Goals.{After-push_reserved}

-- the new row keeps its ranges, as the questions of the call found
kept : (c : After-push_reserved) → Rows c.push_reserved.new.self.items
kept c = subst Rows (sym c.push_reserved.ensures.items) (rows_push _ _ c.args.self.now.ranges (search rules, search rules, search rules))

pub invariant_of-self-clause-ranges : goal.invariant_of-self-clause-ranges
invariant_of-self-clause-ranges c = kept (goal.at.invariant_of-self-clause-ranges c).After-push_reserved

pub invariant_of-self-clause-bounded : goal.invariant_of-self-clause-bounded
invariant_of-self-clause-bounded c =
    let few : length c.push_reserved.new.self.items ≤ 60 = search rules in
    gross_bounded _ few (kept (goal.at.invariant_of-self-clause-bounded c).After-push_reserved)
