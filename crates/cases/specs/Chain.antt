-- Three rows of a price book, one under another: net 100 over 40 over 10.
use Rattle.std.specs.Prelude.{ℕ, List, [], ◌∷◌, Some, None, Option}
use Rattle.books.specs.declared.price_row.PriceRow.{PriceRow}

abbrev row : Option ℕ → ℕ → PriceRow
row parent net = record { parent = parent; net = net; repair = 0; discard = 0 }

abbrev pub chain : List PriceRow
chain = row None 100 ∷ row (Some 0) 40 ∷ row (Some 1) 10 ∷ []
