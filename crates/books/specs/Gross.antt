-- Gross prices: a row's net price with the gross prices of the rows under it.
use Rattle.std.specs.Prelude.{ℕ, ◌+◌, Bool, false, cond, List, [], ◌∷◌, length, Some, None, Option, ◌==◌, nat_lt, slice_index}
use Rattle.books.specs.declared.price_row.PriceRow.{PriceRow}

-- the row's parent is row p
abbrev pub is_parent : ℕ → Option ℕ → Bool
is_parent p None = false
is_parent p (Some n) = n == p

abbrev pub is_under : ℕ → PriceRow → Bool
is_under p r = is_parent p r.parent

-- the sum of those numbers whose row passes the test; the first number is that of the first row, and so on
abbrev pub sum_where : (PriceRow → Bool) → List PriceRow → List ℕ → ℕ
sum_where test [] ns = 0
sum_where test (r ∷ rs) [] = 0
sum_where test (r ∷ rs) (n ∷ ns) = cond (test r) n 0 + sum_where test rs ns

-- the gross prices of the rows, of which the first has the number i: made from the last row back, since only later rows
-- stand under a row
abbrev pub grosses : ℕ → List PriceRow → List ℕ
grosses i [] = []
grosses i (r ∷ rs) = (r.net + sum_where (is_under i) rs (grosses (i + 1) rs)) ∷ grosses (i + 1) rs

-- the gross price of row i, in units of 100 cents
abbrev pub gross : List PriceRow → ℕ → ℕ
gross rows i = slice_index (grosses 0 rows) i

-- the gross price of row i, or nothing where there is no such row
abbrev pub gross_of : List PriceRow → ℕ → Option ℕ
gross_of rows i = cond (nat_lt i (length rows)) (Some (gross rows i)) None

-- 60 rows at 100,000 units: no gross price is greater
abbrev pub most_gross : ℕ
most_gross = 6_000_000
