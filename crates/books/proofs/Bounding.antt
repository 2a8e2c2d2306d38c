-- No gross price is above the number of rows times the greatest net price: the rows under one row are not under another.
use Rattle.std.proofs.Common.{◌≡◌, ℕ, zero, suc, ◌+◌, ◌*◌, ◌≤◌, Bool, true, false, cond, List, [], ◌∷◌, length, get_or, Some, None, Option, refl, mul-suc, arith}
use Rattle.std.proofs.lemmas.Bool.Decides.{nat_tests}
use Rattle.model.specs.Components.{is_entered}
use Rattle.books.specs.declared.price_row.PriceRow.{PriceRow}
use Rattle.books.specs.PriceRows.{no_row}
use Rattle.books.specs.Gross.{is_parent, is_under, sum_where, grosses}

-- the row has no parent, or one before row i
abbrev is_apart : ℕ → PriceRow → Bool
is_apart i r = is_entered i r.parent

-- a parent before row i + 1 is row i or before it, and not both
one_parent : (i n : ℕ) (o : Option ℕ) → cond (is_entered (i + 1) o) n 0 ≡ cond (is_parent i o) n 0 + cond (is_entered i o) n 0
one_parent i n None = omega arith
one_parent i n (Some p) = grind (arith, nat_tests)

split : (i : ℕ) (rs : List PriceRow) (ns : List ℕ) → sum_where (is_apart (i + 1)) rs ns ≡ sum_where (is_under i) rs ns + sum_where (is_apart i) rs ns
split i [] ns = refl
split i (r ∷ rs) [] = refl
split i (r ∷ rs) (n ∷ ns) = omega (arith, one_parent i n r.parent, split i rs ns)

cond_most : (b : Bool) (n : ℕ) → cond b n 0 ≤ n
cond_most true n = omega arith
cond_most false n = omega arith

-- each net price is at most m
abbrev pub Within : ℕ → List PriceRow → Type 0
Within m rs = (k : ℕ) → (get_or rs k no_row).net ≤ m

-- the rows that are apart from one another add up to at most m for each row
apart_most : (m i : ℕ) (rs : List PriceRow) → Within m rs → sum_where (is_apart i) rs (grosses i rs) ≤ m * length rs
apart_most m i [] fair = omega arith
apart_most m i (r ∷ rs) fair =
    let ns = grosses (i + 1) rs in
    let all = r.net + sum_where (is_under i) rs ns in
    omega (arith, cond_most (is_apart i r) all, split i rs ns, apart_most m (i + 1) rs (λ k. fair (suc k)), fair 0, mul-suc m (length rs))

under_most : (m i : ℕ) (rs : List PriceRow) → Within m rs → sum_where (is_under i) rs (grosses (i + 1) rs) ≤ m * length rs
under_most m i rs fair = omega (arith, split i rs (grosses (i + 1) rs), apart_most m (i + 1) rs fair)

pub gross_most : (m i k : ℕ) (rs : List PriceRow) → Within m rs → get_or (grosses i rs) k 0 ≤ m * length rs
gross_most m i k [] fair = omega arith
gross_most m i zero (r ∷ rs) fair = omega (arith, under_most m i rs (λ j. fair (suc j)), fair 0, mul-suc m (length rs))
gross_most m i (suc k) (r ∷ rs) fair = omega (arith, gross_most m (i + 1) k rs (λ j. fair (suc j)), mul-suc m (length rs))
