-- The rows after a row, and what each of them adds to its gross price.
use Rattle.std.proofs.Common.{◌≡◌, ℕ, ◌+◌, ◌-◌, ◌<◌, Bool, cond, List, length, get_or, take, drop, sym, ap, ◌∙◌, arith, length-take, length-drop}
use Rattle.std.proofs.lemmas.List.{get_or-take, get_or-drop}
use Rattle.books.specs.declared.price_row.PriceRow.{PriceRow}
use Rattle.books.specs.PriceRows.{no_row}
use Rattle.books.specs.Gross.{is_under, gross}
use Rattle.books.proofs.Grossing.{under_from, under_more}

abbrev pub later : ℕ → List PriceRow → List PriceRow
later p rows = take (length rows - (p + 1)) (drop (p + 1) rows)

-- the row that stands at k among them is one of the rows
later_below : (p k : ℕ) (rows : List PriceRow) → k < length (later p rows) → p + 1 + k < length rows
later_below p k rows l = omega (arith, length-take (length rows - (p + 1)) (drop (p + 1) rows), length-drop (p + 1) rows)

later_row : (p k : ℕ) (rows : List PriceRow) → k < length (later p rows) → get_or (later p rows) k no_row ≡ get_or rows (p + 1 + k) no_row
later_row p k rows l =
    let few : k < length rows - (p + 1) = omega (arith, later_below p k rows l) in
    get_or-take _ (drop (p + 1) rows) k no_row few ∙ get_or-drop (p + 1) rows k no_row

-- the sum over the later rows, by the row at k: it is taken or left
pub later_more : (p k : ℕ) (rows : List PriceRow) (b : Bool) → k < length (later p rows) → b ≡ is_under p (get_or (later p rows) k no_row) → under_from p rows (p + 1 + k) ≡ cond b (gross rows (p + 1 + k)) 0 + under_from p rows (p + 1 + (k + 1))
later_more p k rows b l test =
    let i = p + 1 + k in
    let same = sym (test ∙ ap (is_under p) (later_row p k rows l)) in
    let next : i + 1 ≡ p + 1 + (k + 1) = omega arith in
    under_more p rows i (later_below p k rows l) ∙ ap (λ t. cond t (gross rows i) 0 + under_from p rows (i + 1)) same
    ∙ ap (λ j. cond b (gross rows i) 0 + under_from p rows j) next
