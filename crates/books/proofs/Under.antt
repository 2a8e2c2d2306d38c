-- A row's gross price is its net price and the gross prices of the rows whose parent it is.
use Rattle.std.proofs.Common.{◌≡◌, ℕ, zero, suc, ◌+◌, ◌<◌, ◌≤◌, true, false, cond, List, ◌∷◌, length, get_or, Some, None, sum_by, filter, Option, sym, refl, ap, ◌∙◌, arith}
use Rattle.std.specs.List.{range_with_len}
use Rattle.std.proofs.lemmas.List.Sums.{sum_by-cons}
use Rattle.std.proofs.lemmas.Bool.{ltb-true, ne_eqb}
use Rattle.model.specs.Components.{is_entered}
use Rattle.books.specs.declared.price_row.PriceRow.{PriceRow}
use Rattle.books.specs.PriceRows.{no_row, Rows}
use Rattle.books.specs.Gross.{is_parent, is_under, gross}
use Rattle.books.specs.Laws.{GrossIsNetAndRowsUnder}
use Rattle.books.proofs.Grossing.{under_from, under_more, under_left, under_all, gross_is}

-- the sum over the rows from k on is over those of them that are under p
under_kept : (p : ℕ) (rows : List PriceRow) (n k : ℕ) → k + n ≡ length rows → under_from p rows k ≡ sum_by (gross rows) (filter (λ i. is_under p (get_or rows i no_row)) (range_with_len k n))
under_kept p rows zero k e = under_all p rows k (omega arith)
under_kept p rows (suc n) k e =
    let l : k < length rows = omega arith in
    let next : k + 1 + n ≡ length rows = omega arith in
    let rest = filter (λ i. is_under p (get_or rows i no_row)) (range_with_len (k + 1) n) in
    let more = under_kept p rows n (k + 1) next in
    under_more p rows k l
    ∙ (elim (is_under p (get_or rows k no_row)) as (λ t. cond t (gross rows k) 0 + under_from p rows (k + 1) ≡ sum_by (gross rows) (cond t (k ∷ rest) rest)) [
      | true ↦ ap (λ s. gross rows k + s) more ∙ sym (sum_by-cons (gross rows) k rest)
      | false ↦ omega (arith, more)
    ])

-- a parent among the first n is not a later row
not_later : (p n : ℕ) (o : Option ℕ) → n ≤ p → is_entered n o ≡ true → is_parent p o ≡ false
not_later p n None l h = refl
not_later p n (Some m) l h = let less = ltb-true m n h in ne_eqb m p (λ e. omega arith)

-- no row up to p is under p
skipped : (p : ℕ) (rows : List PriceRow) → Rows rows → p < length rows → (n : ℕ) → n ≤ p + 1 → under_from p rows 0 ≡ under_from p rows n
skipped p rows sound l zero h = refl
skipped p rows sound l (suc n) h =
    let before : n ≤ p + 1 = omega arith in
    let few : n ≤ p = omega arith in
    let ln : n < length rows = omega arith in
    let left = under_left p rows n ln (not_later p n (get_or rows n no_row).parent few (sound n ln).0) in
    let same : n + 1 ≡ suc n = omega arith in
    omega (arith, skipped p rows sound l n before, left, ap (under_from p rows) same)

pub gross_with_under : GrossIsNetAndRowsUnder
gross_with_under rows i sound l =
    let whole : 0 + length rows ≡ length rows = omega arith in
    let last : i + 1 ≤ i + 1 = omega arith in
    omega (arith, gross_is rows i l, skipped i rows sound l (i + 1) last, under_kept i rows (length rows) 0 whole)
