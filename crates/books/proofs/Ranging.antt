-- The ranges are kept when a row is added and when a yearly amount is set.
use Rattle.std.proofs.Common.{◌≡◌, ℕ, ◌≤◌, List, [], ◌∷◌, ◌++◌, length, sym, ap, subst, inl, inr, arith}
use Rattle.std.proofs.lemmas.Bool.{cases_lt}
use Rattle.std.proofs.lemmas.Nat.{mul-le}
use Rattle.std.proofs.lemmas.List.{get_or_append_left, get_or_push, get_or_past, length_push}
use Rattle.books.specs.declared.price_row.PriceRow.{PriceRow}
use Rattle.books.specs.PriceRows.{no_row, Row, Rows, at_most}
use Rattle.books.specs.Gross.{gross, most_gross}
use Rattle.books.proofs.Bounding.{Within, gross_most}

pub rows_push : (rs : List PriceRow) (r : PriceRow) → Rows rs → Row (length rs) r → Rows (rs ++ r ∷ [])
rows_push rs r sound new k h =
    let n = length_push rs r in
    elim (cases_lt k (length rs)) [
      | inl l ↦ subst (λ x. Row k x) (sym (get_or_append_left rs (r ∷ []) no_row k l)) (sound k l)
      | inr g ↦
          let e : length rs ≡ k = omega arith in
          subst (λ x. Row k x) (sym (get_or_push rs r no_row k e)) (subst (λ j. Row j r) e new)
    ]

-- every net price is at most 100,000
within : (rs : List PriceRow) → Rows rs → Within 100_000 rs
within rs sound k =
    elim (cases_lt k (length rs)) [
      | inl l ↦ (at_most rs sound k l).0
      | inr g ↦ omega (arith, ap (λ (r : PriceRow). r.net) (get_or_past rs k no_row g))
    ]

pub gross_bounded : (rs : List PriceRow) → length rs ≤ 60 → Rows rs → (i : ℕ) → gross rs i ≤ most_gross
gross_bounded rs few sound i =
    let same : 100_000 ≤ 100_000 = omega arith in
    omega (arith, gross_most 100_000 0 i rs (within rs sound), mul-le 100_000 (length rs) 100_000 60 same few)
