-- The rows of a price book and the ranges that they keep.
use Rattle.std.specs.Prelude.{◌≡◌, ℕ, ◌<◌, ◌≤◌, Bool, true, ◌&&◌, List, length, get_or, None, nat_le, slice_index_or}
use Rattle.std.proofs.lemmas.Bool.{and_parts, leb-true}
use Rattle.model.specs.Components.{is_entered}
use Rattle.books.specs.declared.price_row.PriceRow.{PriceRow}

-- a net price is 1 to 100,000 units of 100 cents
abbrev pub is_price : ℕ → Bool
is_price n = nat_le 1 n && nat_le n 100_000

-- a repair percent is at most 100, a discard percent at most 125
abbrev pub are_percents : ℕ → ℕ → Bool
are_percents repair discard = nat_le repair 100 && nat_le discard 125

-- the greatest yearly amount of a resource, in cents
abbrev pub most_yearly : ℕ
most_yearly = 1_000_000_000_000

-- stands where there is no row
abbrev pub no_row : PriceRow
no_row = record { parent = None; net = 0; repair = 0; discard = 0 }

-- row i: its parent is an earlier row or none, and its price and percents are in range
abbrev pub Row : ℕ → PriceRow → Type 0
Row i r = (is_entered i r.parent ≡ true) × (is_price r.net ≡ true) × (are_percents r.repair r.discard ≡ true)

abbrev pub Rows : List PriceRow → Type 0
Rows rows = (i : ℕ) → i < length rows → Row i (slice_index_or rows i no_row)

-- the greatest price and percents of a row, which bound its charges
abbrev pub AtMost : PriceRow → Type 0
AtMost r = (r.net ≤ 100_000) × (r.repair ≤ 100) × (r.discard ≤ 125)

pub at_most : (rows : List PriceRow) → Rows rows → (i : ℕ) → i < length rows → AtMost (slice_index_or rows i no_row)
at_most rows sound i l =
    let r = get_or rows i no_row in
    let row = sound i l in
    let price = and_parts (nat_le 1 r.net) (nat_le r.net 100_000) row.1 in
    let percents = and_parts (nat_le r.repair 100) (nat_le r.discard 125) row.2 in
    (leb-true r.net 100_000 price.1, leb-true r.repair 100 percents.0, leb-true r.discard 125 percents.1)
