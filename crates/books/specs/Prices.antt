-- A price book as its caller knows it, and what each call answers and leaves.
use Rattle.std.specs.Prelude.{ℕ, Bool, cond, ◌&&◌, List, [], ◌∷◌, ◌++◌, length, replicate, Ok, Err, vec_items, Result, nat_le, nat_lt, slice_set}
use Rattle.model.specs.declared.refusal.Refusal.{Refusal}
use Rattle.model.specs.declared.refusal.Refusal.TheVariants as no
use Rattle.model.specs.Components.{parent_of, is_entered}
use Rattle.books.specs.declared.price_row.PriceRow.{PriceRow}
use Rattle.books.specs.declared.price_book.PriceBook.{PriceBook}
use Rattle.books.specs.PriceRows.{is_price, are_percents, most_yearly}

-- a row is for the component of its number, a yearly amount in cents for the resource of its number
pub record Prices : Type 0 where
  pub rows : List PriceRow
  pub yearly : List ℕ

abbrev pub prices : PriceBook → Prices
prices b = record { rows = vec_items b.rows; yearly = b.yearly }

abbrev pub no_prices : Prices
no_prices = record { rows = []; yearly = replicate 8 0 }

-- what a call answers, and the prices that it leaves
abbrev pub Outcome : Type 0 → Type 0
Outcome A = Result A Refusal × Prices

-- a question: where it passes the call goes on, where it fails the call is refused and the prices stay
abbrev pub ask : {A : Type 0} → Prices → Bool → Refusal → Outcome A → Outcome A
ask b test why rest = cond test rest (Err why, b)

-- the row that add adds
abbrev pub row_of : ℕ → ℕ → ℕ → ℕ → PriceRow
row_of p n r d = record { parent = parent_of p; net = n; repair = r; discard = d }

-- add: are there fewer than 60 rows? is the parent 255 or an earlier row? is the price in range? are the percents?
abbrev pub on_add : Prices → ℕ → ℕ → ℕ → ℕ → Outcome ℕ
on_add b p n r d =
    ask b (nat_lt (length b.rows) 60) no.PriceRowsFull
    (ask b (is_entered (length b.rows) (parent_of p)) no.UnknownPriceParent
    (ask b (is_price n) no.PriceOutOfRange
    (ask b (are_percents r d) no.PercentOutOfRange
    (Ok (length b.rows), record { rows = b.rows ++ row_of p n r d ∷ []; yearly = b.yearly }))))

-- set_yearly: is the resource 0 to 7, and the amount in range?
abbrev pub on_yearly : Prices → ℕ → ℕ → Outcome Unit
on_yearly b r c =
    ask b (nat_le r 7 && nat_le c most_yearly) no.YearlyOutOfRange
    (Ok tt, record { rows = b.rows; yearly = slice_set b.yearly r c })
