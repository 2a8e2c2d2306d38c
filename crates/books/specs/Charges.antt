-- What a price book charges, and that its charges keep the limits.
use Rattle.std.specs.Prelude.{ℕ, ◌*◌, ◌≤◌, cond, ◌&&◌, length, get_or, pos, nat_le, nat_lt, slice_index, slice_index_or}
use Rattle.std.proofs.Common.{arith}
use Rattle.std.proofs.lemmas.Nat.{mul-le}
use Rattle.std.proofs.lemmas.Int.{ints}
use Rattle.std.proofs.lemmas.Bool.{and_parts, ltb-true, cond_both}
use Rattle.model.specs.declared.answer.Answer.{Answer}
use Rattle.model.specs.declared.answer.Answer.TheVariants.{Charged, Barred}
use Rattle.model.specs.declared.question.Question.TheVariants.{OfOption, OfResource}
use Rattle.model.specs.declared.question.RepairOption.{RepairOption}
use Rattle.model.specs.declared.question.RepairOption.TheVariants.{Discard, Repair, Move}
use Rattle.model.specs.Books.{Book, KeepsLimits, InLimits}
use Rattle.books.specs.declared.price_row.PriceRow.{PriceRow}
use Rattle.books.specs.declared.price_book.PriceBook.{PriceBook}
use Rattle.books.specs.Echelons.{is_echelon}
use Rattle.books.specs.PriceRows.{no_row, AtMost, at_most}
use Rattle.books.specs.Gross.{gross, most_gross}
use Rattle.books.specs.Prices.{Prices, prices}

-- what an option is charged for a row of that gross price, in cents: a unit is 100 cents, so a price times a percent is in
-- cents. A move is charged one percent of the gross price.
abbrev pub option_cents : ℕ → PriceRow → RepairOption → ℕ
option_cents g r Discard = g * r.discard
option_cents g r Repair = r.net * r.repair
option_cents g r Move = g

-- a charge of that money, and no minutes
abbrev pub charged : ℕ → Answer
charged cents = Charged (record { cents = pos cents; minutes = 0 })

-- a row or a resource is charged alike at every echelon, and any other question is barred
abbrev pub priced : Prices → Book
priced b (OfOption i e o) = cond (nat_lt i (length b.rows) && is_echelon e) (charged (option_cents (gross b.rows i) (slice_index_or b.rows i no_row) o)) Barred
priced b (OfResource r e) = cond (nat_le r 7 && is_echelon e) (charged (slice_index b.yearly r)) Barred

-- the charge of an option is at most that of a discard at the greatest gross price
cents_most : (g : ℕ) (r : PriceRow) (o : RepairOption) → g ≤ most_gross → AtMost r → option_cents g r o ≤ most_gross * 125
cents_most g r Discard h m = mul-le g r.discard most_gross 125 h m.2
cents_most g r Repair h m = omega (arith, mul-le r.net r.repair 100_000 100 m.0 m.1)
cents_most g r Move h m = omega arith

pub priced_limited : (b : PriceBook) → KeepsLimits (priced (prices b))
priced_limited b (OfOption i e o) =
    let rows = (prices b).rows in
    cond_both (nat_lt i (length rows) && is_echelon e) (charged (option_cents (gross rows i) (slice_index_or rows i no_row) o)) Barred (InLimits (OfOption i e o))
    (λ t.
    let l = ltb-true i (length rows) (and_parts (nat_lt i (length rows)) (is_echelon e) t).0 in
    let most = cents_most (gross rows i) (slice_index_or rows i no_row) o (b.bounded i) (at_most rows b.ranges i l) in
    (omega (arith, ints), omega (arith, ints, most), omega arith))
    (λ f. tt)
priced_limited b (OfResource r e) =
    let cents = get_or (prices b).yearly r 0 in
    cond_both (nat_le r 7 && is_echelon e) (charged cents) Barred (InLimits (OfResource r e))
    (λ t. (omega (arith, ints), omega (arith, ints, b.amounts r), omega arith))
    (λ f. tt)
