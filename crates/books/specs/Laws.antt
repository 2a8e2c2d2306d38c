-- The laws that say what the definitions of gross prices and rulings come to.
use Rattle.std.specs.Prelude.{◌≡◌, ℕ, ◌+◌, ◌<◌, Bool, true, false, List, length, get_or, Ok, sum_by, filter, ◌≢◌, slice_index_or}
use Rattle.std.specs.List.{range_with_len}
use Rattle.model.specs.declared.answer.Answer.{Answer}
use Rattle.model.specs.declared.answer.Answer.TheVariants.{Charged, Barred, Faulty}
use Rattle.model.specs.declared.question.Question.{Question}
use Rattle.model.specs.Books.{Book}
use Rattle.books.specs.declared.price_row.PriceRow.{PriceRow}
use Rattle.books.specs.PriceRows.{no_row, Rows}
use Rattle.books.specs.Gross.{is_under, gross}
use Rattle.books.specs.Marks.{places, no_marks, is_marked, on_bar, on_lift}
use Rattle.books.specs.Rulings.{raised, ruled}

-- the numbers of the rows whose parent is row p
abbrev pub rows_under : List PriceRow → ℕ → List ℕ
rows_under rows p = filter (λ i. is_under p (slice_index_or rows i no_row)) (range_with_len 0 (length rows))

-- in rows that keep their ranges, as those of every price book do, a row's gross price is its net price and the gross prices of
-- the rows whose parent it is
abbrev pub GrossIsNetAndRowsUnder : Type 0
GrossIsNetAndRowsUnder =
    (rows : List PriceRow) (i : ℕ)
    → Rows rows → i < length rows → gross rows i ≡ (get_or rows i no_row).net + sum_by (gross rows) (rows_under rows i)

-- with no mark set a ruling answers as the book below, but for the height of a fault
abbrev pub ClearRulingAnswersAsBelow : Type 0
ClearRulingAnswersAsBelow = (b : Book) (q : Question) → ruled no_marks b q ≡ raised (b q)

-- a question that is in range, so that bar and lift accept it: barred once it is marked, also where the book below faults,
-- and answered from below once it is not
pub record Decided (ms : List Bool) (b : Book) (q : Question) : Type 0 where
  pub barred : (on_bar ms q).0 ≡ Ok tt → ruled (on_bar ms q).1 b q ≡ Barred
  pub lifted : (on_lift ms q).0 ≡ Ok tt → ruled (on_lift ms q).1 b q ≡ raised (b q)

abbrev pub BarAndLiftDecide : Type 0
BarAndLiftDecide = (ms : List Bool) (b : Book) (q : Question) → length ms ≡ places → Decided ms b q

-- barring an open question and lifting it again leaves the marks as they were
abbrev pub LiftUndoesBar : Type 0
LiftUndoesBar = (ms : List Bool) (q : Question) → is_marked ms q ≡ false → (on_lift (on_bar ms q).1 q).1 ≡ ms

-- barring or lifting question p leaves question q as it was
pub record Apart (ms : List Bool) (p q : Question) : Type 0 where
  pub by_bar : is_marked (on_bar ms p).1 q ≡ is_marked ms q
  pub by_lift : is_marked (on_lift ms p).1 q ≡ is_marked ms q

abbrev pub MarksStandApart : Type 0
MarksStandApart = (ms : List Bool) (p q : Question) → (p ≢ q) → Apart ms p q

abbrev pub is_fault : Answer → Bool
is_fault (Charged c) = false
is_fault Barred = false
is_fault (Faulty f) = true

-- two layers with the same marks answer as one, wherever the book below does not fault
abbrev pub EqualLayersAreOne : Type 0
EqualLayersAreOne = (ms : List Bool) (b : Book) (q : Question) → is_fault (b q) ≡ false → ruled ms (ruled ms b) q ≡ ruled ms b q
