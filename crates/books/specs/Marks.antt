-- The marks of a ruling: one for each question in range, and what setting and clearing one leaves.
use Rattle.std.specs.Prelude.{ℕ, ◌+◌, ◌-◌, ◌*◌, ◌<◌, Bool, true, false, cond, ◌&&◌, List, replicate, Some, None, Ok, Err, Option, Result, nat_lt, slice_index_or, slice_set}
use Rattle.model.specs.declared.question.Question.{Question}
use Rattle.model.specs.declared.question.Question.TheVariants.{OfOption, OfResource}
use Rattle.model.specs.declared.question.RepairOption.{RepairOption}
use Rattle.model.specs.declared.question.RepairOption.TheVariants.{Discard, Repair, Move}
use Rattle.model.specs.declared.refusal.Refusal.{Refusal}
use Rattle.model.specs.declared.refusal.Refusal.TheVariants.{RulingOutOfRange}
use Rattle.books.specs.Echelons.{is_echelon}

abbrev pub option_number : RepairOption → ℕ
option_number Discard = 0
option_number Repair = 1
option_number Move = 2

-- the place of a question's mark: 12 for each of 60 components, three options at each of four echelons, and then 4 for each
-- of 8 resources. A question out of range has none.
abbrev pub place : Question → Option ℕ
place (OfOption i e o) = cond (nat_lt i 60 && is_echelon e) (Some (12 * i + 3 * (e - 1) + option_number o)) None
place (OfResource r e) = cond (nat_lt r 8 && is_echelon e) (Some (720 + 4 * r + (e - 1))) None

-- the number of places
abbrev pub places : ℕ
places = 752

abbrev pub InTable : Option ℕ → Type 0
InTable None = Unit {0}
InTable (Some p) = p < places

abbrev pub no_marks : List Bool
no_marks = replicate places false

abbrev pub is_marked_at : List Bool → Option ℕ → Bool
is_marked_at ms None = false
is_marked_at ms (Some p) = slice_index_or ms p false

-- the question has a mark, and it is set
abbrev pub is_marked : List Bool → Question → Bool
is_marked ms q = is_marked_at ms (place q)

-- what bar and lift answer, and the marks that they leave: is the question in range?
abbrev pub on_mark : List Bool → Option ℕ → Bool → Result Unit Refusal × List Bool
on_mark ms None mark = (Err RulingOutOfRange, ms)
on_mark ms (Some p) mark = (Ok tt, slice_set ms p mark)

abbrev pub on_bar : List Bool → Question → Result Unit Refusal × List Bool
on_bar ms q = on_mark ms (place q) true

abbrev pub on_lift : List Bool → Question → Result Unit Refusal × List Bool
on_lift ms q = on_mark ms (place q) false
