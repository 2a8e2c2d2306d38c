-- What setting and clearing marks comes to, and how rulings lie over a book and over each other.
use Rattle.std.proofs.Common.{◌≡◌, ℕ, Bool, true, false, cond, List, set, Some, None, Option, sym, refl, ap, ◌∙◌, inl, inr, arith}
use Rattle.std.proofs.lemmas.Bool.{cases_lt}
use Rattle.std.proofs.lemmas.List.{length-replicate, get_or-replicate, get_or_past, get_or-set_other, set-set, set-get_or}
use Rattle.model.specs.declared.answer.Answer.TheVariants.{Barred}
use Rattle.books.specs.Marks.{place, places, no_marks, is_marked_at, on_mark}
use Rattle.books.specs.Rulings.{raised}
use Rattle.books.specs.Laws.{ClearRulingAnswersAsBelow, LiftUndoesBar, MarksStandApart}
use Rattle.books.proofs.Placing.{same_question}

clear_at : (a : Option ℕ) → is_marked_at no_marks a ≡ false
clear_at None = refl
clear_at (Some p) =
    elim (cases_lt p places) [
      | inl l ↦ get_or-replicate places p false false l
      | inr g ↦ get_or_past no_marks p false (omega (arith, length-replicate places false))
    ]

pub clear_as_below : ClearRulingAnswersAsBelow
clear_as_below b q = ap (λ m. cond m Barred (raised (b q))) (clear_at (place q))

undone_at : (ms : List Bool) (a : Option ℕ) → is_marked_at ms a ≡ false → (on_mark (on_mark ms a true).1 a false).1 ≡ ms
undone_at ms None clear = refl
undone_at ms (Some p) clear = set-set ms p true false ∙ ap (set ms p) (sym clear) ∙ set-get_or ms p false

pub undone : LiftUndoesBar
undone ms q clear = undone_at ms (place q) clear

apart_at : (ms : List Bool) (m : Bool) (a b : Option ℕ) → ((n : ℕ) → a ≡ Some n → b ≡ Some n → ⊥) → is_marked_at (on_mark ms a m).1 b ≡ is_marked_at ms b
apart_at ms m None b other = refl
apart_at ms m (Some n) None other = refl
apart_at ms m (Some n) (Some k) other = get_or-set_other ms n k m false (λ e. other n refl (ap Some e))

pub apart : MarksStandApart
apart ms p q differ =
    let other : (n : ℕ) → place p ≡ Some n → place q ≡ Some n → ⊥ = λ n a b. differ (same_question p q n a b) in
    record { by_bar = apart_at ms true (place p) (place q) other; by_lift = apart_at ms false (place p) (place q) other }
