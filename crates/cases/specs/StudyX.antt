-- Study X: two echelons, one resource, component 0 at the top and component 1 under it.
use Rattle.std.specs.Prelude.{ℕ, cond, [], ◌∷◌, pos, Some, None, ◌==◌}
use Rattle.model.specs.declared.component.Needs.{Needs}
use Rattle.model.specs.declared.question.Question.TheVariants.{OfOption, OfResource}
use Rattle.model.specs.declared.question.RepairOption.{RepairOption}
use Rattle.model.specs.declared.question.RepairOption.TheVariants.{Discard, Repair, Move}
use Rattle.model.specs.declared.answer.Answer.{Answer}
use Rattle.model.specs.declared.answer.Answer.TheVariants.{Charged, Barred}
use Rattle.model.specs.Books.{Book}
use Rattle.model.specs.Studies.{Model}
use Rattle.books.specs.Marks.{no_marks, on_bar}
use Rattle.books.specs.Rulings.{ruled}

abbrev no_needs : Needs
no_needs = record { discard = 0; repair = 0; moving = 0 }

-- the repair of component 0 needs resource 0
abbrev pub study_x : Model
study_x = record {
  echelons = 2;
  resources = 1;
  components =
      record { parent = None; level = 1; needs = record { discard = 0; repair = 1; moving = 0 }; rate = 2000 }
      ∷ record { parent = Some 0; level = 2; needs = no_needs; rate = 1000 } ∷ [];
}

abbrev charge : ℕ → ℕ → Answer
charge cents minutes = Charged (record { cents = pos cents; minutes = minutes })

-- the answer at echelon 1, and at echelon 2; barred anywhere else
abbrev by_echelon : ℕ → Answer → Answer → Answer
by_echelon e first second = cond (e == 1) first (cond (e == 2) second Barred)

-- the answer for component 0, and for component 1; barred for any other
abbrev by_component : ℕ → Answer → Answer → Answer
by_component i zeroth first = cond (i == 0) zeroth (cond (i == 1) first Barred)

abbrev option_x : ℕ → ℕ → RepairOption → Answer
option_x i e Discard = by_component i (by_echelon e (charge 500 0) (charge 500 0)) (by_echelon e (charge 60 0) (charge 50 0))
option_x i e Repair = by_component i (by_echelon e (charge 100 30) (charge 80 90)) (by_echelon e Barred (charge 20 0))
option_x i e Move = by_component i (by_echelon e (charge 10 0) Barred) (by_echelon e (charge 5 0) Barred)

abbrev pub book_x : Book
book_x (OfOption i e o) = option_x i e o
book_x (OfResource r e) = cond (r == 0) (by_echelon e (charge 300 0) (charge 100 0)) Barred

-- the same book under a ruling that bars the resource at echelon 2
abbrev pub book_x_ruled : Book
book_x_ruled = ruled (on_bar no_marks (OfResource 0 2)).1 book_x
