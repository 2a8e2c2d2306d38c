-- Studies of one part that fails 1,000 times in a thousand years, and two books for it.
use Rattle.std.specs.Prelude.{ℕ, cond, [], ◌∷◌, ℤ, pos, neg_ℤ, None, ◌==◌}
use Rattle.model.specs.declared.question.Question.TheVariants.{OfOption, OfResource}
use Rattle.model.specs.declared.question.RepairOption.{RepairOption}
use Rattle.model.specs.declared.question.RepairOption.TheVariants.{Discard, Repair, Move}
use Rattle.model.specs.declared.answer.Answer.{Answer}
use Rattle.model.specs.declared.answer.Answer.TheVariants.{Charged, Barred}
use Rattle.model.specs.Books.{Book}
use Rattle.model.specs.Studies.{Model}

abbrev pub one_part : ℕ → Model
one_part echelons = record {
  echelons = echelons;
  resources = 0;
  components = record { parent = None; level = 1; needs = record { discard = 0; repair = 0; moving = 0 }; rate = 1000 } ∷ [];
}

abbrev charge : ℤ → Answer
charge cents = Charged (record { cents = cents; minutes = 0 })

-- discard and repair both cost 100
abbrev tied : RepairOption → Answer
tied Discard = charge (pos 100)
tied Repair = charge (pos 100)
tied Move = Barred

abbrev pub tied_book : Book
tied_book (OfOption i e o) = tied o
tied_book (OfResource r e) = Barred

-- discard returns 50 at echelon 1 and 60 at echelon 2, where a move costs 10
abbrev scrapped : ℕ → RepairOption → Answer
scrapped e Discard = cond (e == 1) (charge (neg_ℤ (pos 50))) (charge (neg_ℤ (pos 60)))
scrapped e Repair = Barred
scrapped e Move = charge (pos 10)

abbrev pub scrap_book : Book
scrap_book (OfOption i e o) = scrapped e o
scrap_book (OfResource r e) = Barred
