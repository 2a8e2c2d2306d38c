-- The worked figures: each follows from the definitions that the contracts cite.
use Rattle.std.specs.Prelude.{◌≡◌, ℕ, List, [], ◌∷◌, replicate, ℤ, pos, neg_ℤ, Ok, Err, Result, int_lt}
use Rattle.std.specs.List.{AllByRecursion}
use Rattle.costs.specs.Amounts.{money, totals, sooner}
use Rattle.costs.specs.declared.totals.Total.{Total}
use Rattle.model.specs.declared.refusal.Refusal.{Refusal}
use Rattle.model.specs.declared.refusal.Refusal.TheVariants.{ByteTooLarge, ReachMismatch, BeforeStart, OptionClosed, ResourceClosed}
use Rattle.model.specs.Books.{Book}
use Rattle.model.specs.Studies.{Model}
use Rattle.plans.specs.Prices.{priced}
use Rattle.plans.specs.Questions.{count}
use Rattle.solutions.specs.Solved.{Outcome, solved}
use Rattle.books.specs.declared.price_row.PriceRow.{PriceRow}
use Rattle.books.specs.Gross.{gross}
use Rattle.cases.specs.StudyX.{study_x, book_x, book_x_ruled}
use Rattle.cases.specs.Chain.{chain}
use Rattle.cases.specs.OnePart.{one_part, tied_book, scrap_book}

-- what pricing a plan by money answers for a study and a book, what solving by a cost kind answers and leaves in a plan place
-- of zeros, or the gross price of a row of a price book
pub data Figure : Type 0 where
  prices : Model → Book → List ℕ → Result ℤ Refusal → Figure
  solves_by_money : Model → Book → Outcome ℤ → Figure
  solves_by_minutes : Model → Book → Outcome Total → Figure
  has_gross : List PriceRow → ℕ → ℕ → Figure

-- a plan place with a byte for each component
abbrev zeros : Model → List ℕ
zeros study = replicate (count study) 0

abbrev pub Follows : Figure → Type 0
Follows (prices study book plan answer) = priced money study book plan ≡ answer
Follows (solves_by_money study book outcome) = solved money int_lt study book 240 (zeros study) ≡ outcome
Follows (solves_by_minutes study book outcome) = solved totals sooner study book 240 (zeros study) ≡ outcome
Follows (has_gross rows row price) = gross rows row ≡ price

abbrev of_x : List ℕ → Result ℤ Refusal → Figure
of_x plan answer = prices study_x book_x plan answer

-- a plan at its cost
abbrev planned : {C : Type 0} → List ℕ → C → Outcome C
planned plan cost = record { answer = Ok cost; place = plan }

abbrev pub figures : List Figure
figures =
    of_x (4 ∷ 4 ∷ []) (Ok (pos 300_000))
    ∷ of_x (2 ∷ 4 ∷ []) (Ok (pos 525_000))
    ∷ of_x (2 ∷ 2 ∷ []) (Err (OptionClosed 1))
    ∷ of_x (1 ∷ 1 ∷ []) (Err (ReachMismatch 1))
    ∷ of_x (4 ∷ 1 ∷ []) (Err (BeforeStart 1))
    ∷ of_x (5 ∷ 0 ∷ []) (Err (ByteTooLarge 0))
    ∷ prices study_x book_x_ruled (4 ∷ 4 ∷ []) (Err (ResourceClosed 0))
    ∷ has_gross chain 0 150
    ∷ solves_by_money study_x book_x (planned (4 ∷ 4 ∷ []) (pos 300_000))
    ∷ solves_by_money study_x book_x_ruled (planned (2 ∷ 4 ∷ []) (pos 525_000))
    ∷ solves_by_minutes study_x book_x (planned (1 ∷ 0 ∷ []) (record { cents = pos 1_000_000; minutes = 0 }))
    ∷ solves_by_money (one_part 1) tied_book (planned (1 ∷ []) (pos 100_000))
    ∷ solves_by_money (one_part 2) scrap_book (planned (1 ∷ []) (neg_ℤ (pos 50_000)))
    ∷ []

abbrev pub FiguresFollow : Type 0
FiguresFollow = AllByRecursion Follows figures
