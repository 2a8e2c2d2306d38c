use Rattle.std.proofs.Common.{◌≡◌, ℕ, List, Ok}
use Rattle.model.specs.declared.question.Question.{Question}
use Rattle.model.specs.Books.{Book}
use Rattle.plans.specs.Ranges.{upto}
use Rattle.planning.specs.Asking.{Asked, Filled}
use Rattle.planning.proofs.survey.asked.Given as goal

-- the numbers so far are asked for, without a fault
abbrev pub invariant-loop-number : goal.invariant-loop-number
invariant-loop-number g l =
    (b : Book) (questions : ℕ → List Question) (kept : ℕ → _) → ((k : ℕ) (r : _) → goal.F-post g l.ask k r → Asked b (questions k) (λ x. x ≡ kept k) r) → Asked b (upto questions l.number) (Filled kept l.number l.fn.places) (Ok l.filled)
