-- What a bound is, and which of two plans with their costs comes first.
use Rattle.std.specs.Prelude.{◌≡◌, ℕ, Bool, List, [], take, Option, slice_index_or}
use Rattle.costs.specs.declared.posting.Posting.{Posting}
use Rattle.costs.specs.Kinds.{Adding}
use Rattle.model.specs.Books.{Book, KeepsLimits}
use Rattle.model.specs.Studies.{Model, Limits}
use Rattle.plans.specs.Ranges.{upto}
use Rattle.plans.specs.Orders.{rank}
use Rattle.plans.specs.Questions.{count}
use Rattle.planning.specs.declared.table.Survey.{Survey}
use Rattle.planning.specs.Surveys.{Keeps, resource_row}
use Rattle.planning.specs.Sums.{Adds, of_resource}
use Rattle.theory.specs.Amounts.{Known, precedes}
use Rattle.theory.specs.ReadingOrder.{row_number}
use Rattle.theory.specs.Searches.{bound}
use Rattle.theory.specs.Problems.{walk, plans}
use Rattle.solutions.specs.Problems.{problem}
use Rattle.solving.specs.declared.best.Best.{Best}
use Rattle.solving.specs.declared.mark.Mark.{Mark}
use Rattle.solving.specs.Marked.{held_pairs, shut_pairs, held_at}
use Rattle.solving.specs.Finds.{best_of, ShutsClosed}

-- the number of the first n bytes in reading order
abbrev pub reading_number : ℕ → List ℕ → ℕ
reading_number n plan = row_number rank 0 (take n plan)

-- `Ahead k lower n a b r`: of two plans of n bytes whose costs the laws speak of, r says whether a comes before b
abbrev pub Ahead : {C : Type 0} → Adding C → (C → C → Bool) → ℕ → Best C → Best C → Bool → Type 0
Ahead k lower n a b r =
    Known k a.cost → Known k b.cost
    → r ≡ precedes lower a.cost (reading_number n a.plan) b.cost (reading_number n b.plan)

-- the postings of the held pairs, by resource
abbrev pub held_postings : Model → Book → List (List Mark) → ℕ → List Posting
held_postings s b marks n = upto (λ r. of_resource (held_at (slice_index_or marks r [])) (resource_row s b r)) n

-- `AddsHeld k s t marks sum r`: whatever the book that the survey t keeps, r is the sum with those postings added
abbrev pub AddsHeld : {C : Type 0} → Adding C → Model → Survey → List (List Mark) → Option C → Option C → Type 0
AddsHeld k s t marks sum r = (b : Book) → Keeps s b t → Adds k sum (held_postings s b marks s.resources) r

-- `Bounds k lower s t marks r`: whatever the book, r is the bound of the marks
abbrev pub Bounds : {C : Type 0} → Adding C → (C → C → Bool) → Model → Survey → List (List Mark) → Best C → Type 0
Bounds k lower s t marks r =
    (limits : Limits s) (b : Book) (kept : KeepsLimits b) → Keeps s b t
    → ShutsClosed (problem s b limits kept) (shut_pairs marks s.echelons)
    → best_of (count s) r ≡ bound k (plans (problem s b limits kept)) (held_pairs marks s.echelons) (walk k lower (problem s b limits kept) (shut_pairs marks s.echelons))
