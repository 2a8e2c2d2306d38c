-- The marks that a search of all plans begins with, and what it finds.
use Rattle.std.specs.Prelude.{◌≡◌, ℕ, ◌<◌, Bool, List, [], ◌∷◌, take, Some, None, Option, slice_index_or}
use Rattle.costs.specs.declared.posting.Posting.{Posting}
use Rattle.costs.specs.Kinds.{Adding}
use Rattle.model.specs.Books.{Book, KeepsLimits}
use Rattle.model.specs.Studies.{Model}
use Rattle.plans.specs.Questions.{count}
use Rattle.planning.specs.declared.table.Survey.{Survey}
use Rattle.planning.specs.Surveys.{Keeps, no_resource}
use Rattle.solutions.specs.Solved.{least_plan}
use Rattle.solving.specs.declared.best.Best.{Best}
use Rattle.solving.specs.declared.mark.Mark.{Mark}
use Rattle.solving.specs.declared.mark.Mark.TheVariants.{Free, Shut}

-- a pair is free where it has a posting, which it has where it is open, and shut elsewhere
abbrev pub first_mark : Option Posting → Mark
first_mark None = Shut
first_mark (Some p) = Free

-- a resource at the echelons 1 to 4
abbrev pub first_line : List (Option Posting) → List Mark
first_line row =
    first_mark (slice_index_or row 0 None) ∷ first_mark (slice_index_or row 1 None)
    ∷ first_mark (slice_index_or row 2 None) ∷ first_mark (slice_index_or row 3 None) ∷ []

-- the first n resources are marked so
abbrev pub FirstMarks : Survey → ℕ → List (List Mark) → Type 0
FirstMarks t n marks = (r : ℕ) → r < n → slice_index_or marks r [] ≡ first_line (slice_index_or t.resources r no_resource)

-- `FindsLeast k lower s t r`: whatever the book that the survey t keeps, r is the first of the least plans with its cost,
-- and without a cost where there is none
abbrev pub FindsLeast : {C : Type 0} → Adding C → (C → C → Bool) → Model → Survey → Best C → Type 0
FindsLeast {C = C} k lower s t r =
    (b : Book) → KeepsLimits b → Keeps s b t
    → (r.cost ≡ None → least_plan k lower s b ≡ None)
    × ((c : C) → r.cost ≡ Some c → least_plan k lower s b ≡ Some (record { plan = take (count s) r.plan; cost = c }))
