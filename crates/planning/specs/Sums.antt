-- What is added to a sum: the postings of a component or a resource, by its row of the survey.
use Rattle.std.specs.Prelude.{◌≡◌, ℕ, pred, ◌≤◌, Bool, true, false, List, [], ◌++◌, length, None, Option, slice_index_or}
use Rattle.std.specs.List.{AllByRecursion}
use Rattle.costs.specs.declared.posting.Posting.{Posting}
use Rattle.costs.specs.Kinds.{Adding}
use Rattle.costs.specs.Postings.{Within, most}
use Rattle.model.specs.declared.question.RepairOption.TheVariants.{Discard, Repair, Move}
use Rattle.model.specs.declared.question.Question.{Question}
use Rattle.model.specs.Books.{Book}
use Rattle.model.specs.Studies.{Model}
use Rattle.plans.specs.Ranges.{those}
use Rattle.plans.specs.Postings.{add_posting, postings_for, summed}
use Rattle.plans.specs.Uses.{uses_at, uses}
use Rattle.planning.specs.declared.table.Choices.{Choices}
use Rattle.planning.specs.declared.table.Survey.{Survey}
use Rattle.planning.specs.Surveys.{no_choices, Keeps}

-- postings that every cost kind can sum
abbrev pub Summable : List Posting → Type 0
Summable ps = AllByRecursion Within ps × (length ps ≤ most)

-- `Adds k sum new r`: of whatever postings the sum is, r is the sum of those and the new ones after them
abbrev pub Adds : {C : Type 0} → Adding C → Option C → List Posting → Option C → Type 0
Adds k sum new r = (ps : List Posting) → sum ≡ summed k ps → Summable (ps ++ new) → r ≡ summed k (ps ++ new)

-- what is used and open is posted
abbrev pub if_used : Bool → Option Posting → List Posting
if_used true p = add_posting p []
if_used false p = []

-- the postings at echelon e of a component that starts at echelon a and has byte b
abbrev pub at_echelon : ℕ → ℕ → ℕ → Choices → List Posting
at_echelon a b e c = if_used (uses_at a b e Discard) c.discard ++ (if_used (uses_at a b e Repair) c.repair ++ if_used (uses_at a b e Move) c.moving)

-- f at the echelons 1 to 4, with what a row keeps for each
abbrev pub at_four : {A : Type 0} → (ℕ → A → List Posting) → A → List A → List Posting
at_four f none row = f 1 (slice_index_or row 0 none) ++ (f 2 (slice_index_or row 1 none) ++ (f 3 (slice_index_or row 2 none) ++ f 4 (slice_index_or row 3 none)))

-- the postings of such a component
abbrev pub of_component : ℕ → ℕ → List Choices → List Posting
of_component a b row = at_four (at_echelon a b) no_choices row

-- the postings of a resource, by the test whether it is needed at an echelon
abbrev pub of_resource : (ℕ → Bool) → List (Option Posting) → List Posting
of_resource needed row = at_four (λ e. if_used (needed e)) None row

-- whether a resource is used at echelon e, by a list whose places are one below the echelons
abbrev pub used_at : List Bool → ℕ → Bool
used_at used e = slice_index_or used (pred e) false

-- the postings of what a plan uses among some questions
abbrev pub used_postings : Model → Book → List ℕ → List Question → List Posting
used_postings s b plan qs = postings_for s b (those (uses s plan) qs)

-- `AddsUsed k s t plan sum qs r`: whatever the book that the survey t keeps, r is the sum with those postings added
abbrev pub AddsUsed : {C : Type 0} → Adding C → Model → Survey → List ℕ → Option C → List Question → Option C → Type 0
AddsUsed k s t plan sum qs r = (b : Book) → Keeps s b t → Adds k sum (used_postings s b plan qs) r
