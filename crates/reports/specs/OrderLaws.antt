-- What the order of a report's lines comes to: every component once, under its parent, and by number.
use Rattle.std.specs.Prelude.{◌≡◌, ℕ, ◌+◌, ◌<◌, ◌≤◌, List, ◌∷◌, ◌++◌, length, Some, count_by, nat_eq}
use Rattle.std.specs.List.{AllByRecursion}
use Rattle.model.specs.Studies.{Model, Limits}
use Rattle.plans.specs.Postings.{component}
use Rattle.plans.specs.Questions.{count}
use Rattle.plans.specs.Starts.{parent}
use Rattle.reports.specs.LineOrder.{order}
use Rattle.reports.specs.Reports.{indent}

-- how many lines component i has
abbrev pub lines_of : Model → ℕ → ℕ
lines_of s i = count_by (nat_eq i) (order s)

-- the line of component i comes after that of p, and between the two stand only lines that Between holds of
pub record Follows (s : Model) (Between : ℕ → Type 0) (p i : ℕ) : Type 0 where
  pub before : List ℕ
  pub between : List ℕ
  pub after : List ℕ
  pub all : order s ≡ before ++ p ∷ (between ++ i ∷ after)
  pub only : AllByRecursion Between between

pub record LinesInOrder (s : Model) : Type 0 where
  -- every component has exactly one line, and there are no other lines
  pub as_many : length (order s) ≡ count s
  pub one_each : (i : ℕ) → i < count s → lines_of s i ≡ 1
  pub no_other : (i : ℕ) → count s ≤ i → lines_of s i ≡ 0
  -- a component's line comes after its parent's, and before any later component of the parent's level or a level above
  pub under_parent : (i p : ℕ) → i < count s → parent s i ≡ Some p → Follows s (λ k. (component s p).level < (component s k).level) p i
  -- it is indented one step more
  pub one_step_more : (i p : ℕ) → i < count s → parent s i ≡ Some p → indent s i ≡ indent s p + 2
  -- components under one parent, and top components, come by number; between two of them stand none of a level above theirs
  pub by_number : (i j : ℕ) → i < j → j < count s → parent s i ≡ parent s j → Follows s (λ k. (component s i).level ≤ (component s k).level) i j

abbrev pub EveryComponentInOrder : Type 0
EveryComponentInOrder = (s : Model) → Limits s → LinesInOrder s

-- the order depends on the tree and the numbers alone
abbrev pub OrderFromTree : Type 0
OrderFromTree = (s t : Model) → count s ≡ count t → ((i : ℕ) → i < count s → parent s i ≡ parent t i) → order s ≡ order t
