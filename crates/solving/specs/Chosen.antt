-- The free pair that is decided next.
use Rattle.std.specs.Prelude.{◌≡◌, ℕ, suc, ◌<◌, false, List, Option, MatchOption, slice_index_or}
use Rattle.model.specs.Studies.{Model}
use Rattle.model.specs.declared.question.Question.TheVariants.{OfResource}
use Rattle.plans.specs.Uses.{uses}
use Rattle.solving.specs.declared.mark.Mark.{Mark}
use Rattle.solving.specs.declared.mark.Mark.TheVariants.{Held, Free}
use Rattle.solving.specs.Marked.{mark_at}

-- none of the first n places of a line of marks is free and needed
abbrev pub NoneInLine : Model → List ℕ → ℕ → List Mark → ℕ → Type 0
NoneInLine s plan r line n = (place : ℕ) → place < n → slice_index_or line place Held ≡ Free → uses s plan (OfResource r (suc place)) ≡ false

-- a place where a resource is free, if the plan needs it at one
abbrev pub FreeInLine : Model → List ℕ → ℕ → List Mark → Option ℕ → Type 0
FreeInLine s plan r line answer =
    MatchOption answer (NoneInLine s plan r line s.echelons) (λ place. (place < s.echelons) × (slice_index_or line place Held ≡ Free))

-- no pair of the first n resources is free and needed
abbrev pub NoneFree : Model → List ℕ → List (List Mark) → ℕ → Type 0
NoneFree s plan marks n =
    (r place : ℕ) → r < n → place < s.echelons → mark_at marks r place ≡ Free → uses s plan (OfResource r (suc place)) ≡ false

-- a resource and a place where it is free
pub record IsFree (s : Model) (marks : List (List Mark)) (pair : ℕ × ℕ) : Type 0 where
  pub resource : pair.0 < s.resources
  pub place : pair.1 < s.echelons
  pub free : mark_at marks pair.0 pair.1 ≡ Free

-- a free pair, if the plan needs one
abbrev pub FreePair : Model → List ℕ → List (List Mark) → Option (ℕ × ℕ) → Type 0
FreePair s plan marks answer = MatchOption answer (NoneFree s plan marks s.resources) (IsFree s marks)
