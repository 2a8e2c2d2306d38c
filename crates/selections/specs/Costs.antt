-- What a selection costs: the options that are selected, and the pairs of a resource and an echelon that they need, each once.
use Rattle.std.specs.Prelude.{◌≡◌, ℕ, Bool, ◌&&◌, ◌||◌, List, Some}
use Rattle.costs.specs.Kinds.{Adding}
use Rattle.model.specs.declared.question.Question.{Question}
use Rattle.model.specs.declared.question.Question.TheVariants.{OfOption, OfResource}
use Rattle.model.specs.declared.question.RepairOption.{RepairOption}
use Rattle.model.specs.declared.question.RepairOption.TheVariants.{Discard, Repair, Move}
use Rattle.model.specs.Books.{Book}
use Rattle.model.specs.Components.{needs_resource}
use Rattle.model.specs.Studies.{Model}
use Rattle.plans.specs.Ranges.{some_below, those}
use Rattle.plans.specs.Questions.{count, questions}
use Rattle.plans.specs.Postings.{component, postings_for, summed}
use Rattle.selections.specs.Selections.{Selection}

-- option o is selected for component i at echelon e, and needs resource r
abbrev pub needs_by_option : Model → Selection → ℕ → ℕ → ℕ → RepairOption → Bool
needs_by_option s x r e i o = x i e o && needs_resource (component s i).needs o r

-- some option that is selected for component i at echelon e needs resource r
abbrev pub needs_of_component : Model → Selection → ℕ → ℕ → ℕ → Bool
needs_of_component s x r e i =
    needs_by_option s x r e i Discard || (needs_by_option s x r e i Repair || needs_by_option s x r e i Move)

-- the selection selects or needs what the question asks about: the option, or the resource at that echelon for at least
-- one component
abbrev pub selects : Model → Selection → Question → Bool
selects s x (OfOption i e o) = x i e o
selects s x (OfResource r e) = some_below (needs_of_component s x r e) (count s)

-- what is selected and needed, each once, in the order of the survey
abbrev pub selected_questions : Model → Selection → List Question
selected_questions s x = those (selects s x) (questions s)

-- the cost of a selection: the sum of the postings for these
abbrev pub SelectionCosts : {C : Type 0} → Adding C → Model → Book → Selection → C → Type 0
SelectionCosts k s b x c = summed k (postings_for s b (selected_questions s x)) ≡ Some c
