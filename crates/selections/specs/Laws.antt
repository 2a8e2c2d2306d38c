-- The laws of selections: plans and consistent selections are the same thing, said twice; and a selection posts each once.
use Rattle.std.specs.Prelude.{◌≡◌, ℕ, List}
use Rattle.costs.specs.Kinds.{Adding}
use Rattle.model.specs.declared.question.Question.{Question}
use Rattle.model.specs.declared.question.Question.TheVariants.{OfOption, OfResource}
use Rattle.model.specs.declared.question.RepairOption.{RepairOption}
use Rattle.model.specs.Books.{Book}
use Rattle.model.specs.Studies.{Model, Limits}
use Rattle.plans.specs.Uses.{Uses}
use Rattle.plans.specs.Plans.{IsPlan, Costs}
use Rattle.plans.specs.Laws.{Among, Distinct}
use Rattle.selections.specs.Selections.{Selection, Selected, OptionNeeds, Consistent}
use Rattle.selections.specs.Costs.{selected_questions, SelectionCosts}

-- a plan describes a selection: selected are exactly the options that the plan uses
pub record Describes (s : Model) (plan : List ℕ) (x : Selection) : Type 0 where
  pub used_is_selected : (i e : ℕ) (o : RepairOption) → Uses s plan i e o → Selected x i e o
  pub selected_is_used : (i e : ℕ) (o : RepairOption) → Selected x i e o → Uses s plan i e o

-- two selections are the same: they agree at every component, echelon and option
abbrev pub Same : Selection → Selection → Type 0
Same x y = (i e : ℕ) (o : RepairOption) → x i e o ≡ y i e o

-- the plan describes exactly one consistent selection: no other selection is described by it, consistent or not
pub record DescribesOne (s : Model) (b : Book) (plan : List ℕ) : Type 0 where
  pub selection : Selection
  pub consistent : Consistent s b selection
  pub described : Describes s plan selection
  pub no_other : (y : Selection) → Describes s plan y → Same y selection

-- the selection is described by exactly one plan
pub record DescribedByOne (s : Model) (b : Book) (x : Selection) : Type 0 where
  pub plan : List ℕ
  pub is_plan : IsPlan s b plan
  pub describes : Describes s plan x
  pub no_other : (other : List ℕ) → IsPlan s b other → Describes s other x → other ≡ plan

-- what a plan costs, the selection that it describes costs, and the other way round
pub record SameCost {C : Type 0} (k : Adding C) (s : Model) (b : Book) (plan : List ℕ) (x : Selection) (c : C) : Type 0 where
  pub plan_to_selection : Costs k s b plan c → SelectionCosts k s b x c
  pub selection_to_plan : SelectionCosts k s b x c → Costs k s b plan c

pub record AreSelections {C : Type 0} (k : Adding C) (s : Model) (b : Book) : Type 0 where
  pub plan_has_selection : (plan : List ℕ) → IsPlan s b plan → DescribesOne s b plan
  pub selection_has_plan : (x : Selection) → Consistent s b x → DescribedByOne s b x
  pub same_cost : (plan : List ℕ) (x : Selection) (c : C) → IsPlan s b plan → Describes s plan x → SameCost k s b plan x c

-- for every study within its limits, every book and every way of adding costs
abbrev pub PlansAreSelections : Type 0 → Type 0
PlansAreSelections C = (k : Adding C) (s : Model) (b : Book) → Limits s → AreSelections k s b

-- the selection selects or needs what the question asks about
abbrev pub SelectsIt : Model → Selection → Question → Type 0
SelectsIt s x (OfOption i e o) = Selected x i e o
SelectsIt s x (OfResource r e) = (i : ℕ) × (o : RepairOption) × Selected x i e o × OptionNeeds s i o r

-- what is selected or needed is posted, each once, and nothing else
pub record PostsSelectedOnce (s : Model) (x : Selection) : Type 0 where
  pub selected_is_posted : (q : Question) → SelectsIt s x q → Among q (selected_questions s x)
  pub posted_is_selected : (q : Question) → Among q (selected_questions s x) → SelectsIt s x q
  pub once : Distinct (selected_questions s x)

abbrev pub SelectionsPostEachOnce : Type 0
SelectionsPostEachOnce = (s : Model) (b : Book) (x : Selection) → Limits s → Consistent s b x → PostsSelectedOnce s x
