-- A selection of options, and the rules that tie the options to one another. No bytes of a plan stand here.
use Rattle.std.specs.Prelude.{◌≡◌, ℕ, ◌+◌, ◌<◌, Bool, true, Some, None}
use Rattle.model.specs.declared.question.Question.TheVariants.{OfOption, OfResource}
use Rattle.model.specs.declared.question.RepairOption.{RepairOption}
use Rattle.model.specs.declared.question.RepairOption.TheVariants.{Repair, Move}
use Rattle.model.specs.Books.{Book}
use Rattle.model.specs.Components.{needs_resource}
use Rattle.model.specs.Studies.{Model}
use Rattle.plans.specs.Questions.{count, is_open}
use Rattle.plans.specs.Postings.{component}
use Rattle.plans.specs.Starts.{parent}

-- for each component, echelon and option (discard, repair, move): is it selected?
abbrev pub Selection : Type 0
Selection = ℕ → ℕ → RepairOption → Bool

-- option o is selected for component i at echelon e
abbrev pub Selected : Selection → ℕ → ℕ → RepairOption → Type 0
Selected x i e o = x i e o ≡ true

-- exactly one option is selected for component i at echelon e: one is, and any that is selected there is that one
pub record ExactlyOne (x : Selection) (i e : ℕ) : Type 0 where
  pub option : RepairOption
  pub selected : Selected x i e option
  pub no_other : (o : RepairOption) → Selected x i e o → o ≡ option

-- component i is a top component of the study
abbrev pub IsTop : Model → ℕ → Type 0
IsTop s i = (i < count s) × (parent s i ≡ None)

-- component i is a subcomponent of component p
abbrev pub IsUnder : Model → ℕ → ℕ → Type 0
IsUnder s i p = (i < count s) × (parent s i ≡ Some p)

-- option o of component i needs resource r
abbrev pub OptionNeeds : Model → ℕ → RepairOption → ℕ → Type 0
OptionNeeds s i o r = needs_resource (component s i).needs o r ≡ true

-- `AskedFor s x i e`: the rules ask for an option of component i at echelon e, since it is a top component and e is the
-- first echelon, or it is moved from the echelon below, or the component that it is under is repaired at e
pub data AskedFor (s : Model) (x : Selection) (i : ℕ) : ℕ → Type 0 where
  at_the_top : IsTop s i → AskedFor s x i 1
  moved : (e : ℕ) → Selected x i e Move → AskedFor s x i (e + 1)
  out_of : (p e : ℕ) → IsUnder s i p → Selected x p e Repair → AskedFor s x i e

-- A selection is consistent for a study and a book. Components are those below the count and echelons start at 1: outside
-- these nothing is asked for, so by rule 4 nothing is selected there, and by rule 2 nothing above the highest echelon.
pub record Consistent (s : Model) (b : Book) (x : Selection) : Type 0 where
  -- 1. each top component has exactly one option at echelon 1
  pub top_has_one : (i : ℕ) → IsTop s i → ExactlyOne x i 1
  -- 2. a component that is moved has exactly one option at the next higher echelon, and none is moved from the highest
  pub moved_has_one : (i e : ℕ) → Selected x i e Move → ExactlyOne x i (e + 1)
  pub no_move_at_highest : (i : ℕ) → Selected x i s.echelons Move → ⊥
  -- 3. where a component is repaired, each of its subcomponents has exactly one option at that echelon
  pub under_repair_has_one : (i p e : ℕ) → IsUnder s i p → Selected x p e Repair → ExactlyOne x i e
  -- 4. nothing is selected that these rules do not ask for
  pub nothing_else : (i e : ℕ) (o : RepairOption) → Selected x i e o → AskedFor s x i e
  -- 5. every option that is selected is open, and so is every resource that it needs, at that echelon
  pub options_open : (i e : ℕ) (o : RepairOption) → Selected x i e o → is_open b (OfOption i e o) ≡ true
  pub resources_open : (i e r : ℕ) (o : RepairOption) → Selected x i e o → OptionNeeds s i o r → is_open b (OfResource r e) ≡ true
