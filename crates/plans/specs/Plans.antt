-- What a plan is, and what it costs.
use Rattle.std.specs.Prelude.{◌≡◌, ℕ, ◌<◌, ◌≤◌, true, List, length, Some}
use Rattle.costs.specs.declared.posting.Posting.{Posting}
use Rattle.costs.specs.Kinds.{Adding}
use Rattle.model.specs.declared.question.Question.{Question}
use Rattle.model.specs.declared.question.Question.TheVariants.{OfOption, OfResource}
use Rattle.model.specs.declared.question.RepairOption.{RepairOption}
use Rattle.model.specs.Books.{Book}
use Rattle.model.specs.Studies.{Model}
use Rattle.plans.specs.Ranges.{those}
use Rattle.plans.specs.Questions.{count, questions, is_open}
use Rattle.plans.specs.Postings.{postings_for, summed}
use Rattle.plans.specs.Starts.{byte, final, Starts}
use Rattle.plans.specs.Uses.{Uses, Needed, uses}

-- A plan for a study and a book.
pub record IsPlan (s : Model) (b : Book) (plan : List ℕ) : Type 0 where
  -- one byte for each component
  pub one_byte_each : length plan ≡ count s
  -- the byte is not 0 exactly for reached components
  pub reached_is_decided : (i a : ℕ) → Starts s plan i a → 1 ≤ byte plan i
  pub decided_is_reached : (i : ℕ) → i < count s → 1 ≤ byte plan i → (a : ℕ) × Starts s plan i a
  -- the final echelon lies from the start to the last echelon
  pub from_the_start : (i a : ℕ) → Starts s plan i a → a ≤ final (byte plan i)
  pub to_the_last : (i a : ℕ) → Starts s plan i a → final (byte plan i) ≤ s.echelons
  -- every option used, and every resource that one needs at its echelon, is open
  pub options_open : (i e : ℕ) (o : RepairOption) → Uses s plan i e o → is_open b (OfOption i e o) ≡ true
  pub resources_open : (r e : ℕ) → Needed s plan r e → is_open b (OfResource r e) ≡ true

-- what a plan uses, each once, in the order of the survey
abbrev pub used_questions : Model → List ℕ → List Question
used_questions s plan = those (uses s plan) (questions s)

-- one posting for each option used, and one for each pair of a resource and an echelon that is needed at least once
abbrev pub postings : Model → Book → List ℕ → List Posting
postings s b plan = postings_for s b (used_questions s plan)

-- the cost of a plan: the sum of its postings
abbrev pub Costs : {C : Type 0} → Adding C → Model → Book → List ℕ → C → Type 0
Costs k s b plan c = summed k (postings s b plan) ≡ Some c
