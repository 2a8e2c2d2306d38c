-- What the survey keeps: for each question of a study the posting of what is open.
use Rattle.std.specs.Prelude.{◌≡◌, ℕ, ◌<◌, cond, List, [], ◌∷◌, Some, None, Ok, Err, Option, Result, nat_le, nat_lt, slice_index_or}
use Rattle.costs.specs.declared.posting.Posting.{Posting}
use Rattle.model.specs.declared.answer.Fault.{Fault}
use Rattle.model.specs.declared.question.Question.TheVariants.{OfOption, OfResource}
use Rattle.model.specs.declared.question.RepairOption.{RepairOption}
use Rattle.model.specs.declared.question.RepairOption.TheVariants.{Discard, Repair, Move}
use Rattle.model.specs.Books.{Book}
use Rattle.model.specs.Studies.{Model}
use Rattle.plans.specs.Questions.{count, questions, first_fault}
use Rattle.plans.specs.Postings.{posting}
use Rattle.planning.specs.declared.table.Choices.{Choices}
use Rattle.planning.specs.declared.table.Survey.{Survey}

-- stand where nothing is asked
abbrev pub no_choices : Choices
no_choices = record { discard = None; repair = None; moving = None }

-- what is kept of one option
abbrev pub choice : Choices → RepairOption → Option Posting
choice c Discard = c.discard
choice c Repair = c.repair
choice c Move = c.moving

abbrev pub no_options : List Choices
no_options = []

abbrev pub no_resource : List (Option Posting)
no_resource = []

-- what f gives for the echelons 1 to 4
abbrev pub by_echelon : {A : Type 0} → (ℕ → A) → List A
by_echelon f = f 1 ∷ f 2 ∷ f 3 ∷ f 4 ∷ []

-- f at echelon e, and none past the last echelon
abbrev pub until : {A : Type 0} → ℕ → A → (ℕ → A) → ℕ → A
until last none f e = cond (nat_le e last) (f e) none

-- component i at echelon e: nothing past the last echelon, and no move from it
abbrev pub choices_of : Model → Book → ℕ → ℕ → Choices
choices_of s b i e =
    cond (nat_le e s.echelons)
    (record {
      discard = posting s b (OfOption i e Discard);
      repair = posting s b (OfOption i e Repair);
      moving = cond (nat_lt e s.echelons) (posting s b (OfOption i e Move)) None;
    })
    no_choices

abbrev pub option_row : Model → Book → ℕ → List Choices
option_row s b i = by_echelon (choices_of s b i)

-- resource r at echelon e: nothing past the last echelon
abbrev pub pair_posting : Model → Book → ℕ → ℕ → Option Posting
pair_posting s b r e = cond (nat_le e s.echelons) (posting s b (OfResource r e)) None

abbrev pub resource_row : Model → Book → ℕ → List (Option Posting)
resource_row s b r = by_echelon (pair_posting s b r)

-- the rows of the components below n, and of the resources below n
abbrev pub OptionRows : Model → Book → ℕ → List (List Choices) → Type 0
OptionRows s b n rows = (i : ℕ) → i < n → slice_index_or rows i no_options ≡ option_row s b i

abbrev pub ResourceRows : Model → Book → ℕ → List (List (Option Posting)) → Type 0
ResourceRows s b n rows = (r : ℕ) → r < n → slice_index_or rows r no_resource ≡ resource_row s b r

-- the survey has a row for each component and each resource of the study
pub record Keeps (s : Model) (b : Book) (t : Survey) : Type 0 where
  pub options : OptionRows s b (count s) t.options
  pub resources : ResourceRows s b s.resources t.resources

-- the first fault that the survey meets, or all that it learned
abbrev pub Surveyed : Model → Book → Result Survey Fault → Type 0
Surveyed s b (Ok t) = (first_fault b (questions s) ≡ None) × Keeps s b t
Surveyed s b (Err f) = first_fault b (questions s) ≡ Some f
