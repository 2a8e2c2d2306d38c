-- Asking a book's questions in order, up to the first fault: what each step of the survey answers.
use Rattle.std.specs.Prelude.{◌≡◌, ℕ, ◌<◌, ◌≤◌, cond, List, [], ◌∷◌, length, Some, None, Ok, Err, Option, Result, nat_lt, slice_index_or}
use Rattle.costs.specs.declared.posting.Posting.{Posting}
use Rattle.costs.specs.Postings.{Within}
use Rattle.model.specs.declared.question.Question.{Question}
use Rattle.model.specs.declared.question.Question.TheVariants.{OfOption, OfResource}
use Rattle.model.specs.declared.question.RepairOption.TheVariants.{Discard, Repair, Move}
use Rattle.model.specs.declared.answer.Answer.{Answer}
use Rattle.model.specs.declared.answer.Answer.TheVariants.{Charged, Barred, Faulty}
use Rattle.model.specs.declared.answer.Fault.{Fault}
use Rattle.model.specs.Books.{Book}
use Rattle.model.specs.Studies.{Model}
use Rattle.plans.specs.Questions.{count, echelon_questions, component_questions, resource_questions, option_questions, pair_questions, first_fault, fault_of}
use Rattle.plans.specs.Postings.{posted, posting_of}
use Rattle.planning.specs.declared.table.Choices.{Choices}
use Rattle.planning.specs.Surveys.{no_choices, by_echelon, until, OptionRows, ResourceRows}

-- a charge posted n times is within the limits of a posting
abbrev pub Postable : ℕ → Answer → Type 0
Postable n (Charged c) = Within (posted n c)
Postable n Barred = Unit {0}
Postable n (Faulty f) = Unit {0}

-- one answer: its fault, or its posting, where a charge is posted n times
abbrev pub Learned : ℕ → Answer → Result (Option Posting) Fault → Type 0
Learned n a (Ok p) = (fault_of a ≡ None) × (p ≡ posting_of n a)
Learned n a (Err f) = fault_of a ≡ Some f

-- `Asked b qs P r`: r is the first fault among the answers to the questions, and where there is none, r is what was
-- learned, of which P holds
abbrev pub Asked : {A : Type 0} → Book → List Question → (A → Type 0) → Result A Fault → Type 0
Asked b qs P (Ok x) = (first_fault b qs ≡ None) × P x
Asked b qs P (Err f) = first_fault b qs ≡ Some f

-- a list whose first n places hold what f gives, and the others what they held
pub record Filled {A : Type 0} (f : ℕ → A) (n : ℕ) (held xs : List A) : Type 0 where
  pub long : length xs ≡ length held
  pub first : (k : ℕ) (none : A) → k < n → slice_index_or xs k none ≡ f k
  pub others : (k : ℕ) (none : A) → n ≤ k → slice_index_or xs k none ≡ slice_index_or held k none

-- what is kept of the options of component i, which has that rate, at echelon e: no move from the last
abbrev pub offered : Book → ℕ → ℕ → ℕ → ℕ → Choices
offered b last rate i e = record {
  discard = posting_of rate (b (OfOption i e Discard));
  repair = posting_of rate (b (OfOption i e Repair));
  moving = cond (nat_lt e last) (posting_of rate (b (OfOption i e Move))) None;
}

-- the options of such a component at echelon e
abbrev pub AskedChoices : Book → ℕ → ℕ → ℕ → ℕ → Result Choices Fault → Type 0
AskedChoices b last rate i e r = Asked b (echelon_questions last i e) (λ x. x ≡ offered b last rate i e) r

-- its options at every echelon, nothing past the last
abbrev pub AskedOptionRow : Book → ℕ → ℕ → ℕ → Result (List Choices) Fault → Type 0
AskedOptionRow b last rate i r = Asked b (component_questions last i) (λ x. x ≡ by_echelon (until last no_choices (offered b last rate i))) r

-- the rows of every component
abbrev pub AskedOptions : Model → Book → Result (List (List Choices)) Fault → Type 0
AskedOptions s b r = Asked b (option_questions s) (OptionRows s b (count s)) r

-- the question about resource q at echelon e
abbrev pub pair_question : ℕ → ℕ → List Question
pair_question q e = OfResource q e ∷ []

-- what is kept of it
abbrev pub held_posting : Book → ℕ → ℕ → Option Posting
held_posting b q e = posting_of 1000 (b (OfResource q e))

abbrev pub AskedPair : Book → ℕ → ℕ → Result (Option Posting) Fault → Type 0
AskedPair b q e r = Asked b (pair_question q e) (λ x. x ≡ held_posting b q e) r

-- resource q at every echelon, nothing past the last
abbrev pub AskedResourceRow : Book → ℕ → ℕ → Result (List (Option Posting)) Fault → Type 0
AskedResourceRow b last q r = Asked b (resource_questions last q) (λ x. x ≡ by_echelon (until last None (held_posting b q))) r

-- the rows of every resource
abbrev pub AskedResources : Model → Book → Result (List (List (Option Posting))) Fault → Type 0
AskedResources s b r = Asked b (pair_questions s) (ResourceRows s b s.resources) r
