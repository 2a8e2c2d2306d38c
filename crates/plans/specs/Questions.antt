-- The survey: every question that a study has for a book, in order, and the first fault that the book answers.
use Rattle.std.specs.Prelude.{ℕ, suc, Bool, true, false, cond, List, [], ◌∷◌, ◌++◌, length, Some, None, Option, nat_lt}
use Rattle.model.specs.declared.question.Question.{Question}
use Rattle.model.specs.declared.question.Question.TheVariants.{OfOption, OfResource}
use Rattle.model.specs.declared.question.RepairOption.TheVariants.{Discard, Repair, Move}
use Rattle.model.specs.declared.answer.Answer.{Answer}
use Rattle.model.specs.declared.answer.Answer.TheVariants.{Charged, Barred, Faulty}
use Rattle.model.specs.declared.answer.Fault.{Fault}
use Rattle.model.specs.Books.{Book}
use Rattle.model.specs.Studies.{Model}
use Rattle.plans.specs.Ranges.{upto, or_else}

-- the number of components
abbrev pub count : Model → ℕ
count s = length s.components

-- component i at echelon e: discard, repair and, unless e is the last echelon, move
abbrev pub echelon_questions : ℕ → ℕ → ℕ → List Question
echelon_questions last i e = OfOption i e Discard ∷ OfOption i e Repair ∷ cond (nat_lt e last) (OfOption i e Move ∷ []) []

-- component i at the echelons from 1 to the last
abbrev pub component_questions : ℕ → ℕ → List Question
component_questions last i = upto (λ k. echelon_questions last i (suc k)) last

-- resource r at the echelons from 1 to the last
abbrev pub resource_questions : ℕ → ℕ → List Question
resource_questions last r = upto (λ k. OfResource r (suc k) ∷ []) last

-- the questions about options, by component
abbrev pub option_questions : Model → List Question
option_questions s = upto (component_questions s.echelons) (count s)

-- the pairs of a resource and an echelon
abbrev pub pair_questions : Model → List Question
pair_questions s = upto (resource_questions s.echelons) s.resources

-- the survey's questions: by component, echelon and option; then by resource and echelon
abbrev pub questions : Model → List Question
questions s = option_questions s ++ pair_questions s

-- the fault of an answer, where it is one
abbrev pub fault_of : Answer → Option Fault
fault_of (Charged c) = None
fault_of Barred = None
fault_of (Faulty f) = Some f

-- the first fault among the answers to a list of questions
abbrev pub first_fault : Book → List Question → Option Fault
first_fault b [] = None
first_fault b (q ∷ qs) = or_else (fault_of (b q)) (first_fault b qs)

-- what is asked about is open: the book answers a charge
abbrev pub is_charge : Answer → Bool
is_charge (Charged c) = true
is_charge Barred = false
is_charge (Faulty f) = false

abbrev pub is_open : Book → Question → Bool
is_open b q = is_charge (b q)
