-- A refusal is known by its number and what it carries.
use Rattle.std.proofs.Common.{◌≡◌, ◌<◌, arith}
use Rattle.model.specs.declared.answer.Cause.{Cause}
use Rattle.model.specs.declared.answer.Fault.{Fault}
use Rattle.model.specs.declared.question.Question.{Question}
use Rattle.model.specs.declared.refusal.Refusal.{Refusal}
use Rattle.model.specs.declared.refusal.Refusal.TheVariants.{BookFault}
use Rattle.model.specs.Refusals.{said, cause_number, asked}

pub number_small : (r : Refusal) → (said r).number < 100
number_small r = grind arith

cause_same : (c d : Cause) → cause_number c ≡ cause_number d → c ≡ d
cause_same c d n = grind arith

question_same : (p q : Question) → asked p ≡ asked q → p ≡ q
question_same p q ws = grind arith

fault_same : (f g : Fault) → (said (BookFault f)).carried ≡ (said (BookFault g)).carried → f ≡ g
fault_same f g ws = grind (arith, cause_same, question_same)

pub refusal_same : (r q : Refusal) → (said r).number ≡ (said q).number → (said r).carried ≡ (said q).carried → r ≡ q
refusal_same r q n ws = grind (arith, fault_same)
