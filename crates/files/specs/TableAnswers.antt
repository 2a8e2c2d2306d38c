-- The table book: the answers that stand in the T and F records of a file.
use Rattle.std.specs.Prelude.{ℕ, Bool, cond, ◌&&◌, List, [], ◌∷◌, pos, neg_ℤ, Some, None, Option, ◌==◌, int_le, nat_le}
use Rattle.std.specs.List.{filter_map}
use Rattle.model.specs.declared.question.Question.{Question}
use Rattle.model.specs.declared.question.Question.TheVariants.{OfOption, OfResource}
use Rattle.model.specs.declared.answer.Answer.{Answer}
use Rattle.model.specs.declared.answer.Answer.TheVariants.{Charged, Barred, Faulty}
use Rattle.model.specs.declared.answer.Cause.{Cause}
use Rattle.model.specs.declared.answer.Cause.TheVariants.{BeyondLimits, EnteredTwice}
use Rattle.model.specs.declared.answer.Charge.{Charge}
use Rattle.model.specs.Letters.{letter}
use Rattle.model.specs.Books.{Book}
use Rattle.files.specs.Records.{byte, kind, letter_t, letter_f, records, charge_of}

-- the record names the question: a T by component, echelon and option letter, an F by resource and echelon
abbrev pub names : List ℕ → Question → Bool
names r (OfOption i e o) = kind r == letter_t && (byte r 1 == i && (byte r 2 == e && byte r 3 == letter o))
names r (OfResource i e) = kind r == letter_f && (byte r 1 == i && byte r 2 == e)

-- the charge that a record enters for a question, where it names that question
abbrev pub charge_for : Question → List ℕ → Option Charge
charge_for q r = cond (names r q) (Some (charge_of r)) None

-- the charges of the records that name the question
abbrev pub charges : Question → List (List ℕ) → List Charge
charges q rs = filter_map (charge_for q) rs

-- the charge keeps the limits: for an option at most 10^9 cents above or below zero and 10^6 minutes, for a resource 0 to
-- 10^12 cents and at most 10^9 minutes
abbrev pub is_within : Question → Charge → Bool
is_within (OfOption i e o) c = int_le (neg_ℤ (pos 1_000_000_000)) c.cents && (int_le c.cents (pos 1_000_000_000) && nat_le c.minutes 1_000_000)
is_within (OfResource i e) c = int_le (pos 0) c.cents && (int_le c.cents (pos 1_000_000_000_000) && nat_le c.minutes 1_000_000_000)

-- a fault of the table book, whose letter is T
abbrev pub table_fault : Cause → Question → Answer
table_fault why q = Faulty (record { cause = why; letter = 84; height = 0; question = q })

-- no charge: barred; one: that charge, or a fault where it is beyond the limits; several: a fault
abbrev pub answer_from : Question → List Charge → Answer
answer_from q [] = Barred
answer_from q (c ∷ []) = cond (is_within q c) (Charged c) (table_fault BeyondLimits q)
answer_from q (c ∷ d ∷ cs) = table_fault EnteredTwice q

-- the meaning of a table book: each question is answered from the records that name it
abbrev pub table_answers : List ℕ → Book
table_answers file q = answer_from q (charges q (records file))
