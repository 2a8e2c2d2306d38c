-- Charge books: what a book answers to each question, and the limits of the charges.
use Rattle.std.specs.Prelude.{◌≤◌, pos, neg_ℤ, ◌≤ℤ◌}
use Rattle.model.specs.declared.question.Question.{Question}
use Rattle.model.specs.declared.question.Question.TheVariants.{OfOption, OfResource}
use Rattle.model.specs.declared.answer.Answer.{Answer}
use Rattle.model.specs.declared.answer.Answer.TheVariants.{Charged, Barred, Faulty}
use Rattle.model.specs.declared.answer.Charge.{Charge}

-- the meaning of a book: its answer to each question
abbrev pub Book : Type 0
Book = Question → Answer

-- the charge of an option, per failure: at most 10^9 cents above or below zero, and at most 10^6 minutes
abbrev pub OptionLimits : Charge → Type 0
OptionLimits c = (neg_ℤ (pos 1_000_000_000) ≤ℤ c.cents) × (c.cents ≤ℤ pos 1_000_000_000) × (c.minutes ≤ 1_000_000)

-- the charge of a resource, a year: 0 to 10^12 cents, and at most 10^9 minutes
abbrev pub ResourceLimits : Charge → Type 0
ResourceLimits c = (pos 0 ≤ℤ c.cents) × (c.cents ≤ℤ pos 1_000_000_000_000) × (c.minutes ≤ 1_000_000_000)

-- an answer to a question is within the limits: a charge is, and nothing is asked of the others
abbrev pub InLimits : Question → Answer → Type 0
InLimits (OfOption i e o) (Charged c) = OptionLimits c
InLimits (OfOption i e o) Barred = Unit {0}
InLimits (OfOption i e o) (Faulty f) = Unit {0}
InLimits (OfResource r e) (Charged c) = ResourceLimits c
InLimits (OfResource r e) Barred = Unit {0}
InLimits (OfResource r e) (Faulty f) = Unit {0}

abbrev pub KeepsLimits : Book → Type 0
KeepsLimits b = (q : Question) → InLimits q (b q)
