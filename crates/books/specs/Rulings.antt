-- What a ruling answers, from its marks and from the answers of the book below.
use Rattle.std.specs.Prelude.{◌+◌, min, Bool, true, false, cond, List}
use Rattle.model.specs.declared.answer.Answer.{Answer}
use Rattle.model.specs.declared.answer.Answer.TheVariants.{Charged, Barred, Faulty}
use Rattle.model.specs.declared.question.Question.{Question}
use Rattle.model.specs.declared.question.Question.TheVariants.{OfOption, OfResource}
use Rattle.model.specs.Books.{Book, KeepsLimits, InLimits}
use Rattle.books.specs.Marks.{is_marked}

-- an answer from one layer below: a fault is one layer further down, and the count is held at 255
abbrev pub raised : Answer → Answer
raised (Charged c) = Charged c
raised Barred = Barred
raised (Faulty f) = Faulty (record { cause = f.cause; letter = f.letter; height = min 255 (f.height + 1); question = f.question })

-- a marked question is barred, whatever the book below answers, and any other gets the answer from below
abbrev pub ruled : List Bool → Book → Book
ruled ms below q = cond (is_marked ms q) Barred (raised (below q))

raised_limits : (q : Question) (a : Answer) → InLimits q a → InLimits q (raised a)
raised_limits (OfOption i e o) (Charged c) h = h
raised_limits (OfOption i e o) Barred h = tt
raised_limits (OfOption i e o) (Faulty f) h = tt
raised_limits (OfResource r e) (Charged c) h = h
raised_limits (OfResource r e) Barred h = tt
raised_limits (OfResource r e) (Faulty f) h = tt

barred_limits : (q : Question) → InLimits q Barred
barred_limits (OfOption i e o) = tt
barred_limits (OfResource r e) = tt

-- a ruling keeps the limits, since the book below does
pub ruled_limited : (ms : List Bool) (below : Book) → KeepsLimits below → KeepsLimits (ruled ms below)
ruled_limited ms below limited q =
    elim (is_marked ms q) as (λ m. InLimits q (cond m Barred (raised (below q)))) [ true ↦ barred_limits q | false ↦ raised_limits q (below q) (limited q) ]
