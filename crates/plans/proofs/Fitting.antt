-- Every posting is within its limits.
use Rattle.std.proofs.Common.{ℕ, ◌≤◌, List, [], ◌∷◌, Some, None, Option, arith}
use Rattle.std.specs.List.{AllByRecursion}
use Rattle.std.proofs.lemmas.Grind.{common_steps}
use Rattle.costs.specs.declared.posting.Posting.{Posting}
use Rattle.costs.specs.Postings.{Within}
use Rattle.model.specs.declared.answer.Answer.{Answer}
use Rattle.model.specs.declared.question.Question.{Question}
use Rattle.model.specs.declared.question.Question.TheVariants.{OfOption, OfResource}
use Rattle.model.specs.declared.question.RepairOption.{RepairOption}
use Rattle.model.specs.Books.{Book, InLimits, KeepsLimits}
use Rattle.model.specs.Studies.{Model, Limits}
use Rattle.plans.specs.Postings.{component, posting_of, posting, add_posting, postings_for}

-- a component fails at most 1,000,000 times in a thousand years
few_failures : (s : Model) (i : ℕ) → Limits s → (component s i).rate ≤ 1_000_000
few_failures s i l = grind (arith, common_steps)

-- what is posted, if anything
abbrev pub WithinIf : Option Posting → Type 0
WithinIf None = Unit {0}
WithinIf (Some p) = Within p

option_answer : (n i e : ℕ) (o : RepairOption) (a : Answer) → n ≤ 1_000_000 → InLimits (OfOption i e o) a → WithinIf (posting_of n a)
option_answer n i e o a h l = grind (arith, common_steps)

resource_answer : (r e : ℕ) (a : Answer) → InLimits (OfResource r e) a → WithinIf (posting_of 1000 a)
resource_answer r e a l = grind arith

pub posting_within : (s : Model) (b : Book) → Limits s → KeepsLimits b → (q : Question) → WithinIf (posting s b q)
posting_within s b l k (OfOption i e o) = option_answer (component s i).rate i e o (b (OfOption i e o)) (few_failures s i l) (k (OfOption i e o))
posting_within s b l k (OfResource r e) = resource_answer r e (b (OfResource r e)) (k (OfResource r e))

within_more : (p : Option Posting) (ps : List Posting) → WithinIf p → AllByRecursion Within ps → AllByRecursion Within (add_posting p ps)
within_more p ps w all = grind arith

pub postings_within : (s : Model) (b : Book) → Limits s → KeepsLimits b → (qs : List Question) → AllByRecursion Within (postings_for s b qs)
postings_within s b l k [] = tt
postings_within s b l k (q ∷ qs) = within_more (posting s b q) (postings_for s b qs) (posting_within s b l k q) (postings_within s b l k qs)
