-- What is posted for an option or a resource that a plan uses, over a thousand years.
use Rattle.std.specs.Prelude.{ℕ, ◌*◌, List, [], ◌∷◌, pos, ◌*ℤ◌, Some, None, Option, slice_index_or}
use Rattle.costs.specs.declared.posting.Posting.{Posting}
use Rattle.costs.specs.Kinds.{Adding}
use Rattle.model.specs.declared.question.Question.{Question}
use Rattle.model.specs.declared.question.Question.TheVariants.{OfOption, OfResource}
use Rattle.model.specs.declared.answer.Answer.{Answer}
use Rattle.model.specs.declared.answer.Answer.TheVariants.{Charged, Barred, Faulty}
use Rattle.model.specs.declared.answer.Charge.{Charge}
use Rattle.model.specs.declared.component.Component.{Component}
use Rattle.model.specs.Books.{Book}
use Rattle.model.specs.Components.{no_component}
use Rattle.model.specs.Studies.{Model}

-- component i of a study
abbrev pub component : Model → ℕ → Component
component s i = slice_index_or s.components i no_component

-- how often a charge is posted in a thousand years: an option's at each failure, a resource's each year
abbrev pub times : Model → Question → ℕ
times s (OfOption i e o) = (component s i).rate
times s (OfResource r e) = 1000

abbrev pub posted : ℕ → Charge → Posting
posted n c = record { cents = pos n *ℤ c.cents; minutes = n * c.minutes }

abbrev pub posting_of : ℕ → Answer → Option Posting
posting_of n (Charged c) = Some (posted n c)
posting_of n Barred = None
posting_of n (Faulty f) = None

-- the posting for what a question asks about, where it is open
abbrev pub posting : Model → Book → Question → Option Posting
posting s b q = posting_of (times s q) (b q)

-- the postings of a list of questions, in order; what is not open posts nothing
abbrev pub add_posting : Option Posting → List Posting → List Posting
add_posting None ps = ps
add_posting (Some p) ps = p ∷ ps

abbrev pub postings_for : Model → Book → List Question → List Posting
postings_for s b [] = []
postings_for s b (q ∷ qs) = add_posting (posting s b q) (postings_for s b qs)

-- a sum so far with one posting more: an empty sum has no cost of its own
abbrev pub plus_posting : {C : Type 0} → Adding C → Option C → Posting → Option C
plus_posting k None p = Some (k.post p)
plus_posting k (Some c) p = Some (k.plus c (k.post p))

abbrev pub plus_postings : {C : Type 0} → Adding C → Option C → List Posting → Option C
plus_postings k sum [] = sum
plus_postings k sum (p ∷ ps) = plus_postings k (plus_posting k sum p) ps

-- the sum of a list of postings from the first to the last, none where there is no posting
abbrev pub summed : {C : Type 0} → Adding C → List Posting → Option C
summed k ps = plus_postings k None ps
