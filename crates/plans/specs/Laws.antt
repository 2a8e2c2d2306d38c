-- The laws that say what the definitions of starts, uses, postings and prices come to.
use Rattle.std.specs.Prelude.{◌≡◌, ℕ, ◌<◌, ◌≤◌, List, [], ◌∷◌, length, None}
use Rattle.std.specs.List.{AllByRecursion}
use Rattle.costs.specs.Kinds.{Adding}
use Rattle.costs.specs.Postings.{Within, most}
use Rattle.model.specs.declared.question.Question.{Question}
use Rattle.model.specs.declared.question.Question.TheVariants.{OfOption, OfResource}
use Rattle.model.specs.Books.{Book, KeepsLimits}
use Rattle.model.specs.Studies.{Model, Limits}
use Rattle.plans.specs.Questions.{count}
use Rattle.plans.specs.Starts.{Starts, start}
use Rattle.plans.specs.Uses.{Uses, Needed}
use Rattle.plans.specs.Plans.{IsPlan, used_questions, postings}
use Rattle.plans.specs.Prices.{objection, priced, Ready, AcceptsExactlyPlans}

-- a cost is answered exactly for the plans, and it is the plan's
abbrev pub PriceAcceptsExactlyPlans : Type 0 → Type 0
PriceAcceptsExactlyPlans C =
    (k : Adding C) (s : Model) (b : Book) (bytes : List ℕ)
    → Limits s → Ready s b bytes → AcceptsExactlyPlans k s b bytes (priced k s b bytes)

-- the echelon read off the parent's byte is the start, and 0 says that the component is not reached
pub record ReadsStart (s : Model) (plan : List ℕ) (i : ℕ) : Type 0 where
  pub start_is_read : (a : ℕ) → Starts s plan i a → (start s plan i ≡ a) × (1 ≤ a)
  pub read_is_start : 1 ≤ start s plan i → Starts s plan i (start s plan i)

-- it is, wherever no component before it meets an objection; so at every component of a plan
abbrev pub StartIsRead : Type 0
StartIsRead =
    (s : Model) (b : Book) (plan : List ℕ) (i : ℕ)
    → Limits s → i < count s → ((j : ℕ) → j < i → objection s b plan j ≡ None) → ReadsStart s plan i

-- every posting is within its limits, and there are at most as many as a cost kind sums
abbrev pub PostingsFit : Type 0
PostingsFit =
    (s : Model) (b : Book) (plan : List ℕ)
    → Limits s → KeepsLimits b → AllByRecursion Within (postings s b plan) × (length (postings s b plan) ≤ most)

-- a plan uses what the question asks about
abbrev pub UsesIt : Model → List ℕ → Question → Type 0
UsesIt s plan (OfOption i e o) = Uses s plan i e o
UsesIt s plan (OfResource r e) = Needed s plan r e

-- the question stands in the list
pub data Among (q : Question) : List Question → Type 0 where
  here : (qs : List Question) → Among q (q ∷ qs)
  later : (p : Question) (qs : List Question) → Among q qs → Among q (p ∷ qs)

-- no question stands in the list twice
abbrev pub Distinct : List Question → Type 0
Distinct [] = Unit {0}
Distinct (q ∷ qs) = (Among q qs → ⊥) × Distinct qs

-- what a plan uses is posted, each once, and nothing else
pub record PostsEachOnce (s : Model) (plan : List ℕ) : Type 0 where
  pub used_is_posted : (q : Question) → UsesIt s plan q → Among q (used_questions s plan)
  pub posted_is_used : (q : Question) → Among q (used_questions s plan) → UsesIt s plan q
  pub once : Distinct (used_questions s plan)

abbrev pub PlansPostEachOnce : Type 0
PlansPostEachOnce = (s : Model) (b : Book) (plan : List ℕ) → Limits s → IsPlan s b plan → PostsEachOnce s plan
