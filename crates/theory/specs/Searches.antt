-- The search over marks of pairs: what a plan is worth under them, what a walk answers, and what a search finds.
--
-- Each pair is held, free or shut. The search of some marks looks at the plans that need no shut pair, and counts for each
-- the pairs that it needs and the held ones.
use Rattle.std.specs.Prelude.{◌≡◌, ℕ, zero, suc, ◌+◌, ◌<◌, ◌≤◌, Bool, true, false, cond, ◌||◌, List, [], ◌∷◌, ◌++◌, length, pos, ◌≤ℤ◌, Some, Option, ◌==◌}
use Rattle.costs.specs.Postings.{most}
use Rattle.costs.specs.Kinds.{Adding}
use Rattle.theory.specs.Entries.{Entry}
use Rattle.theory.specs.Amounts.{Amount, value, Known, precedes}
use Rattle.theory.specs.Marks.{Clear}

-- the postings of the pairs below n that pass, in order
abbrev pub pair_postings : (ℕ → Entry) → (ℕ → Bool) → ℕ → List Entry
pair_postings q f zero = []
pair_postings q f (suc n) = pair_postings q f n ++ cond (f n) (q n ∷ []) []

-- an amount, and behind it the postings of the pairs that pass
abbrev pub with_pairs : (ℕ → Entry) → ℕ → Amount → (ℕ → Bool) → Amount
with_pairs q n a f = record { is_open = a.is_open; row = a.row ++ pair_postings q f n }

-- What the search knows of plans, whatever they are: what a plan's options post, closed where it is no plan by its options;
-- the pairs that it needs; its number in reading order; and the posting of each pair, for so many pairs.
pub record Plans (X : Type 0) : Type 0 where
  pub options : X → Amount
  pub needs : X → ℕ → Bool
  pub number : X → ℕ
  pub pair : ℕ → Entry
  pub pairs : ℕ

-- what the search asks of them: no pair posts negative money; a plan's options post something, and leave room for the pairs
pub record Countable {X : Type 0} (s : Plans X) : Type 0 where
  pub no_gain : (j : ℕ) → pos 0 ≤ℤ (s.pair j).posting.cents
  pub posts : (x : X) → (s.options x).is_open ≡ true → 0 < length (s.options x).row
  pub room : (x : X) → length (s.options x).row + s.pairs ≤ most

-- x is a plan, and needs no shut pair
abbrev pub IsClear : {X : Type 0} → Plans X → (ℕ → Bool) → X → Type 0
IsClear s shut x = ((s.options x).is_open ≡ true) × Clear shut s.pairs (s.needs x)

-- what a plan posts: its options, and the pairs that it needs
abbrev pub cost : {X : Type 0} → Plans X → X → Amount
cost s x = with_pairs s.pair s.pairs (s.options x) (s.needs x)

-- the same with the held pairs counted too
abbrev pub worth : {X : Type 0} → Plans X → (ℕ → Bool) → X → Amount
worth s held x = with_pairs s.pair s.pairs (s.options x) (λ j. held j || s.needs x j)

-- a plan with a cost; with none, that no plan is known
pub record Best (X C : Type 0) : Type 0 where
  pub cost : Option C
  pub plan : X

-- the first of two comes before the second, by cost and then by reading order
abbrev pub ahead : {X C : Type 0} → (C → C → Bool) → Plans X → Best X C → Best X C → Bool
ahead lower s a b = precedes lower a.cost (s.number a.plan) b.cost (s.number b.plan)

abbrev pub at_worth : {X C : Type 0} → Adding C → Plans X → (ℕ → Bool) → X → Best X C
at_worth k s held x = record { cost = value k (worth s held x); plan = x }

abbrev pub at_cost : {X C : Type 0} → Adding C → Plans X → X → Best X C
at_cost k s x = record { cost = value k (cost s x); plan = x }

-- what a walk answers: a plan and what its options post, closed where it found none
pub record Walk (X : Type 0) : Type 0 where
  pub sum : Amount
  pub plan : X

-- a walk with some pairs shut: no plan that is clear of them precedes its answer, counting option postings only; and an open
-- answer is such a plan
pub record Walked {X C : Type 0} (k : Adding C) (lower : C → C → Bool) (s : Plans X) (shut : ℕ → Bool) (w : Walk X) : Type 0 where
  pub first : (x : X) → IsClear s shut x → precedes lower (value k (s.options x)) (s.number x) (value k w.sum) (s.number w.plan) ≡ false
  pub real : w.sum.is_open ≡ true → (s.options w.plan ≡ w.sum) × Clear shut s.pairs (s.needs w.plan)
  pub room : length w.sum.row + s.pairs ≤ most

-- the walk's answer with the held pairs' postings: no plan below these marks comes before it
abbrev pub bound : {X C : Type 0} → Adding C → Plans X → (ℕ → Bool) → Walk X → Best X C
bound k s held w = record { cost = value k (with_pairs s.pair s.pairs w.sum held); plan = w.plan }

-- a best so far that has a cost is a plan clear of the closed pairs, at no less than its own cost
abbrev pub Real : {X C : Type 0} → Adding C → (C → C → Bool) → Plans X → (ℕ → Bool) → Best X C → Type 0
Real {C = C} k lower s closed b = (c : C) → b.cost ≡ Some c → IsClear s closed b.plan × (ahead lower s b (at_cost k s b.plan) ≡ false)

-- What a search of some marks makes of the best so far, b: it answers r, which b does not come before; no plan that is clear
-- of the shut pairs, at its worth with the held pairs, comes before r; and r is real and its cost known if b's were.
pub record Found {X C : Type 0} (k : Adding C) (lower : C → C → Bool) (s : Plans X) (closed held shut : ℕ → Bool) (b r : Best X C) : Type 0 where
  pub kept : ahead lower s b r ≡ false
  pub least : (x : X) → IsClear s shut x → ahead lower s (at_worth k s held x) r ≡ false
  pub real : Real k lower s closed b → Real k lower s closed r
  pub known : Known k b.cost → Known k r.cost

-- pair j passes now, and every other pair below n as before
abbrev pub With : ℕ → ℕ → (ℕ → Bool) → (ℕ → Bool) → Type 0
With n j before after = (i : ℕ) → i < n → after i ≡ (i == j) || before i

-- every pair below n passes as before
abbrev pub Same : ℕ → (ℕ → Bool) → (ℕ → Bool) → Type 0
Same n before after = (i : ℕ) → i < n → after i ≡ before i
