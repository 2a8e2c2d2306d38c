-- The walk over a breakdown of components: the sums of those already taken, the notes, and the plan that the notes give.
--
-- Components count from 1. Number 0 stands for the whole, which the top components are under: so every component has a
-- parent, and what the top components post in all stands among the sums, at the whole. The whole has no decision; its byte
-- is always 0.
use Rattle.std.specs.Prelude.{◌≡◌, ℕ, zero, suc, ◌+◌, ◌*◌, Bool, false, cond, ◌==◌}
use Rattle.costs.specs.Kinds.{Adding}
use Rattle.theory.specs.Ranks.{base}
use Rattle.theory.specs.Amounts.{Amount, nothing, both, value, precedes}

-- what a component's own options post from a start with a byte; the place at which a byte repairs; a component's start when
-- its parent is repaired at a place; its parent; the rank of a byte, and the greatest byte
pub record Breakdown : Type 0 where
  pub own : ℕ → ℕ → ℕ → Amount
  pub repairs : ℕ → ℕ
  pub enter : ℕ → ℕ → ℕ
  pub parent : ℕ → ℕ
  pub rank : ℕ → ℕ
  pub top : ℕ

-- by component and place: what those components under it that are already taken post, if it is repaired at the place
abbrev pub Sums : Type 0
Sums = ℕ → ℕ → Amount

-- where component i starts, for the bytes a
abbrev pub start : Breakdown → (ℕ → ℕ) → ℕ → ℕ
start t a i = t.enter i (t.repairs (a (t.parent i)))

-- what component i posts from start s with byte b, together with the components under it that are already taken
abbrev pub way : Breakdown → Sums → ℕ → ℕ → ℕ → Amount
way t ex i s b = both (t.own i s b) (ex i (t.repairs b))

-- what components 1 to n post with the bytes a, together with those that are already taken
abbrev pub total : Breakdown → ℕ → Sums → (ℕ → ℕ) → Amount
total t zero ex a = ex 0 (t.repairs (a 0))
total t (suc n) ex a = both (total t n ex a) (way t ex (suc n) (start t a (suc n)) (a (suc n)))

-- the same where none is taken
abbrev pub spent : Breakdown → ℕ → (ℕ → ℕ) → Amount
spent t zero a = nothing
spent t (suc n) a = both (spent t n a) (t.own (suc n) (start t a (suc n)) (a (suc n)))

-- Reading order as a number: the ranks of bytes 1 to n, the first component's foremost. Of two rows of bytes the one that
-- comes first in reading order has the lower number.
abbrev pub number : (ℕ → ℕ) → ℕ → (ℕ → ℕ) → ℕ
number rank zero a = 0
number rank (suc n) a = number rank n a * base + rank (a (suc n))

-- the bytes a, but v at i
abbrev pub put : (ℕ → ℕ) → ℕ → ℕ → ℕ → ℕ
put a i v = λ j. cond (j == i) v (a j)

-- the sums with more added at component p, for each place
abbrev pub onto : Sums → ℕ → (ℕ → Amount) → Sums
onto ex p more = λ j e. cond (j == p) (both (ex j e) (more e)) (ex j e)

-- the sums with component i taken, at the bytes noted for it: what it posts goes onto its parent
abbrev pub taken : Breakdown → (ℕ → ℕ → ℕ) → ℕ → Sums → Sums
taken t notes i ex = onto ex (t.parent i) (λ e. way t ex i (t.enter i e) (notes i (t.enter i e)))

-- the bytes that the notes give, from the first component on: at each the byte noted for its start
abbrev pub plan : Breakdown → (ℕ → ℕ → ℕ) → ℕ → ℕ → ℕ
plan t notes zero = λ _. 0
plan t notes (suc n) = put (plan t notes n) (suc n) (notes (suc n) (start t (plan t notes n) (suc n)))

-- each note, from the last component to the first, is a byte that no other byte comes before
abbrev pub Noted : {C : Type 0} → Adding C → (C → C → Bool) → Breakdown → (ℕ → ℕ → ℕ) → ℕ → Sums → Type 0
Noted k lower t notes zero ex = Unit {0}
Noted k lower t notes (suc i) ex =
    ((s b : ℕ) → precedes lower (value k (way t ex (suc i) s b)) (t.rank b) (value k (way t ex (suc i) s (notes (suc i) s))) (t.rank (notes (suc i) s)) ≡ false)
    × Noted k lower t notes i (taken t notes (suc i) ex)
