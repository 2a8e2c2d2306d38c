-- The best way on from a place: discard here, repair here, or move to the next place up and the best way on from there.
use Rattle.std.specs.Prelude.{ℕ, zero, suc, ◌-◌, ◌*◌, Bool, cond}
use Rattle.costs.specs.Kinds.{Adding}
use Rattle.theory.specs.Amounts.{Amount, closed, both, value, precedes}
use Rattle.theory.specs.Options.{Options, posted}

-- a byte, and what it posts
pub record Choice : Type 0 where
  pub byte : ℕ
  pub sum : Amount

-- of two choices the one that comes first, by cost and then by the rank of its byte; the left one where neither does
abbrev pub better : {C : Type 0} → Adding C → (C → C → Bool) → (ℕ → ℕ) → Choice → Choice → Choice
better k lower rank a b =
    cond (precedes lower (value k b.sum) (rank b.byte) (value k a.sum) (rank a.byte)) b a

abbrev pub no_way : Choice
no_way = record { byte = 0; sum = closed }

abbrev pub discarded : Options → ℕ → Choice
discarded o e = record { byte = 2 * e - 1; sum = posted (o.discard e) }

-- `under e` is what the components under this one post, if it is repaired at e
abbrev pub repaired : Options → (ℕ → Amount) → ℕ → Choice
repaired o under e = record { byte = 2 * e; sum = both (posted (o.repair e)) (under e) }

abbrev pub moved : Options → ℕ → Choice → Choice
moved o e c = record { byte = c.byte; sum = both (posted (o.move e)) c.sum }

-- the best way on from place e, when the best way on from the next place up is known
abbrev pub way_on : {C : Type 0} → Adding C → (C → C → Bool) → (ℕ → ℕ) → Options → (ℕ → Amount) → ℕ → Choice → Choice
way_on k lower rank o under e onward =
    better k lower rank (better k lower rank (discarded o e) (repaired o under e)) (moved o e onward)

-- the best way on from place e, with so many places left on the way up
abbrev pub best : {C : Type 0} → Adding C → (C → C → Bool) → (ℕ → ℕ) → (ℕ → ℕ) → Options → (ℕ → Amount) → ℕ → ℕ → Choice
best k lower rank up o under zero e = no_way
best k lower rank up o under (suc left) e = way_on k lower rank o under e (best k lower rank up o under left (up e))
