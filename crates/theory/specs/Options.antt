-- A component's options by place, and what a decision byte posts from a start.
use Rattle.std.specs.Prelude.{ℕ, zero, suc, ◌*◌, ◌/◌, ◌%◌, true, cond, [], ◌∷◌, Some, None, Option, ◌==◌}
use Rattle.theory.specs.Entries.{Entry}
use Rattle.theory.specs.Amounts.{Amount, closed, both}

-- what each option posts at a place, none where it is closed
pub record Options : Type 0 where
  pub discard : ℕ → Option Entry
  pub repair : ℕ → Option Entry
  pub move : ℕ → Option Entry

abbrev pub posted : Option Entry → Amount
posted None = closed
posted (Some p) = record { is_open = true; row = p ∷ [] }

-- A decision byte is 2e - 1 for discard at place e, 2e for repair at place e, and 0 for a component that is not reached.
-- The place at which a byte repairs, where the parts of the component start; 0 where it does not repair.
abbrev pub repaired_at : ℕ → ℕ
repaired_at b = cond (b % 2 == 0) (b / 2) 0

-- What byte b posts from place e, with so many places left on the way up: discard or repair here, where b says so; else
-- move from here, and what b posts from the next place up. It is closed if the way ends before the place that b names.
abbrev pub route : (ℕ → ℕ) → Options → ℕ → ℕ → ℕ → Amount
route up o zero e b = closed
route up o (suc left) e b =
    cond (suc b == 2 * e) (posted (o.discard e))
    (cond (b == 2 * e) (posted (o.repair e))
    (both (posted (o.move e)) (route up o left (up e) b)))
