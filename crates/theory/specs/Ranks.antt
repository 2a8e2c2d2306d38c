-- The rank of a byte, which decides between decisions of equal cost: all that the argument knows of it.
use Rattle.std.specs.Prelude.{◌≡◌, ℕ, ◌<◌, ◌≤◌}

-- more than the greatest rank
abbrev pub base : ℕ
base = 256

-- the ranks of the bytes up to the greatest are below the base, and no two bytes have one rank
pub record Ranked (rank : ℕ → ℕ) (top : ℕ) : Type 0 where
  pub below : (b : ℕ) → b ≤ top → rank b < base
  pub told_apart : (b c : ℕ) → b ≤ top → c ≤ top → rank b ≡ rank c → b ≡ c
