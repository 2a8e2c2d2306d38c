-- Places and the way up from each: all that the argument knows of them.
use Rattle.std.specs.Prelude.{◌≡◌, ℕ, suc, ◌-◌, ◌<◌, ◌≤◌, cond, ◌==◌}

-- places are 1 to `last`; `up e` is the next place up from e; `above e` counts the places on the way up from e, e itself
-- among them, and is 0 where e is no place
pub record Places : Type 0 where
  pub last : ℕ
  pub up : ℕ → ℕ
  pub above : ℕ → ℕ

-- the most places on a way up
abbrev pub longest : ℕ
longest = 4

-- the way up rises and ends
pub record Rising (w : Places) : Type 0 where
  pub one_fewer : (e : ℕ) → 0 < w.above e → suc (w.above (w.up e)) ≡ w.above e
  pub higher : (e : ℕ) → 0 < w.above (w.up e) → e < w.up e
  pub numbered : (e : ℕ) → 0 < w.above e → e ≤ w.last
  pub short : (e : ℕ) → w.above e ≤ longest

-- echelons 1 to the last, each below the next
abbrev pub echelons : ℕ → Places
echelons last = record { last = last; up = suc; above = λ e. cond (e == 0) 0 (suc last - e) }
