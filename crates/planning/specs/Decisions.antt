-- What a byte of a plan decides: the final echelon of its component, and the option there.
use Rattle.std.specs.Prelude.{◌≡◌, ℕ, ◌+◌, ◌-◌, ◌*◌, ◌%◌, ◌<◌, ◌≤◌, cond, ◌&&◌, ◌⊎◌, Some, None, Option, nat_le}
use Rattle.plans.specs.Starts.{final}

-- the option's number: 0 for discard, which is the odd byte 2e - 1, and 1 for repair, which is the even byte 2e
abbrev pub option_number : ℕ → ℕ
option_number b = (b + 1) % 2

-- the final echelon and the option's number for the bytes 1 to 8; any other byte decides nothing
abbrev pub decided : ℕ → Option (ℕ × ℕ)
decided b = cond (nat_le 1 b && nat_le b 8) (Some (final b, option_number b)) None

-- 2e - 1 is discard at echelon e and 2e is repair at echelon e, for the echelons 1 to 4, and no other byte is a decision
pub record DecisionNamesEveryChoice : Type 0 where
  pub discard : (e : ℕ) → 1 ≤ e → e ≤ 4 → decided (2 * e - 1) ≡ Some (e, 0)
  pub repair : (e : ℕ) → 1 ≤ e → e ≤ 4 → decided (2 * e) ≡ Some (e, 1)
  pub no_other : (b : ℕ) → (b ≡ 0) ⊎ (8 < b) → decided b ≡ None
