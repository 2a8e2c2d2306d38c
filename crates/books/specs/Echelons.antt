-- The echelons that a book speaks of.
use Rattle.std.specs.Prelude.{ℕ, Bool, ◌&&◌, nat_le}

-- 1 to 4
abbrev pub is_echelon : ℕ → Bool
is_echelon e = nat_le 1 e && nat_le e 4
