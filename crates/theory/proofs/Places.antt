-- Echelons are places whose ways up rise and end.
use Rattle.std.proofs.Common.{ℕ, ◌≤◌, arith}
use Rattle.theory.specs.Places.{longest, Rising, echelons}

pub echelons_rise : (last : ℕ) → last ≤ longest → Rising (echelons last)
echelons_rise last few = grind arith
