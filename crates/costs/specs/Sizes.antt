-- How large a sum of n postings can be, and so that it does not saturate.
use Rattle.std.specs.Prelude.{◌≡◌, ℕ, ◌*◌, ◌≤◌, ℤ, pos, negsuc, ◌+ℤ◌, ◌≤ℤ◌, FitsSigned}
use Rattle.std.proofs.Common.{ap, ◌∙◌, arith}
use Rattle.std.specs.Int.{saturate_to_bits, w64}
use Rattle.std.proofs.lemmas.Int.{ints}
use Rattle.costs.specs.Postings.{most_cents, most_minutes}
use Rattle.costs.specs.Kinds.{SumOf, one, join}
use Rattle.costs.specs.Amounts.{money, totals}
use Rattle.costs.specs.declared.totals.Total.{Total}

-- the money of n postings
abbrev pub Cents : ℕ → ℤ → Type 0
Cents n z = (pos 0 ≤ℤ (z +ℤ pos (n * most_cents))) × (z ≤ℤ pos (n * most_cents))

pub money_size : {n : ℕ} {z : ℤ} → SumOf money n z → Cents n z
money_size (one p w) = (omega (arith, ints, w.0), w.1)
money_size (join m n a b p q) =
    let h = money_size p in
    let k = money_size q in
    (omega (arith, ints, h.0, k.0), omega (arith, ints, h.1, k.1))

pub total_size : {n : ℕ} {c : Total} → SumOf totals n c → Cents n c.cents × (c.minutes ≤ n * most_minutes)
total_size (one p w) = ((omega (arith, ints, w.0), w.1), omega (arith, w.2))
total_size (join m n a b p q) =
    let h = total_size p in
    let k = total_size q in
    ((omega (arith, ints, h.0.0, k.0.0), omega (arith, ints, h.0.1, k.0.1)), omega (arith, h.1, k.1))

-- what fits does not saturate
pub unsaturated : (z : ℤ) → FitsSigned w64 z → saturate_to_bits 63 z ≡ z
unsaturated (pos n) h = ap pos (omega (arith, h.sfits))
unsaturated (negsuc n) h = ap negsuc (omega (arith, h.sfits))

abbrev total_of : ℤ → ℕ → Total
total_of z t = record { cents = z; minutes = t }

pub same_total : (a b : Total) → a.cents ≡ b.cents → a.minutes ≡ b.minutes → a ≡ b
same_total a b p q = ap (λ z. total_of z a.minutes) p ∙ ap (total_of b.cents) q
