use Rattle.std.proofs.Common.{◌≡◌, ◌<◌, false, ◌∷◌, ℤ, pos, negsuc, nat_abs, decimal, refl, ap, ◌∙◌, subst, arith, w64}
use Rattle.std.specs.Int.Signed.{le_z}
use Rattle.std.specs.Fmt.{signed_decimal}
use Rattle.std.proofs.lemmas.Int.{to_z-of_z}
use Rattle.std.proofs.lemmas.Bool.{leb-false}
use Rattle.reports.proofs.Writing.{puts_then, puts_same}
use Rattle.reports.proofs.place.Writer.signed.Goals as goal

-- a negative number is written as `-` and its size
below_zero : (z : ℤ) → le_z (pos 0) z ≡ false → 45 ∷ decimal (nat_abs z) ≡ signed_decimal z
below_zero (pos n) h = let none : n < 0 = leb-false 0 n h in absurd (omega arith)
below_zero (negsuc n) h = refl

pub returns : goal.returns
returns c =
    let number = to_z-of_z w64 c.args.number c.ranges.number in
    let Below : ℤ → Type 0 = λ z. le_z (pos 0) z ≡ false in
    let size = c.unsigned_abs-2.ensures.value ∙ ap nat_abs number in
    puts_same (below_zero c.args.number (subst Below number c.if-number-ge0.false))
    (puts_then c.bytes.ensures (puts_same (ap decimal size) c.number-2.ensures))
