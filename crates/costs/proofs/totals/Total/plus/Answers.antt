use Rattle.std.proofs.Common.{◌+ℤ◌, ◌∙◌, arith, w64, SFits, rules}
use Rattle.std.proofs.lemmas.Int.{ints, to_z-of_z}
use Rattle.costs.specs.Sizes.{total_size, same_total, unsaturated}
use Rattle.costs.proofs.totals.Total.plus.Goals as goal

pub returns : goal.returns
returns c m n p q h =
    let a = total_size p in
    let b = total_size q in
    let fits : SFits w64 (c.args.self.cents +ℤ c.args.other.cents) = omega (arith, ints, a.0.0, a.0.1, b.0.0, b.0.1) in
    let fa : SFits w64 c.args.self.cents = search rules in
    let fb : SFits w64 c.args.other.cents = search rules in
    let f = simp to_z-of_z at c.saturating_add.ensures ∙ unsaturated _ fits in
    same_total _ _ (omega (arith, ints, f)) (omega (arith, c.saturating_add-2.ensures, a.1, b.1))
