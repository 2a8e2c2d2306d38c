use Rattle.std.proofs.Common.{◌+ℤ◌, ◌∙◌, arith, w64, SFits}
use Rattle.std.proofs.lemmas.Int.{ints, to_z-of_z}
use Rattle.costs.specs.Sizes.{money_size, unsaturated}
use Rattle.costs.proofs.money.MoneyCostKind.sum.Goals as goal

pub returns : goal.returns
returns c m n p q h =
    let a = money_size p in
    let b = money_size q in
    let fits : SFits w64 (c.args.a +ℤ c.args.b) = omega (arith, ints, a.0, a.1, b.0, b.1) in
    let fa = c.ranges.a in
    let fb = c.ranges.b in
    let e = simp to_z-of_z at c.saturating_add.ensures in
    let f = e ∙ unsaturated _ fits in
    omega (arith, ints, f)
