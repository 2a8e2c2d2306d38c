use Rattle.std.proofs.Common.{[], refl, arith, length-take}
use Rattle.std.proofs.lemmas.List.{get_or-take}
use Rattle.solving.specs.Allowed.{shut_mask}
use Rattle.solving.proofs.Masks.{mask_more}
use Rattle.solving.proofs.allowed.shut_mask.Goals as goal

pub loop-resource-init : goal.loop-resource-init
unfolding shut_mask
loop-resource-init c = (refl, omega arith)

pub loop-resource-preserved : goal.loop-resource-preserved
loop-resource-preserved c =
    let marks = c.args.marks.now in
    let r = c.loop-resource.resource in
    mask_more marks _ c.args.echelon r c.loop-resource.mask c.bit-mask.result c.loop-resource.invariant (get_or-take c.from.result marks r [] (omega (arith, length-take c.from.result marks))) c.bit-mask.ensures
