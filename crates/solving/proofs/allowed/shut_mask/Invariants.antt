use Rattle.std.proofs.Common.{◌≡◌, ◌^◌, ◌<◌}
use Rattle.solving.specs.Allowed.{shut_mask}
use Rattle.solving.proofs.allowed.shut_mask.Given as goal

-- the mask of the resources so far
abbrev pub invariant-loop-resource : goal.invariant-loop-resource
invariant-loop-resource l = (l.mask ≡ shut_mask l.marks l.echelon l.resource) × (l.mask < 2 ^ l.resource)
