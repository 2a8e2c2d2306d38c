use Rattle.std.proofs.Common.{[]}
use Rattle.planning.specs.Surveys.{no_resource}
use Rattle.solving.proofs.find.first_marks.Goals as goal

pub returns : goal.returns
returns c r h = (c.map.ensures.items.at r no_resource [] h).2.met
