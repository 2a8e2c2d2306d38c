use Rattle.std.proofs.Common.{◌∙◌}
use Rattle.reports.proofs.Writing.{puts_then, puts_same}
use Rattle.reports.proofs.place.Writer.word.Goals as goal

pub returns-clause-puts : goal.returns-clause-puts
returns-clause-puts g c = puts_then c.bytes.ensures (puts_same (c.as_bytes.ensures.value ∙ c.format.ensures.text) c.bytes-2.ensures)
