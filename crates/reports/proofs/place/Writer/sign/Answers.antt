use Rattle.std.proofs.Common.{◌∙◌}
use Rattle.reports.proofs.Writing.{puts_then, puts_same}
use Rattle.reports.proofs.place.Writer.sign.Goals as goal

pub returns-clause-puts : goal.returns-clause-puts
returns-clause-puts c = puts_then c.bytes.ensures (puts_same (c.as_bytes.ensures.value ∙ c.encode_utf8.ensures.value) c.bytes-2.ensures)
