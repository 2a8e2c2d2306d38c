use Rattle.reports.proofs.RefusalLines.{refusal_ends, refusals_differ}
use Rattle.reports.proofs.laws.refusal_lines_apart.Goals as goal

pub returns : goal.returns
returns c = record { ends_once = refusal_ends; differ = refusals_differ }
