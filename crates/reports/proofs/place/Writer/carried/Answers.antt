use Rattle.std.proofs.Common.{[], sym, ap}
use Rattle.model.specs.Refusals.{said}
use Rattle.reports.specs.Lines.{words}
use Rattle.reports.proofs.Writing.{puts_then, puts_same, puts_last}
use Rattle.reports.proofs.place.Writer.carried.Goals as goal

pub returns-in-RecordRefused-clause-puts : goal.returns-in-RecordRefused-clause-puts
returns-in-RecordRefused-clause-puts c =
    puts_same (ap (λ r. words (said r).carried []) (sym c.in-RecordRefused.is)) (puts_then c.word.ensures.puts (puts_last c.word-in-RecordRefused.ensures.puts))
