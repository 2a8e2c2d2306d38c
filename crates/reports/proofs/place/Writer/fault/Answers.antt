use Rattle.std.proofs.Common.{◌∷◌, decimal, ap}
use Rattle.reports.proofs.Writing.{puts_then, puts_same}
use Rattle.reports.proofs.place.Writer.fault.Goals as goal

pub returns-clause-puts : goal.returns-clause-puts
returns-clause-puts c =
    let cause = puts_same (ap (λ n. 32 ∷ decimal n) c.cause_number.ensures) c.word.ensures.puts in
    puts_then cause (puts_then c.sign.ensures.puts (puts_then c.word-2.ensures.puts c.asked.ensures.puts))
