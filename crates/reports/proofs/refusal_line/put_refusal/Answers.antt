use Rattle.std.proofs.Common.{◌∷◌, codes, decimal, sym, ap, ◌∙◌, arith}
use Rattle.model.specs.Refusals.{said}
use Rattle.reports.specs.Lines.{refusal_line}
use Rattle.reports.specs.Reports.{at_front}
use Rattle.reports.proofs.Words.{words_then}
use Rattle.reports.proofs.Writing.{puts_then, puts_same, front_is, front_end}
use Rattle.reports.proofs.refusal_line.put_refusal.Goals as goal

pub returns : goal.returns
returns c =
    let number = puts_same (ap (λ n. 32 ∷ decimal n) c.number.ensures) c.word.ensures.puts in
    let carried = puts_same (sym (words_then (codes "\n") (said c.args.refusal.now).carried)) (puts_then c.carried.ensures.puts c.bytes-2.ensures) in
    let line = puts_then c.bytes.ensures (puts_then number carried) in
    record {
      holds = front_is c.new-writer.ensures.front line ∙ ap (at_front (refusal_line c.args.refusal.now)) c.new-writer.ensures.place;
      ends = c.end.ensures ∙ front_end c.new-writer.ensures.front line;
      few = omega arith;
    }
