use Rattle.std.proofs.Common.{◌++◌, length, ap, ◌∙◌}
use Rattle.std.proofs.lemmas.List.{drop-replicate}
use Rattle.reports.specs.Lines.{refusal_line}
use Rattle.reports.proofs.refusal_line.refusal_bytes.Goals as goal

pub returns-clause-line : goal.returns-clause-line
returns-clause-line c =
    let line = refusal_line c.args.refusal.now in
    c.put_refusal.ensures.holds ∙ ap (λ l. line ++ l) (drop-replicate (length line) 40 0)
