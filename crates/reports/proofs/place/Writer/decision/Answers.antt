use Rattle.std.proofs.Common.{ap, ◌∷◌, []}
use Rattle.reports.specs.Lines.{decision_text}
use Rattle.reports.proofs.Writing.{puts_then, puts_same}
use Rattle.reports.proofs.place.Writer.decision.Goals as goal

pub returns-in-Some : goal.returns-in-Some
returns-in-Some c =
    let letter = puts_same (ap (λ l. l ∷ []) c.choice_letter.ensures) c.bytes-in-Some.ensures in
    puts_same (ap (λ d. decision_text d (10 ∷ [])) c.in-Some.ensures) (puts_then letter (puts_then c.number.ensures c.bytes-in-Some-2.ensures))
