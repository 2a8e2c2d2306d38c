use Rattle.std.proofs.Common.{◌≡◌, ℕ, List, [], ◌∷◌, ap}
use Rattle.model.specs.Refusals.{num, sign, subject, at_echelon, option_letter}
use Rattle.reports.specs.Lines.{words}
use Rattle.reports.proofs.Writing.{puts_then, puts_same, puts_last}
use Rattle.reports.proofs.place.Writer.asked.Goals as goal
use Rattle.reports.proofs.place.Writer.asked.Goals.{in-OfOption, in-OfResource}

pub returns-clause-puts : goal.returns-clause-puts
returns-clause-puts c =
    let q = c.args.question in
    let text : ℕ × ℕ × ℕ → List ℕ = λ x. words (num x.0 ∷ num x.1 ∷ sign x.2 ∷ []) [] in
    let same : c.match-question.subject ≡ (subject q, at_echelon q, option_letter q) =
    elim c.match-question.branch [
      | in-OfOption w ↦ cc (ap subject w.in-OfOption.is, ap at_echelon w.in-OfOption.is, ap option_letter w.in-OfOption.is)
      | in-OfResource w ↦ cc (ap subject w.in-OfResource.is, ap at_echelon w.in-OfResource.is, ap option_letter w.in-OfResource.is)
    ] in
    puts_same (ap text same) (puts_then c.word.ensures.puts (puts_then c.word-2.ensures.puts (puts_last c.sign.ensures.puts)))
