use Rattle.std.proofs.Common.{rules}
use Rattle.planning.specs.Asking.{pair_question, held_posting}
use Rattle.planning.proofs.survey.resource_row.Goals as goal

pub returns : goal.returns
returns g c =
    let b = g.B.ChargeBook.meaning c.args.book.now in
    c.asked_by_echelon.ensures b (pair_question c.args.resource) (held_posting b c.args.resource) (λ e r p. search rules)
