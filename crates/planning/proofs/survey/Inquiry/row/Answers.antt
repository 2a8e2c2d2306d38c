use Rattle.std.proofs.Common.{rules}
use Rattle.plans.specs.Questions.{echelon_questions}
use Rattle.planning.specs.Asking.{offered}
use Rattle.planning.proofs.survey.Inquiry.row.Goals as goal

pub returns : goal.returns
returns g c =
    let b = g.B.ChargeBook.meaning c.args.self.now.book.now in
    let last = c.args.self.now.last in
    let i = c.args.self.now.number in
    c.asked_by_echelon.ensures b (echelon_questions last i) (offered b last c.args.self.now.rate i) (λ e r p. search rules)
