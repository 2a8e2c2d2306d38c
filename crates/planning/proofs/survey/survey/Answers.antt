use Rattle.std.proofs.lemmas.Result.{err_from_is_err_and}
use Rattle.model.specs.Studies.{model}
use Rattle.plans.specs.Questions.{option_questions, pair_questions}
use Rattle.planning.proofs.Faults.{past, stops}
use Rattle.planning.proofs.survey.survey.Goals as goal

pub returns-in_err-options : goal.returns-in_err-options
returns-in_err-options g c =
    let s = model c.args.study.now in
    let p = err_from_is_err_and c.from_residual.result c.from_residual.ensures.1 in
    rw (p.1, p.2) (stops (g.B.ChargeBook.meaning c.args.book.now) (option_questions s) (pair_questions s) c.in_err-options.ensures)

pub returns-in_err-resources : goal.returns-in_err-resources
returns-in_err-resources g c =
    let s = model c.args.study.now in
    let p = err_from_is_err_and c.from_residual-in_err-resources.result c.from_residual-in_err-resources.ensures.1 in
    rw (p.1, p.2) (past (g.B.ChargeBook.meaning c.args.book.now) (option_questions s) (pair_questions s) c.in_ok-options.ensures.0 c.in_err-resources.ensures)

pub returns : goal.returns
returns g c =
    let s = model c.args.study.now in (
      past (g.B.ChargeBook.meaning c.args.book.now) (option_questions s) (pair_questions s) c.in_ok-options.ensures.0 c.in_ok-resources.ensures.0,
      record { options = c.in_ok-options.ensures.1; resources = c.in_ok-resources.ensures.1 },
    )
