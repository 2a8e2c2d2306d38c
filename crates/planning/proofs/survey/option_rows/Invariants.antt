use Rattle.std.proofs.Common.{◌≡◌, length, Ok}
use Rattle.model.specs.Studies.{model}
use Rattle.plans.specs.Ranges.{upto}
use Rattle.plans.specs.Questions.{component_questions}
use Rattle.planning.specs.Surveys.{OptionRows}
use Rattle.planning.specs.Asking.{Asked}
use Rattle.planning.proofs.survey.option_rows.Given as goal

-- the components so far are asked for, without a fault
abbrev pub invariant-loop-number : goal.invariant-loop-number
invariant-loop-number g l =
    (length l.rows ≡ 60)
    × Asked (g.B.ChargeBook.meaning l.book) (upto (component_questions l.study.echelons) l.number) (OptionRows (model l.study) (g.B.ChargeBook.meaning l.book) l.number) (Ok l.rows)
