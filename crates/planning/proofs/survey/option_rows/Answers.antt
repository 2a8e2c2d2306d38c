use Rattle.std.proofs.Common.{◌≡◌, ℕ, ◌<◌, List, length, get_or, Ok, Err, Result, ap, ◌∙◌, subst, arith, length-set}
use Rattle.std.proofs.lemmas.Result.{err_from_is_err_and}
use Rattle.model.specs.declared.answer.Fault.{Fault}
use Rattle.model.specs.declared.component.Component.{Component}
use Rattle.model.specs.Books.{Book}
use Rattle.model.specs.Components.{no_component}
use Rattle.model.specs.Studies.{Model, model}
use Rattle.model.proofs.Limited.{limited}
use Rattle.plans.specs.Questions.{count, component_questions}
use Rattle.plans.specs.Postings.{component}
use Rattle.planning.specs.declared.table.Choices.{Choices}
use Rattle.planning.specs.Surveys.{no_options, option_row}
use Rattle.planning.specs.Asking.{Asked, AskedOptionRow}
use Rattle.planning.proofs.Faults.{upto_more, upto_stops}
use Rattle.planning.proofs.Filled.{rows_more}
use Rattle.planning.proofs.Needing.{component_read}
use Rattle.planning.proofs.survey.option_rows.Goals as goal

-- the row of component i of the study
row_of : (s : Model) (b : Book) (i last : ℕ) (x : Component) (r : Result (List Choices) Fault) → last ≡ s.echelons → x ≡ component s i → AskedOptionRow b last x.rate i r → Asked b (component_questions s.echelons i) (λ row. row ≡ option_row s b i) r
row_of s b i last x r e same asked =
    subst (λ y. AskedOptionRow b s.echelons y.rate i r) same (subst (λ n. AskedOptionRow b n x.rate i r) e asked)

pub returns-in_err-rows : goal.returns-in_err-rows
returns-in_err-rows g c =
    let s = model c.args.study.now in
    let b = g.B.ChargeBook.meaning c.args.book.now in
    let i = c.loop-number.number in
    let lent = c.components-component-items.ensures in
    let h : i < count s = omega (arith, ap length lent, c.loop-number-test.true) in
    let here = row_of s b i _ (get_or c.components-component-items.result.now i no_component) (Err c.in_err-rows.field-0.0) c.echelons.ensures (component_read s _ i _ lent c.loop-number-test.true) c.in_err-rows.ensures in
    let p = err_from_is_err_and c.from_residual.result c.from_residual.ensures.1 in
    rw (p.1, p.2) (upto_stops b (component_questions s.echelons) (count s) i h c.loop-number.invariant.1.0 here)

pub loop-number-preserved : goal.loop-number-preserved
loop-number-preserved g c =
    let s = model c.args.study.now in
    let b = g.B.ChargeBook.meaning c.args.book.now in
    let i = c.loop-number.number in
    let rows = c.loop-number.rows in
    let lent = c.components-component-items.ensures in
    let h : i < length rows = omega (arith, ap length lent, c.loop-number-test.true, c.loop-number.invariant.0, (limited c.args.study.now).few_components) in
    let here = row_of s b i _ (get_or c.components-component-items.result.now i _) (Ok c.in_ok-rows.field-0) c.echelons.ensures (component_read s _ i _ lent c.loop-number-test.true) c.in_ok-rows.ensures in (
      length-set rows i c.in_ok-rows.field-0 ∙ c.loop-number.invariant.0,
      (
        upto_more b (component_questions s.echelons) i c.loop-number.invariant.1.0 here.0,
        rows_more (option_row s b) rows i c.in_ok-rows.field-0 no_options h c.loop-number.invariant.1.1 here.1,
      ),
    )
