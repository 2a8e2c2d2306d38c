use Rattle.std.proofs.Common.{◌≡◌, ℕ, [], ◌∷◌}
use Rattle.std.proofs.lemmas.Result.{err_from_is_err_and}
use Rattle.planning.specs.Surveys.{by_echelon, until}
use Rattle.planning.proofs.Faults.{echelon_faults, until_asked}
use Rattle.planning.proofs.survey.asked_by_echelon.Goals as goal

is_row : {A : Type 0} (f : ℕ → A) (w x y z : A) → w ≡ f 1 → x ≡ f 2 → y ≡ f 3 → z ≡ f 4 → w ∷ x ∷ y ∷ z ∷ [] ≡ by_echelon f
is_row f w x y z h1 h2 h3 h4 = rw (h1, h2, h3, h4)

pub returns-in_err-asked_until : goal.returns-in_err-asked_until
returns-in_err-asked_until g c b questions kept asks =
    let faults = echelon_faults b questions c.args.last c.requires.few_echelons in
    let at = until_asked b questions kept c.args.last c.args.none asks in
    let p = err_from_is_err_and c.from_residual.result c.from_residual.ensures.1 in
    rw (p.1, p.2, faults, at 1 _ c.in_err-asked_until.ensures)

pub returns-in_err-asked_until-2 : goal.returns-in_err-asked_until-2
returns-in_err-asked_until-2 g c b questions kept asks =
    let faults = echelon_faults b questions c.args.last c.requires.few_echelons in
    let at = until_asked b questions kept c.args.last c.args.none asks in
    let p = err_from_is_err_and c.from_residual-in_err-asked_until-2.result c.from_residual-in_err-asked_until-2.ensures.1 in
    rw (p.1, p.2, faults, (at 1 _ c.in_ok-asked_until.ensures).0, at 2 _ c.in_err-asked_until-2.ensures)

pub returns-in_err-asked_until-3 : goal.returns-in_err-asked_until-3
returns-in_err-asked_until-3 g c b questions kept asks =
    let faults = echelon_faults b questions c.args.last c.requires.few_echelons in
    let at = until_asked b questions kept c.args.last c.args.none asks in
    let p = err_from_is_err_and c.from_residual-in_err-asked_until-3.result c.from_residual-in_err-asked_until-3.ensures.1 in
    rw (p.1, p.2, faults, (at 1 _ c.in_ok-asked_until.ensures).0, (at 2 _ c.in_ok-asked_until-2.ensures).0, at 3 _ c.in_err-asked_until-3.ensures)

pub returns-in_err-asked_until-4 : goal.returns-in_err-asked_until-4
returns-in_err-asked_until-4 g c b questions kept asks =
    let faults = echelon_faults b questions c.args.last c.requires.few_echelons in
    let at = until_asked b questions kept c.args.last c.args.none asks in
    let p = err_from_is_err_and c.from_residual-in_err-asked_until-4.result c.from_residual-in_err-asked_until-4.ensures.1 in
    rw (p.1, p.2, faults, (at 1 _ c.in_ok-asked_until.ensures).0, (at 2 _ c.in_ok-asked_until-2.ensures).0, (at 3 _ c.in_ok-asked_until-3.ensures).0, at 4 _ c.in_err-asked_until-4.ensures)

pub returns : goal.returns
returns g c b questions kept asks =
    let faults = echelon_faults b questions c.args.last c.requires.few_echelons in
    let at = until_asked b questions kept c.args.last c.args.none asks in
    let h1 = at 1 _ c.in_ok-asked_until.ensures in
    let h2 = at 2 _ c.in_ok-asked_until-2.ensures in
    let h3 = at 3 _ c.in_ok-asked_until-3.ensures in
    let h4 = at 4 _ c.in_ok-asked_until-4.ensures in (
      simp (faults, h1.0, h2.0, h3.0, h4.0),
      is_row (until c.args.last c.args.none kept) _ _ _ _ h1.1 h2.1 h3.1 h4.1,
    )
