use Rattle.std.proofs.Common.{suc, ◌≡◌, true, false, refl, arith, rules, tests}
use Rattle.std.proofs.lemmas.Iterator.{cases_from_all, YieldsList-from_slice, YieldsList-from_range, YieldsList-from_zip}
use Rattle.planning.specs.Surveys.{no_choices}
use Rattle.planning.specs.OpenRows.{choices_open}
use Rattle.planning.proofs.Every.{every_from_all}
use Rattle.planning.proofs.checks.options_open.Goals as goal

pub returns : goal.returns
returns c =
    let row = c.args.row.now in
    let test = choices_open c.args.route in
    every_from_all test 1 4 suc (λ k. omega arith) row no_choices (omega arith) c.all.result
    (cases_from_all c.all.new.self _ _ (λ p. test p.0 p.1 ≡ true) (λ p. test p.0 p.1 ≡ false) c.all.ensures.ran
    (YieldsList-from_zip (YieldsList-from_range 1 5 4 (cc) refl) (YieldsList-from_slice row (cc))) (λ x q k. search (rules, tests)) (λ x q k. search (rules, tests)))
