use Rattle.std.proofs.Common.{◌≡◌, true, false, arith, rules, tests}
use Rattle.std.proofs.lemmas.Iterator.{cases_from_all, YieldsList-from_slice, YieldsList-from_range, YieldsList-from_zip}
use Rattle.planning.specs.Surveys.{no_resource}
use Rattle.planning.specs.OpenRows.{resource_open}
use Rattle.planning.proofs.Every.{every_from_all}
use Rattle.planning.proofs.checks.resources_open.Goals as goal

pub returns : goal.returns
returns c =
    let rows = c.args.survey.now.resources in
    let n = c.args.resources in
    let test = resource_open c.args.route in
    every_from_all test 0 n (λ k. k) (λ k. omega arith) rows no_resource (omega arith) c.all.result
    (cases_from_all c.all.new.self _ _ (λ p. test p.0 p.1 ≡ true) (λ p. test p.0 p.1 ≡ false) c.all.ensures.ran
    (YieldsList-from_zip (YieldsList-from_range 0 n n c.zip.ensures.first (omega arith)) (YieldsList-from_slice rows (search rules))) (λ x q k. search (rules, tests)) (λ x q k. search (rules, tests)))
