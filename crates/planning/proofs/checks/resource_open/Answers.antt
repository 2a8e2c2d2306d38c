use Rattle.std.proofs.Common.{suc, ◌≡◌, ℕ, true, false, None, Option, refl, arith, rules, tests}
use Rattle.std.proofs.lemmas.Iterator.{cases_from_all, YieldsList-from_slice, YieldsList-from_range, YieldsList-from_zip}
use Rattle.costs.specs.declared.posting.Posting.{Posting}
use Rattle.planning.specs.OpenRows.{posted_where, needs_resource_on}
use Rattle.planning.proofs.Every.{every_from_all}
use Rattle.planning.proofs.checks.resource_open.Goals as goal

pub returns : goal.returns
returns c =
    let row = c.args.row.now in
    let test = λ (e : ℕ) (p : Option Posting). posted_where (needs_resource_on c.args.route c.args.resource e) p in
    every_from_all test 1 4 suc (λ k. omega arith) row None (omega arith) c.all.result
    (cases_from_all c.all.new.self _ _ (λ p. test p.0 p.1 ≡ true) (λ p. test p.0 p.1 ≡ false) c.all.ensures.ran
    (YieldsList-from_zip (YieldsList-from_range 1 5 4 (cc) refl) (YieldsList-from_slice row (cc))) (λ x q k. search (rules, tests)) (λ x q k. search (rules, tests)))
