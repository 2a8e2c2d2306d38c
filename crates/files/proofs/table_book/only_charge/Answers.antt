use Rattle.std.proofs.Common.{sym, rules, tests}
use Rattle.std.proofs.lemmas.Iterator.{YieldsList-from_slice}
use Rattle.std.proofs.lemmas.Iterator.Consumers.{YieldsList-from_filter_map}
use Rattle.files.specs.TableAnswers.{charge_for}
use Rattle.files.proofs.ChargeLists.{none_comes, one_comes, two_come}
use Rattle.files.proofs.table_book.only_charge.Goals as goal

pub returns-in_default : goal.returns-in_default
returns-in_default c = sym (none_comes _ c.in_default.ensures.steps (YieldsList-from_filter_map _ (charge_for c.args.question) (YieldsList-from_slice c.args.records.now cc) c.filter_map-charges.ensures.closure (λ x r q k. search (rules, tests))))

pub returns-in-None : goal.returns-in-None
returns-in-None c = sym (one_comes c.in-Some.charge _ _ c.in-Some.ensures.steps c.in-None.ensures.steps (YieldsList-from_filter_map _ (charge_for c.args.question) (YieldsList-from_slice c.args.records.now cc) c.filter_map-charges.ensures.closure (λ x r q k. search (rules, tests))))

pub returns-in-Some-next : goal.returns-in-Some-next
returns-in-Some-next c = sym (two_come c.in-Some.charge _ _ _ c.in-Some.ensures.steps c.in-Some-next.ensures.steps (YieldsList-from_filter_map _ (charge_for c.args.question) (YieldsList-from_slice c.args.records.now cc) c.filter_map-charges.ensures.closure (λ x r q k. search (rules, tests))))
