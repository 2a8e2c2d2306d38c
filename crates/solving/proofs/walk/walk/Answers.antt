use Rattle.std.proofs.Common.{◌≡◌, ◌≤◌, length, sym, ap, ◌∙◌, subst, arith}
use Rattle.std.proofs.lemmas.Nat.{mul-le}
use Rattle.model.specs.Studies.{model}
use Rattle.model.proofs.Limited.{limited}
use Rattle.plans.specs.Questions.{count}
use Rattle.theory.specs.Tables.{sums_at}
use Rattle.solving.specs.Allowed.{shut_masks}
use Rattle.solving.specs.Steps.{tabled, OffersAll}
use Rattle.solving.proofs.Offering.{open_options, offers_all}
use Rattle.solving.proofs.ReadOff.{plan_is}
use Rattle.solving.proofs.Cells.{cells_blank}
use Rattle.solving.proofs.Whole.{whole_posts, walked_value}
use Rattle.solving.proofs.walk.walk.Goals as goal

pub take_all-total-requires : goal.take_all-total-requires
take_all-total-requires g c =
    let s = limited c.args.table.now.problem.now.study.now in
    record { tags = mul-le _ _ 60 4 s.few_components s.few_echelons; working = c.args.table.now.room; notes = s.few_components }

pub returns-clause-walks : goal.returns-clause-walks
returns-clause-walks g c limits b kept keeps =
    let k = g.K.CostKind.adding in
    let lower = g.K.CostKind.lower in
    let laws = g.met.K.CostKind.laws in
    let s = model c.args.table.now.problem.now.study.now in
    let t = c.args.table.now.problem.now.survey.now in
    let marks = c.args.marks.now in
    let o = open_options s limits b kept t marks keeps in
    let masks : c.shut_masks-shut.result ≡ shut_masks marks s.resources = c.shut_masks-shut.ensures ∙ ap (shut_masks marks) c.resources.ensures in
    let took = c.take_all-total.ensures o (subst (λ v. OffersAll s t v o) (sym masks) (offers_all s limits b kept t marks keeps)) (cells_blank k s limits c.args.table.now.working.now c.args.table.now.room) in
    let long : count s ≤ length c.read_off.new.plan = omega (arith, limits.few_components, c.read_off.auto.plan) in
    (c.cost_of.ensures k (sums_at k lower (tabled s o) 0 0 0) (whole_posts k lower s limits o c.args.table.now.problem.now.some_component) took.0 ∙ sym (walked_value k lower s limits o laws), plan_is k lower s limits o c.take_all-total.new.notes c.read_off.new.plan took.1 c.read_off.ensures long)
