use Rattle.std.proofs.Common.{◌≡◌, ◌-◌, ◌*◌, ◌<◌, length, get_or, refl, ◌∙◌, arith, length-set}
use Rattle.model.specs.Studies.{model}
use Rattle.model.proofs.Limited.{limited}
use Rattle.plans.specs.Questions.{count}
use Rattle.solving.specs.declared.choice.Choice.{Choice}
use Rattle.solving.specs.Working.{view}
use Rattle.solving.proofs.Tabled.{unread, component_at}
use Rattle.solving.proofs.Views.{view_length}
use Rattle.solving.proofs.Cells.{parent_room}
use Rattle.solving.proofs.Turns.{none_done, way_found, turn, all_done}
use Rattle.solving.proofs.taking.take_component.Goals as goal

pub add_above-requires : goal.add_above-requires
add_above-requires g c =
    let s = model c.args.problem.now.study.now in
    let limits = limited c.args.problem.now.study.now in
    let l = c.loop-echelon in
    let i = c.args.number in
    let e = l.echelon - 1 in
    let last : c.from-echelons.result ≡ s.echelons = c.from-echelons.ensures ∙ c.echelons.ensures in
    let few = limits.few_echelons in
    let read = component_at s c.components.result.now i c.components.ensures c.requires.entered in
    let room = parent_room s limits (get_or c.components.result.now i unread) i c.from-echelons.result e in
    let here : e < c.from-echelons.result = omega arith in
    record { tag = room (length l.tags) read last c.requires.entered here (omega arith); cost = room (length l.working) read last c.requires.entered here (omega arith); few = (omega arith, omega arith) }

pub loop-echelon-init : goal.loop-echelon-init
loop-echelon-init g c = (
  refl,
  λ o offers stand.
      let s = model c.args.problem.now.study.now in
      let last : c.from-echelons.result ≡ s.echelons = c.from-echelons.ensures ∙ c.echelons.ensures in
      none_done g.K.CostKind.adding g.K.CostKind.lower s (limited c.args.problem.now.study.now) o c.args.number c.requires.entered c.from-echelons.result c.no_way-onward.result _ (view c.args.tags.now c.args.working.now) last (c.no_way-onward.ensures g.K.CostKind.adding) stand,
)

pub loop-echelon-preserved : goal.loop-echelon-preserved
loop-echelon-preserved g c = (
  simp length-set c.loop-echelon.invariant.0,
  λ o offers stand.
      let k = g.K.CostKind.adding in
      let lower = g.K.CostKind.lower in
      let s = model c.args.problem.now.study.now in
      let t = c.args.problem.now.survey.now in
      let l = c.loop-echelon in
      let i = c.args.number in
      let e = l.echelon - 1 in
      let limits = limited c.args.problem.now.study.now in
      let comp = get_or c.components.result.now i unread in
      let onward : Choice g.row.K-Cost.Denot = record { byte = l.onward.0; sum = l.onward.1.0 } in
      let cells = view l.tags l.working in
      let last : c.from-echelons.result ≡ s.echelons = c.from-echelons.ensures ∙ c.echelons.ensures in
      let here : e < s.echelons = omega arith in
      let read = component_at s c.components.result.now i c.components.ensures c.requires.entered in
      let room = view_length l.tags l.working (count s * s.echelons) (omega arith) (omega arith) in
      let way = way_found k lower s t c.args.shut.now i e c.from-echelons.result comp c.allowed-choices.result cells c.sum_at-under.result onward c.way_on-onward.result c.requires.entered here last read c.allowed-choices.ensures c.sum_at-under.ensures c.way_on-onward.ensures in
      turn k lower s limits o i c.requires.entered t c.args.shut.now l.echelon e c.from-echelons.result comp onward c.way_on-onward.result l.bytes cells (view c.add_above.new.tags c.add_above.new.working) (omega arith) here last read (omega (arith, l.invariant.0, limits.few_echelons)) room offers (l.invariant.1 o offers stand) way c.add_above.ensures,
)

pub returns : goal.returns
returns g c = λ o offers stand.
    let l = c.loop-echelon in
    all_done g.K.CostKind.adding g.K.CostKind.lower (model c.args.problem.now.study.now) (limited c.args.problem.now.study.now) o c.args.number c.requires.entered l.echelon (record { byte = l.onward.0; sum = l.onward.1.0 }) l.bytes (view l.tags l.working) (omega arith) (l.invariant.1 o offers stand)
