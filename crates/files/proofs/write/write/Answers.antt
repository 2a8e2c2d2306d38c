use Rattle.std.proofs.Common.{◌≡◌, ◌+◌, ◌<◌, length, get_or, sym, ap, ◌∙◌, arith, rules}
use Rattle.model.specs.declared.component.Component.{Component}
use Rattle.model.specs.Components.{no_component}
use Rattle.model.specs.Studies.{model}
use Rattle.files.specs.Writes.{component_record, written_records}
use Rattle.files.proofs.Placing.{row_more}
use Rattle.files.proofs.WrittenRecords.{written_count, written_whole, written_read, written_all}
use Rattle.files.proofs.write.write.Goals as goal

pub loop-i-preserved : goal.loop-i-preserved
loop-i-preserved c =
    let s = model c.args.study.now in
    let i = c.loop-i.i in
    let same = ap length c.components-components.ensures in
    let count = written_count s in
    let l : i < length s.components = omega arith in
    let d : Component = record { parent = no_component.parent; level = 0; needs = no_component.needs; rate = 0 } in
    let encoded-here : c.encode-in-loop-i.new.place ≡ component_record i (get_or s.components i d) = search rules in
    row_more (written_records s) (i + 1) c.loop-i.place _ c.encode-in-loop-i.new.place _ _ (written_whole s) (omega arith) (omega arith) (omega arith) c.loop-i.invariant (encoded-here ∙ sym (written_read s d i l))

pub returns : goal.returns
returns c =
    let s = model c.args.study.now in
    let same = ap length c.components-components.ensures in
    let size = ap length c.encode.ensures in
    written_all s c.loop-i.i _ c.loop-i.place c.encode.new.place c.args.place.now (omega arith) (omega arith) (omega arith) (omega arith) c.loop-i.invariant
