use Rattle.std.proofs.Common.{◌≡◌, ℕ, ◌+◌, ◌*◌, ◌^◌, ◌<◌, ◌≤◌, ◌++◌, List, length, ℤ, Ok, None, sym, ap, ◌∙◌, arith, rules, w64}
use Rattle.std.specs.Int.Signed.{mag}
use Rattle.std.proofs.lemmas.Bool.{le-leb}
use Rattle.std.proofs.lemmas.Int.{to_z-of_z}
use Rattle.model.specs.Studies.{Model, Limits, model}
use Rattle.model.proofs.Limited.{limited}
use Rattle.plans.specs.Questions.{count}
use Rattle.reports.specs.declared.place.Writer.{Writer}
use Rattle.reports.specs.Lines.{total_line}
use Rattle.reports.specs.Places.{Room, Puts}
use Rattle.reports.specs.Reports.{lines, list_text, reported}
use Rattle.reports.proofs.Entries.{order_is}
use Rattle.reports.proofs.Lengths.{lines_short, total_short}
use Rattle.reports.proofs.Writing.{puts_then, puts_same, front_is, front_end, length_kept}
use Rattle.reports.proofs.report.report.Goals as goal

-- the room for a report is room for its lines, and then for its total
list_room : (s : Model) (limits : Limits s) (plan : List ℕ) (a : Writer) → 16 * count s + 32 ≤ length a.place.now → a.at ≡ 0 → Room a (list_text s plan None)
list_room s limits plan a room front =
    omega (arith, lines_short s limits plan, ap (λ is. length (lines s plan is)) (order_is s limits))

total_room : (s : Model) (limits : Limits s) (plan : List ℕ) (z : ℤ) (a b : Writer) → mag z < 2 ^ 63 → 16 * count s + 32 ≤ length a.place.now → a.at ≡ 0 → Puts a (list_text s plan None) b → Room b (total_line z)
total_room s limits plan z a b few room front puts =
    let same = length_kept (list_room s limits plan a room front) puts in
    omega (arith, puts.ends, lines_short s limits plan, ap (λ is. length (lines s plan is)) (order_is s limits), total_short z few)

pub put_list-requires-clause-room : goal.put_list-requires-clause-room
put_list-requires-clause-room c =
    let all = ap length c.components-count.ensures in
    let long = ap length c.new-writer.ensures.place in
    list_room (model c.args.study.now) (limited c.args.study.now) c.args.plan.now c.new-writer.result (omega arith) c.new-writer.ensures.front

pub total-requires : goal.total-requires
total-requires c =
    let z = c.args.cents in
    let all = ap length c.components-count.ensures in
    let long = ap length c.new-writer.ensures.place in
    let total = ap (λ y. length (total_line y)) (to_z-of_z w64 z c.ranges.cents) in
    let room = total_room (model c.args.study.now) (limited c.args.study.now) c.args.plan.now z c.new-writer.result c.put_list.new.writer c.ranges.cents.sfits (omega arith) c.new-writer.ensures.front c.put_list.ensures in
    omega arith

-- an accepted call
answers : (s : Model) (limits : Limits s) (plan : List ℕ) (z : ℤ) (place last : List ℕ) (a b : Writer) (end : ℕ) → count s ≤ length plan → 16 * count s + 32 ≤ length place → a.place.now ≡ place → a.at ≡ 0 → Puts a (list_text s plan None ++ total_line z) b → end ≡ b.at → last ≡ b.place.now → (Ok end, last) ≡ reported s plan z place
answers s limits plan z place last a b end long room same front puts ends holds =
    let put = puts_same (ap (λ is. lines s plan is ++ total_line z) (sym (order_is s limits))) puts in
    simp (ends, front_end front put, holds, front_is front put, same, le-leb (count s) (length plan) long, le-leb (16 * count s + 32) (length place) room)

pub returns : goal.returns
returns c =
    let s = model c.args.study.now in
    let plan = c.args.plan.now in
    let z = c.args.cents in
    let all = ap length c.components-count.ensures in
    let total = puts_same (ap total_line (to_z-of_z w64 z c.ranges.cents)) c.total.ensures in
    let name = sym (c.total.ensures.same_place ∙ c.put_list.ensures.same_place ∙ c.new-writer.ensures.lent) in
    answers s (limited c.args.study.now) plan z c.args.place.now _ c.new-writer.result c.total.new.self c.end.result (omega arith) (omega arith) c.new-writer.ensures.place c.new-writer.ensures.front (puts_then c.put_list.ensures total) c.end.ensures (search rules)
