use Rattle.std.proofs.Common.{◌≡◌, ℕ, ◌+◌, ◌-◌, ◌*◌, ◌<◌, List, ◌++◌, length, replicate, Some, Option, sym, ap, ◌∙◌, subst, arith, length-append}
use Rattle.std.proofs.lemmas.Grind.{flat_map-append}
use Rattle.model.specs.declared.component.Component.{Component}
use Rattle.model.specs.Studies.{Model, Limits, model}
use Rattle.model.proofs.Limited.{limited}
use Rattle.plans.specs.Postings.{component}
use Rattle.plans.specs.Questions.{count}
use Rattle.plans.specs.Starts.{byte}
use Rattle.reports.specs.declared.place.Writer.{Writer}
use Rattle.reports.specs.LineOrder.{listed_below, entry_of}
use Rattle.reports.specs.Lines.{component_line}
use Rattle.reports.specs.NextUnder.{NextUnder}
use Rattle.reports.specs.Places.{Room, Puts}
use Rattle.reports.specs.Reports.{line, lines, entry_text, list_text}
use Rattle.reports.proofs.Entries.{level_low, level_high, level_is, entry_is}
use Rattle.reports.proofs.Listing.{listed_next, listed_all, listed_split}
use Rattle.reports.proofs.Reading.{read}
use Rattle.reports.proofs.Writing.{puts_then, puts_same, room_then}
use Rattle.reports.proofs.report.+put_entry_put_list.Goals as goal

module _ (s : Model) (plan : List ℕ) where
  -- an entry's text is its line, and then the list under it
  entry_lines : (limits : Limits s) (i : ℕ) → i < count s → entry_text s plan i ≡ line s plan i ++ list_text s plan (Some i)
  entry_lines limits i h = ap (lines s plan) (entry_is s limits i h)

  -- after the entries so far there is room for the next one
  next_room : {a b : Writer} (p : Option ℕ) (m i : ℕ) → NextUnder s p m (Some i) → Puts a (lines s plan (listed_below s (entry_of s) p m)) b → Room a (list_text s plan p) → Room b (entry_text s plan i)
  next_room {a} {b} p m i found puts room =
      let split = listed_split s (entry_of s) p i found.1 found.2 in
      let before = listed_below s (entry_of s) p m in
      let rest = entry_of s i ++ split.0 in
      let all : list_text s plan p ≡ lines s plan before ++ lines s plan rest =
      simp (split.1, listed_all s (entry_of s) p m i found.0 found.3, flat_map-append (line s plan)) in
      let Fits : List ℕ → Type 0 = λ l. Room a l in
      let after = room_then (lines s plan rest) puts (subst Fits all room) in
      omega (arith, ap length (flat_map-append (line s plan) (entry_of s i) split.0), length-append (entry_text s plan i) (lines s plan split.0))

  -- a component's line by the component that the code reads
  line_by : (i : ℕ) {x : Component} → x ≡ component s i → replicate (2 * (x.level - 1)) 32 ++ component_line i (byte plan i) ≡ line s plan i
  line_by i e = ap (λ (y : Component). replicate (2 * (y.level - 1)) 32 ++ component_line i (byte plan i)) e

pub put_entry-line-requires-clause-level_from : goal.put_entry-line-requires-clause-level_from
put_entry-line-requires-clause-level_from t c =
    let s = model c.args.study.now in
    let h = c.requires.in_study in
    let same = ap (λ (x : Component). x.level) (read s c.components.result.now c.components.ensures c.args.number h) in
    omega (arith, same, level_low s (limited c.args.study.now) c.args.number h)

pub put_entry-line-requires-clause-level_to : goal.put_entry-line-requires-clause-level_to
put_entry-line-requires-clause-level_to t c =
    let s = model c.args.study.now in
    let h = c.requires.in_study in
    let same = ap (λ (x : Component). x.level) (read s c.components.result.now c.components.ensures c.args.number h) in
    omega (arith, same, level_high s (limited c.args.study.now) c.args.number h)

pub put_entry-line-requires-clause-room : goal.put_entry-line-requires-clause-room
put_entry-line-requires-clause-room t c =
    let s = model c.args.study.now in
    let plan = c.args.plan.now in
    let i = c.args.number in
    let h = c.requires.in_study in
    let text = ap length (line_by s plan i (read s c.components.result.now c.components.ensures i h)) in
    let both = ap length (entry_lines s plan (limited c.args.study.now) i h) in
    omega (arith, text, both, length-append (line s plan i) (list_text s plan (Some i)), c.requires.room)

pub put_entry-put_list-requires : goal.put_entry-put_list-requires
put_entry-put_list-requires t c =
    let s = model c.args.study.now in
    let limits = limited c.args.study.now in
    let plan = c.args.plan.now in
    let i = c.args.number in
    let h = c.requires.in_study in
    let x = read s c.components.result.now c.components.ensures i h in
    let high = level_high s limits i h in
    let Fits : List ℕ → Type 0 = λ l. Room c.args.writer.now l in
    (omega arith, (c.requires.byte_for_each, room_then (list_text s plan (Some i)) (puts_same (line_by s plan i x) c.line.ensures) (subst Fits (entry_lines s plan limits i h) c.requires.room)))

pub put_entry-returns : goal.put_entry-returns
put_entry-returns t c =
    let s = model c.args.study.now in
    let plan = c.args.plan.now in
    let i = c.args.number in
    let h = c.requires.in_study in
    let x = read s c.components.result.now c.components.ensures i h in
    puts_same (sym (entry_lines s plan (limited c.args.study.now) i h)) (puts_then (puts_same (line_by s plan i x) c.line.ensures) c.put_list.ensures)

pub put_list-put_entry-requires : goal.put_list-put_entry-requires
put_list-put_entry-requires t c =
    let s = model c.args.study.now in
    let found = c.in-Some.ensures in
    let deep = level_is s (limited c.args.study.now) c.args.parent c.in-Some.number found.1 found.2 in
    (omega arith, (found.1, (c.requires.byte_for_each, next_room s c.args.plan.now c.args.parent c.loop-number.from c.in-Some.number found c.loop-number.invariant.1 c.requires.room)))

pub put_list-loop-number-preserved : goal.put_list-loop-number-preserved
put_list-loop-number-preserved t c =
    let s = model c.args.study.now in
    let plan = c.args.plan.now in
    let found = c.in-Some.ensures in
    let i = c.in-Some.number in
    let m = c.loop-number.from in
    let before = listed_below s (entry_of s) c.args.parent m in
    let more : lines s plan before ++ entry_text s plan i ≡ lines s plan (listed_below s (entry_of s) c.args.parent (i + 1)) =
    sym (ap (lines s plan) (listed_next s (entry_of s) c.args.parent m i found.0 found.2 found.3) ∙ flat_map-append (line s plan) before (entry_of s i)) in
    (omega (arith, found.1), puts_same more (puts_then c.loop-number.invariant.1 c.put_entry.ensures))

pub put_list-returns : goal.put_list-returns
put_list-returns t c =
    let s = model c.args.study.now in
    puts_same (ap (lines s c.args.plan.now) (sym (listed_all s (entry_of s) c.args.parent c.loop-number.from (count s) c.loop-number.invariant.0 c.in_default.ensures))) c.loop-number.invariant.1
