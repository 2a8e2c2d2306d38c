use Rattle.std.proofs.Common.{◌+◌, ◌-◌, ◌*◌, ◌≤◌}
use Rattle.model.specs.Components.{level_under}
use Rattle.model.specs.Studies.{model}
use Rattle.plans.specs.Postings.{component}
use Rattle.plans.specs.Questions.{count}
use Rattle.reports.specs.LineOrder.{listed_below, entry_of}
use Rattle.reports.specs.Places.{Puts}
use Rattle.reports.specs.Reports.{lines}
use Rattle.reports.proofs.report.+put_entry_put_list.Given as goal

-- fewer levels lie below an entry than below the list that it stands in, and below a list than below its parent's entry
abbrev pub decreases-put_entry : goal.decreases-put_entry
decreases-put_entry l = 2 * (6 - (component (model l.study.now) l.number).level)

abbrev pub decreases-put_list : goal.decreases-put_list
decreases-put_list l = 2 * (6 - level_under (model l.study.now).components l.parent) + 1

-- the entries so far, of the components numbered below `from`
abbrev pub invariant-put_list-loop-number : goal.invariant-put_list-loop-number
invariant-put_list-loop-number l =
    (l.from ≤ count (model l.study))
    × Puts l.initial.writer (lines (model l.study) l.plan (listed_below (model l.study) (entry_of (model l.study)) l.parent l.from)) l.writer

abbrev pub decreases-put_list-loop-number : goal.decreases-put_list-loop-number
decreases-put_list-loop-number l = count (model l.study) - l.from
