use Rattle.std.proofs.Common.{◌≡◌, ◌≤◌, drop, length, take}
use Rattle.std.specs.Iterator.Adapters.{zip_first, zip_second}
use Rattle.std.specs.Slice.Iter.{iter_rest}
use Rattle.model.specs.Books.{Book}
use Rattle.model.specs.Studies.{model}
use Rattle.planning.specs.Surveys.{Keeps}
use Rattle.planning.specs.Sums.{Adds}
use Rattle.solving.specs.Bounds.{held_postings}
use Rattle.solving.proofs.bound.plus_held.Given as goal

-- the held pairs of the resources so far are added
abbrev pub invariant-loop-line : goal.invariant-loop-line
invariant-loop-line g l =
    let n = length l.yielded in
    (n ≤ (model l.problem.study.now).resources)
    × (iter_rest (zip_first l.line-iterator) ≡ drop n (take l.resources l.marks))
    × (iter_rest (zip_second l.line-iterator) ≡ drop n l.problem.survey.now.resources)
    × ((b : Book) → Keeps (model l.problem.study.now) b l.problem.survey.now
    → Adds g.K.CostKind.adding l.initial.sum (held_postings (model l.problem.study.now) b l.marks n) l.sum)
