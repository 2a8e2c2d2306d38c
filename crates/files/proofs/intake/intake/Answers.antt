use Rattle.std.proofs.Common.{Err, sym, refl, ◌∙◌, rules}
use Rattle.std.proofs.lemmas.Result.{err_from_is_err_and}
use Rattle.files.specs.Intakes.{state}
use Rattle.files.proofs.Runs.{run_more, run_all, taken_chunks}
use Rattle.files.proofs.intake.intake.Goals as goal

pub returns-in_err-take_in : goal.returns-in_err-take_in
returns-in_err-take_in c =
    let rs = c.as_chunks.result.0.now in
    let taken = taken_chunks c.args.file.now rs c.as_chunks.ensures.front (search rules) (search rules) (search rules) in
    let here = run_more rs c.loop-at.at (state c.loop-at.reading) (Err c.in_err-take_in.field-0.0) c.loop-at-test.true c.in_err-take_in.ensures in
    let p = err_from_is_err_and c.from_residual-in_err-take_in.result c.from_residual-in_err-take_in.ensures.1 in
    rw (p.1, p.2) (taken ∙ sym c.loop-at.invariant ∙ here, refl)

pub returns : goal.returns
returns c =
    let rs = c.as_chunks.result.0.now in
    let taken = taken_chunks c.args.file.now rs c.as_chunks.ensures.front (search rules) (search rules) (search rules) in
    taken ∙ sym c.loop-at.invariant ∙ run_all rs c.loop-at.at (state c.loop-at.reading) c.loop-at-test.false
