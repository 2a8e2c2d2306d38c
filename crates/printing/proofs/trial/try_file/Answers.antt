use Rattle.std.proofs.Common.{ℕ, List, ℤ, Err, Result, ap}
use Rattle.model.specs.declared.refusal.Refusal.{Refusal}
use Rattle.model.specs.Studies.{Model, model}
use Rattle.files.specs.declared.intake.IntakeError.{IntakeError}
use Rattle.files.specs.declared.intake.IntakeError.TheVariants.{Refused, OutOfMemory}
use Rattle.printing.specs.Taken.{Answers}
use Rattle.printing.specs.Shown.{Prints}
use Rattle.printing.specs.Trials.{tried_for}
use Rattle.printing.proofs.trial.try_file.Goals as goal

-- a file that makes no study
no_study : (file : List ℕ) (j : ℕ) (z : ℤ) (why : IntakeError) (taken : Result Model Refusal) → Answers model (λ r. r) (Err why) taken → Prints (Err why) (tried_for file j z taken)
no_study file j z (Refused why) taken e = ap (tried_for file j z) e
no_study file j z OutOfMemory taken e = tt

pub returns-in-Err-clause-text : goal.returns-in-Err-clause-text
returns-in-Err-clause-text c = c.in_full.ensures _ (no_study c.args.file.now c.args.change.record c.args.change.cents c.in-Err.why _ c.in-Err.ensures)
