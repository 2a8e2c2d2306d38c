-- What lora prints with --try: the report of the trial, and then the report of the file as it is; or the lines of refusals.
use Rattle.std.specs.Prelude.{ℕ, List, replicate, ℤ, Ok, Err, Result}
use Rattle.model.specs.declared.refusal.Refusal.{Refusal}
use Rattle.model.specs.Studies.{Model}
use Rattle.files.specs.Intakes.{taken_in}
use Rattle.trials.specs.Trials.{tried}
use Rattle.reports.specs.Lines.{refusal_line}
use Rattle.printing.specs.Shown.{followed_by}
use Rattle.printing.specs.Quoted.{answered}
use Rattle.printing.specs.Solutions.{solution_for}

-- the trial of an amount in record j of the file, for a study
abbrev pub trial_text : List ℕ → ℕ → ℤ → Model → Result (List ℕ) (List ℕ)
trial_text file j z s =
    let outcome = tried s file j z 240 (replicate 60 0) in
    answered s outcome.place outcome.answer

-- the trial, and then the solution, for the study that the file makes
abbrev pub tried_for : List ℕ → ℕ → ℤ → Result Model Refusal → Result (List ℕ) (List ℕ)
tried_for file j z (Ok s) = followed_by (trial_text file j z s) (solution_for file (Ok s))
tried_for file j z (Err why) = Err (refusal_line why)

abbrev pub tried_and_solved : List ℕ → ℕ → ℤ → Result (List ℕ) (List ℕ)
tried_and_solved file j z = tried_for file j z (taken_in file)
