-- What lora prints for a file: the report of the least plan, or the line of the refusal.
use Rattle.std.specs.Prelude.{ℕ, List, replicate, Ok, Err, Result, int_lt}
use Rattle.costs.specs.Amounts.{money}
use Rattle.model.specs.declared.refusal.Refusal.{Refusal}
use Rattle.model.specs.Studies.{Model}
use Rattle.solutions.specs.Solved.{solved}
use Rattle.files.specs.Intakes.{taken_in}
use Rattle.files.specs.TableAnswers.{table_answers}
use Rattle.reports.specs.Lines.{refusal_line}
use Rattle.printing.specs.Quoted.{answered}

-- the study that the file makes is solved by money with the table book of the same file
abbrev pub solution_for : List ℕ → Result Model Refusal → Result (List ℕ) (List ℕ)
solution_for file (Ok s) =
    let outcome = solved money int_lt s (table_answers file) 240 (replicate 60 0) in
    answered s outcome.place outcome.answer
solution_for file (Err why) = Err (refusal_line why)

abbrev pub solution : List ℕ → Result (List ℕ) (List ℕ)
solution file = solution_for file (taken_in file)
