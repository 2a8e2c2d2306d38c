-- What quote prints for a file and a plan: the report of the priced plan, or the line of the refusal.
use Rattle.std.specs.Prelude.{ℕ, List, ℤ, Ok, Err, Result}
use Rattle.costs.specs.Amounts.{money}
use Rattle.model.specs.declared.refusal.Refusal.{Refusal}
use Rattle.model.specs.Studies.{Model}
use Rattle.plans.specs.Prices.{priced}
use Rattle.files.specs.Intakes.{taken_in}
use Rattle.files.specs.TableAnswers.{table_answers}
use Rattle.reports.specs.Lines.{refusal_line}
use Rattle.reports.specs.Reports.{report_text}

-- the text for the bytes of a plan and what pricing them answered
abbrev pub answered : Model → List ℕ → Result ℤ Refusal → Result (List ℕ) (List ℕ)
answered s plan (Ok cents) = Ok (report_text s plan cents)
answered s plan (Err why) = Err (refusal_line why)

-- the plan is priced by money for the study that the file makes, with the table book of the same file
abbrev pub quoted_for : List ℕ → List ℕ → Result Model Refusal → Result (List ℕ) (List ℕ)
quoted_for file plan (Ok s) = answered s plan (priced money s (table_answers file) plan)
quoted_for file plan (Err why) = Err (refusal_line why)

abbrev pub quoted : List ℕ → List ℕ → Result (List ℕ) (List ℕ)
quoted file plan = quoted_for file plan (taken_in file)
