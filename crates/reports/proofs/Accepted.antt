-- What a report's call answers and leaves where the plan and the place are long enough.
use Rattle.std.proofs.Common.{◌≡◌, ℕ, ◌+◌, ◌*◌, ◌≤◌, cond, leb, List, length, ℤ, Ok, Err, Result, ◌∙◌}
use Rattle.std.proofs.lemmas.Bool.{le-leb, cond-true}
use Rattle.model.specs.declared.refusal.Refusal.{Refusal}
use Rattle.model.specs.declared.refusal.Refusal.TheVariants.{ShortPlan, ShortReportPlace}
use Rattle.model.specs.Studies.{Model}
use Rattle.plans.specs.Questions.{count}
use Rattle.reports.specs.Reports.{report_text, at_front, reported}

pub accepted : (s : Model) (plan : List ℕ) (z : ℤ) (place : List ℕ) → count s ≤ length plan → 16 * count s + 32 ≤ length place → reported s plan z place ≡ (Ok (length (report_text s plan z)), at_front (report_text s plan z) place)
accepted s plan z place long room =
    let text = report_text s plan z in
    let answer : Result ℕ Refusal × List ℕ = (Ok (length text), at_front text place) in
    let asked : Result ℕ Refusal × List ℕ = cond (leb (16 * count s + 32) (length place)) answer (Err ShortReportPlace, place) in
    cond-true (leb (count s) (length plan)) asked (Err ShortPlan, place) (le-leb (count s) (length plan) long)
    ∙ cond-true (leb (16 * count s + 32) (length place)) answer (Err ShortReportPlace, place) (le-leb (16 * count s + 32) (length place) room)
