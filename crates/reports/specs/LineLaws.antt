-- What the lines of a report are at most: 14 bytes for a component and 27 for the total, so 16n + 32 bytes suffice.
use Rattle.std.specs.Prelude.{ℕ, ◌+◌, ◌*◌, ◌<◌, ◌≤◌, List, length, ℤ, FitsSigned}
use Rattle.std.specs.Int.{w64}
use Rattle.model.specs.Studies.{Model, Limits}
use Rattle.plans.specs.Questions.{count}
use Rattle.reports.specs.LineEnds.{EndsOnce}
use Rattle.reports.specs.Lines.{total_line}
use Rattle.reports.specs.Reports.{line, report_text}

-- one line, of at most so many bytes
pub record OneLine (most : ℕ) (text : List ℕ) : Type 0 where
  pub ends_once : EndsOnce text
  pub short : length text ≤ most

pub record FitsItsPlace (s : Model) (plan : List ℕ) (cents : ℤ) : Type 0 where
  pub each_line : (i : ℕ) → i < count s → OneLine 14 (line s plan i)
  pub total : OneLine 27 (total_line cents)
  pub report : length (report_text s plan cents) ≤ 16 * count s + 32

-- for every study, bytes and total of 64 bits
abbrev pub EveryReportFits : Type 0
EveryReportFits = (s : Model) → Limits s → (plan : List ℕ) (cents : ℤ) → FitsSigned w64 cents → FitsItsPlace s plan cents
