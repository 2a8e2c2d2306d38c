-- The report of a plan: an indented line for each component, and the total; and what the call answers and leaves.
use Rattle.std.specs.Prelude.{ℕ, ◌+◌, ◌-◌, ◌*◌, cond, List, ◌++◌, length, drop, replicate, ℤ, Ok, Err, Result, Option, nat_le}
use Rattle.std.specs.List.{flat_map}
use Rattle.model.specs.declared.refusal.Refusal.{Refusal}
use Rattle.model.specs.declared.refusal.Refusal.TheVariants.{ShortPlan, ShortReportPlace}
use Rattle.model.specs.Studies.{Model}
use Rattle.plans.specs.Postings.{component}
use Rattle.plans.specs.Questions.{count}
use Rattle.plans.specs.Starts.{byte}
use Rattle.reports.specs.Lines.{component_line, total_line}
use Rattle.reports.specs.LineOrder.{listed, entry_of, order}

-- how many blanks a line begins with: two for each indenture level above 1
abbrev pub indent : Model → ℕ → ℕ
indent s i = 2 * ((component s i).level - 1)

-- the line of component i in the report
abbrev pub line : Model → List ℕ → ℕ → List ℕ
line s plan i = replicate (indent s i) 32 ++ component_line i (byte plan i)

-- the lines of some components in turn
abbrev pub lines : Model → List ℕ → List ℕ → List ℕ
lines s plan is = flat_map (line s plan) is

-- the text of an entry, and of a list: the lines there
abbrev pub entry_text : Model → List ℕ → ℕ → List ℕ
entry_text s plan i = lines s plan (entry_of s i)

abbrev pub list_text : Model → List ℕ → Option ℕ → List ℕ
list_text s plan p = lines s plan (listed s (entry_of s) p)

-- the line of every component in the order of the lines, and the total
abbrev pub report_text : Model → List ℕ → ℤ → List ℕ
report_text s plan cents = lines s plan (order s) ++ total_line cents

-- a text at the front of a place, which stays as it was beyond
abbrev pub at_front : List ℕ → List ℕ → List ℕ
at_front text place = text ++ drop (length text) place

-- what the call answers, and what it leaves in the place: has the plan a byte for each component, and has the place
-- 16 bytes for each and 32 more?
abbrev pub reported : Model → List ℕ → ℤ → List ℕ → Result ℕ Refusal × List ℕ
reported s plan cents place =
    cond (nat_le (count s) (length plan))
    (cond (nat_le (16 * count s + 32) (length place))
    (Ok (length (report_text s plan cents)), at_front (report_text s plan cents) place)
    (Err ShortReportPlace, place))
    (Err ShortPlan, place)
