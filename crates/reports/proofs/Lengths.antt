-- How long the lines of a report are, and the report.
use Rattle.std.proofs.Common.{ℕ, ◌+◌, ◌*◌, ◌^◌, ◌<◌, ◌≤◌, List, [], ◌∷◌, length, replicate, ℤ, decimal, arith, length-append}
use Rattle.std.specs.Int.Signed.{mag}
use Rattle.std.specs.Fmt.{signed_decimal}
use Rattle.std.proofs.lemmas.Fmt.{length-decimal-le, length_signed_le}
use Rattle.std.proofs.lemmas.List.{length-replicate}
use Rattle.std.proofs.lemmas.List.Concat.{length-flat_map}
use Rattle.model.specs.Studies.{Model, Limits}
use Rattle.plans.specs.Questions.{count}
use Rattle.plans.specs.Starts.{byte}
use Rattle.planning.specs.Decisions.{decided}
use Rattle.reports.specs.LineOrder.{order}
use Rattle.reports.specs.Lines.{decision_text, component_line, total_line}
use Rattle.reports.specs.Reports.{indent, line, lines, report_text}
use Rattle.reports.proofs.Entries.{level_high}
use Rattle.reports.proofs.Totals.{total_le}
use Rattle.reports.proofs.Weights.{order_weight}

-- at most 3 bytes: the letter, a digit and byte 10
decision_short : (b : ℕ) → length (decision_text (decided b) (10 ∷ [])) ≤ 3
decision_short b = grind (arith, length-append, length-decimal-le 1)

module _ (s : Model) (limits : Limits s) (plan : List ℕ) where
  -- a line: at most 8 blanks, 2 digits, a blank, a letter, a digit and byte 10
  pub line_short : (i : ℕ) → i < count s → length (line s plan i) ≤ 14
  line_short i h =
      let deep = level_high s limits i h in
      let two : i < 10 ^ 2 = omega (arith, limits.few_components) in
      let digits = length-decimal-le 2 i (omega arith) two (omega arith) in
      let b = byte plan i in
      omega (
        arith,
        length-append (replicate {A = ℕ} (indent s i) 32) (component_line i b),
        length-replicate {A = ℕ} (indent s i) 32,
        length-append (decimal i) (32 ∷ decision_text (decided b) (10 ∷ [])),
        decision_short b,
      )

  pub lines_short : length (lines s plan (order s)) ≤ 14 * count s
  lines_short =
      omega (
        arith,
        length-flat_map (line s plan) (order s),
        order_weight s limits (λ i. length (line s plan i)),
        total_le (λ i. length (line s plan i)) 14 (count s) line_short,
      )

-- the line of a total that fits 64 bits
pub total_short : (z : ℤ) → mag z < 2 ^ 63 → length (total_line z) ≤ 27
total_short z h =
    let room : mag z + 1 < 10 ^ 19 = omega arith in
    omega (arith, length_signed_le 19 z room h, length-append (signed_decimal z) (10 ∷ []))

pub report_short : (s : Model) → Limits s → (plan : List ℕ) (z : ℤ) → mag z < 2 ^ 63 → length (report_text s plan z) ≤ 16 * count s + 32
report_short s limits plan z h =
    omega (arith, lines_short s limits plan, total_short z h, length-append (lines s plan (order s)) (total_line z))
