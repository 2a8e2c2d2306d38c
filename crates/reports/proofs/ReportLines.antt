-- The lines of a report: byte 10 stands in each once, at its end.
use Rattle.std.proofs.Common.{ℕ, zero, suc, ◌^◌, ◌<◌, ◌≤◌, ◌&&◌, leb, List, [], ◌∷◌, replicate, ℤ, pos, negsuc, Some, None, codes, decimal, refl, arith}
use Rattle.std.specs.Int.Signed.{mag}
use Rattle.std.specs.List.{AllByRecursion}
use Rattle.std.specs.Fmt.{signed_decimal}
use Rattle.std.proofs.lemmas.Bool.{cond_both, and_parts, leb-true}
use Rattle.model.specs.Studies.{Model, Limits}
use Rattle.plans.specs.Questions.{count}
use Rattle.plans.specs.Starts.{byte, final}
use Rattle.planning.specs.Decisions.{decided, option_number}
use Rattle.reports.specs.LineEnds.{EndsOnce}
use Rattle.reports.specs.Lines.{choice_letter, decision_text, total_line}
use Rattle.reports.specs.Reports.{indent, line}
use Rattle.reports.proofs.Ends.{NotTen, all_not_ten, digits_not_ten, ends_ten, ends_after}

blanks_not_ten : (n : ℕ) → AllByRecursion NotTen (replicate n 32)
blanks_not_ten zero = tt
blanks_not_ten (suc n) = ((λ e. omega arith), blanks_not_ten n)

letter_not_ten : (o : ℕ) → NotTen (choice_letter o)
letter_not_ten o e = grind arith

decision_ends : (b : ℕ) → EndsOnce (decision_text (decided b) (10 ∷ []))
decision_ends b =
    cond_both (leb 1 b && leb b 8) (Some (final b, option_number b)) None (λ d. EndsOnce (decision_text d (10 ∷ [])))
    (λ h.
    let few : b ≤ 8 = leb-true b 8 (and_parts (leb 1 b) (leb b 8) h).1 in
    ends_after (choice_letter (option_number b) ∷ decimal (final b)) (letter_not_ten (option_number b), digits_not_ten (final b) (omega arith)) ends_ten)
    (λ h. ends_after (codes "-") (all_not_ten (codes "-") refl) ends_ten)

pub line_ends : (s : Model) → Limits s → (plan : List ℕ) (i : ℕ) → i < count s → EndsOnce (line s plan i)
line_ends s limits plan i h =
    let few = limits.few_components in
    ends_after (replicate (indent s i) 32) (blanks_not_ten (indent s i))
    (ends_after (decimal i) (digits_not_ten i (omega arith)) (ends_after (codes " ") (all_not_ten (codes " ") refl) (decision_ends (byte plan i))))

signed_not_ten : (z : ℤ) → mag z < 2 ^ 63 → AllByRecursion NotTen (signed_decimal z)
signed_not_ten (pos n) h = digits_not_ten n (omega arith)
signed_not_ten (negsuc n) h = ((λ e. omega arith), digits_not_ten (suc n) (omega arith))

pub total_ends : (z : ℤ) → mag z < 2 ^ 63 → EndsOnce (total_line z)
total_ends z h = ends_after (codes "total ") (all_not_ten (codes "total ") refl) (ends_after (signed_decimal z) (signed_not_ten z h) ends_ten)
