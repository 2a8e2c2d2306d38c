-- The bytes that a program prints: Ok for reports, Err where there is the line of a refusal among them.
use Rattle.std.specs.Prelude.{ℕ, List, ◌++◌, Ok, Err, vec_items, Result}
use Rattle.std.specs.Global.{Vec}
use Rattle.std.specs.Result.{result_map_both}
use Rattle.files.specs.declared.intake.IntakeError.{IntakeError}
use Rattle.reports.specs.Lines.{refusal_line}
use Rattle.printing.specs.Taken.{Answers}

abbrev pub shown : Result (Vec ℕ) (Vec ℕ) → Result (List ℕ) (List ℕ)
shown printed = result_map_both vec_items vec_items printed

-- the text of a report, or of the line of a refusal, is `wanted`
abbrev pub Prints : Result (Vec ℕ) IntakeError → Result (List ℕ) (List ℕ) → Type 0
Prints text wanted = Answers vec_items refusal_line text wanted

-- the bytes alone
abbrev pub text_of : Result (List ℕ) (List ℕ) → List ℕ
text_of (Ok text) = text
text_of (Err text) = text

-- one text after another; the whole has a refusal among it where one of them has
abbrev pub followed_by : Result (List ℕ) (List ℕ) → Result (List ℕ) (List ℕ) → Result (List ℕ) (List ℕ)
followed_by (Ok x) (Ok y) = Ok (x ++ y)
followed_by (Ok x) (Err y) = Err (x ++ y)
followed_by (Err x) (Ok y) = Err (x ++ y)
followed_by (Err x) (Err y) = Err (x ++ y)
