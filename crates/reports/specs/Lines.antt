-- The bytes of the lines that the programs print. Every line ends in byte 10.
use Rattle.std.specs.Prelude.{ℕ, cond, List, [], ◌∷◌, ◌++◌, ℤ, Some, None, codes, decimal, Option, ◌==◌}
use Rattle.std.proofs.Math.Utf8.{encode}
use Rattle.std.specs.Fmt.{signed_decimal}
use Rattle.model.specs.declared.refusal.Refusal.{Refusal}
use Rattle.model.specs.Refusals.{Word, num, sign, said}
use Rattle.planning.specs.Decisions.{decided}

-- words, each after a blank: a number in decimal digits, or a character; and what follows them
abbrev pub words : List Word → List ℕ → List ℕ
words [] rest = rest
words (num n ∷ ws) rest = codes " " ++ (decimal n ++ words ws rest)
words (sign c ∷ ws) rest = codes " " ++ (encode c ++ words ws rest)

-- `refused`, the number, and what the refusal carries, with single blanks
abbrev pub refusal_line : Refusal → List ℕ
refusal_line r = codes "refused " ++ (decimal (said r).number ++ words (said r).carried (codes "\n"))

-- the letter of the option that a byte ends in, by its number: 0 is D, and 1 is R
abbrev pub choice_letter : ℕ → ℕ
choice_letter o = cond (o == 0) 68 82

-- what a byte decides, D or R with the echelon, or `-` where it decides nothing; and what follows
abbrev pub decision_text : Option (ℕ × ℕ) → List ℕ → List ℕ
decision_text None rest = codes "-" ++ rest
decision_text (Some d) rest = choice_letter d.1 ∷ (decimal d.0 ++ rest)

-- the line of a component: its number, a blank, and what its byte decides
abbrev pub component_line : ℕ → ℕ → List ℕ
component_line i b = decimal i ++ (codes " " ++ decision_text (decided b) (codes "\n"))

-- `total`, a blank and the money in cents
abbrev pub total_line : ℤ → List ℕ
total_line cents = codes "total " ++ (signed_decimal cents ++ codes "\n")
