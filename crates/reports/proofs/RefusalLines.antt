-- The lines of refusals: where byte 10 stands in them, and which refusal each is of.
use Rattle.std.proofs.Common.{◌≡◌, ℕ, ◌-◌, List, [], ◌∷◌, ◌++◌, length, replicate, codes, decimal, refl, arith}
use Rattle.std.proofs.lemmas.List.{append_cancel_left}
use Rattle.model.specs.declared.refusal.Refusal.{Refusal}
use Rattle.model.specs.Refusals.{said}
use Rattle.reports.specs.LineEnds.{EndsOnce}
use Rattle.reports.specs.Lines.{words, refusal_line}
use Rattle.reports.specs.RefusalBytes.{in_40_bytes}
use Rattle.reports.specs.RefusalLaws.{IsPlain}
use Rattle.reports.proofs.Ends.{all_not_ten, digits_not_ten, ends_after, line_cut}
use Rattle.reports.proofs.RefusalsNamed.{number_small, refusal_same}
use Rattle.reports.proofs.Splits.{number_same}
use Rattle.reports.proofs.WordsApart.{first_byte, words_same, words_end}

pub refusal_ends : (r : Refusal) → IsPlain r → EndsOnce (refusal_line r)
refusal_ends r p =
    let small = number_small r in
    ends_after (codes "refused ") (all_not_ten (codes "refused ") refl)
    (ends_after (decimal (said r).number) (digits_not_ten (said r).number (omega arith)) (words_end (said r).carried p))

pub refusals_differ : (r q : Refusal) → IsPlain r → IsPlain q → in_40_bytes (refusal_line r) ≡ in_40_bytes (refusal_line q) → r ≡ q
refusals_differ r q p s e =
    let ws = words (said r).carried (10 ∷ []) in
    let vs = words (said q).carried (10 ∷ []) in
    let small = number_small r in
    let little = number_small q in
    let zeros : Refusal → List ℕ = λ x. replicate (40 - length (refusal_line x)) 0 in
    let line = line_cut (refusal_line r) (refusal_line q) (zeros r) (zeros q) (refusal_ends r p) (refusal_ends q s) e in
    let tail = append_cancel_left (codes "refused ") (decimal (said r).number ++ ws) (decimal (said q).number ++ vs) line in
    let parts = number_same (said r).number (said q).number ws vs (omega arith) (omega arith) (first_byte (said r).carried) (first_byte (said q).carried) tail in
    refusal_same r q parts.0 (words_same (said r).carried (said q).carried p s parts.1)
