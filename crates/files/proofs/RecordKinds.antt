-- When a record of each kind is rightly filled in.
use Rattle.std.proofs.Common.{◌≡◌, ℕ, true, List, is_some, refl, ap, ◌∙◌, inl, inr, arith}
use Rattle.std.proofs.lemmas.Bool.{cases_eq, and_parts, and_from}
use Rattle.std.proofs.lemmas.Bool.Decides.{nat_tests}
use Rattle.model.specs.declared.question.RepairOption.{RepairOption}
use Rattle.model.specs.declared.question.RepairOption.TheVariants.{Discard, Repair, Move}
use Rattle.model.specs.Letters.{letter}
use Rattle.files.specs.Records.{byte, kind, option_of, letter_n, letter_c, letter_t, letter_f, filled_as}
use Rattle.files.specs.AcceptedFiles.{IsN, IsC, IsT, IsF}
use Rattle.files.proofs.Blanks.{blank_zeros, zeros_blank}

-- the letter of a T
letter_option : (l : ℕ) → is_some (option_of l) ≡ true → (o : RepairOption) × (l ≡ letter o)
letter_option l h =
    elim (cases_eq l 68) [
      | inl e ↦ (Discard, e)
      | inr d ↦
          elim (cases_eq l 82) [
            | inl e ↦ (Repair, e)
            | inr r ↦ elim (cases_eq l 77) [ inl e ↦ (Move, e) | inr m ↦ absurd (grind (arith, nat_tests)) ]
          ]
    ]

option_letter : (o : RepairOption) → is_some (option_of (letter o)) ≡ true
option_letter Discard = refl
option_letter Repair = refl
option_letter Move = refl

-- filled in rightly, kind by kind
pub filled_n : (r : List ℕ) → kind r ≡ letter_n → filled_as letter_n r ≡ true → IsN r
filled_n r e h = record { of_kind = e; unused = blank_zeros r 3 21 23 refl h }

pub filled_c : (r : List ℕ) → kind r ≡ letter_c → filled_as letter_c r ≡ true → IsC r
filled_c r e h =
    let p = and_parts _ _ h in
    record { of_kind = e; unused_before = blank_zeros r 6 2 7 refl p.0; unused_after = blank_zeros r 12 12 23 refl p.1 }

pub filled_t : (r : List ℕ) → kind r ≡ letter_t → filled_as letter_t r ≡ true → IsT r
filled_t r e h =
    let p = and_parts _ _ h in
    let o = letter_option (byte r 3) p.0 in
    record { of_kind = e; option = o.0; letter_of_option = o.1; unused = blank_zeros r 4 4 7 refl p.1 }

pub filled_f : (r : List ℕ) → kind r ≡ letter_f → filled_as letter_f r ≡ true → IsF r
filled_f r e h = record { of_kind = e; unused = blank_zeros r 3 5 7 refl h }

pub n_filled : (r : List ℕ) → IsN r → filled_as letter_n r ≡ true
n_filled r i = zeros_blank r 3 21 23 refl i.unused

pub c_filled : (r : List ℕ) → IsC r → filled_as letter_c r ≡ true
c_filled r i = and_from _ _ (zeros_blank r 6 2 7 refl i.unused_before) (zeros_blank r 12 12 23 refl i.unused_after)

pub t_filled : (r : List ℕ) → IsT r → filled_as letter_t r ≡ true
t_filled r i = and_from _ _ (ap (λ l. is_some (option_of l)) i.letter_of_option ∙ option_letter i.option) (zeros_blank r 4 4 7 refl i.unused)

pub f_filled : (r : List ℕ) → IsF r → filled_as letter_f r ≡ true
f_filled r i = zeros_blank r 3 5 7 refl i.unused
