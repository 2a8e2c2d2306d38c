-- What is read from an N or a C that is written, and that one which is read is written again with the same bytes.
use Rattle.std.proofs.Common.{◌≡◌, ℕ, zero, suc, ◌+◌, ◌≤◌, true, List, ◌∷◌, ◌++◌, map, replicate, Some, None, Option, sym, refl, ap, ◌∙◌, arith}
use Rattle.std.specs.List.{range_with_len}
use Rattle.std.proofs.lemmas.List.FromFn.{fill_by_all}
use Rattle.std.proofs.lemmas.Bool.Decides.{nat_tests}
use Rattle.model.specs.declared.component.Component.{Component}
use Rattle.model.specs.Components.{parent_of, is_entered}
use Rattle.model.specs.Studies.{Model}
use Rattle.files.specs.Records.{byte, letter_n, letter_c, needs_of, rate_of, blank}
use Rattle.files.specs.AcceptedFiles.{Zeros, IsN, IsC}
use Rattle.files.specs.Writes.{bytes_of, encoded, no_needs, parent_number, opening_record, component_record}
use Rattle.files.proofs.RecordKinds.{filled_n, filled_c}
use Rattle.files.proofs.Numbers.{bytes_again}
use Rattle.files.proofs.RecordRows.{Whole, Readable}

-- what is written is an N and a C, with their unused bytes 0
pub opening_is_n : (s : Model) → IsN (opening_record s)
unfolding blank
opening_is_n s = filled_n (opening_record s) refl refl

pub component_is_c : (i : ℕ) (c : Component) → IsC (component_record i c)
unfolding blank
component_is_c i c = filled_c (component_record i c) refl refl

-- the number of an entered parent names it: 255 is none
pub parent_again : (n : ℕ) (o : Option ℕ) → n ≤ 60 → is_entered n o ≡ true → parent_of (parent_number o) ≡ o
parent_again n None few h = refl
parent_again n (Some p) few h = grind (arith, nat_tests)

-- the parent that a number names has that number
pub number_again : (p : ℕ) → parent_number (parent_of p) ≡ p
number_again p = grind (arith, nat_tests)

-- four bytes hold a number below 2 ^ 32
pub rate_read : (i : ℕ) (c : Component) → c.rate ≤ 1_000_000 → rate_of (component_record i c) ≡ c.rate
rate_read i c few = omega arith

-- bytes from byte `from` on
abbrev part_of : List ℕ → ℕ → ℕ → List ℕ
part_of r from n = map (byte r) (range_with_len from n)

-- bytes that are 0
zero_bytes : (r : List ℕ) (from n last : ℕ) → from + n ≡ suc last → Zeros r from last → part_of r from n ≡ replicate n 0
zero_bytes r from zero last e zeros = refl
zero_bytes r from (suc n) last e zeros =
    let here = zeros from (omega arith) (omega arith) in
    let more = zero_bytes r (from + 1) n last (omega arith) (λ k low high. zeros k (omega arith) high) in
    cc

-- a record is its 24 bytes
each_byte : (r : List ℕ) → Whole r → r ≡ part_of r 0 24
each_byte r whole = fill_by_all (byte r) r 24 0 whole (λ k l. refl)

-- an N and a C that are written with what is read from them
pub n_again : (r : List ℕ) → Whole r → IsN r → encoded letter_n (byte r 1) (byte r 2) no_needs 0 ≡ r
n_again r whole i =
    ap (λ xs. letter_n ∷ byte r 1 ∷ byte r 2 ∷ xs) (sym (zero_bytes r 3 21 23 refl i.unused))
    ∙ ap (λ k. k ∷ part_of r 1 23) (sym i.of_kind)
    ∙ sym (each_byte r whole)

pub c_again : (r : List ℕ) → Readable r → IsC r → encoded letter_c (byte r 1) (byte r 2) (needs_of r) (rate_of r) ≡ r
c_again r readable i =
    let used : List ℕ → List ℕ → List ℕ → List ℕ = λ xs ys zs. letter_c ∷ byte r 1 ∷ byte r 2 ∷ byte r 3 ∷ byte r 4 ∷ byte r 5 ∷ (xs ++ (ys ++ zs)) in
    ap (λ xs. used xs (bytes_of 4 (rate_of r)) (replicate 12 0)) (sym (zero_bytes r 6 2 7 refl i.unused_before))
    ∙ ap (λ ys. used (part_of r 6 2) ys (replicate 12 0)) (bytes_again r readable.1 8 4)
    ∙ ap (λ zs. used (part_of r 6 2) (part_of r 8 4) zs) (sym (zero_bytes r 12 12 23 refl i.unused_after))
    ∙ ap (λ k. k ∷ part_of r 1 23) (sym i.of_kind)
    ∙ sym (each_byte r readable.0)
