-- The file that write makes of a study: one N, then a C for each component in the order of their numbers.
use Rattle.std.specs.Prelude.{ℕ, zero, suc, ◌+◌, ◌*◌, ◌/◌, ◌%◌, ◌^◌, cond, List, [], ◌∷◌, ◌++◌, length, drop, replicate, Ok, Err, Option, Result, nat_le}
use Rattle.std.specs.List.{flat_map}
use Rattle.std.specs.Option.{unwrap_or}
use Rattle.model.specs.declared.component.Component.{Component}
use Rattle.model.specs.declared.component.Needs.{Needs}
use Rattle.model.specs.declared.refusal.Refusal.{Refusal}
use Rattle.model.specs.declared.refusal.Refusal.TheVariants as no
use Rattle.model.specs.Studies.{Model}
use Rattle.files.specs.Records.{letter_n, letter_c}

-- a number in `width` bytes, the highest first: the byte that has i bytes after it is the number divided by 256 ^ i, modulo 256
abbrev pub bytes_of : ℕ → ℕ → List ℕ
bytes_of zero n = []
bytes_of (suc width) n = (n / 256 ^ width % 256) ∷ bytes_of width n

-- an N or a C, byte by byte: kind letter; bytes 1 and 2; the needs, in bytes 3 to 5; the rate, in bytes 8 to 11; all else 0
abbrev pub encoded : ℕ → ℕ → ℕ → Needs → ℕ → List ℕ
encoded kind first second n rate =
    kind ∷ first ∷ second ∷ n.discard ∷ n.repair ∷ n.moving ∷ 0 ∷ 0 ∷ (bytes_of 4 rate ++ replicate 12 0)

abbrev pub no_needs : Needs
no_needs = record { discard = 0; repair = 0; moving = 0 }

-- the number that stands for a parent: 255 for none
abbrev pub parent_number : Option ℕ → ℕ
parent_number o = unwrap_or o 255

-- the N of a study
abbrev pub opening_record : Model → List ℕ
opening_record s = encoded letter_n s.echelons s.resources no_needs 0

-- the C of component i
abbrev pub component_record : ℕ → Component → List ℕ
component_record i c = encoded letter_c i (parent_number c.parent) c.needs c.rate

-- the C of components that are numbered from i on
abbrev pub component_records : ℕ → List Component → List (List ℕ)
component_records i [] = []
component_records i (c ∷ cs) = component_record i c ∷ component_records (i + 1) cs

abbrev pub written_records : Model → List (List ℕ)
written_records s = opening_record s ∷ component_records 0 s.components

-- records one after another
abbrev pub in_a_row : List (List ℕ) → List ℕ
in_a_row rs = flat_map (λ r. r) rs

-- the bytes of the file
abbrev pub written : Model → List ℕ
written s = in_a_row (written_records s)

-- 24 bytes for the N and for each component
abbrev pub written_length : Model → ℕ
written_length s = 24 * (length s.components + 1)

-- what write answers, and the place afterwards. Is the place long enough? If so, the file stands in it, and beyond it what
-- stood there; the answer is the file's length. Else the place stays.
abbrev pub on_write : Model → List ℕ → Result ℕ Refusal × List ℕ
on_write s place =
    cond (nat_le (written_length s) (length place))
    (Ok (written_length s), written s ++ drop (written_length s) place)
    (Err no.ShortPlace, place)
