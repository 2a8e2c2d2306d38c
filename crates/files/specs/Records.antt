-- A study file: records of 24 bytes without a header, and what stands in each. Bytes are counted from 0; byte 0 is the kind
-- letter; numbers are big-endian; bytes that a kind does not use are 0.
--   N  1 echelons, 2 resources
--   C  1 number, 2 parent, 3 to 5 the needs of D, R and M, 8 to 11 rate
--   T  1 component, 2 echelon, 3 option letter, 8 to 15 signed cents, 16 to 23 minutes
--   F  1 resource, 2 echelon, 8 to 15 signed cents, 16 to 23 minutes
use Rattle.std.specs.Prelude.{ℕ, zero, suc, ◌+◌, ◌*◌, ◌/◌, Bool, true, cond, ◌&&◌, List, map, length, take, drop, is_some, Some, None, Option, ◌==◌, slice_index}
use Rattle.std.proofs.Common.{to_z}
use Rattle.std.specs.Int.{w64}
use Rattle.std.specs.List.{range_with_len}
use Rattle.model.specs.declared.question.RepairOption.{RepairOption}
use Rattle.model.specs.declared.question.RepairOption.TheVariants.{Discard, Repair, Move}
use Rattle.model.specs.declared.answer.Charge.{Charge}
use Rattle.model.specs.declared.component.Needs.{Needs}

-- record i of a file
abbrev pub record_at : List ℕ → ℕ → List ℕ
record_at file i = take 24 (drop (24 * i) file)

-- the whole records of a file, in order; a shorter tail is none
abbrev pub records : List ℕ → List (List ℕ)
records file = map (record_at file) (range_with_len 0 (length file / 24))

abbrev pub byte : List ℕ → ℕ → ℕ
byte r k = slice_index r k

-- the kind letter of a record
abbrev pub kind : List ℕ → ℕ
kind r = byte r 0

-- the kinds: N opens the study, C enters a component, T charges an option of a component, F charges a resource
abbrev pub letter_n : ℕ
letter_n = 78

abbrev pub letter_c : ℕ
letter_c = 67

abbrev pub letter_t : ℕ
letter_t = 84

abbrev pub letter_f : ℕ
letter_f = 70

-- the big-endian number in `width` bytes from byte `from` on: each byte weighs 256 times the next
abbrev pub number_at : List ℕ → ℕ → ℕ → ℕ
number_at r from zero = 0
number_at r from (suc width) = number_at r from width * 256 + byte r (from + width)

-- eight bytes of signed cents (in two's complement), and eight bytes of minutes after them
abbrev pub charge_at : List ℕ → ℕ → Charge
charge_at r from = record { cents = to_z w64 (number_at r from 8); minutes = number_at r (from + 8) 8 }

-- the charge of a T or an F
abbrev pub charge_of : List ℕ → Charge
charge_of r = charge_at r 8

-- the option that a letter names: D, R or M
abbrev pub option_of : ℕ → Option RepairOption
option_of l = cond (l == 68) (Some Discard) (cond (l == 82) (Some Repair) (cond (l == 77) (Some Move) None))

-- of a C: the resources that its options need, in bytes 3 to 5, and its rate, in bytes 8 to 11
abbrev pub needs_of : List ℕ → Needs
needs_of r = record { discard = byte r 3; repair = byte r 4; moving = byte r 5 }

abbrev pub rate_of : List ℕ → ℕ
rate_of r = number_at r 8 4

-- the n bytes from byte `from` on are 0
unfoldable pub blank : List ℕ → ℕ → ℕ → Bool
blank r from zero = true
blank r from (suc n) = byte r (from + n) == 0 && blank r from n

-- the bytes that a record of kind k does not use are 0, and the letter of a T is that of an option
abbrev pub filled_as : ℕ → List ℕ → Bool
filled_as k r =
    cond (k == letter_n) (blank r 3 21)
    (cond (k == letter_c) (blank r 6 2 && blank r 12 12)
    (cond (k == letter_t) (is_some (option_of (byte r 3)) && blank r 4 4)
    (blank r 3 5)))

abbrev pub is_filled : List ℕ → Bool
is_filled r = filled_as (kind r) r
