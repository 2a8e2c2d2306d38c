-- The money of one record of a file, changed.
use Rattle.std.specs.Prelude.{ℕ, ◌+◌, ◌*◌, ◌/◌, Bool, ◌&&◌, List, ◌++◌, length, take, drop, ℤ, nat_lt}
use Rattle.std.proofs.Common.{of_z}
use Rattle.std.specs.Int.{w64}
use Rattle.files.specs.Records.{record_at, kind}
use Rattle.files.specs.Intakes.{is_charge}
use Rattle.files.specs.Writes.{bytes_of}

-- record j, counted from 0, is a whole T or F of the file
abbrev pub is_charge_record : List ℕ → ℕ → Bool
is_charge_record file j = nat_lt j (length file / 24) && is_charge (kind (record_at file j))

-- an amount of cents in eight bytes, the highest first, in two's complement
abbrev pub cents_bytes : ℤ → List ℕ
cents_bytes z = bytes_of 8 (of_z w64 z)

-- the file with other bytes from byte `at` on, and all before and after them as it was
abbrev pub with_bytes : List ℕ → ℕ → List ℕ → List ℕ
with_bytes file at bytes = take at file ++ (bytes ++ drop (at + length bytes) file)

-- the file with other cents in record j: they stand in its bytes 8 to 15
abbrev pub with_cents : List ℕ → ℕ → ℤ → List ℕ
with_cents file j z = with_bytes file (24 * j + 8) (cents_bytes z)
