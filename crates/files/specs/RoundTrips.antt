-- Writing and reading back: a study makes a file that makes the study, and a file of N and C makes a study that makes the file.
use Rattle.std.specs.Prelude.{◌≡◌, ℕ, ◌<◌, ◌⊎◌, List, Ok}
use Rattle.std.specs.List.{AllByRecursion}
use Rattle.model.specs.Studies.{Model, Limits}
use Rattle.files.specs.Records.{kind, letter_n, letter_c, records}
use Rattle.files.specs.Intakes.{taken_in}
use Rattle.files.specs.Writes.{written}

-- every study within the limits, written and read back, is the same study
abbrev pub WrittenStudiesReadBack : Type 0
WrittenStudiesReadBack = (s : Model) → Limits s → taken_in (written s) ≡ Ok s

-- bytes are numbers below 256
abbrev pub Bytes : List ℕ → Type 0
Bytes file = AllByRecursion (λ b. b < 256) file

-- no T and no F: each record is an N or a C
abbrev pub IsNOrC : List ℕ → Type 0
IsNOrC r = (kind r ≡ letter_n) ⊎ (kind r ≡ letter_c)

abbrev pub NoCharges : List ℕ → Type 0
NoCharges file = AllByRecursion IsNOrC (records file)

-- every file of N and C alone that is accepted, taken in and written back, is the same file, byte for byte
abbrev pub AcceptedFilesWriteBack : Type 0
AcceptedFilesWriteBack = (file : List ℕ) (s : Model) → Bytes file → NoCharges file → taken_in file ≡ Ok s → written s ≡ file
