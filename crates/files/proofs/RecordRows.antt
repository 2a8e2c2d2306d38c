-- Records one after another are a file that has these records, and a file is its records one after another.
use Rattle.std.proofs.Common.{◌≡◌, ℕ, zero, suc, ◌+◌, ◌*◌, ◌/◌, ◌%◌, ◌<◌, List, [], ◌∷◌, ◌++◌, length, take, drop, sym, refl, ap, ap₂, ◌∙◌, subst, inl, inr, arith, length-append}
use Rattle.std.specs.List.{AllByRecursion}
use Rattle.std.specs.Simd.{first_chunks}
use Rattle.std.proofs.Math.Seq.{take-add}
use Rattle.std.proofs.lemmas.List.{take_at, drop_at, take_all, get_or_past}
use Rattle.std.proofs.ByRecursion.{All-get_or, All-from_get_or, All-take, All-drop}
use Rattle.std.proofs.lemmas.Bool.{cases_lt}
use Rattle.files.specs.Records.{byte, records, record_at}
use Rattle.files.specs.Writes.{in_a_row}
use Rattle.files.specs.RoundTrips.{Bytes}
use Rattle.files.proofs.RecordLists.{records_length, records_read, record_length, chunks_records}

-- a record has 24 bytes
abbrev pub Whole : List ℕ → Type 0
Whole r = length r ≡ 24

pub row_length : (rs : List (List ℕ)) → AllByRecursion Whole rs → length (in_a_row rs) ≡ 24 * length rs
row_length [] whole = refl
row_length (r ∷ rs) whole = omega (arith, length-append r (in_a_row rs), whole.0, row_length rs whole.1)

-- records one after another, cut off the front again
chunks_of_row : (rs : List (List ℕ)) → AllByRecursion Whole rs → first_chunks 24 (length rs) (in_a_row rs) ≡ rs
chunks_of_row [] whole = refl
chunks_of_row (r ∷ rs) whole =
    ap₂ (λ x xs. x ∷ first_chunks 24 (length rs) xs) (take_at r (in_a_row rs) 24 whole.0) (drop_at r (in_a_row rs) 24 whole.0)
    ∙ ap (λ xs. r ∷ xs) (chunks_of_row rs whole.1)

-- their records
pub row_records : (rs : List (List ℕ)) → AllByRecursion Whole rs → records (in_a_row rs) ≡ rs
row_records rs whole =
    let size = row_length rs whole in
    let count : length (in_a_row rs) / 24 ≡ length rs = omega arith in
    sym (chunks_records (in_a_row rs)) ∙ ap (λ n. first_chunks 24 n (in_a_row rs)) count ∙ chunks_of_row rs whole

-- what was cut off the front, put one after another
row_of_chunks : (n : ℕ) (file : List ℕ) → in_a_row (first_chunks 24 n file) ≡ take (24 * n) file
row_of_chunks zero file = refl
row_of_chunks (suc n) file =
    let on : 24 + 24 * n ≡ 24 * suc n = omega arith in
    ap (λ xs. take 24 file ++ xs) (row_of_chunks n (drop 24 file)) ∙ sym (take-add 24 (24 * n) file) ∙ ap (λ k. take k file) on

-- a file of whole records
pub row_of_records : (file : List ℕ) → length file % 24 ≡ 0 → in_a_row (records file) ≡ file
row_of_records file by-24 =
    let n = length file / 24 in
    ap in_a_row (sym (chunks_records file)) ∙ row_of_chunks n file ∙ take_all (24 * n) file (omega arith)

-- a record of 24 bytes, each below 256
abbrev pub Readable : List ℕ → Type 0
Readable r = Whole r × ((k : ℕ) → byte r k < 256)

-- past the end a byte is read as 0
byte_small : (r : List ℕ) → Bytes r → (k : ℕ) → byte r k < 256
byte_small r small k =
    elim (cases_lt k (length r)) [
      | inl l ↦ All-get_or (λ b. b < 256) r k 0 l small
      | inr g ↦ omega (arith, get_or_past r k 0 g)
    ]

-- the records of a file of bytes are so
pub record_readable : (file : List ℕ) → Bytes file → (i : ℕ) → i < length file / 24 → Readable (record_at file i)
record_readable file small i l =
    let below : ℕ → Type 0 = λ b. b < 256 in
    (record_length file i l, byte_small (record_at file i) (All-take below 24 (drop (24 * i) file) (All-drop below (24 * i) file small)))

pub records_readable : (file : List ℕ) → Bytes file → AllByRecursion Readable (records file)
records_readable file small =
    let count = records_length file in
    All-from_get_or Readable (records file) [] (λ i l. let here : i < length file / 24 = omega arith in subst Readable (sym (records_read file i here)) (record_readable file small i here))
