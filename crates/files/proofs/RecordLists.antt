-- The list of a file's whole records, read by its index, and cut off the file's front one after another.
use Rattle.std.proofs.Common.{◌≡◌, ℕ, zero, suc, ◌+◌, ◌*◌, ◌/◌, ◌<◌, List, [], ◌∷◌, map, length, get_or, drop, refl, ap, ◌∙◌, arith}
use Rattle.std.specs.List.{range_with_len}
use Rattle.std.specs.Simd.{first_chunks}
use Rattle.std.proofs.lemmas.List.{length-take, length-drop, drop-drop}
use Rattle.std.proofs.lemmas.List.FromFn.{length-map-range_with_len, get_or-map-range_with_len}
use Rattle.files.specs.Records.{records, record_at}

pub records_length : (file : List ℕ) → length (records file) ≡ length file / 24
records_length file = length-map-range_with_len (record_at file) 0 (length file / 24)

pub records_read : (file : List ℕ) (k : ℕ) → k < length file / 24 → get_or (records file) k [] ≡ record_at file k
records_read file k h = get_or-map-range_with_len (record_at file) 0 (length file / 24) k k [] h (omega arith)

pub record_length : (file : List ℕ) (k : ℕ) → k < length file / 24 → length (record_at file k) ≡ 24
record_length file k h = omega (arith, length-take 24 (drop (24 * k) file), length-drop (24 * k) file)

-- n records from record i on
chunks_from : (file : List ℕ) (i n : ℕ) → first_chunks 24 n (drop (24 * i) file) ≡ map (record_at file) (range_with_len i n)
chunks_from file i zero = refl
chunks_from file i (suc n) =
    let on : 24 * i + 24 ≡ 24 * (i + 1) = omega arith in
    ap (λ rs. record_at file i ∷ rs) (ap (first_chunks 24 n) (drop-drop 24 (24 * i) file ∙ ap (λ k. drop k file) on) ∙ chunks_from file (i + 1) n)

pub chunks_records : (file : List ℕ) → first_chunks 24 (length file / 24) file ≡ records file
chunks_records file = chunks_from file 0 (length file / 24)
