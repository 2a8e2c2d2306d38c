-- The records that write makes of a study: how many, how long, which stands where, and when all are written.
use Rattle.std.proofs.Common.{◌≡◌, ℕ, zero, suc, ◌+◌, ◌*◌, ◌<◌, ◌≤◌, true, leb, List, [], ◌∷◌, ◌++◌, length, get_or, take, drop, Ok, Result, refl, ap, ◌∙◌, add-one, arith}
use Rattle.std.specs.List.{AllByRecursion}
use Rattle.std.proofs.lemmas.List.{take_all}
use Rattle.std.proofs.lemmas.Slice.{drop-append-drop}
use Rattle.std.proofs.lemmas.Bool.{le-leb}
use Rattle.model.specs.declared.component.Component.{Component}
use Rattle.model.specs.declared.refusal.Refusal.{Refusal}
use Rattle.model.specs.Studies.{Model}
use Rattle.files.specs.Writes.{component_record, component_records, written_records, in_a_row, written, written_length, on_write}
use Rattle.files.proofs.RecordRows.{Whole}

-- the C: one for each component, of 24 bytes
pub components_count : (i : ℕ) (cs : List Component) → length (component_records i cs) ≡ length cs
components_count i [] = refl
components_count i (c ∷ cs) = ap suc (components_count (i + 1) cs)

components_whole : (i : ℕ) (cs : List Component) → AllByRecursion Whole (component_records i cs)
components_whole i [] = tt
components_whole i (c ∷ cs) = (refl, components_whole (i + 1) cs)

-- the C at place k
pub components_read : (i : ℕ) (cs : List Component) (d : Component) (k j : ℕ) → k < length cs → i + k ≡ j → get_or (component_records i cs) k [] ≡ component_record j (get_or cs k d)
components_read i [] d k j l e = absurd (omega arith)
components_read i (c ∷ cs) d zero j l e = let same : i ≡ j = omega arith in ap (λ n. component_record n c) same
components_read i (c ∷ cs) d (suc k) j l e = components_read (i + 1) cs d k j (omega arith) (omega arith)

-- with the N, one more
pub written_count : (s : Model) → length (written_records s) ≡ length s.components + 1
written_count s = omega (arith, components_count 0 s.components)

pub written_whole : (s : Model) → AllByRecursion Whole (written_records s)
written_whole s = (refl, components_whole 0 s.components)

-- after the N comes the C of the first component, and so on
pub written_read : (s : Model) (d : Component) (k : ℕ) → k < length s.components → get_or (written_records s) (k + 1) [] ≡ component_record k (get_or s.components k d)
written_read s d k l = rw add-one (components_read 0 s.components d k k l (omega arith))

-- all records stand in the place, of which `first` was written into the first 24 bytes, and m is the length answered
pub written_all : (s : Model) (n m : ℕ) (place first before : List ℕ) → n ≡ length s.components → m ≡ written_length s → length first ≡ 24 → 24 * (n + 1) ≤ length before → place ≡ in_a_row (take (n + 1) (written_records s)) ++ drop (24 * (n + 1)) (first ++ drop 24 before) → ◌≡◌ {A = Result ℕ Refusal × List ℕ} (Ok m, place) (on_write s before)
written_all s n m place first before all long size fits inv =
    let count = written_count s in
    let every : take (n + 1) (written_records s) ≡ written_records s = take_all (n + 1) (written_records s) (omega arith) in
    let beyond : drop (24 * (n + 1)) (first ++ drop 24 before) ≡ drop (24 * (n + 1)) before = drop-append-drop 24 before first (24 * (n + 1)) (omega arith) size in
    let same : 24 * (n + 1) ≡ written_length s = omega arith in
    let stands : place ≡ written s ++ drop (written_length s) before = inv ∙ ap (λ rs. in_a_row rs ++ drop (24 * (n + 1)) (first ++ drop 24 before)) every ∙ ap (λ xs. written s ++ xs) (beyond ∙ ap (λ k. drop k before) same) in
    let tested : leb (written_length s) (length before) ≡ true = le-leb (written_length s) (length before) (omega arith) in
    cc
