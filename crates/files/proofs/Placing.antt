-- A place that records are written into, one after another.
use Rattle.std.proofs.Common.{◌≡◌, ℕ, ◌+◌, ◌*◌, ◌<◌, List, [], ◌++◌, length, get_or, take, drop, sym, ap, ◌∙◌, append_assoc, arith}
use borrow.Rule.Slice.PartMut.{put_mid}
use Rattle.std.specs.List.{AllByRecursion}
use Rattle.std.proofs.lemmas.List.{take_at, drop_at, drop-drop, take_more, flat_map_more, length-take-le}
use Rattle.std.proofs.ByRecursion.{All-take}
use Rattle.files.specs.Writes.{in_a_row}
use Rattle.files.proofs.RecordRows.{Whole, row_length}

-- the first records have 24 bytes each
front_length : (rs : List (List ℕ)) (at : ℕ) → AllByRecursion Whole rs → at < length rs → length (in_a_row (take at rs)) ≡ 24 * at
front_length rs at whole l = omega (arith, row_length (take at rs) (All-take Whole at rs whole), length-take-le at rs (omega arith))

-- record number `at` is written into the `width` bytes from byte `from` on of a place that has the records before it
pub row_more : (rs : List (List ℕ)) (at : ℕ) (place before r : List ℕ) (from width : ℕ) → AllByRecursion Whole rs → at < length rs → from ≡ 24 * at → width ≡ 24 → place ≡ in_a_row (take at rs) ++ drop (24 * at) before → r ≡ get_or rs at [] → put_mid from width place r ≡ in_a_row (take (at + 1) rs) ++ drop (24 * (at + 1)) before
row_more rs at place before r from width whole l here wide inv e =
    let front = in_a_row (take at rs) in
    let size : length front ≡ from = omega (arith, front_length rs at whole l) in
    let next : 24 * at + width ≡ 24 * (at + 1) = omega arith in
    let kept : take from place ≡ front = ap (take from) inv ∙ take_at front (drop (24 * at) before) from size in
    let rest : drop from place ≡ drop (24 * at) before = ap (drop from) inv ∙ drop_at front (drop (24 * at) before) from size in
    let beyond : drop width (drop from place) ≡ drop (24 * (at + 1)) before = ap (drop width) rest ∙ drop-drop width (24 * at) before ∙ ap (λ n. drop n before) next in
    let more : in_a_row (take (at + 1) rs) ≡ front ++ get_or rs at [] = ap in_a_row (take_more rs at [] l) ∙ sym (flat_map_more (λ x. x) [] (take at rs) (get_or rs at [])) in
    cc (append_assoc front (get_or rs at []) (drop (24 * (at + 1)) before))
