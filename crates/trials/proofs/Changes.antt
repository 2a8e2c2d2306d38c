-- A file with other bytes in one place: all else is as it was, and the bytes that stood there, put back, give the file.
use Rattle.std.proofs.Common.{◌≡◌, ℕ, ◌+◌, ◌-◌, ◌<◌, ◌≤◌, ◌⊎◌, List, ◌++◌, length, get_or, take, drop, sym, refl, ap, ◌∙◌, arith}
use Rattle.std.specs.List.{between}
use Rattle.std.proofs.lemmas.List.{take_at, drop_at, drop-drop, length-take-le}
use Rattle.std.proofs.lemmas.List.Edits.{split_between, length-between}
use Rattle.std.proofs.lemmas.Grind.{common_steps}
use Rattle.trials.specs.Changes.{with_bytes}

module _ (file new : List ℕ) (at : ℕ) (inside : at + length new ≤ length file) where
  front_length : length (take at file) ≡ at
  front_length = length-take-le at file (omega arith)

  pub as_long : length (with_bytes file at new) ≡ length file
  as_long = grind (arith, common_steps)

  front_same : take at (with_bytes file at new) ≡ take at file
  front_same = take_at (take at file) (new ++ drop (at + length new) file) at front_length

  rest_same : drop (at + length new) (with_bytes file at new) ≡ drop (at + length new) file
  rest_same =
      sym (drop-drop (length new) at (with_bytes file at new))
      ∙ ap (drop (length new)) (drop_at (take at file) (new ++ drop (at + length new) file) at front_length)
      ∙ drop_at new (drop (at + length new) file) (length new) refl

  -- other bytes in the same place
  overwritten : (last : List ℕ) → length last ≡ length new → with_bytes (with_bytes file at new) at last ≡ with_bytes file at last
  overwritten last same =
      let rest : drop (at + length last) (with_bytes file at new) ≡ drop (at + length last) file =
      ap (λ n. drop (at + n) (with_bytes file at new)) same ∙ rest_same ∙ ap (λ n. drop (at + n) file) (sym same) in
      ap (λ xs. xs ++ (last ++ drop (at + length last) (with_bytes file at new))) front_same
      ∙ ap (λ xs. take at file ++ (last ++ xs)) rest

  -- the bytes before and after
  pub byte_outside : (k : ℕ) → (k < at) ⊎ (at + length new ≤ k) → get_or (with_bytes file at new) k 0 ≡ get_or file k 0
  byte_outside k h = grind (arith, common_steps)

  -- the new bytes
  pub byte_inside : (k : ℕ) → k < length new → get_or (with_bytes file at new) (at + k) 0 ≡ get_or new k 0
  byte_inside k h = grind (arith, common_steps)

-- the eight bytes that stand there
kept_length : (file : List ℕ) (at : ℕ) (before : List ℕ) → at + 8 ≤ length file → before ≡ between at (at + 8) file → length before ≡ 8
kept_length file at before inside is = grind (arith, common_steps)

-- the n bytes that stand there, put there again
pub own_bytes : (file : List ℕ) (at n : ℕ) → at + n ≤ length file → with_bytes file at (between at (at + n) file) ≡ file
own_bytes file at n inside =
    let e : at + n - at ≡ n = omega arith in
    let size : length (between at (at + n) file) ≡ n = length-between file at (at + n) inside ∙ e in
    ap (λ k. take at file ++ (between at (at + n) file ++ drop (at + k) file)) size ∙ sym (split_between file at (at + n) (omega arith))

-- what stood there, put back over other bytes
pub restored : (file new : List ℕ) (at : ℕ) → at + 8 ≤ length file → length new ≡ 8 → (before : List ℕ) → before ≡ between at (at + 8) file → with_bytes (with_bytes file at new) at before ≡ file
restored file new at inside wide before is =
    overwritten file new at (omega arith) before (kept_length file at before inside is ∙ sym wide) ∙ ap (with_bytes file at) is ∙ own_bytes file at 8 inside
