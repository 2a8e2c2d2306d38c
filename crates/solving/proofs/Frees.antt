-- One free pair marked otherwise leaves one free pair fewer.
use Rattle.std.proofs.Common.{◌≡◌, ℕ, zero, suc, ◌+◌, ◌<◌, List, [], ◌∷◌, get_or, set, ap, arith}
use Rattle.solving.specs.declared.mark.Mark.{Mark}
use Rattle.solving.specs.declared.mark.Mark.TheVariants.{Held, Free}
use Rattle.solving.specs.Marked.{mark_at, marking, one_if_free, frees_in_line, frees}

line_falls : (ms : List Mark) (e : ℕ) (m : Mark) → get_or ms e Held ≡ Free → one_if_free m ≡ 0 → frees_in_line (set ms e m) + 1 ≡ frees_in_line ms
unfolding frees_in_line
line_falls [] e m q z = let no : ◌≡◌ {A = ℕ} 0 1 = ap one_if_free q in absurd (omega arith)
line_falls (a ∷ ms) zero m q z = let o : one_if_free a ≡ 1 = ap one_if_free q in omega arith
line_falls (a ∷ ms) (suc e) m q z = let i = line_falls ms e m q z in omega arith

falls : (rs : List (List Mark)) (r e : ℕ) (m : Mark) → mark_at rs r e ≡ Free → one_if_free m ≡ 0 → frees (marking rs r e m) + 1 ≡ frees rs
unfolding frees
falls [] r e m q z = let no : ◌≡◌ {A = ℕ} 0 1 = ap one_if_free q in absurd (omega arith)
falls (row ∷ rs) zero e m q z = let i = line_falls row e m q z in omega arith
falls (row ∷ rs) (suc r) e m q z = let i = falls rs r e m q z in omega arith

pub marks_fall : (rs new : List (List Mark)) (r e : ℕ) (m : Mark) → mark_at rs r e ≡ Free → new ≡ marking rs r e m → one_if_free m ≡ 0 → frees new < frees rs
marks_fall rs new r e m free q z = let i = falls rs r e m free z in let j = ap frees q in omega arith
