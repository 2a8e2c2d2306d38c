-- The marks of pairs, by the pairs' numbers, and the marks with one pair changed.
use Rattle.std.specs.Prelude.{ℕ, pred, ◌+◌, ◌%◌, Bool, true, false, List, [], ◌∷◌, slice_index_or, slice_set}
use Rattle.solutions.specs.Pairs.{pair_resource}
use Rattle.solving.specs.declared.mark.Mark.{Mark}
use Rattle.solving.specs.declared.mark.Mark.TheVariants.{Held, Free, Shut}

abbrev pub is_held : Mark → Bool
is_held Held = true
is_held Free = false
is_held Shut = false

abbrev pub is_shut : Mark → Bool
is_shut Held = false
is_shut Free = false
is_shut Shut = true

-- the mark of a resource at a place, which is one below the echelon
abbrev pub mark_at : List (List Mark) → ℕ → ℕ → Mark
mark_at marks r place = slice_index_or (slice_index_or marks r []) place Held

-- the mark of pair j, where there are so many echelons
abbrev pub mark_of : List (List Mark) → ℕ → ℕ → Mark
mark_of marks last j = slice_index_or (slice_index_or marks (pair_resource last j) []) (j % last) Held

abbrev pub held_pairs : List (List Mark) → ℕ → ℕ → Bool
held_pairs marks last j = is_held (mark_of marks last j)

abbrev pub shut_pairs : List (List Mark) → ℕ → ℕ → Bool
shut_pairs marks last j = is_shut (mark_of marks last j)

-- whether a resource with that line of marks is held at echelon e
abbrev pub held_at : List Mark → ℕ → Bool
held_at line e = is_held (slice_index_or line (pred e) Held)

-- the marks with one pair marked anew
abbrev pub marking : List (List Mark) → ℕ → ℕ → Mark → List (List Mark)
marking marks r place m = slice_set marks r (slice_set (slice_index_or marks r []) place m)

abbrev pub one_if_free : Mark → ℕ
one_if_free Held = 0
one_if_free Free = 1
one_if_free Shut = 0

unfoldable pub frees_in_line : List Mark → ℕ
frees_in_line [] = 0
frees_in_line (m ∷ ms) = one_if_free m + frees_in_line ms

-- how many pairs are free
unfoldable pub frees : List (List Mark) → ℕ
frees [] = 0
frees (line ∷ rest) = frees_in_line line + frees rest
