-- Of two rows of as many bytes the one that reads first, by the library's order of lists, has the lower number.
use Rattle.std.proofs.Common.{◌≡◌, ℕ, ◌+◌, ◌*◌, ◌≤◌, Bool, true, false, cond, eqb, ltb, List, [], ◌∷◌, length, get_or, Some, sym, refl, ap, ◌∙◌, ⊎_elim, arith, w8, Fits}
use Rattle.std.specs.List.{AllByRecursion}
use Rattle.std.specs.Ordering.{nat_cmp, is_lt, is_some_and}
use Rattle.std.specs.Cmp.Lexicographic.{slice_partial_cmp}
use Rattle.std.proofs.ByRecursion.{All-from_get_or}
use Rattle.std.proofs.lemmas.Bool.{cond-true, cond-false, eq-eqb, ne_eqb, lt-ltb, le-ltb, cases_eq, cases_lt}
use Rattle.std.proofs.lemmas.Bool.Decides.{nat_tests}
use Rattle.std.proofs.lemmas.Cmp.{same_from_slice_cmp_tested}
use Rattle.plans.specs.Orders.{rank}
use Rattle.theory.specs.Ranks.{base, Ranked}
use Rattle.theory.specs.ReadingOrder.{row_number}
use Rattle.theory.proofs.ReadingOrder.{lower_front}

-- the first byte that differs decides, and else the rows' lengths do
abbrev reads_first : List ℕ → List ℕ → Bool
reads_first [] [] = false
reads_first [] (y ∷ ys) = true
reads_first (x ∷ xs) [] = false
reads_first (x ∷ xs) (y ∷ ys) = cond (eqb x y) (reads_first xs ys) (ltb x y)

tested : (xs ys : List ℕ) (r : Bool) → r ≡ is_some_and is_lt (slice_partial_cmp (λ x y. Some (nat_cmp x y)) xs ys) → r ≡ reads_first xs ys
tested = same_from_slice_cmp_tested nat_cmp is_lt reads_first refl (λ _ _. refl) (λ _ _. refl) (λ x y xs ys o h. grind (arith, nat_tests))

-- a byte is its own rank
byte_ranks : Ranked rank 255
byte_ranks = record { below = λ b h. omega arith; told_apart = λ b c h i e. e }

abbrev Bytes : List ℕ → Type 0
Bytes = AllByRecursion (λ b. b ≤ 255)

numbered : (a : ℕ) (xs ys : List ℕ) → length xs ≡ length ys → Bytes xs → Bytes ys → reads_first xs ys ≡ ltb (row_number rank a xs) (row_number rank a ys)
numbered a [] [] e h i = sym (le-ltb a a (omega arith))
numbered a [] (y ∷ ys) e h i = absurd (omega arith)
numbered a (x ∷ xs) [] e h i = absurd (omega arith)
numbered a (x ∷ xs) (y ∷ ys) e h i = ⊎_elim
    (λ same. cond-true (eqb x y) _ _ (eq-eqb x y same) ∙ numbered (a * base + x) xs ys (omega arith) h.1 i.1 ∙ ap (λ v. ltb (row_number rank (a * base + x) xs) (row_number rank (a * base + v) ys)) same)
    (λ differ. cond-false (eqb x y) _ _ (ne_eqb x y differ) ∙ ⊎_elim
    (λ l. lt-ltb x y l ∙ sym (lt-ltb _ _ (lower_front rank 255 byte_ranks (a * base + x) (a * base + y) xs ys (omega arith) h.1 (omega arith))))
    (λ l. let back = lower_front rank 255 byte_ranks (a * base + y) (a * base + x) ys xs (omega arith) i.1 (omega arith) in le-ltb x y l ∙ sym (le-ltb _ _ (omega arith)))
    (cases_lt x y))
    (cases_eq x y)

pub reads_before_is : (xs ys : List ℕ) (r : Bool) → length xs ≡ length ys → ((n : ℕ) → Fits w8 (get_or xs n 0)) → ((n : ℕ) → Fits w8 (get_or ys n 0)) → r ≡ is_some_and is_lt (slice_partial_cmp (λ x y. Some (nat_cmp x y)) xs ys) → r ≡ ltb (row_number rank 0 xs) (row_number rank 0 ys)
reads_before_is xs ys r same fx fy is =
    let bytes : (zs : List ℕ) → ((n : ℕ) → Fits w8 (get_or zs n 0)) → Bytes zs = λ zs f. All-from_get_or (λ b. b ≤ 255) zs 0 (λ n _. omega (arith, (f n).fits)) in
    tested xs ys r is ∙ numbered 0 xs ys same (bytes xs fx) (bytes ys fy)
