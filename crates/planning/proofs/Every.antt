-- Tests of every element of a list, and of every number below a limit.
use Rattle.std.proofs.Common.{◌≡◌, ℕ, zero, suc, ◌+◌, ◌<◌, ◌≤◌, Bool, true, false, ◌&&◌, List, [], ◌∷◌, ◌++◌, length, get_or, sym, refl, ap, ◌∙◌, inl, inr, arith}
use Rattle.std.specs.Bool.{MatchBool}
use Rattle.std.specs.List.{list_all, zip, range_with_len, AllWithin, HoldsAt}
use Rattle.std.proofs.Math.Bool.{and-true}
use Rattle.std.proofs.lemmas.Slice.Zip.{get_or-zip, length-zip}
use Rattle.std.proofs.lemmas.List.FromFn.{get_or-range_with_len, length-range_with_len}
use Rattle.std.proofs.lemmas.Bool.{cases_lt, and_from, and_left, and_right}
use Rattle.plans.specs.Ranges.{upto, every}
use Rattle.planning.specs.OpenRows.{every_below}

and_assoc : (x y z : Bool) → ((x && y) && z) ≡ (x && (y && z))
and_assoc true y z = refl
and_assoc false y z = refl

pub all_of_three : {A : Type 0} (f : A → Bool) (x y z : A) → list_all f (x ∷ y ∷ z ∷ []) ≡ f x && (f y && f z)
all_of_three f x y z = ap (λ b. f x && (f y && b)) (and-true (f z))

pub and_same : {x y v w : Bool} → x ≡ v → y ≡ w → (x && y) ≡ (v && w)
and_same {x} {y} {v} {w} p q = ap (λ b. b && y) p ∙ ap (λ b. v && b) q

every_append : {A : Type 0} (f : A → Bool) (xs ys : List A) → every f (xs ++ ys) ≡ (every f xs && every f ys)
every_append f [] ys = refl
every_append f (x ∷ xs) ys = ap (λ b. f x && b) (every_append f xs ys) ∙ sym (and_assoc (f x) (every f xs) (every f ys))

-- every element of the lists g 0, g 1, .. passes exactly if each of those lists does
pub every_upto : {A : Type 0} (f : A → Bool) (g : ℕ → List A) (n : ℕ) → every f (upto g n) ≡ every_below (λ k. every f (g k)) n
every_upto f g zero = refl
every_upto f g (suc n) = every_append f (upto g n) (g n) ∙ ap (λ b. b && every f (g n)) (every_upto f g n)

-- one that fails is enough
pub below_fails : (f : ℕ → Bool) (k n : ℕ) → k < n → f k ≡ false → every_below f n ≡ false
below_fails f k zero l h = absurd (omega arith)
below_fails f k (suc n) l h =
    elim (cases_lt k n) [
      | inl m ↦ and_left (every_below f n) (f n) (below_fails f k n m h)
      | inr m ↦ let e : k ≡ n = omega arith in and_right (every_below f n) (f n) (ap f (sym e) ∙ h)
    ]

-- all that pass
below_all : (f : ℕ → Bool) (n : ℕ) → ((k : ℕ) → k < n → f k ≡ true) → every_below f n ≡ true
below_all f zero each = refl
below_all f (suc n) each = and_from (every_below f n) (f n) (below_all f n (λ k l. each k (omega arith))) (each n (omega arith))

-- the answer of a test of each number from a on beside its row, of which there are n or more
module _ {A : Type 0} (f : ℕ → A → Bool) (a n : ℕ) (number : ℕ → ℕ) (counts : (k : ℕ) → a + k ≡ number k) (rows : List A) (none : A) (long : n ≤ length rows) where
  abbrev pairs : List (ℕ × A)
  pairs = zip (range_with_len a n) rows

  pair_at : (k : ℕ) → k < n → get_or pairs k (0, none) ≡ (number k, get_or rows k none)
  pair_at k l =
      let in_range : k < length (range_with_len a n) = omega (arith, length-range_with_len a n) in
      let in_rows : k < length rows = omega arith in
      get_or-zip (range_with_len a n) rows k (0, none) in_range in_rows ∙ ap (λ j. (j, get_or rows k none)) (get_or-range_with_len a n k 0 l ∙ counts k)

  all_long : length pairs ≡ n
  all_long = omega (arith, length-zip (range_with_len a n) rows, length-range_with_len a n)

  pub every_from_all : (r : Bool) → MatchBool r (AllWithin (λ p. f p.0 p.1 ≡ true) pairs 0 (length pairs)) ((k : ℕ) × (k < length pairs) × HoldsAt (λ p. f p.0 p.1 ≡ false) pairs k) → r ≡ every_below (λ k. f (number k) (get_or rows k none)) n
  every_from_all true all =
      sym (below_all (λ k. f (number k) (get_or rows k none)) n (λ k l. rw (pair_at k l) at (all k (0, none) (omega arith) (omega (arith, all_long)))))
  every_from_all false some =
      let k = some.0 in
      let l : k < n = omega (arith, some.1, all_long) in
      sym (below_fails (λ j. f (number j) (get_or rows j none)) k n l (rw (pair_at k l) at (some.2 (0, none))))

-- the same tests below the same limit
pub below_same : (f g : ℕ → Bool) (n : ℕ) → ((k : ℕ) → k < n → f k ≡ g k) → every_below f n ≡ every_below g n
below_same f g zero same = refl
below_same f g (suc n) same =
    let e = below_same f g n (λ k l. same k (omega arith)) in
    let h = same n (omega arith) in
    cc

-- tests that always pass from m on add nothing
pub below_more : (f g : ℕ → Bool) (m n : ℕ) → m ≤ n → ((k : ℕ) → k < m → f k ≡ g k) → ((k : ℕ) → m ≤ k → f k ≡ true) → every_below f n ≡ every_below g m
below_more f g m zero l same passes = let e : m ≡ 0 = omega arith in ap (every_below g) (sym e)
below_more f g m (suc n) l same passes =
    elim (cases_lt n m) [
      | inl h ↦ let e : m ≡ suc n = omega arith in below_same f g (suc n) (λ k b. same k (omega arith)) ∙ ap (every_below g) (sym e)
      | inr h ↦ ap (λ b. every_below f n && b) (passes n h) ∙ and-true (every_below f n) ∙ below_more f g m n h same passes
    ]
