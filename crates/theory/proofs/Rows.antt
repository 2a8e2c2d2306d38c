-- The list of every row of n bytes: it is in reading order, and it has every row.
use Rattle.std.proofs.Common.{◌≡◌, ℕ, zero, suc, ◌+◌, ◌*◌, ◌<◌, ◌≤◌, List, [], ◌∷◌, ◌++◌, map, length, sym, refl, ap, ◌∙◌, arith}
use Rattle.std.specs.List.{ContainsAt as Has, flat_map, AllByRecursion}
use Rattle.std.proofs.ByRecursion.{All-append, All-map, All-weaker, all-has}
use Rattle.theory.specs.Ranks.{base, Ranked}
use Rattle.theory.specs.ReadingOrder.{row_number, InOrder}
use Rattle.theory.specs.Answers.{rows}
use Rattle.theory.proofs.ReadingOrder.{lower_front}

-- ---- lists in order, and what holds of all of a list
module _ {X : Type 0} where
  ordered_append : (number : X → ℕ) (xs ys : List X) → InOrder number xs → InOrder number ys → AllByRecursion (λ x. AllByRecursion (λ y. number x < number y) ys) xs → InOrder number (xs ++ ys)
  ordered_append number [] ys o p h = p
  ordered_append number (x ∷ xs) ys o p h = (All-append (λ y. number x < number y) xs ys o.0 h.0, ordered_append number xs ys o.1 p h.1)

  all_append_out : (Q : X → Type 0) (xs ys : List X) → AllByRecursion Q (xs ++ ys) → AllByRecursion Q xs × AllByRecursion Q ys
  all_append_out Q [] ys h = (tt, h)
  all_append_out Q (x ∷ xs) ys h = let r = all_append_out Q xs ys h.1 in ((h.0, r.0), r.1)

module _ {X Y : Type 0} where
  ordered_map : (number : X → ℕ) (g : Y → X) (ys : List Y) → InOrder (λ y. number (g y)) ys → InOrder number (map g ys)
  ordered_map number g [] o = tt
  ordered_map number g (y ∷ ys) o = (All-map (λ x. number (g y) < number x) g ys o.0, ordered_map number g ys o.1)

  all_map_out : (Q : X → Type 0) (g : Y → X) (ys : List Y) → AllByRecursion Q (map g ys) → AllByRecursion (λ y. Q (g y)) ys
  all_map_out Q g [] h = tt
  all_map_out Q g (y ∷ ys) h = (h.0, all_map_out Q g ys h.1)

  all_joined : (P : Y → Type 0) (Q : X → Type 0) (g : Y → List X) → ((y : Y) → P y → AllByRecursion Q (g y)) → (ys : List Y) → AllByRecursion P ys → AllByRecursion Q (flat_map g ys)
  all_joined P Q g f [] h = tt
  all_joined P Q g f (y ∷ ys) h = All-append Q (g y) (flat_map g ys) (f y h.0) (all_joined P Q g f ys h.1)

  all_joined_out : (Q : X → Type 0) (g : Y → List X) (ys : List Y) → AllByRecursion Q (flat_map g ys) → AllByRecursion (λ y. AllByRecursion Q (g y)) ys
  all_joined_out Q g [] h = tt
  all_joined_out Q g (y ∷ ys) h = let r = all_append_out Q (g y) (flat_map g ys) h in (r.0, all_joined_out Q g ys r.1)

-- ---- the rows
abbrev pub RowOf : ℕ → ℕ → List ℕ → Type 0
RowOf top n r = (length r ≡ n) × AllByRecursion (λ b. b ≤ top) r

-- the rows that begin with byte b
abbrev beginning : List ℕ → ℕ → ℕ → List (List ℕ)
beginning bytes n b = map (λ r. b ∷ r) (rows bytes n)

module _ (top : ℕ) (bytes : List ℕ) (low : AllByRecursion (λ b. b ≤ top) bytes) where
  pub rows_are_rows : (n : ℕ) → AllByRecursion (RowOf top n) (rows bytes n)
  unfolding rows
  rows_are_rows zero = ((refl, tt), tt)
  rows_are_rows (suc n) =
      all_joined (λ b. b ≤ top) (RowOf top (suc n)) (beginning bytes n)
      (λ b l. All-map (RowOf top (suc n)) (λ r. b ∷ r) (rows bytes n) (All-weaker (RowOf top n) (λ r. RowOf top (suc n) (b ∷ r)) (λ r h. (ap suc h.0, (l, h.1))) (rows bytes n) (rows_are_rows n)))
      bytes low

  -- what holds of each row behind b holds of the rows that begin with b
  all_beginning : (Q : List ℕ → Type 0) (n b : ℕ) → ((r : List ℕ) → RowOf top n r → Q (b ∷ r)) → AllByRecursion Q (beginning bytes n b)
  all_beginning Q n b h = All-map Q (λ r. b ∷ r) (rows bytes n) (All-weaker (RowOf top n) (λ r. Q (b ∷ r)) h (rows bytes n) (rows_are_rows n))

module _ (rank : ℕ → ℕ) (top : ℕ) (ranks : Ranked rank top) (bytes : List ℕ) (low : AllByRecursion (λ b. b ≤ top) bytes) (up : InOrder rank bytes) where
  -- a row that begins with b has a lower number than every row that begins with c, of higher rank
  begins_lower : (n a b c : ℕ) → rank b < rank c → (r : List ℕ) → RowOf top n r → AllByRecursion (λ y. row_number rank a (b ∷ r) < row_number rank a y) (beginning bytes n c)
  begins_lower n a b c l r h =
      all_beginning top bytes low (λ y. row_number rank a (b ∷ r) < row_number rank a y) n c
      (λ s i. lower_front rank top ranks (a * base + rank b) (a * base + rank c) r s (h.0 ∙ sym i.0) h.1 (omega arith))

  pub rows_in_order : (n a : ℕ) → InOrder (row_number rank a) (rows bytes n)
  unfolding rows
  rows_in_order zero a = (tt, tt)
  rows_in_order (suc n) a = go (λ c. rows_in_order n c) bytes up
    where
      go : ((c : ℕ) → InOrder (row_number rank c) (rows bytes n)) → (bs : List ℕ) → InOrder rank bs → InOrder (row_number rank a) (flat_map (beginning bytes n) bs)
      go ih [] o = tt
      go ih (b ∷ bs) o = ordered_append (row_number rank a) (beginning bytes n b) (flat_map (beginning bytes n) bs)
          (ordered_map (row_number rank a) (λ r. b ∷ r) (rows bytes n) (ih (a * base + rank b)))
          (go ih bs o.1)
          (all_beginning top bytes low (λ x. AllByRecursion (λ y. row_number rank a x < row_number rank a y) (flat_map (beginning bytes n) bs)) n b
          (λ r h. all_joined (λ c. rank b < rank c) (λ y. row_number rank a (b ∷ r) < row_number rank a y) (beginning bytes n) (λ c l. begins_lower n a b c l r h) bs o.0))

-- what holds of every row in the list holds of every row
pub all_rows : (bytes : List ℕ) (n : ℕ) (Q : List ℕ → Type 0) → AllByRecursion Q (rows bytes n) → (ys : List ℕ) → length ys ≡ n → AllByRecursion (Has bytes) ys → Q ys
unfolding rows
all_rows bytes zero Q h [] e i = h.0
all_rows bytes zero Q h (y ∷ ys) e i = absurd (omega arith)
all_rows bytes (suc n) Q h [] e i = absurd (omega arith)
all_rows bytes (suc n) Q h (y ∷ ys) e i =
    let fronts = all_joined_out Q (beginning bytes n) bytes h in
    let mine = all-has (λ b. AllByRecursion Q (beginning bytes n b)) bytes y fronts i.0 in
    all_rows bytes n (λ r. Q (y ∷ r)) (all_map_out Q (λ r. y ∷ r) (rows bytes n) mine) ys (omega arith) i.1
