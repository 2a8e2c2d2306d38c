-- A row of bytes, and the same bytes by component: what they post, what they need, and their number are the same.
use Rattle.std.proofs.Common.{◌≡◌, ℕ, zero, suc, ◌+◌, ◌*◌, ◌<◌, ◌≤◌, ◌||◌, List, [], ◌∷◌, ◌++◌, length, get_or, take, sym, refl, ap, ◌∙◌, ap₂, ⊎_elim, add-one, arith, length-append}
use Rattle.std.specs.List.{AllByRecursion}
use Rattle.std.proofs.lemmas.List.{take_more, take_all, get_or_push, get_or_append_left, get_or_past}
use Rattle.std.proofs.lemmas.List.Sums.{fold-append}
use Rattle.std.proofs.ByRecursion.{All-from_get_or}
use Rattle.std.proofs.lemmas.Bool.{cases_eq, cases_lt}
use Rattle.theory.specs.Amounts.{nothing}
use Rattle.theory.specs.Ranks.{base}
use Rattle.theory.specs.Breakdowns.{spent, number}
use Rattle.theory.specs.Tables.{Table, Sound, breakdown}
use Rattle.theory.specs.Needs.{Needs, own_needs, needed}
use Rattle.theory.specs.ReadingOrder.{row_number}
use Rattle.theory.specs.Problems.{bytes_of, row_of}
use Rattle.theory.proofs.Totals.{total_is_spent, total_same}
use Rattle.theory.proofs.Tables.{regular}

-- ---- from bytes by component to a row and back
pub row_length : (a : ℕ → ℕ) (n : ℕ) → length (row_of n a) ≡ n
row_length a zero = refl
row_length a (suc n) = omega (arith, length-append (row_of n a) (a (suc n) ∷ []), row_length a n)

row_at : (a : ℕ → ℕ) (n i : ℕ) → i < n → get_or (row_of n a) i 0 ≡ a (suc i)
row_at a zero i l = absurd (omega arith)
row_at a (suc n) i l =
    let e = row_length a n in
    ⊎_elim
    (λ is. get_or_push (row_of n a) (a (suc n)) 0 i (e ∙ sym is) ∙ ap (λ j. a (suc j)) (sym is))
    (λ d. get_or_append_left (row_of n a) (a (suc n) ∷ []) 0 i (omega arith) ∙ row_at a n i (omega arith))
    (cases_eq i n)

pub row_bytes : (a : ℕ → ℕ) (n : ℕ) → a 0 ≡ 0 → (i : ℕ) → i ≤ n → bytes_of (row_of n a) i ≡ a i
row_bytes a n whole zero l = sym whole
row_bytes a n whole (suc i) l = row_at a n i l

row_take : (r : List ℕ) (n : ℕ) → n ≤ length r → row_of n (bytes_of r) ≡ take n r
row_take r zero l = refl
row_take r (suc n) l = ap (λ x. x ++ get_or r n 0 ∷ []) (row_take r n (omega arith)) ∙ sym (take_more r n 0 l) ∙ ap (λ j. take j r) (add-one n)

pub row_back : (r : List ℕ) (n : ℕ) → length r ≡ n → row_of n (bytes_of r) ≡ r
row_back r n e = row_take r n (omega arith) ∙ take_all n r (omega arith)

-- ---- their number
pub number_of_row : (rank : ℕ → ℕ) (a : ℕ → ℕ) (n : ℕ) → row_number rank 0 (row_of n a) ≡ number rank n a
number_of_row rank a zero = refl
number_of_row rank a (suc n) = fold-append _ 0 (row_of n a) (a (suc n) ∷ []) ∙ ap (λ x. x * base + rank (a (suc n))) (number_of_row rank a n)

pub number_of_bytes : (rank : ℕ → ℕ) (r : List ℕ) (n : ℕ) → length r ≡ n → row_number rank 0 r ≡ number rank n (bytes_of r)
number_of_bytes rank r n e = ap (row_number rank 0) (sym (row_back r n e)) ∙ number_of_row rank (bytes_of r) n

-- ---- what they post and need
module _ (g : Table) (ok : Sound g) where
  pub spent_same : (a b : ℕ → ℕ) (n : ℕ) → ((i : ℕ) → i ≤ n → a i ≡ b i) → spent (breakdown g) n a ≡ spent (breakdown g) n b
  spent_same a b n h = sym (total_is_spent (breakdown g) a n) ∙ total_same (breakdown g) (regular g ok) (λ _ _. nothing) a b n h ∙ total_is_spent (breakdown g) b n

  pub needed_same : (u : ℕ → Needs) (a b : ℕ → ℕ) (j n : ℕ) → ((i : ℕ) → i ≤ n → a i ≡ b i) → needed g u n a j ≡ needed g u n b j
  needed_same u a b j zero h = refl
  needed_same u a b j (suc n) h =
      let up = ok.after_parent n in
      let t = breakdown g in
      ap₂ ◌||◌ (needed_same u a b j n (λ i l. h i (omega arith))) (ap₂ (λ p v. own_needs g u (suc n) (t.enter (suc n) (t.repairs p)) v j) (h (g.parent (suc n)) (omega arith)) (h (suc n) (omega arith)))

  -- bytes up to the greatest, given those of the row's components
  pub bytes_up_to : (r : List ℕ) (n top : ℕ) → length r ≡ n → ((i : ℕ) → i < n → bytes_of r (suc i) ≤ top) → ((i : ℕ) → bytes_of r i ≤ top) × AllByRecursion (λ b. b ≤ top) r
  bytes_up_to r n top e h =
      ((λ i. by i), All-from_get_or (λ b. b ≤ top) r 0 (λ i l. h i (omega arith)))
    where
      by : (i : ℕ) → bytes_of r i ≤ top
      by zero = omega arith
      by (suc i) = ⊎_elim (λ l. h i l) (λ l. let d = get_or_past r i 0 (omega arith) in omega arith) (cases_lt i n)
