-- Rows of bytes in reading order have rising numbers, and of two rows of one length one comes first.
use Rattle.std.proofs.Common.{◌≡◌, ℕ, ◌+◌, ◌*◌, ◌<◌, ◌≤◌, ◌⊎◌, List, [], ◌∷◌, length, sym, refl, ap, ◌∙◌, subst, inl, inr, ⊎_elim, arith}
use Rattle.std.specs.List.{AllByRecursion}
use Rattle.std.proofs.lemmas.Bool.{cases_order}
use Rattle.theory.specs.Ranks.{base, Ranked}
use Rattle.theory.specs.ReadingOrder.{Before, row_number}

module _ (rank : ℕ → ℕ) (top : ℕ) (ranks : Ranked rank top) where
  -- a lower number in front stays lower, whatever follows
  pub lower_front : (a c : ℕ) (xs ys : List ℕ) → length xs ≡ length ys → AllByRecursion (λ b. b ≤ top) xs → a < c → row_number rank a xs < row_number rank c ys
  lower_front a c [] [] e h l = l
  lower_front a c [] (y ∷ ys) e h l = absurd (omega arith)
  lower_front a c (x ∷ xs) [] e h l = absurd (omega arith)
  lower_front a c (x ∷ xs) (y ∷ ys) e h l = lower_front (a * base + rank x) (c * base + rank y) xs ys (omega arith) h.1 (omega (arith, ranks.below x h.0))

  pub before_is_lower : (a : ℕ) (xs ys : List ℕ) → length xs ≡ length ys → AllByRecursion (λ b. b ≤ top) xs → Before rank xs ys → row_number rank a xs < row_number rank a ys
  before_is_lower a [] [] e h b = absurd b
  before_is_lower a [] (y ∷ ys) e h b = absurd b
  before_is_lower a (x ∷ xs) [] e h b = absurd b
  before_is_lower a (x ∷ xs) (y ∷ ys) e h b = ⊎_elim
      (λ l. lower_front (a * base + rank x) (a * base + rank y) xs ys (omega arith) h.1 (omega arith))
      (λ s. subst (λ v. row_number rank (a * base + rank x) xs < row_number rank (a * base + rank v) ys) s.0 (before_is_lower (a * base + rank x) xs ys (omega arith) h.1 s.1))
      b

  pub one_is_before : (xs ys : List ℕ) → length xs ≡ length ys → AllByRecursion (λ b. b ≤ top) xs → AllByRecursion (λ b. b ≤ top) ys → (xs ≡ ys) ⊎ (Before rank xs ys ⊎ Before rank ys xs)
  one_is_before [] [] e h i = inl refl
  one_is_before [] (y ∷ ys) e h i = absurd (omega arith)
  one_is_before (x ∷ xs) [] e h i = absurd (omega arith)
  one_is_before (x ∷ xs) (y ∷ ys) e h i = ⊎_elim
      (λ s. let same = ranks.told_apart x y h.0 i.0 s in
      ⊎_elim
      (λ t. inl (ap (λ v. v ∷ xs) same ∙ ap (λ v. y ∷ v) t))
      (λ t. inr (⊎_elim (λ b. inl (inr (same, b))) (λ b. inr (inr (sym same, b))) t))
      (one_is_before xs ys (omega arith) h.1 i.1))
      (λ o. inr (⊎_elim (λ l. inl (inl l)) (λ l. inr (inl l)) o))
      (cases_order (rank x) (rank y))

  -- a row whose number is not higher is the same row or comes before
  pub first_of_two : (xs ys : List ℕ) → length xs ≡ length ys → AllByRecursion (λ b. b ≤ top) xs → AllByRecursion (λ b. b ≤ top) ys → row_number rank 0 xs ≤ row_number rank 0 ys → (xs ≡ ys) ⊎ Before rank xs ys
  first_of_two xs ys e h i l = ⊎_elim inl
      (λ o. ⊎_elim inr (λ b. absurd (omega (arith, before_is_lower 0 ys xs (sym e) i b))) o)
      (one_is_before xs ys e h i)
