-- Tests and first finds over the numbers below n.
use Rattle.std.proofs.Common.{◌≡◌, ℕ, zero, suc, ◌<◌, Bool, true, None, Option, sym, refl, ap, ◌∙◌, inl, inr, arith}
use Rattle.std.proofs.lemmas.Bool.{cases_eq, or_left, or_right, or_cases, false≢true}
use Rattle.plans.specs.Ranges.{some_below, or_else, first_below}

-- some number below n passes
module _ (f : ℕ → Bool) where
  pub some_passes : (n k : ℕ) → k < n → f k ≡ true → some_below f n ≡ true
  some_passes zero k l h = absurd (omega arith)
  some_passes (suc n) k l h =
      elim (cases_eq k n) [
        | inl e ↦ or_right (some_below f n) (f n) (ap f (sym e) ∙ h)
        | inr d ↦ or_left (some_below f n) (f n) (some_passes n k (omega arith) h)
      ]

  pub which_passes : (n : ℕ) → some_below f n ≡ true → (k : ℕ) × (k < n) × (f k ≡ true)
  which_passes zero h = absurd (false≢true h)
  which_passes (suc n) h =
      elim (or_cases (some_below f n) (f n) h) [
        | inl l ↦ let below = which_passes n l in (below.0, omega (arith, below.1), below.2)
        | inr r ↦ (n, omega arith, r)
      ]

-- none is the first of two where neither is
neither : {A : Type 0} (x y : Option A) → or_else x y ≡ None → (x ≡ None) × (y ≡ None)
neither x y h = grind arith

-- no number below n gives anything where the first is none
module _ {A : Type 0} (f : ℕ → Option A) where
  pub none_below : (n : ℕ) → first_below f n ≡ None → (i : ℕ) → i < n → f i ≡ None
  none_below zero h i l = absurd (omega arith)
  none_below (suc n) h i l =
      let both = neither (first_below f n) (f n) h in
      elim (cases_eq i n) [ inl e ↦ ap f e ∙ both.1 | inr d ↦ none_below n both.0 i (omega arith) ]

  pub first_none : (n : ℕ) → ((i : ℕ) → i < n → f i ≡ None) → first_below f n ≡ None
  first_none zero h = refl
  first_none (suc n) h = ap (λ x. or_else x (f n)) (first_none n (λ i l. h i (omega arith))) ∙ h n (omega arith)
