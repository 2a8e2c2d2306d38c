-- Lists over a range: from a number on, a range in two parts, and a range of rows by one number.
use Rattle.std.proofs.Common.{◌≡◌, ℕ, zero, suc, ◌+◌, ◌*◌, ◌/◌, ◌%◌, ◌<◌, List, [], ◌++◌, sym, refl, ap, ◌∙◌, ap₂, append_assoc, append-nil, add-zero, add-suc, suc-mul, arith}
use Rattle.std.proofs.lemmas.Nat.{div-mul-add, mod-mul-add}
use Rattle.plans.specs.Ranges.{upto}

module _ {A : Type 0} where
  -- f m, f (m + 1), and so on, so many of them
  abbrev pub onward : (ℕ → List A) → ℕ → ℕ → List A
  onward f m zero = []
  onward f m (suc left) = f m ++ onward f (suc m) left

  -- the numbers below m, and then so many from m on
  pub upto_onward : (f : ℕ → List A) (left m n : ℕ) → m + left ≡ n → upto f n ≡ upto f m ++ onward f m left
  upto_onward f zero m n e = ap (upto f) (sym e ∙ add-zero m) ∙ sym (append-nil (upto f m))
  upto_onward f (suc left) m n e = upto_onward f left (suc m) n (omega arith) ∙ append_assoc (upto f m) (f m) (onward f (suc m) left)

  upto_same : (f g : ℕ → List A) (n : ℕ) → ((j : ℕ) → j < n → f j ≡ g j) → upto f n ≡ upto g n
  upto_same f g zero h = refl
  upto_same f g (suc n) h = ap₂ ◌++◌ (upto_same f g n (λ j l. h j (omega arith))) (h n (omega arith))

  upto_add : (f : ℕ → List A) (m n : ℕ) → upto f (m + n) ≡ upto f m ++ upto (λ k. f (m + k)) n
  upto_add f m zero = ap (upto f) (add-zero m) ∙ sym (append-nil (upto f m))
  upto_add f m (suc n) =
      ap (upto f) (add-suc m n) ∙ ap (λ xs. xs ++ f (m + n)) (upto_add f m n)
      ∙ append_assoc (upto f m) (upto (λ k. f (m + k)) n) (f (m + n))

  -- n rows of w are one range of n * w, by row and place
  pub upto_rows : (h : ℕ → ℕ → List A) (w n : ℕ) → upto (λ r. upto (h r) w) n ≡ upto (λ j. h (j / w) (j % w)) (n * w)
  upto_rows h w zero = ap (upto (λ j. h (j / w) (j % w))) (let e : 0 ≡ 0 * w = omega arith in e)
  upto_rows h w (suc n) =
      let f : ℕ → List A = λ j. h (j / w) (j % w) in
      let row = upto_same (h n) (λ k. f (n * w + k)) w (λ k l. sym (ap₂ h (div-mul-add n w k l) (mod-mul-add n w k l))) in
      ap₂ ◌++◌ (upto_rows h w n) row ∙ sym (upto_add f (n * w) w) ∙ ap (upto f) (sym (suc-mul n w))
