-- Lists over the numbers below n: what they share, what they skip, and how one splits at a number.
use Rattle.std.proofs.Common.{◌≡◌, ℕ, zero, suc, ◌+◌, ◌-◌, ◌<◌, ◌≤◌, List, [], ◌++◌, sym, refl, ap, ◌∙◌, append_assoc, append-nil, add-zero, add-suc, add-one, arith}
use Rattle.plans.specs.Ranges.{upto}

-- equal parts make equal lists
pub upto_same : {A : Type 0} (f g : ℕ → List A) (n : ℕ) → ((k : ℕ) → k < n → f k ≡ g k) → upto f n ≡ upto g n
upto_same f g zero same = refl
upto_same f g (suc n) same = grind (arith, upto_same f g n, same)

-- numbers that give nothing are skipped
skip_by : {A : Type 0} (f : ℕ → List A) (m d : ℕ) → ((k : ℕ) → m ≤ k → k < m + d → f k ≡ []) → upto f (m + d) ≡ upto f m
skip_by f m zero none = ap (upto f) (add-zero m)
skip_by f m (suc d) none = rw (add-suc m d, none (m + d) (omega arith) (omega arith), append-nil) (skip_by f m d (λ k low high. none k low (omega arith)))

pub upto_skip : {A : Type 0} (f : ℕ → List A) (m n : ℕ) → m ≤ n → ((k : ℕ) → m ≤ k → k < n → f k ≡ []) → upto f n ≡ upto f m
upto_skip f m n h none =
    let e : m + (n - m) ≡ n = omega arith in
    ap (upto f) (sym e) ∙ skip_by f m (n - m) (λ k low high. none k low (omega arith))

-- numbers that give nothing, and then one more
pub upto_next : {A : Type 0} (f : ℕ → List A) (m i : ℕ) → m ≤ i → ((k : ℕ) → m ≤ k → k < i → f k ≡ []) → upto f (i + 1) ≡ upto f m ++ f i
upto_next f m i h none = ap (upto f) (add-one i) ∙ ap (λ l. l ++ f i) (upto_skip f m i h none)

-- what comes before the part of i, that part, and what comes after
after_by : {A : Type 0} (f : ℕ → List A) (i d : ℕ) → (ys : List A) × (upto f (suc i + d) ≡ upto f i ++ (f i ++ ys))
after_by f i zero = ([], ap (upto f) (add-zero (suc i)) ∙ ap (λ l. upto f i ++ l) (sym (append-nil (f i))))
after_by f i (suc d) = let r = after_by f i d in (r.0 ++ f (suc i + d), simp (add-suc, r.1, append_assoc))

pub upto_split : {A : Type 0} (f : ℕ → List A) (i n : ℕ) → i < n → (ys : List A) × (upto f n ≡ upto f i ++ (f i ++ ys))
upto_split f i n h =
    let e : suc i + (n - suc i) ≡ n = omega arith in
    let r = after_by f i (n - suc i) in
    (r.0, ap (upto f) (sym e) ∙ r.1)
