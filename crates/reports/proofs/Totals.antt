-- Sums over the numbers below n.
use Rattle.std.proofs.Common.{◌≡◌, ℕ, zero, suc, ◌+◌, ◌*◌, ◌<◌, ◌≤◌, cond, eqb, List, [], ◌∷◌, length, sum_by, refl, mul-suc, arith}
use Rattle.std.proofs.lemmas.List.Sums.{sum_by-cons, sum_by-append}
use Rattle.plans.specs.Ranges.{upto}

-- f 0 + f 1 + .. + f (n - 1)
abbrev pub total : (ℕ → ℕ) → ℕ → ℕ
total f zero = 0
total f (suc n) = total f n + f n

pub total_same : (f g : ℕ → ℕ) (n : ℕ) → ((k : ℕ) → k < n → f k ≡ g k) → total f n ≡ total g n
total_same f g zero same = refl
total_same f g (suc n) same = grind (arith, total_same f g n, same)

pub total_zero : (f : ℕ → ℕ) (n : ℕ) → ((k : ℕ) → k < n → f k ≡ 0) → total f n ≡ 0
total_zero f zero none = refl
total_zero f (suc n) none = grind (arith, total_zero f n, none)

pub total_add : (f g : ℕ → ℕ) (n : ℕ) → total (λ k. f k + g k) n ≡ total f n + total g n
total_add f g zero = refl
total_add f g (suc n) = grind (arith, total_add f g n)

pub total_le : (f : ℕ → ℕ) (m n : ℕ) → ((k : ℕ) → k < n → f k ≤ m) → total f n ≤ m * n
total_le f m zero few = omega arith
total_le f m (suc n) few = grind (arith, total_le f m n, few, mul-suc)

pub total_one : (n : ℕ) → total (λ k. 1) n ≡ n
total_one zero = refl
total_one (suc n) = grind (arith, total_one n)

-- two sums in either order
pub total_swap : (f : ℕ → ℕ → ℕ) (n m : ℕ) → total (λ i. total (f i) m) n ≡ total (λ k. total (λ i. f i k) n) m
total_swap f n zero = total_zero (λ i. 0) n (λ k h. refl)
total_swap f n (suc m) = grind (arith, total_add (λ i. total (f i) m) (λ i. f i m) n, total_swap f n m)

-- one number below n is p, and none if p is not below n
pub total_out : (p x n : ℕ) → n ≤ p → total (λ i. cond (eqb p i) x 0) n ≡ 0
total_out p x n h = total_zero _ n (λ k b. grind arith)

pub total_at : (p x n : ℕ) → p < n → total (λ i. cond (eqb p i) x 0) n ≡ x
total_at p x zero h = absurd (omega arith)
total_at p x (suc n) h = grind (arith, total_at p x n, total_out p x n)

-- the weight of a list that is made number by number
pub weight_upto : (w : ℕ → ℕ) (f : ℕ → List ℕ) (n : ℕ) → sum_by w (upto f n) ≡ total (λ k. sum_by w (f k)) n
weight_upto w f zero = refl
weight_upto w f (suc n) = grind (arith, sum_by-append, weight_upto w f n)

-- lengths as weights
pub length_sum : (xs : List ℕ) → sum_by (λ x. 1) xs ≡ length xs
length_sum [] = refl
length_sum (x ∷ xs) = omega (arith, sum_by-cons (λ (y : ℕ). 1) x xs, length_sum xs)
