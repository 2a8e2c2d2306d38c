-- Two equal lists that begin with what passes a test, and go on with what does not, are equal part by part; decimal digits.
use Rattle.std.proofs.Common.{◌≡◌, ℕ, ◌+◌, ◌%◌, ◌^◌, ◌<◌, ◌≤◌, List, [], ◌∷◌, ◌++◌, get_or, decimal, sym, refl, ap, subst, arith}
use Rattle.std.specs.List.{AllByRecursion}
use Rattle.std.proofs.lemmas.Fmt.{decimal_by_steps, decimal_injective}
use Rattle.std.proofs.ByRecursion.{All-append}

pub split_same : (P : ℕ → Type 0) (xs ys a b : List ℕ) → AllByRecursion P xs → AllByRecursion P ys → (P (get_or a 0 0) → ⊥) → (P (get_or b 0 0) → ⊥) → xs ++ a ≡ ys ++ b → (xs ≡ ys) × (a ≡ b)
split_same P [] [] a b p q na nb e = (refl, e)
split_same P [] (y ∷ ys) a b p q na nb e = absurd (na (subst P (sym (ap (λ l. get_or l 0 0) e)) q.0))
split_same P (x ∷ xs) [] a b p q na nb e = absurd (nb (subst P (ap (λ l. get_or l 0 0) e) p.0))
split_same P (x ∷ xs) (y ∷ ys) a b p q na nb e =
    let head : x ≡ y = cc in
    let tail : xs ++ a ≡ ys ++ b = cc in
    let rest = split_same P xs ys a b p.1 q.1 na nb tail in
    (cc rest.0, rest.1)

-- the bytes of a number in decimal digits
pub digits : (n : ℕ) → n < 2 ^ 64 → AllByRecursion (λ b. (48 ≤ b) × (b ≤ 57)) (decimal n)
digits n fits =
    decimal_by_steps (λ m ds. AllByRecursion (λ b. (48 ≤ b) × (b ≤ 57)) ds)
    (λ m h. ((omega arith, omega arith), tt))
    (λ m ds h all. All-append (λ b. (48 ≤ b) × (b ≤ 57)) ds ((48 + m % 10) ∷ []) all ((omega arith, omega arith), tt))
    n fits

-- two numbers in decimal digits, each followed by no digit
pub number_same : (m n : ℕ) (a b : List ℕ) → m < 2 ^ 64 → n < 2 ^ 64 → get_or a 0 0 < 48 → get_or b 0 0 < 48 → decimal m ++ a ≡ decimal n ++ b → (m ≡ n) × (a ≡ b)
number_same m n a b p q la lb e =
    let r = split_same (λ c. (48 ≤ c) × (c ≤ 57)) (decimal m) (decimal n) a b (digits m p) (digits n q) (λ d. let low = d.0 in omega arith) (λ d. let low = d.0 in omega arith) e in
    (decimal_injective m n p q r.0, r.1)
