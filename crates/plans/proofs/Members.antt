-- Which questions stand in lists that are joined, made over a range, tested or filtered.
use Rattle.std.proofs.Common.{◌≡◌, ℕ, zero, suc, ◌<◌, Bool, true, ◌⊎◌, List, [], ◌∷◌, ◌++◌, sym, refl, ap, ◌∙◌, subst, inl, inr, ⊎_elim, arith}
use Rattle.std.proofs.lemmas.Bool.{cases_eq, and_parts, and_from, cond-true, cond_both}
use Rattle.model.specs.declared.question.Question.{Question}
use Rattle.plans.specs.Ranges.{upto, every, those}
use Rattle.plans.specs.Laws.{Among, here, later}

-- none stands in the empty list
pub among_none : {q : Question} → Among q [] → ⊥
among_none m = elim m [ ]

-- one that stands in a list is its first, or stands in the rest
pub among_first : {q x : Question} {xs : List Question} → Among q (x ∷ xs) → (q ≡ x) ⊎ Among q xs
among_first m = grind arith

-- one that is neither does not stand there
pub among_neither : {q x : Question} {xs : List Question} → (q ≡ x → ⊥) → (Among q xs → ⊥) → Among q (x ∷ xs) → ⊥
among_neither first rest m = ⊎_elim first rest (among_first m)

-- one that stands in a list of one is it
pub among_one : {q x : Question} → Among q (x ∷ []) → q ≡ x
among_one m = ⊎_elim (λ e. e) (λ n. absurd (among_none n)) (among_first m)

-- one list after another
pub among_left : {q : Question} {xs : List Question} (ys : List Question) → Among q xs → Among q (xs ++ ys)
among_left ys (here qs) = here (qs ++ ys)
among_left ys (later p qs m) = later p (qs ++ ys) (among_left ys m)

pub among_right : {q : Question} (xs : List Question) {ys : List Question} → Among q ys → Among q (xs ++ ys)
among_right [] m = m
among_right (x ∷ xs) {ys} m = later x (xs ++ ys) (among_right xs m)

pub among_either : {q : Question} (xs : List Question) {ys : List Question} → Among q (xs ++ ys) → Among q xs ⊎ Among q ys
among_either [] m = inr m
among_either {q} (x ∷ xs) {ys} m =
    elim (among_first m) [
      | inl e ↦ inl (subst (λ z. Among q (z ∷ xs)) e (here xs))
      | inr r ↦ ⊎_elim (λ l. inl (later x xs l)) inr (among_either xs r)
    ]

-- a list over the numbers below n
module _ {q : Question} (f : ℕ → List Question) where
  pub among_upto : (n k : ℕ) → k < n → Among q (f k) → Among q (upto f n)
  among_upto zero k l m = absurd (omega arith)
  among_upto (suc n) k l m =
      elim (cases_eq k n) [
        | inl e ↦ among_right (upto f n) (subst (λ j. Among q (f j)) e m)
        | inr d ↦ among_left (f n) (among_upto n k (omega arith) m)
      ]

  pub upto_among : (n : ℕ) → Among q (upto f n) → (k : ℕ) × (k < n) × Among q (f k)
  upto_among zero m = absurd (among_none m)
  upto_among (suc n) m =
      elim (among_either (upto f n) m) [
        | inl l ↦ let below = upto_among n l in (below.0, omega (arith, below.1), below.2)
        | inr r ↦ (n, omega arith, r)
      ]

module _ (f : Question → Bool) where
  -- every question passes where each that stands in the list does
  pub every_among : {q : Question} {xs : List Question} → every f xs ≡ true → Among q xs → f q ≡ true
  every_among {q} e (here qs) = (and_parts (f q) (every f qs) e).0
  every_among e (later p qs m) = every_among (and_parts (f p) (every f qs) e).1 m

  pub every_from : (xs : List Question) → ((q : Question) → Among q xs → f q ≡ true) → every f xs ≡ true
  every_from [] each = refl
  every_from (x ∷ xs) each = and_from (f x) (every f xs) (each x (here xs)) (every_from xs (λ q m. each q (later x xs m)))

  -- those that pass are the ones in the list that do
  pub among_those : {q : Question} {xs : List Question} → f q ≡ true → Among q xs → Among q (those f xs)
  among_those {q} t (here qs) = subst (λ l. Among q l) (sym (cond-true (f q) (q ∷ those f qs) (those f qs) t)) (here (those f qs))
  among_those {q} t (later p qs m) =
      let rest = among_those t m in
      cond_both (f p) (p ∷ those f qs) (those f qs) (λ l. Among q l) (λ _. later p (those f qs) rest) (λ _. rest)

  pub those_among : {q : Question} (xs : List Question) → Among q (those f xs) → Among q xs × (f q ≡ true)
  those_among [] m = absurd (among_none m)
  those_among {q} (x ∷ xs) m =
      let behind : Among q (those f xs) → Among q (x ∷ xs) × (f q ≡ true) = λ r. let there = those_among xs r in (later x xs there.0, there.1) in
      cond_both (f x) (x ∷ those f xs) (those f xs) (λ l. Among q l → Among q (x ∷ xs) × (f q ≡ true))
      (λ t first. ⊎_elim (λ e. (subst (λ z. Among q (z ∷ xs)) e (here xs), ap f e ∙ t)) behind (among_first first))
      (λ _. behind) m
