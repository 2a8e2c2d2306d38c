-- Reading order decides every tie.
use Rattle.std.proofs.Common.{◌≡◌, ℕ, ◌<◌, ◌⊎◌, List, [], ◌∷◌, length, sym, refl, ◌∙◌, subst, inl, inr, arith}
use Rattle.std.proofs.lemmas.Bool.{cases_order}
use Rattle.plans.specs.Orders.{rank, Before, DecidesTies}

-- bytes of one rank are the same: this is all that is used of ranks
same_rank : (x y : ℕ) → rank x ≡ rank y → x ≡ y
same_rank x y e = e

not_of_itself : (xs : List ℕ) → Before xs xs → ⊥
not_of_itself [] h = h
not_of_itself (x ∷ xs) (inl h) = omega arith
not_of_itself (x ∷ xs) (inr h) = not_of_itself xs h.1

transitive : (xs ys zs : List ℕ) → Before xs ys → Before ys zs → Before xs zs
transitive [] [] zs h k = absurd h
transitive [] (y ∷ ys) zs h k = absurd h
transitive (x ∷ xs) [] zs h k = absurd h
transitive (x ∷ xs) (y ∷ ys) [] h k = absurd k
transitive (x ∷ xs) (y ∷ ys) (z ∷ zs) (inl h) (inl k) = inl (omega arith)
transitive (x ∷ xs) (y ∷ ys) (z ∷ zs) (inl h) (inr k) = inl (subst (λ w. rank x < rank w) k.0 h)
transitive (x ∷ xs) (y ∷ ys) (z ∷ zs) (inr h) (inl k) = inl (subst (λ w. rank w < rank z) (sym h.0) k)
transitive (x ∷ xs) (y ∷ ys) (z ∷ zs) (inr h) (inr k) = inr (h.0 ∙ k.0, transitive xs ys zs h.1 k.1)

-- one comes before the other, or they are the same
abbrev Compared : List ℕ → List ℕ → Type 0
Compared xs ys = Before xs ys ⊎ ((xs ≡ ys) ⊎ Before ys xs)

-- behind the same byte two plans compare as they do without it
behind : (x y : ℕ) (xs ys : List ℕ) → x ≡ y → Compared xs ys → Compared (x ∷ xs) (y ∷ ys)
behind x y xs ys e h = grind arith

total : (xs ys : List ℕ) → length xs ≡ length ys → Compared xs ys
total [] [] l = inr (inl refl)
total [] (y ∷ ys) l = absurd (omega arith)
total (x ∷ xs) [] l = absurd (omega arith)
total (x ∷ xs) (y ∷ ys) l =
    elim (cases_order (rank x) (rank y)) [
      | inl e ↦ behind x y xs ys (same_rank x y e) (total xs ys (omega arith))
      | inr (inl h) ↦ inl (inl h)
      | inr (inr h) ↦ inr (inr (inl h))
    ]

pub decides_ties : DecidesTies
decides_ties = record { not_of_itself = not_of_itself; transitive = transitive; total = total }
