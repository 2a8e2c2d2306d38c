-- Lists in which no question stands twice.
use Rattle.std.proofs.Common.{◌≡◌, ℕ, zero, suc, Bool, List, [], ◌∷◌, ◌++◌, ⊎_elim, arith}
use Rattle.std.proofs.lemmas.Bool.{cond_both}
use Rattle.model.specs.declared.question.Question.{Question}
use Rattle.plans.specs.Ranges.{upto, those}
use Rattle.plans.specs.Laws.{Among, here, later, Distinct}
use Rattle.plans.proofs.Members.{among_either, upto_among, those_among}

-- no question stands in both lists
abbrev pub Apart : List Question → List Question → Type 0
Apart xs ys = (q : Question) → Among q xs → Among q ys → ⊥

pub distinct_append : (xs ys : List Question) → Distinct xs → Distinct ys → Apart xs ys → Distinct (xs ++ ys)
distinct_append [] ys d e apart = e
distinct_append (x ∷ xs) ys d e apart =
    (λ m. ⊎_elim d.0 (apart x (here xs)) (among_either xs m), distinct_append xs ys d.1 e (λ q m. apart q (later x xs m)))

-- lists over a range, where each question carries the number of the list that it stands in, counted from 1
pub distinct_upto :
    (f : ℕ → List Question) (number : Question → ℕ) → ((k : ℕ) → Distinct (f k))
    → ((k : ℕ) (q : Question) → Among q (f k) → number q ≡ suc k) → (n : ℕ) → Distinct (upto f n)
distinct_upto f number each carried zero = tt
distinct_upto f number each carried (suc n) = distinct_append (upto f n) (f n) (distinct_upto f number each carried n) (each n) apart
  where
    apart : Apart (upto f n) (f n)
    apart q m own = let below = upto_among f n m in omega (arith, below.1, carried below.0 q below.2, carried n q own)

pub distinct_those : (f : Question → Bool) (xs : List Question) → Distinct xs → Distinct (those f xs)
distinct_those f [] d = tt
distinct_those f (x ∷ xs) d =
    let rest = distinct_those f xs d.1 in
    cond_both (f x) (x ∷ those f xs) (those f xs) Distinct (λ _. (λ m. d.0 (those_among f xs m).0, rest)) (λ _. rest)
