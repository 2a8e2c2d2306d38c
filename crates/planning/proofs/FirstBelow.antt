-- The first that a function gives for the numbers below a limit, and the first refusal.
use Rattle.std.proofs.Common.{◌≡◌, ℕ, zero, suc, ◌+◌, ◌<◌, Some, None, Ok, Err, Option, sym, refl, ap, ◌∙◌, inl, inr, add-one, arith}
use Rattle.std.proofs.lemmas.Bool.{cases_lt}
use Rattle.model.specs.declared.refusal.Refusal.{Refusal}
use Rattle.plans.specs.Ranges.{or_else, first_below}
use Rattle.plans.specs.Prices.{or_refuse}

-- none at k and none before it
none_more : {A : Type 0} (f : ℕ → Option A) (k : ℕ) → first_below f k ≡ None → None ≡ f k → first_below f (k + 1) ≡ None
none_more f k below here = rw add-one (ap (λ o. or_else o (f k)) below ∙ sym here)

-- one at k and none before it
first_found : {A : Type 0} (f : ℕ → Option A) (x : A) (k n : ℕ) → k < n → first_below f k ≡ None → Some x ≡ f k → Some x ≡ first_below f n
first_found f x k zero l below here = absurd (omega arith)
first_found f x k (suc n) l below here =
    elim (cases_lt k n) [
      | inl h ↦ ap (λ o. or_else o (f n)) (first_found f x k n h below here)
      | inr h ↦ let e : k ≡ n = omega arith in here ∙ ap (λ o. or_else o (f k)) (sym below) ∙ ap (λ m. or_else (first_below f m) (f m)) e
    ]

-- an answer that goes on unless a question fails
module _ {C : Type 0} (done : C) where
  pub none_refused : (o : Option Refusal) → Ok done ≡ or_refuse o (Ok done) → None ≡ o
  none_refused None is = refl
  none_refused (Some x) is = cc

  pub some_refused : (o : Option Refusal) (x : Refusal) → Err x ≡ or_refuse o (Ok done) → Some x ≡ o
  some_refused None x is = cc
  some_refused (Some y) x is = cc

  -- questions that are put to the numbers in turn, up to the first refusal
  module _ (f : ℕ → Option Refusal) (k : ℕ) (below : first_below f k ≡ None) (o : Option Refusal) (same : o ≡ f k) where
    pub passed : Ok done ≡ or_refuse o (Ok done) → first_below f (k + 1) ≡ None
    passed is = none_more f k below (none_refused o is ∙ same)

    pub refused : (n : ℕ) (x : Refusal) → k < n → Err x ≡ or_refuse o (Ok done) → Err x ≡ or_refuse (first_below f n) (Ok done)
    refused n x l is = ap (λ p. or_refuse p (Ok done)) (first_found f x k n l below (some_refused o x is ∙ same))
