-- The pairs of a resource and an echelon by number: the amount of those that are needed.
use Rattle.std.proofs.Common.{◌≡◌, ℕ, zero, suc, ◌*◌, ◌<◌, Bool, true, cond, not, ◌&&◌, ◌||◌, List, [], ◌∷◌, ◌++◌, sym, refl, ap, ◌∙◌, ap₂, arith}
use Rattle.std.proofs.lemmas.Bool.{and_parts}
use Rattle.model.specs.declared.question.Question.{Question}
use Rattle.model.specs.declared.question.Question.TheVariants.{OfResource}
use Rattle.model.specs.Books.{Book, KeepsLimits}
use Rattle.model.specs.Studies.{Model, Limits}
use Rattle.plans.specs.Ranges.{upto}
use Rattle.plans.specs.Questions.{pair_questions, is_open}
use Rattle.theory.specs.Amounts.{Amount, both}
use Rattle.theory.specs.Marks.{blocked}
use Rattle.theory.specs.Problems.{Problem}
use Rattle.theory.specs.Searches.{pair_postings}
use Rattle.theory.proofs.Routes.{both_nothing}
use Rattle.solutions.specs.Pairs.{pair_question}
use Rattle.solutions.specs.Problems.{problem}
use Rattle.solutions.proofs.Lists.{upto_rows}
use Rattle.solutions.proofs.Amounts.{asked, amount_of, amount_append}

-- the pairs below n, by number
abbrev pub pairs_below : Model → ℕ → List Question
pairs_below s n = upto (λ j. pair_question s.echelons j ∷ []) n

-- the pairs by resource and echelon are one range
pub pairs_by_number : (s : Model) → pair_questions s ≡ pairs_below s (s.resources * s.echelons)
pairs_by_number s = upto_rows (λ r k. OfResource r (suc k) ∷ []) s.echelons s.resources

not_or : (x y : Bool) → not (x || y) ≡ not x && not y
not_or x y = grind arith

-- a pair that is needed and closed, or else open
not_shut : (needs opens : Bool) → not (needs && not opens) ≡ cond needs opens true
not_shut needs opens = grind arith

module _ (s : Model) (b : Book) (limits : Limits s) (kept : KeepsLimits b) (f : Question → Bool) where
  abbrev y : Problem
  y = problem s b limits kept

  -- the amount with one pair more
  one_more : (n : ℕ) → amount_of s b limits kept f (pairs_below s (suc n)) ≡ both (amount_of s b limits kept f (pairs_below s n)) (asked s b limits kept (f (pair_question s.echelons n)) (pair_question s.echelons n))
  one_more n =
      let q = pair_question s.echelons n in
      amount_append s b limits kept f (pairs_below s n) (q ∷ [])
      ∙ ap (both (amount_of s b limits kept f (pairs_below s n))) (both_nothing (asked s b limits kept (f q) q))

  asked_is_open : (test : Bool) (q : Question) → cond test (is_open b q) true ≡ (asked s b limits kept test q).is_open
  asked_is_open test q = grind arith

  -- no pair that is needed is closed exactly where the amount is open
  pub clear_is_open : (needs : ℕ → Bool) (n : ℕ) → ((j : ℕ) → j < n → needs j ≡ f (pair_question s.echelons j)) → not (blocked y.is_closed needs n) ≡ (amount_of s b limits kept f (pairs_below s n)).is_open
  clear_is_open needs zero h = refl
  clear_is_open needs (suc n) h =
      let q = pair_question s.echelons n in
      not_or (blocked y.is_closed needs n) (needs n && y.is_closed n)
      ∙ ap₂ ◌&&◌ (clear_is_open needs n (λ j l. h j (omega arith)))
      (not_shut (needs n) (is_open b q) ∙ ap (λ t. cond t (is_open b q) true) (h n (omega arith)) ∙ asked_is_open (f q) q)
      ∙ sym (ap (λ (x : Amount). x.is_open) (one_more n))

  asked_row : (test : Bool) (n : ℕ) → (asked s b limits kept test (pair_question s.echelons n)).is_open ≡ true → (asked s b limits kept test (pair_question s.echelons n)).row ≡ cond test (y.pair n ∷ []) []
  asked_row test n h = grind arith

  -- and then it posts what the pairs post by number
  pub pairs_post : (needs : ℕ → Bool) (n : ℕ) → ((j : ℕ) → j < n → needs j ≡ f (pair_question s.echelons j)) → (amount_of s b limits kept f (pairs_below s n)).is_open ≡ true → pair_postings y.pair needs n ≡ (amount_of s b limits kept f (pairs_below s n)).row
  pairs_post needs zero h e = refl
  pairs_post needs (suc n) h e =
      let q = pair_question s.echelons n in
      let two = and_parts (amount_of s b limits kept f (pairs_below s n)).is_open (asked s b limits kept (f q) q).is_open (sym (ap (λ (x : Amount). x.is_open) (one_more n)) ∙ e) in
      ap₂ ◌++◌ (pairs_post needs n (λ j l. h j (omega arith)) two.0)
      (ap (λ t. cond t (y.pair n ∷ []) []) (h n (omega arith)) ∙ sym (asked_row (f q) n two.1))
      ∙ sym (ap (λ (x : Amount). x.row) (one_more n))
