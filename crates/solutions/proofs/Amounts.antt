-- The questions that pass a test as an amount of the solver's argument: open where each is open, and the row of their postings.
use Rattle.std.proofs.Common.{◌≡◌, ℕ, zero, suc, ◌<◌, Bool, true, cond, List, [], ◌∷◌, ◌++◌, map, length, Some, sym, refl, ap, ◌∙◌, ap₂, arith}
use Rattle.std.proofs.lemmas.List.{map-append}
use Rattle.std.proofs.lemmas.Bool.{and_parts, and_from}
use Rattle.costs.specs.declared.posting.Posting.{Posting}
use Rattle.costs.specs.Kinds.{Adding}
use Rattle.model.specs.declared.question.Question.{Question}
use Rattle.model.specs.Books.{Book, KeepsLimits}
use Rattle.model.specs.Studies.{Model, Limits}
use Rattle.plans.specs.Ranges.{upto, those}
use Rattle.plans.specs.Questions.{is_open}
use Rattle.plans.specs.Postings.{postings_for, plus_postings, summed}
use Rattle.plans.specs.Laws.{Among, here, later}
use Rattle.plans.proofs.Joined.{posted_of}
use Rattle.theory.specs.Entries.{Entry, adds, sum}
use Rattle.theory.specs.Amounts.{Amount, nothing, both}
use Rattle.theory.specs.Options.{posted}
use Rattle.theory.proofs.Routes.{both_assoc}
use Rattle.solutions.specs.Problems.{entry}
use Rattle.solutions.proofs.Lists.{onward}

-- ---- rows without the proofs of their limits
abbrev pub plain : List Entry → List Posting
plain = map (λ p. p.posting)

module _ {C : Type 0} (k : Adding C) where
  plain_adds : (c : C) (xs : List Entry) → plus_postings k (Some c) (plain xs) ≡ Some (adds k c xs)
  plain_adds c [] = refl
  plain_adds c (x ∷ xs) = plain_adds (k.plus c (k.post x.posting)) xs

  -- a row that is not empty sums to the same
  pub plain_sum : (xs : List Entry) → 0 < length xs → summed k (plain xs) ≡ Some (sum k xs)
  plain_sum [] l = absurd (omega arith)
  plain_sum (x ∷ xs) l = plain_adds (k.post x.posting) xs

-- ---- the amount of a posting
module _ (s : Model) (b : Book) (limits : Limits s) (kept : KeepsLimits b) where
  -- the amount of one question that passes or does not
  abbrev pub asked : Bool → Question → Amount
  asked test q = cond test (posted (entry s b limits kept q)) nothing

  -- the amount of those questions of a list that pass
  abbrev pub amount_of : (Question → Bool) → List Question → Amount
  amount_of f [] = nothing
  amount_of f (q ∷ qs) = both (asked (f q) q) (amount_of f qs)

  module _ (f : Question → Bool) where
    pub amount_append : (xs ys : List Question) → amount_of f (xs ++ ys) ≡ both (amount_of f xs) (amount_of f ys)
    amount_append [] ys = refl
    amount_append (x ∷ xs) ys = ap (both (asked (f x) x)) (amount_append xs ys) ∙ sym (both_assoc (asked (f x) x) (amount_of f xs) (amount_of f ys))

    -- lists of which none passes have no amount
    pub upto_nothing : (g : ℕ → List Question) (n : ℕ) → ((j : ℕ) → j < n → amount_of f (g j) ≡ nothing) → amount_of f (upto g n) ≡ nothing
    upto_nothing g zero h = refl
    upto_nothing g (suc n) h = amount_append (upto g n) (g n) ∙ ap₂ both (upto_nothing g n (λ j l. h j (omega arith))) (h n (omega arith))

    pub onward_nothing : (g : ℕ → List Question) (left m : ℕ) → ((j : ℕ) → m < suc j → amount_of f (g j) ≡ nothing) → amount_of f (onward g m left) ≡ nothing
    onward_nothing g zero m h = refl
    onward_nothing g (suc left) m h =
        amount_append (g m) (onward g (suc m) left) ∙ ap₂ both (h m (omega arith)) (onward_nothing g left (suc m) (λ j l. h j (omega arith)))

    -- it is open where each that passes is
    asked_open : (test : Bool) (q : Question) → (asked test q).is_open ≡ true → test ≡ true → is_open b q ≡ true
    asked_open test q h t = grind arith

    open_asked : (test : Bool) (q : Question) → (test ≡ true → is_open b q ≡ true) → (asked test q).is_open ≡ true
    open_asked test q h = grind arith

    pub amount_open : {q : Question} {qs : List Question} → (amount_of f qs).is_open ≡ true → Among q qs → f q ≡ true → is_open b q ≡ true
    amount_open {q} h (here qs) = asked_open (f q) q (and_parts (asked (f q) q).is_open (amount_of f qs).is_open h).0
    amount_open h (later p qs m) = amount_open (and_parts (asked (f p) p).is_open (amount_of f qs).is_open h).1 m

    pub open_amount : (qs : List Question) → ((q : Question) → Among q qs → f q ≡ true → is_open b q ≡ true) → (amount_of f qs).is_open ≡ true
    open_amount [] h = refl
    open_amount (q ∷ qs) h = and_from (asked (f q) q).is_open (amount_of f qs).is_open (open_asked (f q) q (h q (here qs))) (open_amount qs (λ p m. h p (later q qs m)))

    -- and its row is what those questions post
    asked_plain : (test : Bool) (q : Question) (qs : List Question) → plain (asked test q).row ++ postings_for s b qs ≡ postings_for s b (cond test (q ∷ qs) qs)
    asked_plain test q qs = grind arith

    pub amount_plain : (qs : List Question) → plain (amount_of f qs).row ≡ posted_of s b f qs
    amount_plain [] = refl
    amount_plain (q ∷ qs) =
        map-append _ (asked (f q) q).row (amount_of f qs).row ∙ ap (λ ps. plain (asked (f q) q).row ++ ps) (amount_plain qs) ∙ asked_plain (f q) q (those f qs)
