-- What a row of the survey adds is what the plan uses of the row's questions.
use Rattle.std.proofs.Common.{◌≡◌, ℕ, zero, suc, ◌≤◌, Bool, true, false, cond, ltb, leb, List, [], ◌∷◌, ◌++◌, None, sym, refl, ap, ◌∙◌, append_assoc, append-nil, arith}
use Rattle.costs.specs.declared.posting.Posting.{Posting}
use Rattle.model.specs.declared.question.Question.{Question}
use Rattle.model.specs.declared.question.Question.TheVariants.{OfOption, OfResource}
use Rattle.model.specs.declared.question.RepairOption.{RepairOption}
use Rattle.model.specs.declared.question.RepairOption.TheVariants.{Discard, Repair, Move}
use Rattle.model.specs.Books.{Book}
use Rattle.model.specs.Studies.{Model, Limits}
use Rattle.plans.specs.Ranges.{upto, those}
use Rattle.plans.specs.Questions.{echelon_questions, component_questions, resource_questions}
use Rattle.plans.specs.Postings.{posting, postings_for}
use Rattle.plans.specs.Starts.{byte, start}
use Rattle.plans.specs.Uses.{uses}
use Rattle.plans.proofs.Joined.{posting_front, posted_append}
use Rattle.planning.specs.Surveys.{no_choices, option_row, resource_row, choices_of, pair_posting}
use Rattle.planning.specs.Sums.{if_used, at_echelon, of_component, of_resource, used_postings}

-- f at echelon e, nothing past the last
abbrev pub shown : {A : Type 0} → ℕ → (ℕ → List A) → ℕ → List A
shown last f e = cond (leb e last) (f e) []

-- the echelons from 1 to the last are the first four, with nothing past the last
pub upto_four : {A : Type 0} (f : ℕ → List A) (last : ℕ) → last ≤ 4 → upto (λ k. f (suc k)) last ≡ shown last f 1 ++ (shown last f 2 ++ (shown last f 3 ++ shown last f 4))
upto_four f zero h = refl
upto_four f (suc zero) h = sym (append-nil (f 1))
upto_four f (suc (suc zero)) h = ap (λ xs. f 1 ++ xs) (sym (append-nil (f 2)))
upto_four f (suc (suc (suc zero))) h = append_assoc (f 1) (f 2) (f 3) ∙ ap (λ xs. f 1 ++ (f 2 ++ xs)) (sym (append-nil (f 3)))
upto_four f (suc (suc (suc (suc zero)))) h = append_assoc (f 1 ++ f 2) (f 3) (f 4) ∙ append_assoc (f 1) (f 2) (f 3 ++ f 4)
upto_four f (suc (suc (suc (suc (suc n))))) h = absurd (omega arith)

-- what is not open adds nothing
pub if_used_none : (t : Bool) → if_used t None ≡ []
if_used_none true = refl
if_used_none false = refl

module _ (s : Model) (b : Book) (plan : List ℕ) where
  -- what one question adds, and a list of them
  abbrev own : Question → List Posting
  own q = if_used (uses s plan q) (posting s b q)

  abbrev owns : List Question → List Posting
  owns [] = []
  owns (q ∷ qs) = own q ++ owns qs

  owns_front : (t : Bool) (q : Question) (qs : List Question) → if_used t (posting s b q) ++ postings_for s b qs ≡ postings_for s b (cond t (q ∷ qs) qs)
  owns_front true q qs = sym (posting_front (posting s b q) [] (postings_for s b qs))
  owns_front false q qs = refl

  owns_used : (qs : List Question) → owns qs ≡ used_postings s b plan qs
  owns_used [] = refl
  owns_used (q ∷ qs) = ap (λ ps. own q ++ ps) (owns_used qs) ∙ owns_front (uses s plan q) q (those (uses s plan) qs)

  -- one echelon of a component: whether it is within the last, and whether the component can be moved from it
  echelon_used : (i e : ℕ) (within more : Bool) → at_echelon (start s plan i) (byte plan i) e (cond within (record { discard = posting s b (OfOption i e Discard); repair = posting s b (OfOption i e Repair); moving = cond more (posting s b (OfOption i e Move)) None }) no_choices) ≡ used_postings s b plan (cond within (OfOption i e Discard ∷ OfOption i e Repair ∷ cond more (OfOption i e Move ∷ []) []) [])
  echelon_used i e true true =
      let d = OfOption i e Discard in
      let r = OfOption i e Repair in
      let m = OfOption i e Move in
      ap (λ ps. own d ++ (own r ++ ps)) (sym (append-nil (own m))) ∙ owns_used (d ∷ r ∷ m ∷ [])
  echelon_used i e true false =
      let d = OfOption i e Discard in
      let r = OfOption i e Repair in
      ap (λ ps. own d ++ (own r ++ ps)) (if_used_none (uses s plan (OfOption i e Move))) ∙ owns_used (d ∷ r ∷ [])
  echelon_used i e false more =
      let none : (o : RepairOption) → if_used (uses s plan (OfOption i e o)) None ≡ [] = λ o. if_used_none (uses s plan (OfOption i e o)) in
      let d = none Discard in
      let r = none Repair in
      let m = none Move in
      cc

  -- one echelon of a resource
  pair_used : (r e : ℕ) (within : Bool) → if_used (uses s plan (OfResource r e)) (cond within (posting s b (OfResource r e)) None) ≡ used_postings s b plan (cond within (OfResource r e ∷ []) [])
  pair_used r e true = sym (append-nil (own (OfResource r e))) ∙ owns_used (OfResource r e ∷ [])
  pair_used r e false = if_used_none (uses s plan (OfResource r e))

  pub used_append : (xs ys : List Question) → used_postings s b plan (xs ++ ys) ≡ used_postings s b plan xs ++ used_postings s b plan ys
  used_append xs ys = posted_append s b (uses s plan) xs ys

  -- four echelons, each with what the plan uses of it, are what it uses up to the last
  four_used : (f : ℕ → List Posting) (q : ℕ → List Question) (last : ℕ) → last ≤ 4 → ((e : ℕ) → f e ≡ used_postings s b plan (shown last q e)) → f 1 ++ (f 2 ++ (f 3 ++ f 4)) ≡ used_postings s b plan (upto (λ k. q (suc k)) last)
  four_used f q last few each =
      let w = shown last q 1 in
      let x = shown last q 2 in
      let y = shown last q 3 in
      let z = shown last q 4 in
      let a = used_append w (x ++ (y ++ z)) in
      let a' = used_append x (y ++ z) in
      let a'' = used_append y z in
      let one = each 1 in
      let two = each 2 in
      let three = each 3 in
      let four = each 4 in
      let whole = ap (used_postings s b plan) (upto_four q last few) in
      cc

  pub component_used : (i : ℕ) → Limits s → of_component (start s plan i) (byte plan i) (option_row s b i) ≡ used_postings s b plan (component_questions s.echelons i)
  component_used i l =
      four_used (λ e. at_echelon (start s plan i) (byte plan i) e (choices_of s b i e)) (λ e. echelon_questions s.echelons i e) s.echelons l.few_echelons
      (λ e. echelon_used i e (leb e s.echelons) (ltb e s.echelons))

  pub resource_used : (r : ℕ) → Limits s → of_resource (λ e. uses s plan (OfResource r e)) (resource_row s b r) ≡ used_postings s b plan (resource_questions s.echelons r)
  resource_used r l =
      four_used (λ e. if_used (uses s plan (OfResource r e)) (pair_posting s b r e)) (λ e. OfResource r e ∷ []) s.echelons l.few_echelons
      (λ e. pair_used r e (leb e s.echelons))
