-- The three ways in which a search answers, by the three rules of the argument.
use Rattle.std.proofs.Common.{◌≡◌, ℕ, suc, ◌+◌, ◌*◌, ◌/◌, ◌%◌, ◌<◌, ◌≤◌, Bool, true, false, cond, eqb, List, length, take, Some, None, Option, sym, refl, ap, ◌∙◌, subst, mod-lt, div-lt_iff_lt-mul}
use Rattle.std.proofs.lemmas.Bool.{false≢true, and_parts, or_right}
use Rattle.costs.specs.Kinds.{Adding, Laws}
use Rattle.model.specs.Books.{Book, KeepsLimits}
use Rattle.model.specs.Studies.{Model, Limits}
use Rattle.model.specs.declared.question.Question.TheVariants.{OfResource}
use Rattle.plans.specs.Questions.{count}
use Rattle.plans.specs.Uses.{uses}
use Rattle.planning.specs.declared.table.Survey.{Survey}
use Rattle.planning.specs.Surveys.{Keeps}
use Rattle.theory.specs.Entries.{sum}
use Rattle.theory.specs.Amounts.{Amount, value, Known, precedes}
use Rattle.theory.specs.Searches.{Best as Found-plan, Walk, Walked, with_pairs, bound, ahead, Found}
use Rattle.theory.specs.Rules.{Rules}
use Rattle.theory.specs.Problems.{Problem, Proper, walk, plans, options_of, needs_of}
use Rattle.theory.proofs.Precedence.{known}
use Rattle.theory.proofs.Pairs.{pairs_fit}
use Rattle.theory.proofs.Problems.{countable, walk_answers}
use Rattle.theory.proofs.Searches.{rules}
use Rattle.solutions.specs.Problems.{problem}
use Rattle.solving.specs.declared.best.Best.{Best}
use Rattle.solving.specs.declared.mark.Mark.{Mark}
use Rattle.solving.specs.declared.mark.Mark.TheVariants.{Held, Free, Shut}
use Rattle.solving.specs.Marked.{is_held, is_shut, mark_of, held_pairs, shut_pairs, marking}
use Rattle.solving.specs.Finds.{best_of, Searches, ShutsClosed}
use Rattle.solving.specs.Bounds.{Ahead, Bounds}
use Rattle.solving.specs.Chosen.{NoneFree, IsFree}
use Rattle.solutions.proofs.Proper.{problem_proper}
use Rattle.solving.proofs.Needed.{needs_used}
use Rattle.solving.proofs.PairNumbers.{passes_with, passes_same}

-- what comes before something has a cost
ahead_open : {C : Type 0} (k : Adding C) (lower : C → C → Bool) (a : Amount) (x : ℕ) (v : Option C) (z : ℕ) → precedes lower (value k a) x v z ≡ true → a.is_open ≡ true
ahead_open {C} k lower a x v z = go a.is_open v
  where
    go : (o : Bool) (u : Option C) → precedes lower (cond o (Some (sum k a.row)) None) x u z ≡ true → o ≡ true
    go true u e = refl
    go false None e = absurd (false≢true e)
    go false (Some c) e = absurd (false≢true e)

module _ {C : Type 0} {k : Adding C} {lower : C → C → Bool} (laws : Laws k lower) (s : Model) (t : Survey) (marks : List (List Mark)) (some : 1 ≤ count s) (best : Best C) where
  abbrev held : ℕ → Bool
  held = held_pairs marks s.echelons

  abbrev shut : ℕ → Bool
  shut = shut_pairs marks s.echelons

  module _ (found : Best C) (bounds : Bounds k lower s t marks found) (n : ℕ) (all : n ≡ count s) (r : Bool) (compared : Ahead k lower n found best r) where
    module _ (limits : Limits s) (b : Book) (kept : KeepsLimits b) (keeps : Keeps s b t) (closed_shut : ShutsClosed (problem s b limits kept) shut) (kb : Known k best.cost) where
      abbrev y : Problem
      y = problem s b limits kept

      ok : Proper y
      ok = problem_proper s b limits kept some

      abbrev w : Walk (List ℕ)
      w = walk k lower y shut

      walked : Walked k lower (plans y) shut w
      walked = walk_answers y ok laws shut

      law : Rules k lower (plans y)
      law = rules laws (plans y) (countable y ok)

      is_bound : best_of (count s) found ≡ bound k (plans y) held w
      is_bound = bounds limits b kept keeps closed_shut

      found_known : Known k found.cost
      found_known = subst (λ (f : Found-plan (List ℕ) C). Known k f.cost) (sym is_bound) (known k _ (pairs_fit y.pair y.pairs w.sum held walked.room))

      -- the test is whether the bound comes before the best so far
      tested : r ≡ ahead lower (plans y) (bound k (plans y) held w) (best_of (count s) best)
      tested = subst (λ f. r ≡ ahead lower (plans y) f (best_of (count s) best)) is_bound (subst (λ i. Ahead k lower i found best r) all compared found_known kb)

      -- no pair that the walk's plan needs is free
      none_free : (plan : List ℕ) → plan ≡ take n found.plan → NoneFree s plan marks s.resources → r ≡ true → (j : ℕ) → j < y.pairs → needs_of y w.plan j ≡ true → shut j ≡ false → held j ≡ true
      none_free plan is none passes j h needs not_shut = go (mark_of marks s.echelons j) refl
        where
          same : plan ≡ w.plan
          same = is ∙ ap (λ i. take i found.plan) all ∙ ap (λ (f : Found-plan (List ℕ) C). f.plan) is_bound

          opens : (options_of y w.plan).is_open ≡ true
          opens =
              let sum-open = ahead_open k lower (with_pairs y.pair y.pairs w.sum held) ((plans y).number w.plan) best.cost ((plans y).number (take (count s) best.plan)) (sym tested ∙ passes) in
              (and_parts (eqb (length w.plan) y.table.size) (options_of y w.plan).is_open (ap (λ (a : Amount). a.is_open) (walked.real sum-open).0 ∙ sum-open)).1

          go : (m : Mark) → mark_of marks s.echelons j ≡ m → held j ≡ true
          go Held e = ap is_held e
          go Shut e = absurd (false≢true (sym not_shut ∙ ap is_shut e))
          go Free e =
              let p : 0 < s.echelons = limits.some_echelon in
              let used = none (j / s.echelons) (j % s.echelons) ((div-lt_iff_lt-mul p).1 h) (mod-lt j p) e in
              absurd (false≢true (sym (subst (λ q. uses s q (OfResource (j / s.echelons) (suc (j % s.echelons))) ≡ false) same used) ∙ sym (needs_used s b limits kept w.plan j opens) ∙ needs))

    -- the bound does not come before the best so far
    pub nothing_better : r ≡ false → Searches k lower s t marks best best
    nothing_better fails limits b kept keeps closed_shut kb =
        (law limits b kept keeps closed_shut kb).nothing_better (problem s b limits kept).is_closed held shut (w limits b kept keeps closed_shut kb) (best_of (count s) best) (walked limits b kept keeps closed_shut kb) kb (sym (tested limits b kept keeps closed_shut kb) ∙ fails)

    -- the bound is the new best
    pub here : (plan : List ℕ) → plan ≡ take n found.plan → NoneFree s plan marks s.resources → r ≡ true → Searches k lower s t marks best found
    here plan is none passes limits b kept keeps closed_shut kb =
        subst (λ f. Found k lower (plans (problem s b limits kept)) (problem s b limits kept).is_closed held shut (best_of (count s) best) f) (sym (is_bound limits b kept keeps closed_shut kb))
        ((law limits b kept keeps closed_shut kb).here (problem s b limits kept).is_closed held shut (w limits b kept keeps closed_shut kb) (best_of (count s) best) (walked limits b kept keeps closed_shut kb) kb closed_shut (none_free limits b kept keeps closed_shut kb plan is none passes) (sym (tested limits b kept keeps closed_shut kb) ∙ passes))

  -- a free pair is held, and then shut
  pub both_branches : (resource place : ℕ) → IsFree s marks (resource, place) → (marks₁ marks₂ : List (List Mark)) → marks₁ ≡ marking marks resource place Held → marks₂ ≡ marking marks resource place Shut → (r₁ r₂ : Best C) → Searches k lower s t marks₁ best r₁ → Searches k lower s t marks₂ r₁ r₂ → Searches k lower s t marks best r₂
  both_branches resource place free marks₁ marks₂ is₁ is₂ r₁ r₂ first second limits b kept keeps closed_shut kb =
      let y = problem s b limits kept in
      let e = s.echelons in
      let j = resource * e + place in
      let next₁ = marking marks resource place Held in
      let next₂ = marking marks resource place Shut in
      let one = subst (λ x. Searches k lower s t x best r₁) is₁ first limits b kept keeps in
      let two = subst (λ x. Searches k lower s t x r₁ r₂) is₂ second limits b kept keeps in
      let more-held = passes_with marks e resource place free.place free.free Held is_held y.pairs refl in
      let same-shut = passes_same marks e resource place free.place free.free Held is_shut y.pairs refl in
      let same-held = passes_same marks e resource place free.place free.free Shut is_held y.pairs refl in
      let more-shut = passes_with marks e resource place free.place free.free Shut is_shut y.pairs refl in
      let found₁ = one (λ i h c. same-shut i h ∙ closed_shut i h c) kb in
      let found₂ = two (λ i h c. more-shut i h ∙ or_right (eqb i j) (shut i) (closed_shut i h c)) (found₁.known kb) in
      (rules laws (plans y) (countable y (problem_proper s b limits kept some))).both_branches y.is_closed held shut (held_pairs next₁ e) (shut_pairs next₁ e) (held_pairs next₂ e) (shut_pairs next₂ e) j (best_of (count s) best) (best_of (count s) r₁) (best_of (count s) r₂) kb more-held same-shut found₁ same-held more-shut found₂
