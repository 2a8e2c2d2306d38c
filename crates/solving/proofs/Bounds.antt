-- The bound of some marks: the walk's cost with the held pairs' postings is the cost that the argument speaks of.
use Rattle.std.proofs.Common.{◌≡◌, ℕ, ◌<◌, ◌≤◌, Bool, true, false, cond, List, [], ◌∷◌, ◌++◌, length, Some, None, Option, sym, refl, ap, ◌∙◌, subst, ap₂, arith}
use mathlib.Core.List.{map-append}
use Rattle.std.specs.List.{AllByRecursion}
use Rattle.costs.specs.Postings.{Within, most}
use Rattle.costs.specs.Kinds.{Adding, Laws}
use Rattle.model.specs.Studies.{Model}
use Rattle.plans.specs.Questions.{count}
use Rattle.plans.specs.Postings.{plus_postings, summed}
use Rattle.planning.specs.declared.table.Survey.{Survey}
use Rattle.planning.specs.Sums.{Summable, Adds}
use Rattle.theory.specs.Entries.{Entry, post, adds, sum}
use Rattle.theory.specs.Amounts.{Amount, value}
use Rattle.theory.specs.Searches.{Best as Found-plan, with_pairs, pair_postings}
use Rattle.theory.specs.Problems.{walk}
use Rattle.theory.proofs.Pairs.{pairs_fit}
use Rattle.theory.proofs.Problems.{countable, walk_answers}
use Rattle.theory.proofs.Searches.{is_open_at}
use Rattle.solutions.specs.Problems.{problem}
use Rattle.solving.specs.declared.best.Best.{Best}
use Rattle.solving.specs.declared.mark.Mark.{Mark}
use Rattle.solving.specs.Marked.{held_pairs, shut_pairs}
use Rattle.solving.specs.Finds.{Walks}
use Rattle.solving.specs.Bounds.{AddsHeld, Bounds}
use Rattle.solutions.proofs.Proper.{problem_proper}
use Rattle.solving.proofs.HeldPairs.{bare, held_are_pairs}

bare_length : (es : List Entry) → length (bare es) ≡ length es
bare_length [] = refl
bare_length (e ∷ es) = let ih = bare_length es in omega arith

bare_within : (es : List Entry) → AllByRecursion Within (bare es)
bare_within [] = tt
bare_within (e ∷ es) = (e.within, bare_within es)

module _ {C : Type 0} (k : Adding C) where
  plus_bare : (c : C) (es : List Entry) → plus_postings k (Some c) (bare es) ≡ Some (adds k c es)
  plus_bare c [] = refl
  plus_bare c (e ∷ es) = plus_bare (k.plus c (post k e)) es

  summed_bare : (es : List Entry) → 0 < length es → summed k (bare es) ≡ Some (sum k es)
  summed_bare [] h = absurd (omega arith)
  summed_bare (e ∷ es) h = plus_bare (post k e) es

  -- postings added to the sum of a row
  added : (row new : List Entry) (before after : Option C) → 0 < length row → length (row ++ new) ≤ most → before ≡ Some (sum k row) → Adds k before (bare new) after → after ≡ Some (sum k (row ++ new))
  added row new before after h few is adds =
      let joined = map-append (λ (e : Entry). e.posting) row new in
      let fit : Summable (bare row ++ bare new) = subst Summable joined (bare_within (row ++ new), omega (arith, bare_length (row ++ new))) in
      let more : 0 < length (row ++ new) = longer row new h in
      adds (bare row) (is ∙ sym (summed_bare row h)) fit ∙ ap (summed k) (sym joined) ∙ summed_bare (row ++ new) more
    where
      longer : (xs ys : List Entry) → 0 < length xs → 0 < length (xs ++ ys)
      longer [] ys l = absurd (omega arith)
      longer (x ∷ xs) ys l = omega arith

  -- an amount without a cost is closed
  closed_at : (a : Amount) → value k a ≡ None → a.is_open ≡ false
  closed_at a = go a.is_open
    where
      go : (o : Bool) → cond o (Some (sum k a.row)) None ≡ None → o ≡ false
      go false e = refl
      go true e = absurd (let w : ◌≡◌ {A = ℕ} 0 1 = cc in omega arith)

  opened : (a : Amount) → a.is_open ≡ true → value k a ≡ Some (sum k a.row)
  opened a e = ap (λ o. cond o (Some (sum k a.row)) None) e

  shut_off : (a : Amount) → a.is_open ≡ false → value k a ≡ None
  shut_off a e = ap (λ o. cond o (Some (sum k a.row)) None) e

-- a plan with a cost, or none
abbrev pub best_at : {C : Type 0} → Option C → List ℕ → Found-plan (List ℕ) C
best_at c p = record { cost = c; plan = p }

module _ {C : Type 0} {k : Adding C} {lower : C → C → Bool} (laws : Laws k lower) (s : Model) (t : Survey) (marks : List (List Mark)) (some : 1 ≤ count s) (found : Best C) (walks : Walks k lower s t marks found) where
  -- the walk found no plan
  pub bound_none : found.cost ≡ None → Bounds k lower s t marks found
  bound_none none limits b kept keeps closed_shut =
      let y = problem s b limits kept in
      let w = walk k lower y (shut_pairs marks s.echelons) in
      let is = walks limits b kept keeps in
      ap₂ best_at (none ∙ sym (shut_off k (with_pairs y.pair y.pairs w.sum (held_pairs marks s.echelons)) (closed_at k w.sum (sym is.0 ∙ none)))) is.1

  -- the walk found a plan, and the held pairs are added
  pub bound_some : (c : C) (after : Option C) → found.cost ≡ Some c → AddsHeld k s t marks found.cost after → Bounds k lower s t marks (record { cost = after; plan = found.plan })
  bound_some c after is_some adds limits b kept keeps closed_shut =
      let y = problem s b limits kept in
      let ok = problem_proper s b limits kept some in
      let shut = shut_pairs marks s.echelons in
      let held = held_pairs marks s.echelons in
      let w = walk k lower y shut in
      let is = walks limits b kept keeps in
      let opens = is_open_at k w.sum c (sym is.0 ∙ is_some) in
      let walked = walk_answers y ok laws shut in
      let real = walked.real opens in
      let posts : 0 < length w.sum.row = subst (λ a. 0 < length a.row) real.0 ((countable y ok).posts w.plan (subst (λ a. a.is_open ≡ true) (sym real.0) opens)) in
      let few = pairs_fit y.pair y.pairs w.sum held walked.room in
      let new = subst (λ ps. Adds k found.cost ps after) (held_are_pairs s b limits kept marks closed_shut) (adds b keeps) in
      ap₂ best_at
      (added k w.sum.row (pair_postings y.pair held y.pairs) found.cost after posts few (is.0 ∙ opened k w.sum opens) new
      ∙ sym (opened k (with_pairs y.pair y.pairs w.sum held) opens))
      is.1
