-- The search of all plans begins with no pair held and the closed pairs shut, so it finds the first of the least plans.
use Rattle.std.proofs.Common.{◌≡◌, ℕ, suc, ◌*◌, ◌/◌, ◌%◌, ◌<◌, ◌≤◌, Bool, false, not, ◌||◌, leb, List, ◌++◌, get_or, take, Some, None, Option, sym, refl, ap, ◌∙◌, subst, mod-lt, div-lt_iff_lt-mul, arith}
use Rattle.std.proofs.lemmas.Bool.{cond-true, le-leb}
use Rattle.costs.specs.declared.posting.Posting.{Posting}
use Rattle.costs.specs.Kinds.{Adding, Laws}
use Rattle.model.specs.declared.question.Question.TheVariants.{OfResource}
use Rattle.model.specs.declared.answer.Answer.{Answer}
use Rattle.model.specs.declared.answer.Answer.TheVariants.{Charged, Barred, Faulty}
use Rattle.model.specs.Books.{Book}
use Rattle.model.specs.Studies.{Model, Limits}
use Rattle.plans.specs.Questions.{count, is_charge, is_open}
use Rattle.plans.specs.Postings.{posting_of, posting, times}
use Rattle.planning.specs.declared.table.Survey.{Survey}
use Rattle.planning.specs.Surveys.{Keeps, pair_posting}
use Rattle.theory.specs.Entries.{Entry}
use Rattle.theory.specs.Amounts.{Amount, value, Known, precedes}
use Rattle.theory.specs.Searches.{Plans, Best as Found-plan, Found, Same}
use Rattle.theory.specs.Problems.{plans, no_plan}
use Rattle.theory.proofs.Pairs.{pairs_same}
use Rattle.solutions.specs.Pairs.{pair_question}
use Rattle.solutions.specs.Problems.{problem}
use Rattle.solving.specs.declared.best.Best.{Best}
use Rattle.solving.specs.declared.mark.Mark.{Mark}
use Rattle.solving.specs.declared.mark.Mark.TheVariants.{Held}
use Rattle.solving.specs.Marked.{is_held, is_shut, mark_of, held_pairs, shut_pairs}
use Rattle.solving.specs.Finds.{best_of, Searches}
use Rattle.solving.specs.Least.{first_mark, first_line, FirstMarks, FindsLeast}
use Rattle.solutions.proofs.Found.{found_none, found_plan}
use Rattle.solving.proofs.Tabled.{at_echelon}
use Rattle.solving.proofs.Bounds.{best_at}

-- ---- the marks that a search begins with
not_held : (o : Option Posting) → is_held (first_mark o) ≡ false
not_held None = refl
not_held (Some p) = refl

shut_if_closed : (n : ℕ) (a : Answer) → is_shut (first_mark (posting_of n a)) ≡ not (is_charge a)
shut_if_closed n (Charged c) = refl
shut_if_closed n Barred = refl
shut_if_closed n (Faulty f) = refl

module _ (s : Model) (b : Book) (t : Survey) (limits : Limits s) (keeps : Keeps s b t) (marks : List (List Mark)) (begins : FirstMarks t s.resources marks) where
  -- the mark of a pair, by the book's answer
  mark_first : (j : ℕ) → j < s.resources * s.echelons → mark_of marks s.echelons j ≡ first_mark (posting s b (pair_question s.echelons j))
  mark_first j h =
      let last = s.echelons in
      let p : 0 < last = limits.some_echelon in
      let few = limits.few_echelons in
      let r = j / last in
      let place = j % last in
      let in_row = (div-lt_iff_lt-mul p).1 h in
      let l = mod-lt j p in
      ap (λ line. get_or line place Held) (begins r in_row ∙ ap first_line (keeps.resources r in_row))
      ∙ at_echelon (λ e. first_mark (pair_posting s b r e)) place Held (omega arith)
      ∙ ap first_mark (cond-true (leb (suc place) last) (posting s b (OfResource r (suc place))) None (le-leb (suc place) last l))

  none_held : (j : ℕ) → j < s.resources * s.echelons → held_pairs marks s.echelons j ≡ false
  none_held j h = ap is_held (mark_first j h) ∙ not_held (posting s b (pair_question s.echelons j))

  closed_shut : (j : ℕ) → j < s.resources * s.echelons → shut_pairs marks s.echelons j ≡ not (is_open b (pair_question s.echelons j))
  closed_shut j h = ap is_shut (mark_first j h) ∙ shut_if_closed (times s (pair_question s.echelons j)) (b (pair_question s.echelons j))

-- ---- what a search finds depends on the marks of the pairs only
abbrev amount : Bool → List Entry → Amount
amount o r = record { is_open = o; row = r }

found_same : {X C : Type 0} (k : Adding C) (lower : C → C → Bool) (p : Plans X) (closed held shut held' shut' : ℕ → Bool) (b r : Found-plan X C) → Same p.pairs held held' → Same p.pairs shut shut' → Found k lower p closed held shut b r → Found k lower p closed held' shut' b r
found_same k lower p closed held shut held' shut' b r same-held same-shut found = record {
  kept = found.kept;
  least = λ x clear.
      subst (λ row. precedes lower (value k (amount (p.options x).is_open ((p.options x).row ++ row))) (p.number x) r.cost (p.number r.plan) ≡ false)
      (pairs_same p.pair (λ j. held j || p.needs x j) (λ j. held' j || p.needs x j) p.pairs (λ j l. ap (λ t. t || p.needs x j) (sym (same-held j l))))
      (found.least x (clear.0, λ j l n. sym (same-shut j l) ∙ clear.1 j l n));
  real = found.real;
  known = found.known;
}

-- ---- the search of all plans
pub finds_least : {C : Type 0} {k : Adding C} {lower : C → C → Bool} → Laws k lower → (s : Model) (t : Survey) → Limits s → 1 ≤ count s → (marks : List (List Mark)) → FirstMarks t s.resources marks → (before r : Best C) → before.cost ≡ None → Searches k lower s t marks before r → FindsLeast k lower s t r
finds_least {C = C} {k = k} {lower = lower} laws s t limits some marks begins before r none searched b kept keeps =
    let y = problem s b limits kept in
    let held = held_pairs marks s.echelons in
    let shut = shut_pairs marks s.echelons in
    let empty : List ℕ = take (count s) before.plan in
    let shuts = closed_shut s b t limits keeps marks begins in
    let found = searched limits b kept keeps (λ j h c. shuts j h ∙ c) (subst (Known k) (sym none) tt) in
    let from-none : Found k lower (plans y) y.is_closed held shut (no_plan empty) (best_of (count s) r) = subst (λ o. Found k lower (plans y) y.is_closed held shut (best_at o empty) (best_of (count s) r)) none found in
    let from-closed =
    (found_same k lower (plans y) y.is_closed held shut (λ _. false) y.is_closed (no_plan empty) (best_of (count s) r)
    (λ j h. sym (none_held s b t limits keeps marks begins j h)) (λ j h. sym (shuts j h)) from-none) in
    let best = best_of (count s) r in
    (found_none laws s b limits kept some empty best from-closed, found_plan laws s b limits kept some empty best from-closed)
