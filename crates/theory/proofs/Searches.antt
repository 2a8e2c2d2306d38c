-- The three rules of the search, each a step that a search may take, and what a search of everything finds.
--
-- No plan below the marks comes before the bound: its option postings do not precede the walk's, the held pairs added to
-- both keep that, and the pairs that it needs besides never lower its cost. A plan that needs a free pair counts alike when
-- the pair is held, and one that does not need it is left when the pair is shut; so the two branches together see every plan.
use Rattle.std.proofs.Common.{◌≡◌, ℕ, ◌+◌, ◌<◌, ◌≤◌, Bool, true, false, ◌||◌, eqb, ◌++◌, length, Some, None, sym, ap, ◌∙◌, subst, ⊎_elim, arith}
use Rattle.std.proofs.lemmas.Bool.{ne_eqb, cases_eq, cases_Bool, both_ways, false_from_ne_true, or_left, or_right, or_from}
use Rattle.std.proofs.lemmas.Option.{none-some, cond_some}
use Rattle.costs.specs.Postings.{most}
use Rattle.costs.specs.Kinds.{Adding, Laws}
use Rattle.theory.specs.Entries.{sum}
use Rattle.theory.specs.Amounts.{Amount, value, Known, precedes}
use Rattle.theory.specs.Searches.{with_pairs, Plans, Countable, IsClear, cost, worth, Best, ahead, at_worth, at_cost, Walk, Walked, bound, Found}
use Rattle.theory.specs.Rules.{NothingBetter, Here, BothBranches, Rules}
use Rattle.theory.proofs.Precedence.{known, passed_on, not_itself, turned, same_cost, pass}
use Rattle.theory.proofs.Keeping.{not_lower_precedes}
use Rattle.theory.proofs.Routes.{amount}
use Rattle.theory.proofs.Pairs.{pairs_same, pairs_fit, more_pairs, pairs_on_both}

-- an amount with a cost is open
pub is_open_at : {C : Type 0} (k : Adding C) (a : Amount) (c : C) → value k a ≡ Some c → a.is_open ≡ true
is_open_at k a c e = (cond_some a.is_open (sum k a.row) c e).0

module _ {X C : Type 0} {k : Adding C} {lower : C → C → Bool} (laws : Laws k lower) (s : Plans X) (ok : Countable s) where
  worth_known : (f : ℕ → Bool) (x : X) → Known k (value k (with_pairs s.pair s.pairs (s.options x) f))
  worth_known f x = known k _ (pairs_fit s.pair s.pairs (s.options x) f (ok.room x))

  bound_known : (held : ℕ → Bool) (w : Walk X) → length w.sum.row + s.pairs ≤ most → Known k (bound k s held w).cost
  bound_known held w room = known k _ (pairs_fit s.pair s.pairs w.sum held room)

  -- no plan that is clear of the shut pairs comes before the bound
  pub bound_first : (held shut : ℕ → Bool) (w : Walk X) → Walked k lower s shut w → (x : X) → IsClear s shut x → ahead lower s (at_worth k s held x) (bound k s held w) ≡ false
  bound_first held shut w walked x clear =
      let o = s.options x in
      let q = s.pair in
      let n = s.pairs in
      let over = more_pairs laws q ok.no_gain o.row (ok.posts x clear.0) held (λ j. held j || s.needs x j) n (ok.room x) (λ j _ e. or_left _ _ e) in
      let one = not_lower_precedes k lower o.is_open (s.number x) (worth s held x).row (with_pairs q n o held).row over in
      let walk-posts : w.sum.is_open ≡ true → 0 < length w.sum.row = λ e. let r = walked.real e in subst (λ a. 0 < length a.row) r.0 (ok.posts w.plan (subst (λ a. a.is_open ≡ true) (sym r.0) e)) in
      let two = pairs_on_both laws q n held o w.sum (s.number x) (s.number w.plan) (ok.room x) walked.room (ok.posts x) walk-posts (walked.first x clear) in
      pass laws (worth s held x) (with_pairs q n o held) (with_pairs q n w.sum held) (s.number x) (s.number x) (s.number w.plan) (pairs_fit q n o _ (ok.room x)) (pairs_fit q n o held (ok.room x)) (pairs_fit q n w.sum held walked.room) one two

  -- rule 1
  pub nothing_better : NothingBetter k lower s
  nothing_better closed held shut w b walked kb e = record {
    kept = not_itself laws b.cost (s.number b.plan) (s.number b.plan) (omega arith) kb;
    least = λ x clear. passed_on laws (value k (worth s held x)) (bound k s held w).cost b.cost (s.number x) (s.number w.plan) (s.number b.plan) (worth_known _ x) (bound_known held w walked.room) kb (bound_first held shut w walked x clear) e;
    real = λ h. h;
    known = λ h. h;
  }

  -- rule 2
  pub here : Here k lower s
  here closed held shut w b walked kb closed-is-shut none_free e = record {
    kept = turned laws (bound k s held w).cost b.cost (s.number w.plan) (s.number b.plan) (bound_known held w walked.room) kb e;
    least = bound_first held shut w walked;
    real = λ _ c is. let r = walked.real (is_open_at k (with_pairs s.pair s.pairs w.sum held) c is) in
        let o = s.options w.plan in
        let opens : o.is_open ≡ true = ap (λ a. a.is_open) r.0 ∙ is_open_at k (with_pairs s.pair s.pairs w.sum held) c is in
        let over = more_pairs laws s.pair ok.no_gain o.row (ok.posts w.plan opens) (s.needs w.plan) held s.pairs (ok.room w.plan) (λ j l n. none_free j l n (r.1 j l n)) in (
          (opens, λ j l n. false_from_ne_true (closed j) (λ e. both_ways (shut j) (r.1 j l n) (closed-is-shut j l e))),
          subst (λ a. precedes lower (value k (with_pairs s.pair s.pairs a held)) (s.number w.plan) (value k (cost s w.plan)) (s.number w.plan) ≡ false) r.0 (not_lower_precedes k lower o.is_open (s.number w.plan) (with_pairs s.pair s.pairs o held).row (cost s w.plan).row over),
        );
    known = λ _. bound_known held w walked.room;
  }

  worth_same : (f g : ℕ → Bool) (x : X) → ((j : ℕ) → j < s.pairs → f j || s.needs x j ≡ g j || s.needs x j) → worth s f x ≡ worth s g x
  worth_same f g x h = ap (λ r. amount (s.options x).is_open ((s.options x).row ++ r)) (pairs_same s.pair (λ j. f j || s.needs x j) (λ j. g j || s.needs x j) s.pairs h)

  -- rule 3
  pub both_branches : BothBranches k lower s
  both_branches closed held shut held₁ shut₁ held₂ shut₂ j b r₁ r₂ kb more-held same-shut one same-held more-shut two = record {
    kept = passed_on laws b.cost r₁.cost r₂.cost (s.number b.plan) (s.number r₁.plan) (s.number r₂.plan) kb k₁ k₂ one.kept two.kept;
    least = λ x clear. ⊎_elim
        (λ n. passed_on laws (value k (worth s held x)) r₁.cost r₂.cost (s.number x) (s.number r₁.plan) (s.number r₂.plan) (worth_known _ x) k₁ k₂
        (subst (λ a. precedes lower (value k a) (s.number x) r₁.cost (s.number r₁.plan) ≡ false) (worth_same held₁ held x (λ i l. counts_alike i l x n))
        (one.least x (clear.0, λ i l m. same-shut i l ∙ clear.1 i l m))) two.kept)
        (λ n. subst (λ a. precedes lower (value k a) (s.number x) r₂.cost (s.number r₂.plan) ≡ false) (worth_same held₂ held x (λ i l. ap (λ c. c || s.needs x i) (same-held i l)))
        (two.least x (clear.0, λ i l m. more-shut i l ∙ ⊎_elim (λ e. absurd (both_ways (s.needs x j) n (subst (λ h. s.needs x h ≡ true) e m))) (λ d. or_from (eqb i j) (shut i) (ne_eqb i j d) (clear.1 i l m)) (cases_eq i j))))
        (cases_Bool (s.needs x j));
    real = λ h. two.real (one.real h);
    known = λ h. two.known (one.known h);
  }
    where
      k₁ : Known k r₁.cost
      k₁ = one.known kb

      k₂ : Known k r₂.cost
      k₂ = two.known k₁

      counts_alike : (i : ℕ) → i < s.pairs → (x : X) → s.needs x j ≡ true → held₁ i || s.needs x i ≡ held i || s.needs x i
      counts_alike i l x n = ⊎_elim
          (λ e. let m = subst (λ h. s.needs x h ≡ true) (sym e) n in or_right (held₁ i) (s.needs x i) m ∙ sym (or_right (held i) (s.needs x i) m))
          (λ d. ap (λ c. c || s.needs x i) (more-held i l ∙ ap (λ c. c || held i) (ne_eqb i j d)))
          (cases_eq i j)

  pub rules : Rules k lower s
  rules = record { nothing_better = nothing_better; here = here; both_branches = both_branches }

  -- A search with no pair held and the closed pairs shut, from no plan: no plan comes before its answer, and an answer with
  -- a cost is a plan at its own cost.
  pub found_all : (closed : ℕ → Bool) (b r : Best X C) → b.cost ≡ None → Found k lower s closed (λ _. false) closed b r → ((x : X) → IsClear s closed x → ahead lower s (at_cost k s x) r ≡ false) × ((c : C) → r.cost ≡ Some c → IsClear s closed r.plan × (r.cost ≡ value k (cost s r.plan)))
  found_all closed b r none found =
      let kr = found.known (subst (Known k) (sym none) tt) in
      let real = found.real (λ c e. absurd (none-some c (sym none ∙ e))) in (
        found.least,
        λ c e. let h = real c e in
            (h.0, same_cost laws r.cost (value k (cost s r.plan)) (s.number r.plan) kr (worth_known _ r.plan) h.1 (found.least r.plan h.0)),
      )
