-- The steps of a walk, a lemma for each, for code that keeps sums and notes in tables.
--
-- Before component i is taken the tables hold `sums_at i`. Taking it: the best way on from each of its places, from the last
-- down, each from that of the next place up; the byte is the note; and the amount is added to the sums of its parent, which
-- then are those of `sums_at (i - 1)`. At the end the sum of the whole is the walk's cost, and the bytes are read off the
-- notes from the first component to the last.
use Rattle.std.proofs.Common.{◌≡◌, ℕ, zero, suc, ◌+◌, ◌-◌, ◌*◌, ◌<◌, ◌≤◌, Bool, length, sym, refl, ap, ◌∙◌, subst, ⊎_elim, arith, length-append}
use mathlib.Core.Path.{fun_ext}
use Rattle.std.proofs.lemmas.Bool.{cases_eq}
use Rattle.costs.specs.Kinds.{Adding, Laws}
use Rattle.theory.specs.Amounts.{Amount, nothing, both, value}
use Rattle.theory.specs.Options.{Options, posted}
use Rattle.theory.specs.Choices.{Choice, no_way, discarded, repaired, moved, better, way_on, best}
use Rattle.theory.specs.Breakdowns.{Breakdown, Sums, total, spent, start, put, plan}
use Rattle.theory.specs.Tables.{Table, Sound, enter, breakdown, best_from, chosen, take_one, sums, sums_at, notes, walked, most_options}
use Rattle.theory.proofs.Routes.{posted_length, repair_repairs_here}
use Rattle.theory.proofs.Bests.{better_either}
use Rattle.theory.proofs.Inserted.{onto_same, onto_other}
use Rattle.theory.proofs.Totals.{put_same, put_other, total_is_spent, sums_bounded_at}
use Rattle.theory.proofs.Walks.{plan_step}
use Rattle.theory.proofs.Tables.{enter_top, enter_under, regular}
use Rattle.theory.proofs.Walked.{one_more, sums_bounded, notes_small}

module _ {C : Type 0} (k : Adding C) (lower : C → C → Bool) where
  -- ---- the best way on
  -- from no place there is no way on
  pub best_from_nowhere : (g : Table) (i : ℕ) (under : ℕ → Amount) (e : ℕ) → g.places.above e ≡ 0 → best_from k lower g i under e ≡ no_way
  best_from_nowhere g i under e h = ap (λ left. best k lower g.rank g.places.up (g.options i) under left e) h

  -- from a place it is known from that of the next place up
  pub best_from_place : (g : Table) → Sound g → (i : ℕ) (under : ℕ → Amount) (e : ℕ) → 0 < g.places.above e → best_from k lower g i under e ≡ way_on k lower g.rank (g.options i) under e (best_from k lower g i under (g.places.up e))
  best_from_place g ok i under e h = ap (λ left. best k lower g.rank g.places.up (g.options i) under left e) (sym (ok.rising.one_fewer e h))

  -- at most one posting for each place on the way up, and those of the components under it
  best_length : (rank up : ℕ → ℕ) (o : Options) (under : ℕ → Amount) (most-under : ℕ) → ((e : ℕ) → length (under e).row ≤ most-under) → (left e : ℕ) → length (best k lower rank up o under left e).sum.row ≤ left + most-under
  best_length rank up o under most-under h zero e = omega arith
  best_length rank up o under most-under h (suc left) e =
      let on = best k lower rank up o under left (up e) in
      let ih = best_length rank up o under most-under h left (up e) in
      let Q : Choice → Type 0 = λ c. length c.sum.row ≤ suc left + most-under in
      better_either k lower rank Q (better k lower rank (discarded o e) (repaired o under e)) (moved o e on)
      (better_either k lower rank Q (discarded o e) (repaired o under e)
      (omega (arith, posted_length (o.discard e)))
      (omega (arith, posted_length (o.repair e), length-append (posted (o.repair e)).row (under e).row, h e)))
      (omega (arith, posted_length (o.move e), length-append (posted (o.move e)).row on.sum.row))

  -- what is chosen at a place is the best way on from there
  chosen_at_place : (g : Table) (i : ℕ) (under : ℕ → Amount) (e : ℕ) → 0 < e → chosen k lower g i under e ≡ best_from k lower g i under e
  chosen_at_place g i under e l = grind arith

  module _ (g : Table) (ok : Sound g) where
    -- ---- the sums
    -- before any component is taken
    pub sums_at_first : (i e : ℕ) → sums_at k lower g g.size i e ≡ nothing
    unfolding sums_at sums
    sums_at_first i e = let z : g.size - g.size ≡ 0 = omega arith in ap (λ d. sums k lower g d i e) z

    -- component i + 1 is taken
    pub sums_step : (i : ℕ) → suc i ≤ g.size → sums_at k lower g i ≡ take_one k lower g (suc i) (sums_at k lower g (suc i))
    unfolding sums_at sums
    sums_step i l =
        let d = g.size - suc i in
        let e : g.size - i ≡ suc d = omega arith in
        let f : g.size - d ≡ suc i = omega arith in
        ap (sums k lower g) e ∙ ap (λ j. take_one k lower g j (sums k lower g d)) f

    -- the sums of a component that is not its parent stay
    pub taken_elsewhere : (i j e : ℕ) (ex : Sums) → (j ≡ g.parent i → ⊥) → take_one k lower g i ex j e ≡ ex j e
    unfolding take_one
    taken_elsewhere i j e ex h = onto_other ex (g.parent i) j e (λ e. (chosen k lower g i (ex i) (enter g i e)).sum) h

    taken_at_parent : (i e : ℕ) (ex : Sums) → take_one k lower g i ex (g.parent i) e ≡ both (ex (g.parent i) e) (chosen k lower g i (ex i) (enter g i e)).sum
    unfolding take_one
    taken_at_parent i e ex = onto_same ex (g.parent i) e (λ e. (chosen k lower g i (ex i) (enter g i e)).sum)

    -- at each place of its parent the best way on from there is added
    pub taken_under : (i e : ℕ) (ex : Sums) → (g.parent i ≡ 0 → ⊥) → 0 < e → take_one k lower g i ex (g.parent i) e ≡ both (ex (g.parent i) e) (best_from k lower g i (ex i) e).sum
    taken_under i e ex h l =
        taken_at_parent i e ex
        ∙ ap (λ s. both (ex (g.parent i) e) (chosen k lower g i (ex i) s).sum) (enter_under g i e h)
        ∙ ap (λ c. both (ex (g.parent i) e) c.sum) (chosen_at_place g i (ex i) e l)

    -- for a top component, the best way on from its start is added to the sum of the whole
    pub taken_top : (i : ℕ) (ex : Sums) → g.parent i ≡ 0 → 0 < g.first i → take_one k lower g i ex 0 0 ≡ both (ex 0 0) (best_from k lower g i (ex i) (g.first i)).sum
    taken_top i ex h l =
        subst (λ p. take_one k lower g i ex p 0 ≡ both (ex p 0) (chosen k lower g i (ex i) (enter g i 0)).sum) h (taken_at_parent i 0 ex)
        ∙ ap (λ s. both (ex 0 0) (chosen k lower g i (ex i) s).sum) (enter_top g i 0 h)
        ∙ ap (λ c. both (ex 0 0) c.sum) (chosen_at_place g i (ex i) (g.first i) l)

    -- ---- the notes
    pub note_at_place : (i e : ℕ) → 0 < e → notes k lower g i e ≡ (best_from k lower g i (sums_at k lower g i i) e).byte
    unfolding notes
    note_at_place i e l = grind arith

    -- a component that is not reached has byte 0
    pub note_unreached : (i : ℕ) → notes k lower g i 0 ≡ 0
    unfolding notes
    note_unreached i = refl

    -- ---- their lengths
    pub sums_fit : (i j e : ℕ) → j ≤ i → i ≤ g.size → length (sums_at k lower g i j e).row ≤ most_options
    sums_fit i j e h l = sums_bounded_at (breakdown g) (sums_at k lower g i) i j e (2 * e) (repair_repairs_here e) h (sums_bounded k lower g ok i l)

    pub best_fits : (i e : ℕ) → i ≤ g.size → length (best_from k lower g i (sums_at k lower g i i) e).sum.row ≤ g.places.above e + most_options
    best_fits i e l = best_length g.rank g.places.up (g.options i) (sums_at k lower g i i) most_options (λ p. sums_fit i i p (omega arith) l) (g.places.above e) e

    -- ---- the end of the walk
    -- the walk's plan costs what the sum of the whole says
    pub walk_cost : Laws k lower → value k (spent (breakdown g) g.size (walked k lower g)) ≡ value k (sums_at k lower g 0 0 0)
    unfolding walked
    walk_cost laws =
        ap (value k) (sym (total_is_spent t (plan t n g.size) g.size))
        ∙ ap (λ ex. value k (total t g.size ex (plan t n g.size))) (sym first)
        ∙ go g.size (omega arith)
      where
        t : Breakdown
        t = breakdown g

        n : ℕ → ℕ → ℕ
        n = notes k lower g

        first : sums_at k lower g g.size ≡ λ _ _. nothing
        first = fun_ext (λ i. fun_ext (λ e. sums_at_first i e))

        go : (i : ℕ) → i ≤ g.size → value k (total t i (sums_at k lower g i) (plan t n i)) ≡ value k (sums_at k lower g 0 0 0)
        go zero l = refl
        go (suc i) l =
            plan_step t (regular g ok) n (notes_small k lower g ok) laws i (sums_at k lower g (suc i)) (sums_bounded k lower g ok (suc i) l)
            ∙ ap (λ ex. value k (total t i ex (plan t n i))) (sym (one_more k lower g ok i l))
            ∙ go i (omega arith)

    -- bytes that are read off the notes, each for its component's start, are the walk's
    pub reads_off : (a : ℕ → ℕ) (m : ℕ) → a 0 ≡ 0 → ((i : ℕ) → i < m → a (suc i) ≡ notes k lower g (suc i) (start (breakdown g) a (suc i))) → (i : ℕ) → i ≤ m → a i ≡ plan (breakdown g) (notes k lower g) m i
    reads_off a zero whole h i l = let z : i ≡ 0 = omega arith in ap a z ∙ whole
    reads_off a (suc m) whole h i l =
        let t = breakdown g in
        let n = notes k lower g in
        let before = reads_off a m whole (λ j q. h j (omega arith)) in
        let p = plan t n m in
        let up = ok.after_parent m in
        let v = n (suc m) (start t p (suc m)) in
        ⊎_elim
        (λ e. ap a e ∙ h m (omega arith) ∙ ap (λ b. n (suc m) (t.enter (suc m) (t.repairs b))) (before (g.parent (suc m)) up) ∙ sym (put_same p (suc m) v) ∙ ap (put p (suc m) v) (sym e))
        (λ d. before i (omega arith) ∙ sym (put_other p (suc m) v i d))
        (cases_eq i (suc m))
