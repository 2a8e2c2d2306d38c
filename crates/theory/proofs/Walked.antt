-- The walk of a table: its notes are right, so no row of bytes precedes its plan.
use Rattle.std.proofs.Common.{◌≡◌, ℕ, zero, suc, ◌+◌, ◌-◌, ◌*◌, ◌<◌, ◌≤◌, Bool, true, false, cond, eqb, length, sym, refl, ap, ◌∙◌, subst, subst₂, ⊎_elim, arith}
use mathlib.Core.Path.{fun_ext}
use Rattle.std.proofs.lemmas.Bool.{eqb-true, eqb-false, cases_eq, cond_both}
use Rattle.costs.specs.Postings.{most}
use Rattle.costs.specs.Kinds.{Adding, Laws}
use Rattle.theory.specs.Amounts.{Amount, nothing, closed, both, value, precedes}
use Rattle.theory.specs.Places.{longest}
use Rattle.theory.specs.Options.{repaired_at, route}
use Rattle.theory.specs.Choices.{Choice}
use Rattle.theory.specs.Breakdowns.{Sums, spent, way, onto, number, taken, Noted}
use Rattle.theory.specs.Tables.{Table, top_byte, Sound, enter, breakdown, best_from, chosen, take_one, sums, sums_at, notes, walked}
use Rattle.theory.proofs.Precedence.{itself, none_is_last}
use Rattle.theory.proofs.Routes.{both_nothing, repair_repairs_here}
use Rattle.theory.proofs.Bests.{best_right, best_first}
use Rattle.theory.proofs.Inserted.{onto_same, onto_other}
use Rattle.theory.proofs.Totals.{Bytes, Bounded, total_is_spent, sums_bounded_at}
use Rattle.theory.proofs.Walks.{still_bounded, plan_first, plan_bytes, plan_whole}
use Rattle.theory.proofs.Tables.{enter_under, regular, bounded}

module _ {C : Type 0} (k : Adding C) (lower : C → C → Bool) (g : Table) (ok : Sound g) where
  -- what component i posts at its chosen byte is the choice's amount
  pub chosen_posts : (i : ℕ) (ex : Sums) → ex i 0 ≡ nothing → (s : ℕ) → way (breakdown g) ex i s (chosen k lower g i (ex i) s).byte ≡ (chosen k lower g i (ex i) s).sum
  chosen_posts i ex bare s = go (eqb s 0) refl
    where
      c : Choice
      c = best_from k lower g i (ex i) s

      go : (z : Bool) → eqb s 0 ≡ z → let v = cond z (record { byte = 0; sum = nothing }) c in both (cond z (cond (eqb v.byte 0) nothing closed) (route g.places.up (g.options i) (g.places.above s) s v.byte)) (ex i (repaired_at v.byte)) ≡ v.sum
      go true e = ap (both nothing) bare
      go false e = (best_right k lower g.rank g.places ok.rising (g.options i) (ex i) bare (g.places.above s) s refl (λ _. let h = eqb-false s 0 e in omega arith)).0

  chosen_small : (i : ℕ) (under : ℕ → Amount) → under 0 ≡ nothing → (s : ℕ) → (chosen k lower g i under s).byte ≤ top_byte g
  chosen_small i under bare s = cond_both (eqb s 0) (record { byte = 0; sum = nothing }) (best_from k lower g i under s) (λ c. c.byte ≤ top_byte g)
      (λ _. omega arith)
      (λ e. let h = eqb-false s 0 e in
      ⊎_elim (λ z. omega arith) (λ z. z.2) (best_right k lower g.rank g.places ok.rising (g.options i) under bare (g.places.above s) s refl (λ _. omega arith)).1)

  -- no component adds to a sum at place 0: what is under a component that is not repaired is not reached
  pub bare : (d i : ℕ) → 0 < i → sums k lower g d i 0 ≡ nothing
  unfolding sums take_one
  bare zero i h = refl
  bare (suc d) i h =
      let x = g.size - d in
      let ex = sums k lower g d in
      let add : ℕ → Amount = λ e. (chosen k lower g x (ex x) (enter g x e)).sum in
      ⊎_elim
      (λ e. let zero-place : enter g x 0 ≡ 0 = enter_under g x 0 (λ z. omega arith) in
      let adds-nothing : add 0 ≡ nothing = ap (λ s. (chosen k lower g x (ex x) s).sum) zero-place in
      subst (λ p. onto ex p add i 0 ≡ nothing) e (onto_same ex i 0 add ∙ ap (both (ex i 0)) adds-nothing ∙ both_nothing (ex i 0) ∙ bare d i h))
      (λ n. onto_other ex (g.parent x) i 0 add n ∙ bare d i h)
      (cases_eq i (g.parent x))

  -- component i + 1 is taken at its noted bytes
  pub one_more : (i : ℕ) → suc i ≤ g.size → sums_at k lower g i ≡ taken (breakdown g) (notes k lower g) (suc i) (sums_at k lower g (suc i))
  unfolding sums_at notes sums take_one
  one_more i l =
      let d = g.size - suc i in
      let e : g.size - i ≡ suc d = omega arith in
      let f : g.size - d ≡ suc i = omega arith in
      let ex = sums k lower g d in
      ap (sums k lower g) e ∙ ap (λ j. take_one k lower g j ex) f
      ∙ ap (onto ex (g.parent (suc i))) (fun_ext (λ p. sym (chosen_posts (suc i) ex (bare d (suc i) (omega arith)) (enter g (suc i) p))))

  pub sums_bounded : (i : ℕ) → i ≤ g.size → Bounded (breakdown g) i (sums_at k lower g i)
  unfolding sums_at sums
  sums_bounded i l = go (g.size - i) i (omega arith)
    where
      go : (d j : ℕ) → j + d ≡ g.size → Bounded (breakdown g) j (sums_at k lower g j)
      go zero j e = let f : g.size ≡ j = omega arith in
          let h : 0 ≡ g.size - j = omega arith in
          subst₂ (λ n m. Bounded (breakdown g) n (sums k lower g m)) f h (bounded g ok)
      go (suc d) j e = subst (Bounded (breakdown g) j) (sym (one_more j (omega arith))) (still_bounded (breakdown g) (regular g ok) (notes k lower g) j (sums_at k lower g (suc j)) (go d (suc j) (omega arith)))

  -- every sum leaves room for one component's postings
  pub sums_leave_room : (i : ℕ) → i ≤ g.size → (e : ℕ) → length (sums_at k lower g i i e).row + longest ≤ most
  sums_leave_room i l e = omega (arith, sums_bounded_at (breakdown g) (sums_at k lower g i) i i e (2 * e) (repair_repairs_here e) (omega arith) (sums_bounded i l))

  pub notes_small : (i s : ℕ) → notes k lower g (suc i) s ≤ top_byte g
  unfolding notes sums_at
  notes_small i s = chosen_small (suc i) (sums k lower g (g.size - suc i) (suc i)) (bare (g.size - suc i) (suc i) (omega arith)) s

  pub walked_bytes : Bytes (breakdown g) (walked k lower g)
  unfolding walked
  walked_bytes = plan_bytes (breakdown g) (regular g ok) (notes k lower g) notes_small g.size

  pub walked_whole : walked k lower g 0 ≡ 0
  unfolding walked
  walked_whole = plan_whole (breakdown g) (regular g ok) (notes k lower g) notes_small g.size

  module _ (laws : Laws k lower) where
    -- no byte precedes the chosen one
    chosen_first : (i : ℕ) (ex : Sums) → ex i 0 ≡ nothing → ((e : ℕ) → length (ex i e).row + longest ≤ most) → (s b : ℕ) → precedes lower (value k (way (breakdown g) ex i s b)) (g.rank b) (value k (chosen k lower g i (ex i) s).sum) (g.rank (chosen k lower g i (ex i) s).byte) ≡ false
    chosen_first i ex bare-here room s b = go (eqb s 0) refl
      where
        c : Choice
        c = best_from k lower g i (ex i) s

        only_zero : (u : Bool) → eqb b 0 ≡ u → precedes lower (value k (both (cond u nothing closed) (ex i (repaired_at b)))) (g.rank b) (value k nothing) (g.rank 0) ≡ false
        only_zero true e = subst (λ v. precedes lower (value k (both nothing (ex i (repaired_at v)))) (g.rank v) (value k nothing) (g.rank 0) ≡ false) (sym (eqb-true b 0 e)) (subst (λ a. precedes lower (value k (both nothing a)) (g.rank 0) (value k nothing) (g.rank 0) ≡ false) (sym bare-here) (itself laws nothing (g.rank 0) (g.rank 0) (omega arith) (omega arith)))
        only_zero false e = none_is_last lower (value k nothing) (g.rank b) (g.rank 0)

        go : (z : Bool) → eqb s 0 ≡ z → let v = cond z (record { byte = 0; sum = nothing }) c in precedes lower (value k (both (cond z (cond (eqb b 0) nothing closed) (route g.places.up (g.options i) (g.places.above s) s b)) (ex i (repaired_at b)))) (g.rank b) (value k v.sum) (g.rank v.byte) ≡ false
        go true e = only_zero (eqb b 0) refl
        go false e = best_first k lower g.rank g.places ok.rising (g.options i) (ex i) bare-here laws room (g.places.above s) s refl (λ _. let h = eqb-false s 0 e in omega arith) (ok.rising.short s) b

    -- every note is right
    all_noted : (i : ℕ) → i ≤ g.size → Noted k lower (breakdown g) (notes k lower g) i (sums_at k lower g i)
    unfolding notes sums_at
    all_noted zero l = tt
    all_noted (suc i) l =
        let ex = sums k lower g (g.size - suc i) in
        let bare-here = bare (g.size - suc i) (suc i) (omega arith) in (
          (λ s b. subst (λ a. precedes lower (value k (way (breakdown g) ex (suc i) s b)) (g.rank b) (value k a) (g.rank (notes k lower g (suc i) s)) ≡ false) (sym (chosen_posts (suc i) ex bare-here s)) (chosen_first (suc i) ex bare-here (sums_leave_room (suc i) l) s b)),
          subst (λ x. Noted k lower (breakdown g) (notes k lower g) i x) (one_more i l) (all_noted i (omega arith)),
        )

    -- no row of bytes precedes the walk's
    pub walked_first : (b : ℕ → ℕ) → Bytes (breakdown g) b → b 0 ≡ 0 → precedes lower (value k (spent (breakdown g) g.size b)) (number g.rank g.size b) (value k (spent (breakdown g) g.size (walked k lower g))) (number g.rank g.size (walked k lower g)) ≡ false
    unfolding sums_at sums walked
    walked_first b fb whole =
        let e : g.size - g.size ≡ 0 = omega arith in
        let right = subst (λ d. Noted k lower (breakdown g) (notes k lower g) g.size (sums k lower g d)) e (all_noted g.size (omega arith)) in
        subst₂ (λ x y. precedes lower (value k x) (number g.rank g.size b) (value k y) (number g.rank g.size (walked k lower g)) ≡ false)
        (total_is_spent (breakdown g) b g.size) (total_is_spent (breakdown g) (walked k lower g) g.size)
        (plan_first (breakdown g) (regular g ok) (notes k lower g) notes_small laws g.size (λ _ _. nothing) (bounded g ok) right b fb whole)
