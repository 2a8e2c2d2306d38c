-- How the sums, the notes and the best ways on of one component follow from those of the components after it.
use Rattle.std.proofs.Common.{◌≡◌, ℕ, suc, ◌+◌, ◌-◌, ◌*◌, ◌<◌, ◌≤◌, Bool, true, false, eqb, length, Some, None, refl, ap, ◌∙◌, subst, arith, length-append}
use Rattle.std.proofs.lemmas.Bool.{eq-eqb, ne_eqb, cond-true, cond-false}
use Rattle.costs.specs.Postings.{most}
use Rattle.costs.specs.Kinds.{Adding}
use Rattle.model.specs.Studies.{Model, Limits}
use Rattle.plans.specs.Questions.{count}
use Rattle.plans.specs.Starts.{parent}
use Rattle.plans.specs.Orders.{rank}
use Rattle.theory.specs.Amounts.{Amount, both, nothing}
use Rattle.theory.specs.Places.{longest}
use Rattle.theory.specs.Options.{Options, route, repaired_at}
use Rattle.theory.specs.Choices.{Choice as Chosen, best, way_on, no_way}
use Rattle.theory.specs.Breakdowns.{Sums, onto}
use Rattle.theory.specs.Tables.{Table, breakdown, chosen, enter, take_one, sums, sums_at, notes, most_options}
use Rattle.theory.proofs.Routes.{route_length, repair_repairs_here}
use Rattle.theory.proofs.Bests.{best_right}
use Rattle.theory.proofs.Inserted.{onto_same, onto_other}
use Rattle.theory.proofs.Totals.{sums_bounded_at}
use Rattle.theory.proofs.Walked.{bare, sums_bounded, sums_leave_room}
use Rattle.solutions.specs.Problems.{parent_number}
use Rattle.solving.specs.Steps.{tabled, best_on}
use Rattle.solving.proofs.Tabled.{sound}

module _ {C : Type 0} (k : Adding C) (lower : C → C → Bool) (s : Model) (limits : Limits s) (o : ℕ → Options) where
  abbrev t : Table
  t = tabled s o

  abbrev ex : ℕ → Sums
  ex i = sums_at k lower t i

  -- ---- the best ways on
  pub best_step : (i e : ℕ) → e < s.echelons → best_on k lower s o i e ≡ way_on k lower rank (o (suc i)) (ex (suc i) (suc i)) (suc e) (best_on k lower s o i (suc e))
  best_step i e h =
      let fewer : s.echelons - e ≡ suc (s.echelons - suc e) = omega arith in
      ap (λ n. best k lower rank suc (o (suc i)) (ex (suc i) (suc i)) n (suc e)) fewer

  -- past the last echelon there is none
  pub best_last : (i : ℕ) → best_on k lower s o i s.echelons ≡ no_way
  best_last i =
      let none : s.echelons - s.echelons ≡ 0 = omega arith in
      ap (λ n. best k lower rank suc (o (suc i)) (ex (suc i) (suc i)) n (suc s.echelons)) none

  chosen_is : (i e : ℕ) (under : ℕ → Amount) → chosen k lower t (suc i) under (suc e) ≡ best k lower rank suc (o (suc i)) under (s.echelons - e) (suc e)
  chosen_is i e under =
      let no : eqb (suc e) 0 ≡ false = ne_eqb (suc e) 0 (λ h. omega arith) in
      let left : suc s.echelons - suc e ≡ s.echelons - e = omega arith in
      let above : t.places.above (suc e) ≡ s.echelons - e = cond-false (eqb (suc e) 0) 0 (suc s.echelons - suc e) no ∙ left in
      cond-false (eqb (suc e) 0) (record { byte = 0; sum = nothing }) _ no
      ∙ ap (λ n. best k lower rank suc (o (suc i)) under n (suc e)) above

  pub note_is : (i e : ℕ) → notes k lower t (suc i) (suc e) ≡ (best_on k lower s o i e).byte
  unfolding notes
  note_is i e = ap (λ (c : Chosen). c.byte) (chosen_is i e (ex (suc i) (suc i)))

  -- ---- the sums
  adds : ℕ → ℕ → Amount
  adds i e = (chosen k lower t (suc i) (ex (suc i) (suc i)) (enter t (suc i) e)).sum

  sums_step : (i : ℕ) → i < count s → ex i ≡ onto (ex (suc i)) (parent_number (parent s i)) (adds i)
  unfolding sums_at sums take_one adds
  sums_step i h =
      let d = count s - suc i in
      let e : count s - i ≡ suc d = omega arith in
      let f : count s - d ≡ suc i = omega arith in
      ap (sums k lower t) e ∙ ap (λ j. take_one k lower t j (sums k lower t d)) f

  adds_top : (i e : ℕ) → parent s i ≡ None → adds i e ≡ (best_on k lower s o i 0).sum
  unfolding adds
  adds_top i e h =
      let top : eqb (parent_number (parent s i)) 0 ≡ true = eq-eqb _ 0 (ap parent_number h) in
      ap (λ n. (chosen k lower t (suc i) (ex (suc i) (suc i)) n).sum) (cond-true (eqb (parent_number (parent s i)) 0) 1 e top)
      ∙ ap (λ (c : Chosen). c.sum) (chosen_is i 0 (ex (suc i) (suc i)))

  adds_under : (i p e : ℕ) → parent s i ≡ Some p → adds i (suc e) ≡ (best_on k lower s o i e).sum
  unfolding adds
  adds_under i p e h =
      let some : parent_number (parent s i) ≡ suc p = ap parent_number h in
      let under : eqb (parent_number (parent s i)) 0 ≡ false = ne_eqb _ 0 (λ z. omega arith) in
      ap (λ n. (chosen k lower t (suc i) (ex (suc i) (suc i)) n).sum) (cond-false (eqb (parent_number (parent s i)) 0) 1 (suc e) under)
      ∙ ap (λ (c : Chosen). c.sum) (chosen_is i e (ex (suc i) (suc i)))

  stays : (i j e : ℕ) → i < count s → (j ≡ parent_number (parent s i) → ⊥) → ex i j e ≡ ex (suc i) j e
  stays i j e h ne = ap (λ (f : Sums). f j e) (sums_step i h) ∙ onto_other (ex (suc i)) (parent_number (parent s i)) j e (adds i) ne

  grows : (i j e : ℕ) → i < count s → parent_number (parent s i) ≡ j → ex i j e ≡ both (ex (suc i) j e) (adds i e)
  grows i j e h is = ap (λ (f : Sums). f j e) (sums_step i h) ∙ ap (λ p. onto (ex (suc i)) p (adds i) j e) is ∙ onto_same (ex (suc i)) j e (adds i)

  -- the cells of a component's parent, and of any other component
  pub above_same : (i p e : ℕ) → i < count s → parent s i ≡ Some p → ex i (suc p) (suc e) ≡ both (ex (suc i) (suc p) (suc e)) (best_on k lower s o i e).sum
  above_same i p e h is = grows i (suc p) (suc e) h (ap parent_number is) ∙ ap (both (ex (suc i) (suc p) (suc e))) (adds_under i p e is)

  pub above_other : (i p j e : ℕ) → i < count s → parent s i ≡ Some p → (j ≡ p → ⊥) → ex i (suc j) (suc e) ≡ ex (suc i) (suc j) (suc e)
  above_other i p j e h is ne =
      let number : parent_number (parent s i) ≡ suc p = ap parent_number is in
      stays i (suc j) (suc e) h (λ z. ne (omega arith))

  pub above_none : (i j e : ℕ) → i < count s → parent s i ≡ None → ex i (suc j) (suc e) ≡ ex (suc i) (suc j) (suc e)
  above_none i j e h is =
      let number : parent_number (parent s i) ≡ 0 = ap parent_number is in
      stays i (suc j) (suc e) h (λ z. omega arith)

  -- the total, which stands at the whole
  pub whole_top : (i : ℕ) → i < count s → parent s i ≡ None → ex i 0 0 ≡ both (ex (suc i) 0 0) (best_on k lower s o i 0).sum
  whole_top i h is = grows i 0 0 h (ap parent_number is) ∙ ap (both (ex (suc i) 0 0)) (adds_top i 0 is)

  pub whole_under : (i p : ℕ) → i < count s → parent s i ≡ Some p → ex i 0 0 ≡ ex (suc i) 0 0
  whole_under i p h is =
      let number : parent_number (parent s i) ≡ suc p = ap parent_number is in
      stays i 0 0 h (λ z. omega arith)

  -- ---- room for one posting more, and for what is added
  pub under_room : (i e : ℕ) → i < count s → length (ex (suc i) (suc i) e).row + longest ≤ most
  under_room i e h = sums_leave_room k lower t (sound s limits o) (suc i) h e

  pub on_room : (i e : ℕ) → i < count s → e < s.echelons → length (best_on k lower s o i (suc e)).sum.row + 1 ≤ most
  unfolding sums_at
  on_room i e h l =
      let few = limits.few_echelons in
      let left = s.echelons - suc e in
      let under : ℕ → Amount = ex (suc i) (suc i) in
      let no : eqb (suc (suc e)) 0 ≡ false = ne_eqb (suc (suc e)) 0 (λ z. omega arith) in
      let places : suc s.echelons - suc (suc e) ≡ left = omega arith in
      let above : t.places.above (suc (suc e)) ≡ left = cond-false (eqb (suc (suc e)) 0) 0 (suc s.echelons - suc (suc e)) no ∙ places in
      let on = best_on k lower s o i (suc e) in
      let is = (best_right k lower rank t.places (sound s limits o).rising (o (suc i)) under (bare k lower t (sound s limits o) (count s - suc i) (suc i) (omega arith)) left (suc (suc e)) above (λ _. omega arith)).0 in
      let way = (route suc (o (suc i)) left (suc (suc e)) on.byte).row in
      subst (λ (a : Amount). length a.row + 1 ≤ most) is
      (omega (arith, length-append way (under (repaired_at on.byte)).row, route_length suc (o (suc i)) left (suc (suc e)) on.byte, under_room i (repaired_at on.byte) h))

  both_room : (a b c : Amount) → a ≡ both b c → length a.row ≤ most_options → length b.row + length c.row ≤ most
  both_room a b c is h = omega (arith, ap (λ (v : Amount). length v.row) is, length-append b.row c.row)

  pub above_room : (i p e : ℕ) → i < count s → parent s i ≡ Some p → p < i → length (ex (suc i) (suc p) (suc e)).row + length (best_on k lower s o i e).sum.row ≤ most
  above_room i p e h is l =
      both_room (ex i (suc p) (suc e)) (ex (suc i) (suc p) (suc e)) (best_on k lower s o i e).sum (above_same i p e h is)
      (sums_bounded_at (breakdown t) (ex i) i (suc p) (suc e) (2 * suc e) (repair_repairs_here (suc e)) l (sums_bounded k lower t (sound s limits o) i (omega arith)))

  pub whole_room : (i : ℕ) → i < count s → parent s i ≡ None → length (ex (suc i) 0 0).row + length (best_on k lower s o i 0).sum.row ≤ most
  whole_room i h is =
      both_room (ex i 0 0) (ex (suc i) 0 0) (best_on k lower s o i 0).sum (whole_top i h is)
      (sums_bounded_at (breakdown t) (ex i) i 0 0 0 refl (omega arith) (sums_bounded k lower t (sound s limits o) i (omega arith)))
