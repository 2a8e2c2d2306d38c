-- One turn of taking a component: from one echelon to the one below it.
use Rattle.std.proofs.Common.{◌≡◌, ℕ, suc, ◌+◌, ◌-◌, ◌*◌, ◌<◌, ◌≤◌, Bool, List, [], length, get_or, set, Some, None, Option, sym, refl, ap, ◌∙◌, subst, ⊎_elim, add-one, arith}
use Rattle.std.proofs.lemmas.List.{get_or-set_same, get_or-set_other}
use Rattle.std.proofs.lemmas.Bool.{cases_eq}
use Rattle.costs.specs.Kinds.{Adding}
use Rattle.model.specs.declared.component.Component.{Component}
use Rattle.model.specs.Studies.{Model, Limits}
use Rattle.plans.specs.Questions.{count}
use Rattle.plans.specs.Postings.{component}
use Rattle.plans.specs.Starts.{parent}
use Rattle.plans.specs.Orders.{rank}
use Rattle.planning.specs.declared.table.Choices.{Choices}
use Rattle.planning.specs.declared.table.Survey.{Survey}
use Rattle.planning.specs.Surveys.{no_choices}
use Rattle.theory.specs.Amounts.{both}
use Rattle.theory.specs.Options.{Options}
use Rattle.theory.specs.Choices.{no_way}
use Rattle.theory.specs.Breakdowns.{Sums}
use Rattle.theory.specs.Tables.{sums_at, notes}
use Rattle.solutions.specs.Problems.{parent_number}
use Rattle.solving.specs.declared.sum.Sum.{Sum}
use Rattle.solving.specs.declared.sum.Sum.TheVariants.{Closed}
use Rattle.solving.specs.declared.choice.Choice.{Choice}
use Rattle.solving.specs.Allowed.{allowed_choices}
use Rattle.solving.specs.Sums.{held, held_choice, Offers, Leads}
use Rattle.solving.specs.Working.{AddsAbove}
use Rattle.solving.specs.Steps.{tabled, OffersAll, Cells, Noted, best_on, FindsWay}
use Rattle.solving.proofs.Holding.{best_posts}
use Rattle.solving.proofs.Tabled.{parent_before}
use Rattle.solving.proofs.Stepping.{best_step, best_last, note_is, above_same, above_other, above_none, under_room, on_room, above_room}
use Rattle.solving.proofs.Cells.{cells_apart, cell_fits}

-- component i with the echelons from e on done: the best way on, the bytes noted, and the cells, with the sums before the
-- component is taken at the echelons below e, and after it at the others
pub record Partly {C : Type 0} (k : Adding C) (lower : C → C → Bool) (s : Model) (o : ℕ → Options) (i e : ℕ) (onward : Choice C) (bytes : List ℕ) (cells : List (Sum C)) : Type 0 where
  pub way : onward ≡ held_choice k (best_on k lower s o i e)
  pub noted : (d : ℕ) → e ≤ d → d < s.echelons → get_or bytes d 0 ≡ notes k lower (tabled s o) (suc i) (suc d)
  pub before : (j d : ℕ) → j < suc i → d < e → d < s.echelons → get_or cells (j * s.echelons + d) Closed ≡ held k (sums_at k lower (tabled s o) (suc i) (suc j) (suc d))
  pub after : (j d : ℕ) → j < i → e ≤ d → d < s.echelons → get_or cells (j * s.echelons + d) Closed ≡ held k (sums_at k lower (tabled s o) i (suc j) (suc d))

module _ {C : Type 0} (k : Adding C) (lower : C → C → Bool) (s : Model) (limits : Limits s) (o : ℕ → Options) (i : ℕ) (entered : i < count s) where
  abbrev E : ℕ
  E = s.echelons

  abbrev ex : ℕ → Sums
  ex j = sums_at k lower (tabled s o) j

  -- before the last echelon nothing is done
  pub none_done : (e : ℕ) (onward : Choice C) (bytes : List ℕ) (cells : List (Sum C)) → e ≡ E → onward ≡ held_choice k no_way → Cells k E (suc i) (ex (suc i)) cells → Partly k lower s o i e onward bytes cells
  none_done e onward bytes cells last is stand = record {
    way = is ∙ ap (held_choice k) (sym (best_last k lower s limits o i)) ∙ ap (λ n. held_choice k (best_on k lower s o i n)) (sym last);
    noted = λ d h l. absurd (omega arith);
    before = λ j d hj hd l. stand j d hj l;
    after = λ j d hj h l. absurd (omega arith);
  }

  -- when the first echelon is done, the component is taken
  pub all_done : (e : ℕ) (onward : Choice C) (bytes : List ℕ) (cells : List (Sum C)) → e ≡ 0 → Partly k lower s o i e onward bytes cells → Cells k E i (ex i) cells × (onward.sum ≡ held k (best_on k lower s o i 0).sum) × Noted E (notes k lower (tabled s o)) i bytes
  all_done e onward bytes cells first st = (
    (λ j d hj l. st.after j d hj (omega arith) l),
    ap (λ (c : Choice C). c.sum) st.way ∙ ap (λ n. held k (best_on k lower s o i n).sum) first,
    (λ d l. st.noted d (omega arith) l),
  )

  module _ (e : ℕ) (here : e < E) (onward next : Choice C) (bytes : List ℕ) (cells cells' : List (Sum C)) (long : e < length bytes) (room : count s * E ≤ length cells)
      (st : Partly k lower s o i (suc e) onward bytes cells) (is : next ≡ held_choice k (best_on k lower s o i e)) where
    sum_is : next.sum ≡ held k (best_on k lower s o i e).sum
    sum_is = ap (λ (c : Choice C). c.sum) is

    noted_now : (d : ℕ) → e ≤ d → d < E → get_or (set bytes e next.byte) d 0 ≡ notes k lower (tabled s o) (suc i) (suc d)
    noted_now d h l = ⊎_elim
        (λ same. subst (λ n. get_or (set bytes e next.byte) n 0 ≡ notes k lower (tabled s o) (suc i) (suc n)) (sym same)
        (get_or-set_same bytes e next.byte 0 long ∙ ap (λ (c : Choice C). c.byte) is ∙ sym (note_is k lower s limits o i e)))
        (λ ne. get_or-set_other bytes e d next.byte 0 ne ∙ st.noted d (omega arith) l)
        (cases_eq d e)

    -- a top component adds to no cell
    turn_top : parent s i ≡ None → cells' ≡ cells → Partly k lower s o i e next (set bytes e next.byte) cells'
    turn_top top same = subst (λ v. Partly k lower s o i e next (set bytes e next.byte) v) (sym same) (record {
      way = is;
      noted = noted_now;
      before = λ j d hj hd l. st.before j d hj (omega arith) l;
      after = λ j d hj h l. ⊎_elim
          (λ at. st.before j d (omega arith) (omega arith) l ∙ ap (held k) (sym (above_none k lower s limits o i j d entered top)))
          (λ ne. st.after j d hj (omega arith) l)
          (cases_eq d e);
    })

    -- any other adds to the cell of its parent
    module _ (p : ℕ) (under : parent s i ≡ Some p) (first : p < i) where
      abbrev sum : Sum C
      sum = held k (both (ex (suc i) (suc p) (suc e)) (best_on k lower s o i e).sum)

      other : (j d : ℕ) → d < E → ((j ≡ p) → (d ≡ e) → ⊥) → get_or (set cells (p * E + e) sum) (j * E + d) Closed ≡ get_or cells (j * E + d) Closed
      other j d l ne = get_or-set_other cells (p * E + e) (j * E + d) sum Closed (cells_apart E j p d e l here ne)

      added : (j : ℕ) → j < i → get_or (set cells (p * E + e) sum) (j * E + e) Closed ≡ held k (ex i (suc j) (suc e))
      added j hj = ⊎_elim
          (λ at. subst (λ n. get_or (set cells (p * E + e) sum) (n * E + e) Closed ≡ held k (ex i (suc n) (suc e))) (sym at)
          (get_or-set_same cells (p * E + e) sum Closed (cell_fits (count s) E p e (length cells) (omega arith) here room) ∙ ap (held k) (sym (above_same k lower s limits o i p e entered under))))
          (λ ne. other j e here (λ z _. ne z) ∙ st.before j e (omega arith) (omega arith) here ∙ ap (held k) (sym (above_other k lower s limits o i p j e entered under ne)))
          (cases_eq j p)

      turn_under : cells' ≡ set cells (p * E + e) sum → Partly k lower s o i e next (set bytes e next.byte) cells'
      turn_under same = subst (λ v. Partly k lower s o i e next (set bytes e next.byte) v) (sym same) (record {
        way = is;
        noted = noted_now;
        before = λ j d hj hd l. other j d l (λ _ z. omega arith) ∙ st.before j d hj (omega arith) l;
        after = λ j d hj h l. ⊎_elim
            (λ at. subst (λ n. get_or (set cells (p * E + e) sum) (j * E + n) Closed ≡ held k (ex i (suc j) (suc n))) (sym at) (added j hj))
            (λ ne. other j d l (λ _ z. ne z) ∙ st.after j d hj (omega arith) l)
            (cases_eq d e);
      })

    turned : (p : Option ℕ) → parent s i ≡ p → AddsAbove k p E e next.sum cells cells' → Partly k lower s o i e next (set bytes e next.byte) cells'
    turned None is_parent adds = turn_top is_parent adds
    turned (Some p) is_parent adds =
        let first : p < i = omega (arith, parent_before s limits i, ap parent_number is_parent) in
        turn_under p is_parent first
        (adds (ex (suc i) (suc p) (suc e)) (best_on k lower s o i e).sum (st.before p e (omega arith) (omega arith) here) sum_is (above_room k lower s limits o i p e entered is_parent first))

  -- one turn: the way on is found, and added to the parent's cell, which is read off the component c
  pub turn : (t : Survey) (shut : List ℕ) (m e last : ℕ) (c : Component) (onward next : Choice C) (bytes : List ℕ) (cells cells' : List (Sum C)) → m ≡ suc e → e < E → last ≡ E → c ≡ component s i → e < length bytes → count s * E ≤ length cells → OffersAll s t shut o → Partly k lower s o i m onward bytes cells → FindsWay k lower s t shut i e cells onward next → AddsAbove k c.parent last e next.sum cells cells' → Partly k lower s o i e next (set bytes e next.byte) cells'
  turn t shut m e last c onward next bytes cells cells' one here same_last read long room offers st0 finds adds0 =
      let st = subst (λ n. Partly k lower s o i n onward bytes cells) one st0 in
      let on = best_on k lower s o i (suc e) in
      let posts = best_posts k lower rank (o (suc i)) suc (ex (suc i) (suc i)) (E - suc e) (suc (suc e)) in
      let is : next ≡ held_choice k (best_on k lower s o i e) =
      finds o (ex (suc i) (suc i)) on offers (st.before i e (omega arith) (omega arith) here) st.way posts (omega (arith, under_room k lower s limits o i (suc e) entered)) (on_room k lower s limits o i e entered here)
      ∙ ap (held_choice k) (sym (best_step k lower s limits o i e here)) in
      let adds1 = subst (λ n. AddsAbove k c.parent n e next.sum cells cells') same_last adds0 in
      let adds = subst (λ (d : Component). AddsAbove k d.parent E e next.sum cells cells') read adds1 in
      turned e here onward next bytes cells cells' long room st is (parent s i) refl adds

-- the way on that is found by the component c, as it is read, by its row of the survey and by its cell
pub way_found : {C : Type 0} (k : Adding C) (lower : C → C → Bool) (s : Model) (t : Survey) (shut : List ℕ) (i e last : ℕ) (c : Component) (choices : Choices) (cells : List (Sum C)) (under : Sum C) (onward r : Choice C)
    → i < count s → e < s.echelons → last ≡ s.echelons → c ≡ component s i
    → choices ≡ allowed_choices (get_or (get_or t.options i []) e no_choices) c.needs (get_or shut e 0)
    → under ≡ get_or cells (i * last + e) Closed → Leads k lower choices (e + 1) under onward r → FindsWay k lower s t shut i e cells onward r
way_found k lower s t shut i e last c choices cells under onward r entered here same read is cell leads o below on offers stands =
    let kept = get_or (get_or t.options i []) e no_choices in
    let leads1 = subst (λ n. Leads k lower choices n under onward r) (add-one e) leads in
    let allows = is ∙ ap (λ (d : Component). allowed_choices kept d.needs (get_or shut e 0)) read in
    leads1 (o (suc i)) below on
    (subst (λ p. Offers p (o (suc i)) (suc e)) (sym allows) (offers i e entered here))
    (cell ∙ ap (λ n. get_or cells (i * n + e) Closed) same ∙ stands)
