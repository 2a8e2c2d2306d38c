-- A selection that a plan describes is consistent.
use Rattle.std.proofs.Common.{ℕ, zero, suc, ◌+◌, ◌≤◌, List, subst, inl, inr, arith}
use Rattle.std.proofs.lemmas.Bool.{cases_eq, cases_lt}
use Rattle.model.specs.declared.question.RepairOption.{RepairOption}
use Rattle.model.specs.declared.question.RepairOption.TheVariants.{Discard, Repair, Move}
use Rattle.model.specs.Books.{Book}
use Rattle.model.specs.Studies.{Model}
use Rattle.plans.specs.Starts.{byte, final, Starts, top, under}
use Rattle.plans.specs.Uses.{Uses, discards, repairs, moves}
use Rattle.plans.specs.Plans.{IsPlan}
use Rattle.selections.specs.Selections.{Selection, Selected, ExactlyOne, IsUnder, AskedFor, at_the_top, moved, out_of, Consistent}
use Rattle.selections.specs.Laws.{Describes}
use Rattle.plans.proofs.Reading.{odd_or_even}
use Rattle.selections.proofs.Telling.{used_tells, tells_one}

-- the option that is used at an echelon from the start to the final one
used_at :
    {s : Model} {plan : List ℕ} {i a : ℕ} (e : ℕ) → Starts s plan i a → a ≤ e → e ≤ final (byte plan i)
    → (o : RepairOption) × Uses s plan i e o
used_at {s} {plan} {i} {a} e r l h =
    elim (cases_lt e (final (byte plan i))) [
      | inl k ↦ (Move, moves i a e r l k)
      | inr k ↦
          elim (odd_or_even (byte plan i)) [
            | inl odd ↦ (Discard, discards i a e r (omega arith))
            | inr even ↦ (Repair, repairs i a e r (omega arith))
          ]
    ]

-- an option that is used stands from the start to the final echelon
pub record Spans (s : Model) (plan : List ℕ) (i e : ℕ) : Type 0 where
  pub start : ℕ
  pub starts : Starts s plan i start
  pub from_the_start : start ≤ e
  pub to_the_final : e ≤ final (byte plan i)

module _ (s : Model) (b : Book) (plan : List ℕ) (is_plan : IsPlan s b plan) where
  used_spans : {i e : ℕ} {o : RepairOption} → Uses s plan i e o → Spans s plan i e
  used_spans (discards i a e r h) =
      let first = is_plan.from_the_start i a r in
      record { start = a; starts = r; from_the_start = omega arith; to_the_final = omega arith }
  used_spans (repairs i a e r h) =
      let first = is_plan.from_the_start i a r in
      record { start = a; starts = r; from_the_start = omega arith; to_the_final = omega arith }
  used_spans (moves i a e r l h) = record { start = a; starts = r; from_the_start = l; to_the_final = omega arith }

  module _ (x : Selection) (described : Describes s plan x) where
    -- at each echelon from the start to the final one exactly one option is selected
    one_at : (i a e : ℕ) → Starts s plan i a → a ≤ e → e ≤ final (byte plan i) → ExactlyOne x i e
    one_at i a e r l h =
        let found = used_at e r l h in
        record {
          option = found.0;
          selected = described.used_is_selected i e found.0 found.1;
          no_other = λ o k. tells_one (byte plan i) e o found.0 (used_tells (described.selected_is_used i e o k)) (used_tells found.1);
        }

    -- and so at the start
    one_at_start : (i a : ℕ) → Starts s plan i a → ExactlyOne x i a
    one_at_start i a r = one_at i a a r (omega arith) (is_plan.from_the_start i a r)

    moved_has_one : (i e : ℕ) → Selected x i e Move → ExactlyOne x i (e + 1)
    moved_has_one i e h =
        let used = described.selected_is_used i e Move h in
        let tells = used_tells used in
        let spans = used_spans used in
        one_at i spans.start (e + 1) spans.starts (omega arith) (omega arith)

    no_move_at_highest : (i : ℕ) → Selected x i s.echelons Move → ⊥
    no_move_at_highest i h =
        let used = described.selected_is_used i s.echelons Move h in
        let tells = used_tells used in
        let spans = used_spans used in
        omega (arith, is_plan.to_the_last i spans.start spans.starts)

    -- a subcomponent starts where its parent is repaired
    starts_under : (i p e : ℕ) → IsUnder s i p → Uses s plan p e Repair → Starts s plan i e
    starts_under i p e is used =
        let spans = used_spans used in
        let decided = is_plan.reached_is_decided p spans.start spans.starts in
        let tells = used_tells used in
        under i p spans.start e is.0 is.1 spans.starts tells (omega arith)

    -- a start is asked for, and so is each echelon after a move
    start_is_asked : {i a : ℕ} → Starts s plan i a → AskedFor s x i a
    start_is_asked (top i l h) = at_the_top (l, h)
    start_is_asked (under i p a e l h r t o) = out_of p e (l, h) (described.used_is_selected p e Repair (repairs p a e r t))

    span_is_asked : (i e : ℕ) → Spans s plan i e → AskedFor s x i e
    span_is_asked i zero spans =
        subst (λ j. AskedFor s x i j) (let l = spans.from_the_start in omega arith) (start_is_asked spans.starts)
    span_is_asked i (suc e) spans =
        elim (cases_eq spans.start (suc e)) [
          | inl h ↦ subst (λ j. AskedFor s x i j) h (start_is_asked spans.starts)
          | inr h ↦
              let from = spans.from_the_start in
              let to = spans.to_the_final in
              let used = moves i spans.start e spans.starts (omega arith) (omega arith) in
              subst (λ j. AskedFor s x i j) (omega arith) (moved e (described.used_is_selected i e Move used))
        ]

    pub described_is_consistent : Consistent s b x
    described_is_consistent = record {
      top_has_one = λ i is. one_at_start i 1 (top i is.0 is.1);
      moved_has_one = moved_has_one;
      no_move_at_highest = no_move_at_highest;
      under_repair_has_one = λ i p e is h. one_at_start i e (starts_under i p e is (described.selected_is_used p e Repair h));
      nothing_else = λ i e o h. span_is_asked i e (used_spans (described.selected_is_used i e o h));
      options_open = λ i e o h. is_plan.options_open i e o (described.selected_is_used i e o h);
      resources_open = λ i e r o h n.
          is_plan.resources_open r e (record { by = i; option = o; used = described.selected_is_used i e o h; needs = n });
    }
