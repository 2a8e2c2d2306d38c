-- The bytes read off a consistent selection are a plan, and it describes the selection.
use Rattle.std.proofs.Common.{◌≡◌, ℕ, zero, suc, ◌+◌, ◌<◌, ◌≤◌, List, subst, inl, inr, arith}
use Rattle.std.proofs.lemmas.Bool.{cases_eq}
use Rattle.model.specs.declared.question.RepairOption.{RepairOption}
use Rattle.model.specs.declared.question.RepairOption.TheVariants.{Discard, Repair, Move}
use Rattle.model.specs.Books.{Book}
use Rattle.model.specs.Studies.{Model, Limits}
use Rattle.plans.specs.Questions.{count}
use Rattle.plans.specs.Starts.{byte, final, Starts, top, under}
use Rattle.plans.specs.Uses.{Uses, discards, repairs, moves}
use Rattle.plans.specs.Plans.{IsPlan}
use Rattle.plans.proofs.Reading.{started_is_entered}
use Rattle.selections.specs.Selections.{Selection, Selected, Consistent}
use Rattle.selections.specs.Laws.{Describes}
use Rattle.selections.proofs.Telling.{Tells}
use Rattle.plans.proofs.Reading.{parent_before}
use Rattle.selections.proofs.Routes.{Begins, at_first, at_repair, Route, settled_at_end, begins, route_of}
use Rattle.selections.proofs.Bytes.{plan_of, length_plan_of, Says, decided_says, route_says}

-- where exactly one option is selected, discard and repair are not both
not_both : {s : Model} {x : Selection} {i a f : ℕ} → Route s x i a f → Selected x i f Discard → Selected x i f Repair → ⊥
not_both route d r = grind arith

-- a byte that says what is selected at the end of a route tells of each option that is selected on it, and of no other
module _ (s : Model) (x : Selection) (i a f b : ℕ) (route : Route s x i a f) (says : Says x i b f) where
  says_final : final b ≡ f
  says_final = omega arith

  selected_tells : (e : ℕ) (o : RepairOption) → Selected x i e o → Tells b e o
  selected_tells e Discard h =
      let at_end = settled_at_end route e Discard (λ z. omega arith) h in
      elim says [
        | inl d ↦ omega (arith, d.0)
        | inr r ↦ absurd (not_both route (subst (λ j. Selected x i j Discard) at_end h) r.1)
      ]
  selected_tells e Repair h =
      let at_end = settled_at_end route e Repair (λ z. omega arith) h in
      elim says [
        | inl d ↦ absurd (not_both route d.1 (subst (λ j. Selected x i j Repair) at_end h))
        | inr r ↦ omega (arith, r.0)
      ]
  selected_tells e Move h =
      let to = route.none_after e Move h in
      elim (cases_eq e f) [
        | inl same ↦ absurd (route.climb.not_moved (subst (λ j. Selected x i j Move) same h))
        | inr d ↦ omega (arith, says_final)
      ]

  tells_selected : (e : ℕ) (o : RepairOption) → a ≤ e → Tells b e o → Selected x i e o
  tells_selected e o l t = grind arith

-- what the byte of a started component tells of is used
tells_used : {s : Model} {plan : List ℕ} {i a : ℕ} → Starts s plan i a → (e : ℕ) (o : RepairOption) → a ≤ e → Tells (byte plan i) e o → Uses s plan i e o
tells_used {s} {plan} {i} {a} r e Discard l t = discards i a e r t
tells_used {s} {plan} {i} {a} r e Repair l t = repairs i a e r t
tells_used {s} {plan} {i} {a} r e Move l t = moves i a e r l t

module _ (s : Model) (b : Book) (x : Selection) (limits : Limits s) (consistent : Consistent s b x) where
  -- a component that starts at an echelon, by the bytes, is first asked for there, and the other way round
  begins_as_it_starts : {i a : ℕ} → Starts s (plan_of s x) i a → Begins s x i a
  begins_as_it_starts (top i l h) = at_first (l, h)
  begins_as_it_starts (under i p a e l h r t o) =
      let route = route_of s b x limits consistent p a (begins_as_it_starts r) in
      let says = route_says s x p (started_is_entered r) a route.0 route.1 in
      let first = route.1.first in
      let rising = route.1.climb.rising in
      let ends : final (byte (plan_of s x) p) ≡ route.0 = says_final s x p a route.0 (byte (plan_of s x) p) route.1 says in
      at_repair p e (l, h) (tells_selected s x p a route.0 (byte (plan_of s x) p) route.1 says e Repair (omega arith) t)

  starts_as_it_begins : (n i a : ℕ) → i < n → Begins s x i a → Starts s (plan_of s x) i a
  starts_as_it_begins zero i a l start = absurd (omega arith)
  starts_as_it_begins (suc n) i a l (at_first is) = top i is.0 is.1
  starts_as_it_begins (suc n) i a l (at_repair p e is h) =
      let before = parent_before s i p limits is.0 is.1 in
      let begun = begins s b x consistent p e Repair h in
      let starts = starts_as_it_begins n p begun.0 (omega arith) begun.1 in
      let route = route_of s b x limits consistent p begun.0 begun.1 in
      let says = route_says s x p (started_is_entered starts) begun.0 route.0 route.1 in
      let first = route.1.first in
      under i p begun.0 e is.0 is.1 starts
      (selected_tells s x p begun.0 route.0 (byte (plan_of s x) p) route.1 says e Repair h) (omega (arith, begun.2))

  -- so each component that starts has its route, and its byte says how that ends
  pub record Way (i a : ℕ) : Type 0 where
    pub end : ℕ
    pub route : Route s x i a end
    pub says : Says x i (byte (plan_of s x) i) end

  way : {i a : ℕ} → Starts s (plan_of s x) i a → Way i a
  way {i} {a} r =
      let found = route_of s b x limits consistent i a (begins_as_it_starts r) in
      record { end = found.0; route = found.1; says = route_says s x i (started_is_entered r) a found.0 found.1 }

  way_final : {i a : ℕ} (r : Starts s (plan_of s x) i a) → final (byte (plan_of s x) i) ≡ (way r).end
  way_final {i} {a} r = grind arith

  -- what is selected is used, and what is used is selected
  selected_is_used : (i e : ℕ) (o : RepairOption) → Selected x i e o → Uses s (plan_of s x) i e o
  selected_is_used i e o h =
      let begun = begins s b x consistent i e o h in
      let starts = starts_as_it_begins (i + 1) i begun.0 (omega arith) begun.1 in
      tells_used starts e o begun.2 (selected_tells s x i begun.0 (way starts).end _ (way starts).route (way starts).says e o h)

  used_is_selected_from : {i a : ℕ} (r : Starts s (plan_of s x) i a) (e : ℕ) (o : RepairOption) → a ≤ e → Tells (byte (plan_of s x) i) e o → Selected x i e o
  used_is_selected_from {i} {a} r e o l t = tells_selected s x i a (way r).end _ (way r).route (way r).says e o l t

  used_is_selected : {i e : ℕ} {o : RepairOption} → Uses s (plan_of s x) i e o → Selected x i e o
  used_is_selected (discards i a e r h) =
      let ends = way_final r in
      let rising = (way r).route.climb.rising in
      used_is_selected_from r e Discard (omega arith) h
  used_is_selected (repairs i a e r h) =
      let ends = way_final r in
      let rising = (way r).route.climb.rising in
      used_is_selected_from r e Repair (omega arith) h
  used_is_selected (moves i a e r l h) = used_is_selected_from r e Move l h

  pub plan_of_describes : Describes s (plan_of s x) x
  plan_of_describes = record { used_is_selected = λ i e o. used_is_selected; selected_is_used = selected_is_used }

  reached_is_decided : (i a : ℕ) → Starts s (plan_of s x) i a → 1 ≤ byte (plan_of s x) i
  reached_is_decided i a r = omega (arith, way_final r, (way r).route.first, (way r).route.climb.rising)

  -- a byte that is not 0 says what is selected, which was first asked for somewhere
  decided_is_reached : (i : ℕ) → i < count s → 1 ≤ byte (plan_of s x) i → (a : ℕ) × Starts s (plan_of s x) i a
  decided_is_reached i l h =
      let found = decided_says s x i l h in
      let begun : (a : ℕ) × Begins s x i a × (a ≤ found.0) = elim found.1 [
        | inl d ↦ begins s b x consistent i found.0 Discard d.1
        | inr r ↦ begins s b x consistent i found.0 Repair r.1
      ] in
      (begun.0, starts_as_it_begins (i + 1) i begun.0 (omega arith) begun.1)

  pub plan_of_is_plan : IsPlan s b (plan_of s x)
  plan_of_is_plan = record {
    one_byte_each = length_plan_of s x;
    reached_is_decided = reached_is_decided;
    decided_is_reached = decided_is_reached;
    from_the_start = λ i a r. omega (arith, way_final r, (way r).route.climb.rising);
    to_the_last = λ i a r. omega (arith, way_final r, (way r).route.climb.not_past);
    options_open = λ i e o u. consistent.options_open i e o (used_is_selected u);
    resources_open = λ r e n. consistent.resources_open n.by e r n.option (used_is_selected n.used) n.needs;
  }
