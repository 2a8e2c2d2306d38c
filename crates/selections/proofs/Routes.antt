-- What a consistent selection selects for a component: it is moved from the echelon where it is first asked for up to the
-- one where it is discarded or repaired, and nothing else.
use Rattle.std.proofs.Common.{◌≡◌, ℕ, zero, suc, ◌+◌, ◌-◌, ◌<◌, ◌≤◌, ◌⊎◌, sym, refl, ◌∙◌, subst, inl, inr, arith}
use Rattle.std.proofs.lemmas.Bool.{cases_eq, cases_lt}
use Rattle.std.proofs.lemmas.Option.{none-some}
use Rattle.model.specs.declared.question.RepairOption.{RepairOption}
use Rattle.model.specs.declared.question.RepairOption.TheVariants.{Discard, Repair, Move}
use Rattle.model.specs.Books.{Book}
use Rattle.model.specs.Letters.{letter}
use Rattle.model.specs.Studies.{Model, Limits}
use Rattle.plans.proofs.Reading.{parent_before}
use Rattle.selections.specs.Selections.{Selection, Selected, ExactlyOne, IsTop, IsUnder, AskedFor, at_the_top, moved, out_of, Consistent}

-- where component i is first asked for: at echelon 1 if it is a top component, else where its parent is repaired
pub data Begins (s : Model) (x : Selection) (i : ℕ) : ℕ → Type 0 where
  at_first : IsTop s i → Begins s x i 1
  at_repair : (p e : ℕ) → IsUnder s i p → Selected x p e Repair → Begins s x i e

-- component i is moved from echelon a on, up to echelon f, where it is not
pub record Climb (last : ℕ) (x : Selection) (i a f : ℕ) : Type 0 where
  pub rising : a ≤ f
  pub not_past : f ≤ last
  pub one_each : (e : ℕ) → a ≤ e → e ≤ f → ExactlyOne x i e
  pub moved_before : (e : ℕ) → a ≤ e → e < f → Selected x i e Move
  pub not_moved : Selected x i f Move → ⊥

-- and nothing is selected for it at any other echelon
pub record Route (s : Model) (x : Selection) (i a f : ℕ) : Type 0 where
  pub first : 1 ≤ a
  pub climb : Climb s.echelons x i a f
  pub none_before : (e : ℕ) (o : RepairOption) → Selected x i e o → a ≤ e
  pub none_after : (e : ℕ) (o : RepairOption) → Selected x i e o → e ≤ f

-- where another option than move is selected, and exactly one is, none is moved
not_moved_by : {x : Selection} {i e : ℕ} → ExactlyOne x i e → (o : RepairOption) → (letter o ≡ letter Move → ⊥) → Selected x i e o → Selected x i e Move → ⊥
not_moved_by one o differ h k = grind arith

-- the climb ends where it begins, or goes on from the next echelon
ends_here : (last : ℕ) (x : Selection) (i a : ℕ) → a ≤ last → ExactlyOne x i a → (Selected x i a Move → ⊥) → Climb last x i a a
ends_here last x i a l one none = record {
  rising = omega arith;
  not_past = l;
  one_each = λ e m n. let same : a ≡ e = omega arith in subst (λ j. ExactlyOne x i j) same one;
  moved_before = λ e m n. absurd (omega arith);
  not_moved = none;
}

goes_on : (last : ℕ) (x : Selection) (i a f : ℕ) → ExactlyOne x i a → Selected x i a Move → Climb last x i (a + 1) f → Climb last x i a f
goes_on last x i a f one h next = record {
  rising = omega arith;
  not_past = next.not_past;
  one_each = λ e m n. elim (cases_eq a e) [
    | inl same ↦ subst (λ j. ExactlyOne x i j) same one
    | inr d ↦ next.one_each e (omega arith) n
  ];
  moved_before = λ e m n. elim (cases_eq a e) [
    | inl same ↦ subst (λ j. Selected x i j Move) same h
    | inr d ↦ next.moved_before e (omega arith) n
  ];
  not_moved = next.not_moved;
}

module _ (s : Model) (b : Book) (x : Selection) (consistent : Consistent s b x) where
  -- from an echelon with exactly one option the climb comes to an end at the highest echelon or before
  climbs : (n i a : ℕ) → a + n ≡ s.echelons → ExactlyOne x i a → (o : RepairOption) → Selected x i a o → (f : ℕ) × Climb s.echelons x i a f
  climbs n i a h one Discard k = (a, ends_here _ x i a (omega arith) one (not_moved_by one Discard (λ z. omega arith) k))
  climbs n i a h one Repair k = (a, ends_here _ x i a (omega arith) one (not_moved_by one Repair (λ z. omega arith) k))
  climbs zero i a h one Move k =
      let highest : a ≡ s.echelons = omega arith in
      absurd (consistent.no_move_at_highest i (subst (λ j. Selected x i j Move) highest k))
  climbs (suc n) i a h one Move k =
      let next = consistent.moved_has_one i a k in
      let on = climbs n i (a + 1) (omega arith) next next.option next.selected in
      (on.0, goes_on _ x i a on.0 one k on.1)

  -- exactly one option is selected where a component is first asked for
  begun_has_one : {i a : ℕ} → Begins s x i a → ExactlyOne x i a
  begun_has_one {i} (at_first is) = consistent.top_has_one i is
  begun_has_one {i} (at_repair p e is h) = consistent.under_repair_has_one i p e is h

  -- what is asked for is asked for first, or after a move
  asked_first_or_moved : {i e : ℕ} → AskedFor s x i e → Begins s x i e ⊎ ((k : ℕ) × (e ≡ k + 1) × Selected x i k Move)
  asked_first_or_moved (at_the_top is) = inl (at_first is)
  asked_first_or_moved (moved k h) = inr (k, refl, h)
  asked_first_or_moved (out_of p e is h) = inl (at_repair p e is h)

  -- so what is selected goes back by moves to where the component is first asked for
  pub begins : (i e : ℕ) (o : RepairOption) → Selected x i e o → (a : ℕ) × Begins s x i a × (a ≤ e)
  begins i zero o h =
      elim (asked_first_or_moved (consistent.nothing_else i 0 o h)) [ inl start ↦ (0, start, omega arith) | inr m ↦ absurd (omega (arith, m.1)) ]
  begins i (suc e) o h =
      elim (asked_first_or_moved (consistent.nothing_else i (suc e) o h)) [
        | inl start ↦ (suc e, start, omega arith)
        | inr m ↦
            let same : m.0 ≡ e = omega (arith, m.1) in
            let before = begins i e Move (subst (λ j. Selected x i j Move) same m.2) in
            (before.0, before.1, omega (arith, before.2))
      ]

  -- a component that is first asked for at one echelon alone is selected on one climb from there
  module _ (i a : ℕ) (first : 1 ≤ a) (low : a ≤ s.echelons) (start : Begins s x i a) (alone : (e : ℕ) → Begins s x i e → e ≡ a) where
    none_before : (e : ℕ) (o : RepairOption) → Selected x i e o → a ≤ e
    none_before e o h = let begun = begins i e o h in omega (arith, alone begun.0 begun.1, begun.2)

    none_after : (f : ℕ) → Climb s.echelons x i a f → (e : ℕ) (o : RepairOption) → Selected x i e o → e ≤ f
    none_after f climb zero o h = omega arith
    none_after f climb (suc e) o h =
        elim (asked_first_or_moved (consistent.nothing_else i (suc e) o h)) [
          | inl begun ↦ omega (arith, alone (suc e) begun, climb.rising)
          | inr m ↦
              let same : m.0 ≡ e = omega (arith, m.1) in
              let move : Selected x i e Move = subst (λ j. Selected x i j Move) same m.2 in
              let before = none_after f climb e Move move in
              elim (cases_eq e f) [
                | inl at ↦ absurd (climb.not_moved (subst (λ j. Selected x i j Move) at move))
                | inr d ↦ omega arith
              ]
        ]

    route_from : (f : ℕ) × Route s x i a f
    route_from =
        let one = begun_has_one start in
        let found = climbs (s.echelons - a) i a (omega arith) one one.option one.selected in
        (found.0, record { first = first; climb = found.1; none_before = none_before; none_after = none_after found.0 found.1 })

-- a component is discarded or repaired at the end of its route alone
pub settled_at_end : {s : Model} {x : Selection} {i a f : ℕ} → Route s x i a f → (e : ℕ) (o : RepairOption) → (letter o ≡ letter Move → ⊥) → Selected x i e o → e ≡ f
settled_at_end {s} {x} {i} {a} {f} route e o differ h =
    let from = route.none_before e o h in
    let to = route.none_after e o h in
    elim (cases_lt e f) [
      | inl l ↦ absurd (not_moved_by (route.climb.one_each e from to) o differ h (route.climb.moved_before e from l))
      | inr l ↦ omega arith
    ]

pub repaired_at_end : {s : Model} {x : Selection} {i a f : ℕ} → Route s x i a f → (e : ℕ) → Selected x i e Repair → e ≡ f
repaired_at_end route e h = settled_at_end route e Repair (λ z. omega arith) h

-- and it is, one or the other
pub settled : {s : Model} {x : Selection} {i a f : ℕ} → Route s x i a f → Selected x i f Discard ⊎ Selected x i f Repair
settled {s} {x} {i} {a} {f} route =
    let l = route.climb.rising in
    let one = route.climb.one_each f l (omega arith) in
    settled_by one.option one.selected
  where
    settled_by : (o : RepairOption) → Selected x i f o → Selected x i f Discard ⊎ Selected x i f Repair
    settled_by Discard h = inl h
    settled_by Repair h = inr h
    settled_by Move h = absurd (route.climb.not_moved h)

-- a top component is first asked for at echelon 1 alone
top_begins : {s : Model} {x : Selection} {i e : ℕ} → IsTop s i → Begins s x i e → e ≡ 1
top_begins is (at_first also) = refl
top_begins is (at_repair p e other h) = absurd (none-some _ (sym is.1 ∙ other.1))

-- a subcomponent at the end of its parent's route alone
under_begins : {s : Model} {x : Selection} {i p a f e : ℕ} → IsUnder s i p → Route s x p a f → Begins s x i e → e ≡ f
under_begins is route (at_first other) = absurd (none-some _ (sym other.1 ∙ is.1))
under_begins {s} {x} {i} {p} is route (at_repair q e other h) =
    let same : q ≡ p = cc in
    repaired_at_end route e (subst (λ j. Selected x j e Repair) same h)

-- each component that is asked for has its route, by way of its parent's
module _ (s : Model) (b : Book) (x : Selection) (limits : Limits s) (consistent : Consistent s b x) where
  routes_below : (n i a : ℕ) → i < n → Begins s x i a → (f : ℕ) × Route s x i a f
  routes_below zero i a l start = absurd (omega arith)
  routes_below (suc n) i a l (at_first is) =
      route_from s b x consistent i 1 (omega arith) limits.some_echelon (at_first is) (λ e. top_begins is)
  routes_below (suc n) i a l (at_repair p e is h) =
      let before = parent_before s i p limits is.0 is.1 in
      let begun = begins s b x consistent p e Repair h in
      let above = routes_below n p begun.0 (omega arith) begun.1 in
      let route = above.1 in
      let at_end = repaired_at_end route e h in
      let past = route.climb.not_past in
      route_from s b x consistent i e (omega (arith, route.first, begun.2)) (omega arith) (at_repair p e is h)
      (λ j other. under_begins is route other ∙ sym at_end)

  pub route_of : (i a : ℕ) → Begins s x i a → (f : ℕ) × Route s x i a f
  route_of i a start = routes_below (i + 1) i a (omega arith) start
