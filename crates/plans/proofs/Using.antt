-- The tests of use and need say what the relations say.
use Rattle.std.proofs.Common.{◌≡◌, ℕ, ◌<◌, Bool, true, ◌&&◌, ◌||◌, leb, List, inl, inr, ⊎_elim, arith}
use Rattle.std.proofs.lemmas.Bool.{leb-true, le-leb, ltb-true, lt-ltb, eqb-true, eq-eqb, and_parts, and_from, or_cases}
use Rattle.model.specs.declared.question.RepairOption.{RepairOption}
use Rattle.model.specs.declared.question.RepairOption.TheVariants.{Discard, Repair, Move}
use Rattle.model.specs.Studies.{Model}
use Rattle.plans.specs.Questions.{count}
use Rattle.plans.specs.Starts.{Starts, start}
use Rattle.plans.specs.Uses.{Uses, discards, repairs, moves, Needed, uses_option, needs_by, needs_at}
use Rattle.plans.specs.Laws.{ReadsStart}
use Rattle.plans.proofs.Reading.{start_read, started_is_entered}

-- a component that uses an option is reached
used_is_reached : {s : Model} {plan : List ℕ} {i e : ℕ} {o : RepairOption} → Uses s plan i e o → (a : ℕ) × Starts s plan i a
used_is_reached (discards i a e r h) = (a, r)
used_is_reached (repairs i a e r h) = (a, r)
used_is_reached (moves i a e r l h) = (a, r)

pub used_is_entered : {s : Model} {plan : List ℕ} {i e : ℕ} {o : RepairOption} → Uses s plan i e o → i < count s
used_is_entered u = started_is_entered (used_is_reached u).1

-- each test of use asks first whether the component is reached
reached_and : {s : Model} {plan : List ℕ} {i a : ℕ} → Starts s plan i a → (t : Bool) → t ≡ true → (leb 1 (start s plan i) && t) ≡ true
reached_and {s} {plan} {i} r t h = let read = start_read r in and_from (leb 1 (start s plan i)) t (le-leb _ _ (omega arith)) h

-- an option that is used passes the test
pub used_passes : {s : Model} {plan : List ℕ} {i e : ℕ} {o : RepairOption} → Uses s plan i e o → uses_option s plan i e o ≡ true
used_passes (discards i a e r h) = reached_and r _ (eq-eqb _ _ h)
used_passes (repairs i a e r h) = reached_and r _ (eq-eqb _ _ h)
used_passes {s} {plan} (moves i a e r l h) =
    let read = start_read r in
    reached_and r _ (and_from (leb (start s plan i) e) _ (le-leb _ _ (omega arith)) (lt-ltb _ _ h))

-- and one that passes is used, where the start is read
module _ (s : Model) (plan : List ℕ) (i : ℕ) (reads : ReadsStart s plan i) where
  reached_parts : (t : Bool) → (leb 1 (start s plan i) && t) ≡ true → Starts s plan i (start s plan i) × (t ≡ true)
  reached_parts t h = let both = and_parts (leb 1 (start s plan i)) t h in (reads.read_is_start (leb-true _ _ both.0), both.1)

  pub passes_used : (e : ℕ) (o : RepairOption) → uses_option s plan i e o ≡ true → Uses s plan i e o
  passes_used e Discard h = let both = reached_parts _ h in discards i _ e both.0 (eqb-true _ _ both.1)
  passes_used e Repair h = let both = reached_parts _ h in repairs i _ e both.0 (eqb-true _ _ both.1)
  passes_used e Move h =
      let both = reached_parts _ h in
      let within = and_parts (leb (start s plan i) e) _ both.1 in
      moves i _ e both.0 (leb-true _ _ within.0) (ltb-true _ _ within.1)

-- one of the three options passes
module _ (f : RepairOption → Bool) where
  some_option : (o : RepairOption) → f o ≡ true → (f Discard || (f Repair || f Move)) ≡ true
  some_option o h = grind arith

  which_option : (f Discard || (f Repair || f Move)) ≡ true → (o : RepairOption) × (f o ≡ true)
  which_option h =
      elim (or_cases (f Discard) _ h) [
        | inl d ↦ (Discard, d)
        | inr k ↦ ⊎_elim (λ r. (Repair, r)) (λ m. (Move, m)) (or_cases (f Repair) _ k)
      ]

-- a component that needs a resource by an option passes the test, and one that passes needs it
pub needed_passes : (s : Model) (plan : List ℕ) (r e : ℕ) (n : Needed s plan r e) → needs_at s plan r e n.by ≡ true
needed_passes s plan r e n = some_option (needs_by s plan r e n.by) n.option (and_from _ _ (used_passes n.used) n.needs)

pub passes_needed : (s : Model) (plan : List ℕ) (r e i : ℕ) → ReadsStart s plan i → needs_at s plan r e i ≡ true → Needed s plan r e
passes_needed s plan r e i reads h =
    let found = which_option (needs_by s plan r e i) h in
    let both = and_parts (uses_option s plan i e found.0) _ found.1 in
    record { by = i; option = found.0; used = passes_used s plan i reads e found.0 both.0; needs = both.1 }
