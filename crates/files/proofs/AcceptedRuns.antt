-- Whole files: what is accepted, stage by stage, and that it is accepted.
use Rattle.std.proofs.Common.{Err, Result, ◌≡◌, ℕ, zero, suc, ◌+◌, ◌%◌, ◌<◌, ◌≤◌, List, [], ◌∷◌, ◌++◌, length, get_or, Ok, sym, refl, ap, ◌∙◌, subst, inl, inr, arith}
use Rattle.std.specs.List.{AllByRecursion}
use Rattle.std.proofs.lemmas.Bool.Decides.{nat_tests}
use Rattle.model.specs.declared.refusal.Refusal.{Refusal}
use Rattle.model.specs.Studies.{Model, blank_study, on_open}
use Rattle.files.specs.declared.intake.Stage.TheVariants.{Components, Charges}
use Rattle.files.specs.Records.{byte, records, needs_of, rate_of}
use Rattle.files.specs.Intakes.{State, on_record, and_then, run, start, taken_in}
use Rattle.files.specs.AcceptedFiles.{IsC, Entered, none, next, Accepted, AcceptedExactly}
use Rattle.files.proofs.RecordLists.{records_length}
use Rattle.files.proofs.Runs.{right_length, taken_run}
use Rattle.files.proofs.Calls.{opened_empty, entered_one}
use Rattle.files.proofs.Steps.{at_stage, IsCharge, opening_step, components_step, charges_step, opening_taken, component_taken, charge_taken}

-- numbered k, k + 1, k + 2, ..
abbrev pub NumberedFrom : ℕ → List (List ℕ) → Type 0
NumberedFrom k rs = (i : ℕ) → i < length rs → byte (get_or rs i []) 1 ≡ k + i

numbered_more : (k : ℕ) (r : List ℕ) (rs : List (List ℕ)) → byte r 1 ≡ k → NumberedFrom (k + 1) rs → NumberedFrom k (r ∷ rs)
numbered_more k r rs e more zero l = omega arith
numbered_more k r rs e more (suc i) l = omega (arith, more i (omega arith))

pub numbered_rest : (k : ℕ) (r : List ℕ) (rs : List (List ℕ)) → NumberedFrom k (r ∷ rs) → NumberedFrom (k + 1) rs
numbered_rest k r rs all i l = omega (arith, all (suc i) (omega arith))

-- what went on was accepted before
ok_then : {A B : Type 0} (o : Result A Refusal) (f : A → Result B Refusal) (y : B) → and_then o f ≡ Ok y → (x : A) × (o ≡ Ok x) × (f x ≡ Ok y)
ok_then (Ok x) f y h = (x, refl, h)
ok_then (Err why) f y h = cc

-- a record came to t, and the others go on from t
module _ (at : ℕ) (t : State) (r : List ℕ) (rs : List (List ℕ)) where
  going_on : (m : Model) → run at t (r ∷ rs) ≡ Ok m → (u : State) × (on_record t at r ≡ Ok u) × (run (at + 1) u rs ≡ Ok m)
  going_on m h = ok_then (on_record t at r) (λ u. run (at + 1) u rs) m h

  go_on : (u : State) (m : Model) → on_record t at r ≡ Ok u → run (at + 1) u rs ≡ Ok m → run at t (r ∷ rs) ≡ Ok m
  go_on u m e h = ap (λ o. and_then o (λ v. run (at + 1) v rs)) e ∙ h

-- the stage of charges: only T and F, and the study stays
charges_run : (rs : List (List ℕ)) (at : ℕ) (s m : Model) → run at (at_stage Charges s) rs ≡ Ok m → AllByRecursion IsCharge rs × (s ≡ m)
charges_run [] at s m h = (tt, cc)
charges_run (r ∷ rs) at s m h =
    let on = going_on at (at_stage Charges s) r rs m h in
    let here = charges_step s at r on.0 on.1 in
    let more = charges_run rs (at + 1) s m (ap (λ t. run (at + 1) t rs) here.1 ∙ on.2) in
    ((here.0, more.0), more.1)

run_charges : (rs : List (List ℕ)) (at : ℕ) (s : Model) → AllByRecursion IsCharge rs → run at (at_stage Charges s) rs ≡ Ok s
run_charges [] at s all = refl
run_charges (r ∷ rs) at s all = go_on at (at_stage Charges s) r rs (at_stage Charges s) s (charge_taken Charges s at r refl refl all.0) (run_charges rs (at + 1) s all.1)

-- the stage of components: C, then T and F
record Parted (s : Model) (rs : List (List ℕ)) (m : Model) : Type 0 where
  components : List (List ℕ)
  charges : List (List ℕ)
  in_order : rs ≡ components ++ charges
  then_c : AllByRecursion IsC components
  then_t_and_f : AllByRecursion IsCharge charges
  numbered : NumberedFrom (length s.components) components
  enters : Entered s components m

components_run : (rs : List (List ℕ)) (at : ℕ) (s m : Model) → run at (at_stage Components s) rs ≡ Ok m → Parted s rs m
components_run [] at s m h = record {
  components = [];
  charges = [];
  in_order = refl;
  then_c = tt;
  then_t_and_f = tt;
  numbered = λ i l. absurd (omega arith);
  enters = subst (Entered s []) (cc) (none s);
}
components_run (r ∷ rs) at s m h =
    let on = going_on at (at_stage Components s) r rs m h in
    elim (components_step s at r on.0 on.1) [
      | inl here ↦
          let u = on.0.study in
          let more = components_run rs (at + 1) u m (ap (λ t. run (at + 1) t rs) here.3 ∙ on.2) in
          let one = entered_one s (byte r 2) (needs_of r) (rate_of r) (length s.components) u here.2 in
          record {
            components = r ∷ more.components;
            charges = more.charges;
            in_order = ap (λ xs. r ∷ xs) more.in_order;
            then_c = (here.0, more.then_c);
            then_t_and_f = more.then_t_and_f;
            numbered = numbered_more (length s.components) r more.components here.1 (subst (λ k. NumberedFrom k more.components) one more.numbered);
            enters = next s u m (length s.components) r more.components here.2 more.enters;
          }
      | inr here ↦
          let later = charges_run rs (at + 1) s m (ap (λ t. run (at + 1) t rs) here.1 ∙ on.2) in
          record {
            components = [];
            charges = r ∷ rs;
            in_order = refl;
            then_c = tt;
            then_t_and_f = (here.0, later.0);
            numbered = λ i l. absurd (omega arith);
            enters = subst (Entered s []) later.1 (none s);
          }
    ]

run_charges_first : (rs : List (List ℕ)) (at : ℕ) (s : Model) → AllByRecursion IsCharge rs → run at (at_stage Components s) rs ≡ Ok s
run_charges_first [] at s all = refl
run_charges_first (r ∷ rs) at s all = go_on at (at_stage Components s) r rs (at_stage Charges s) s (charge_taken Components s at r refl refl all.0) (run_charges rs (at + 1) s all.1)

run_components : {s m : Model} {cs : List (List ℕ)} (ts : List (List ℕ)) (at : ℕ) → Entered s cs m → AllByRecursion IsC cs → NumberedFrom (length s.components) cs → AllByRecursion IsCharge ts → run at (at_stage Components s) (cs ++ ts) ≡ Ok m
run_components ts at (none s) cs-are numbered ts-are = run_charges_first ts at s ts-are
run_components ts at (next s u m n r rs e more) cs-are numbered ts-are =
    let one = entered_one s (byte r 2) (needs_of r) (rate_of r) n u e in
    let first : byte r 1 ≡ length s.components = omega (arith, numbered 0 (omega arith)) in
    let rest = subst (λ k. NumberedFrom k rs) (sym one) (numbered_rest (length s.components) r rs numbered) in
    go_on at (at_stage Components s) r (rs ++ ts) (at_stage Components u) m (component_taken s u n at r cs-are.0 first e) (run_components ts (at + 1) more cs-are.1 rest ts-are)

-- the C of a file are numbered from 0, since open leaves no component
from_zero : (s : Model) (e q : ℕ) (u : Model) → on_open s e q ≡ (Ok tt, u) → (cs : List (List ℕ)) → NumberedFrom (length u.components) cs → (i : ℕ) → i < length cs → byte (get_or cs i []) 1 ≡ i
from_zero s e q u h cs numbered i l = let z = opened_empty s e q tt u h in omega (arith, numbered i l)

zero_from : (s : Model) (e q : ℕ) (u : Model) → on_open s e q ≡ (Ok tt, u) → (cs : List (List ℕ)) → ((i : ℕ) → i < length cs → byte (get_or cs i []) 1 ≡ i) → NumberedFrom (length u.components) cs
zero_from s e q u h cs numbered i l = let z = opened_empty s e q tt u h in omega (arith, numbered i l)

-- the stage before the N: one N, then as above
opening_run : (file : List ℕ) (rs : List (List ℕ)) (study : Model) → records file ≡ rs → length file % 24 ≡ 0 → 24 ≤ length file → length file ≤ 65_520 → run 0 start rs ≡ Ok study → Accepted file study
opening_run file [] study are whole some few h = let none-read = ap length are in let n = records_length file in absurd (omega arith)
opening_run file (r ∷ rs) study are whole some few h =
    let on = going_on 0 start r rs study h in
    let here = opening_step blank_study 0 r on.0 on.1 in
    let parts = components_run rs 1 on.0.study study (ap (λ t. run 1 t rs) here.2 ∙ on.2) in
    record {
      whole = whole;
      some = some;
      few = few;
      opening = r;
      components = parts.components;
      charges = parts.charges;
      in_order = are ∙ ap (λ xs. r ∷ xs) parts.in_order;
      first_n = here.0;
      then_c = parts.then_c;
      then_t_and_f = parts.then_t_and_f;
      numbered = from_zero blank_study (byte r 1) (byte r 2) on.0.study here.1 parts.components parts.numbered;
      opened = on.0.study;
      opens = here.1;
      enters = parts.enters;
    }

accepted : (file : List ℕ) (study : Model) → taken_in file ≡ Ok study → Accepted file study
accepted file study h =
    let sized : (length file % 24 ≡ 0) × (24 ≤ length file) × (length file ≤ 65_520) = grind (arith, nat_tests) in
    let ran : run 0 start (records file) ≡ Ok study = grind (arith, nat_tests) in
    opening_run file (records file) study refl sized.0 sized.1 sized.2 ran

accepting : (file : List ℕ) (study : Model) → Accepted file study → taken_in file ≡ Ok study
accepting file study a =
    let numbered = zero_from blank_study (byte a.opening 1) (byte a.opening 2) a.opened a.opens a.components a.numbered in
    let rest = run_components a.charges 1 a.enters a.then_c numbered a.then_t_and_f in
    taken_run file (right_length (length file) a.whole a.some a.few)
    ∙ ap (run 0 start) a.in_order
    ∙ go_on 0 start a.opening (a.components ++ a.charges) (at_stage Components a.opened) study (opening_taken blank_study a.opened 0 a.opening a.first_n a.opens) rest

pub accepted_exactly : AcceptedExactly
accepted_exactly file study = (accepted file study, accepting file study)
