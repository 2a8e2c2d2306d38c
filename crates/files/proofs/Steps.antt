-- One record at each stage: when it is taken in, and what it leaves.
use Rattle.std.proofs.Common.{arith, ◌≡◌, ℕ, true, ◌⊎◌, List, length, Some, Ok, ap, ◌∙◌, inl, inr}
use Rattle.std.proofs.lemmas.Bool.Decides.{nat_tests}
use Rattle.std.proofs.lemmas.Bool.{cases_eq}
use Rattle.model.specs.Studies.{Model, on_open, on_enter}
use Rattle.files.specs.declared.intake.Stage.{Stage}
use Rattle.files.specs.declared.intake.Stage.TheVariants.{Opening, Components, Charges}
use Rattle.files.specs.Records.{byte, kind, letter_n, letter_c, letter_t, letter_f, filled_as, is_filled, needs_of, rate_of}
use Rattle.files.specs.Intakes.{State, next_stage, on_study, judged, on_record}
use Rattle.files.specs.AcceptedFiles.{IsN, IsC, IsT, IsF}
use Rattle.files.proofs.RecordKinds.{filled_n, filled_c, filled_t, filled_f, n_filled, c_filled, t_filled, f_filled}

abbrev pub at_stage : Stage → Model → State
at_stage g s = record { stage = g; study = s }

-- first comes an N
abbrev pub Opens : Model → List ℕ → State → Type 0
Opens s r t = IsN r × (on_open s (byte r 1) (byte r 2) ≡ (Ok tt, t.study)) × (at_stage Components t.study ≡ t)

-- a C is numbered next, and is entered
abbrev pub Enters : Model → List ℕ → State → Type 0
Enters s r t = IsC r × (byte r 1 ≡ length s.components) × (on_enter s (byte r 2) (needs_of r) (rate_of r) ≡ (Ok (length s.components), t.study)) × (at_stage Components t.study ≡ t)

-- a T or an F goes on to the stage of charges, and leaves the study
abbrev pub IsCharge : List ℕ → Type 0
IsCharge r = IsT r ⊎ IsF r

abbrev pub Charged : Model → List ℕ → State → Type 0
Charged s r t = IsCharge r × (at_stage Charges s ≡ t)

-- such records are taken in
pub opening_taken : (s u : Model) (at : ℕ) (r : List ℕ) → IsN r → on_open s (byte r 1) (byte r 2) ≡ (Ok tt, u) → on_record (at_stage Opening s) at r ≡ Ok (at_stage Components u)
opening_taken s u at r i e = grind (arith, nat_tests, n_filled r i)

pub component_taken : (s u : Model) (n at : ℕ) (r : List ℕ) → IsC r → byte r 1 ≡ length s.components → on_enter s (byte r 2) (needs_of r) (rate_of r) ≡ (Ok n, u) → on_record (at_stage Components s) at r ≡ Ok (at_stage Components u)
component_taken s u n at r i next e = grind (arith, nat_tests, c_filled r i)

pub charge_taken : (g : Stage) (s : Model) (at : ℕ) (r : List ℕ) → next_stage g letter_t ≡ Some Charges → next_stage g letter_f ≡ Some Charges → IsCharge r → on_record (at_stage g s) at r ≡ Ok (at_stage Charges s)
charge_taken g s at r t f (inl i) = grind (arith, nat_tests, t_filled r i)
charge_taken g s at r t f (inr i) = grind (arith, nat_tests, f_filled r i)

-- and the other way: no others are
pub opening_step : (s : Model) (at : ℕ) (r : List ℕ) (t : State) → on_record (at_stage Opening s) at r ≡ Ok t → Opens s r t
opening_step s at r t h =
    let e : kind r ≡ letter_n = grind (arith, nat_tests) in
    let f : filled_as letter_n r ≡ true = grind (arith, nat_tests) in
    let o : on_open s (byte r 1) (byte r 2) ≡ (Ok tt, t.study) = grind (arith, nat_tests) in
    (filled_n r e f, o, grind (arith, nat_tests))

component_step : (s : Model) (at : ℕ) (r : List ℕ) (t : State) → kind r ≡ letter_c → on_record (at_stage Components s) at r ≡ Ok t → Enters s r t
component_step s at r t e h =
    let f : filled_as letter_c r ≡ true = grind (arith, nat_tests) in
    let n : byte r 1 ≡ length s.components = grind (arith, nat_tests) in
    let o : on_enter s (byte r 2) (needs_of r) (rate_of r) ≡ (Ok (length s.components), t.study) = grind (arith, nat_tests) in
    let c = filled_c r e f in
    let taken = component_taken s t.study (length s.components) at r c n o in
    (c, n, o, cc)

pub charges_step : (s : Model) (at : ℕ) (r : List ℕ) (t : State) → on_record (at_stage Charges s) at r ≡ Ok t → Charged s r t
charges_step s at r t h =
    let same : at_stage Charges s ≡ t = grind (arith, nat_tests) in
    elim (cases_eq (kind r) letter_t) [
      | inl e ↦ let f : filled_as letter_t r ≡ true = grind (arith, nat_tests) in (inl (filled_t r e f), same)
      | inr n ↦
          let e : kind r ≡ letter_f = grind (arith, nat_tests) in
          let f : filled_as letter_f r ≡ true = grind (arith, nat_tests) in
          (inr (filled_f r e f), same)
    ]

pub components_step : (s : Model) (at : ℕ) (r : List ℕ) (t : State) → on_record (at_stage Components s) at r ≡ Ok t → Enters s r t ⊎ Charged s r t
components_step s at r t h =
    elim (cases_eq (kind r) letter_c) [
      | inl e ↦ inl (component_step s at r t e h)
      | inr n ↦
          let same : next_stage Charges (kind r) ≡ next_stage Components (kind r) = grind (arith, nat_tests) in
          inr (charges_step s at r t (ap (λ o. judged at o (is_filled r) (on_study s at r)) same ∙ h))
    ]
