-- The intake: the study that a file makes, or the first question that fails.
use Rattle.std.specs.Prelude.{◌≡◌, ℕ, ◌+◌, ◌%◌, Bool, true, cond, ◌&&◌, ◌||◌, List, [], ◌∷◌, length, Some, None, Ok, Err, Option, Result, ◌==◌, nat_le}
use Rattle.model.specs.declared.refusal.Refusal.{Refusal}
use Rattle.model.specs.declared.refusal.Refusal.TheVariants as no
use Rattle.model.specs.Refusals.{said}
use Rattle.model.specs.Studies.{Model, model, Outcome, blank_study, on_open, on_enter}
use Rattle.files.specs.declared.intake.Stage.{Stage}
use Rattle.files.specs.declared.intake.Stage.TheVariants.{Opening, Components, Charges}
use Rattle.files.specs.declared.intake.Reading.{Reading}
use Rattle.files.specs.declared.intake.IntakeError.{IntakeError}
use Rattle.files.specs.declared.intake.IntakeError.TheVariants.{Refused, OutOfMemory}
use Rattle.files.specs.Records.{byte, kind, letter_n, letter_c, letter_t, letter_f, records, needs_of, rate_of, is_filled}

-- how far the file has been read: which kinds may come next, and the study so far
pub record State : Type 0 where
  pub stage : Stage
  pub study : Model

abbrev pub state : Reading → State
state i = record { stage = i.stage; study = model i.study }

-- the kinds that enter charges: T and F
abbrev pub is_charge : ℕ → Bool
is_charge k = k == letter_t || k == letter_f

-- the stage after a record of that kind, where the kind may come: first N; then C, T or F; after the first T or F only these
abbrev pub next_stage : Stage → ℕ → Option Stage
next_stage Opening k = cond (k == letter_n) (Some Components) None
next_stage Components k = cond (k == letter_c) (Some Components) (cond (is_charge k) (Some Charges) None)
next_stage Charges k = cond (is_charge k) (Some Charges) None

-- what a call on the study made of it; its refusal is carried by the record's
abbrev pub accepted : {A : Type 0} → ℕ → Outcome A → Result Model Refusal
accepted at o = elim o.0 [ Ok x ↦ Ok o.1 | Err why ↦ Err (no.RecordRefused at (said why).number) ]

-- a C: is it numbered next? does enter accept it?
abbrev pub on_component : Model → ℕ → List ℕ → Result Model Refusal
on_component s at r = cond (byte r 1 == length s.components) (accepted at (on_enter s (byte r 2) (needs_of r) (rate_of r))) (Err (no.ComponentNumber at))

-- the study after a record of kind k: N opens it, C enters a component, T and F leave it
abbrev pub on_kind : ℕ → Model → ℕ → List ℕ → Result Model Refusal
on_kind k s at r =
    cond (k == letter_n) (accepted at (on_open s (byte r 1) (byte r 2)))
    (cond (k == letter_c) (on_component s at r) (Ok s))

abbrev pub on_study : Model → ℕ → List ℕ → Result Model Refusal
on_study s at r = on_kind (kind r) s at r

-- go on with what was made, or pass the refusal on
abbrev pub and_then : {A B : Type 0} → Result A Refusal → (A → Result B Refusal) → Result B Refusal
and_then (Ok x) f = f x
and_then (Err why) f = Err why

-- record number `at`: may its kind come now, so that there is a next stage? is it filled in rightly? does the study take it?
abbrev pub judged : ℕ → Option Stage → Bool → Result Model Refusal → Result State Refusal
judged at None filled made = Err (no.RecordKind at)
judged at (Some stage) filled made = cond filled (and_then made (λ s. Ok (record { stage = stage; study = s }))) (Err (no.RecordContent at))

abbrev pub on_record : State → ℕ → List ℕ → Result State Refusal
on_record t at r = judged at (next_stage t.stage (kind r)) (is_filled r) (on_study t.study at r)

-- record by record from number `at` on; the first that fails decides
abbrev pub run : ℕ → State → List (List ℕ) → Result Model Refusal
run at t [] = Ok t.study
run at t (r ∷ rs) = and_then (on_record t at r) (λ next. run (at + 1) next rs)

-- the length is a multiple of 24, from 24 to 65,520
abbrev pub is_length : ℕ → Bool
is_length n = n % 24 == 0 && (nat_le 24 n && nat_le n 65_520)

abbrev pub start : State
start = record { stage = Opening; study = blank_study }

-- the study that the file makes, or why it is refused
abbrev pub taken_in : List ℕ → Result Model Refusal
taken_in file = cond (is_length (length file)) (run 0 start (records file)) (Err no.FileLength)

-- what a step answers, with what it leaves where it is accepted
abbrev pub leaving : {A : Type 0} → Result Unit Refusal → A → Result A Refusal
leaving (Ok x) s = Ok s
leaving (Err why) s = Err why

-- an intake of a file: an accepted file replaces the study, a refused one and want of memory leave it; a file of another
-- length is refused whatever the memory
abbrev pub TakenIn : List ℕ → Model → Result Unit IntakeError → Model → Type 0
TakenIn file before (Ok x) after = taken_in file ≡ Ok after
TakenIn file before (Err (Refused why)) after = (taken_in file ≡ Err why) × (after ≡ before)
TakenIn file before (Err OutOfMemory) after = (is_length (length file) ≡ true) × (after ≡ before)
