-- What holds of every trial.
use Rattle.std.specs.Prelude.{◌≡◌, ℕ, ◌<◌, true, List, [], ◌∷◌, length, ℤ, Result, FitsSigned, ◌≢◌, int_lt}
use Rattle.std.specs.Int.{w64}
use Rattle.std.specs.List.{AllByRecursion}
use Rattle.costs.specs.Amounts.{money}
use Rattle.model.specs.declared.refusal.Refusal.{Refusal}
use Rattle.model.specs.Studies.{Model}
use Rattle.files.specs.Records.{byte, record_at, charge_of}
use Rattle.files.specs.RoundTrips.{Bytes}
use Rattle.files.specs.TableAnswers.{table_answers}
use Rattle.solutions.specs.Solved.{solved}
use Rattle.trials.specs.Changes.{is_charge_record, with_cents}
use Rattle.trials.specs.Trials.{tried, Tries}

-- ---- what is changed
-- The file has as many bytes; every other record is as it was, and record j but for its cents, which are z.
pub record ChangesOneAmount (file : List ℕ) (j : ℕ) (z : ℤ) : Type 0 where
  pub as_long : length (with_cents file j z) ≡ length file
  pub other_records : (i : ℕ) → (i ≢ j) → record_at (with_cents file j z) i ≡ record_at file i
  pub same_question : (k : ℕ) → k < 8 → byte (record_at (with_cents file j z) j) k ≡ byte (record_at file j) k
  pub cents : (charge_of (record_at (with_cents file j z) j)).cents ≡ z
  pub same_minutes : (charge_of (record_at (with_cents file j z) j)).minutes ≡ (charge_of (record_at file j)).minutes

-- so it is for every record that can be tried, and every amount of 64 bits
abbrev pub TrialChangesOneAmount : Type 0
TrialChangesOneAmount = (file : List ℕ) (j : ℕ) (z : ℤ) → FitsSigned w64 z → is_charge_record file j ≡ true → ChangesOneAmount file j z

-- ---- the amount that stands there
-- trying the cents that a record has already answers as solving by the file itself does
abbrev pub StandingAmountIsNoChange : Type 0
StandingAmountIsNoChange =
    (s : Model) (file : List ℕ) (j room : ℕ) (place : List ℕ)
    → Bytes file → is_charge_record file j ≡ true
    → tried s file j (charge_of (record_at file j)).cents room place ≡ solved money int_lt s (table_answers file) room place

-- ---- one trial after another
-- a trial that was made: the record and the amount, the places that it was handed, and what it answered and wrote
pub record Trial : Type 0 where
  pub of_record : ℕ
  pub amount : ℤ
  pub room : ℕ
  pub place : List ℕ
  pub answer : Result ℤ Refusal
  pub after : List ℕ

-- it was made on the file, and left it so
abbrev pub Made : Model → List ℕ → Trial → List ℕ → Type 0
Made s file t left = Tries s file t.of_record t.amount t.room t.place t.answer t.after left

-- trials made one after another, the first on the file, and each of the others on the file that the one before it left
abbrev pub MadeInTurn : Model → List ℕ → List Trial → List ℕ → Type 0
MadeInTurn s file [] left = left ≡ file
MadeInTurn s file (t ∷ ts) left = (next : List ℕ) × Made s file t next × MadeInTurn s next ts left

-- A trial leaves no trace: of trials in whatever order, each answers as it does alone on the file, and the file ends as it
-- began.
abbrev pub TrialsLeaveNoTrace : Type 0
TrialsLeaveNoTrace =
    (s : Model) (file left : List ℕ) (trials : List Trial)
    → MadeInTurn s file trials left → AllByRecursion (λ t. Made s file t file) trials × (left ≡ file)
