-- What a trial answers, and what it leaves.
use Rattle.std.specs.Prelude.{◌≡◌, ℕ, cond, List, ℤ, Result, int_lt}
use Rattle.costs.specs.Amounts.{money}
use Rattle.model.specs.declared.refusal.Refusal.{Refusal}
use Rattle.model.specs.declared.refusal.Refusal.TheVariants.{NoChargeRecord}
use Rattle.model.specs.Studies.{Model}
use Rattle.files.specs.TableAnswers.{table_answers}
use Rattle.solutions.specs.Solved.{Outcome, refused, solved}
use Rattle.trials.specs.Changes.{is_charge_record, with_cents}

-- The answer of a trial, and its plan place afterwards: is record j a whole T or F of the file? Then as a solve by money with
-- the table book of the file in which that record's cents are z.
abbrev pub tried : Model → List ℕ → ℕ → ℤ → ℕ → List ℕ → Outcome ℤ
tried s file j z room place =
    cond (is_charge_record file j)
    (solved money int_lt s (table_answers (with_cents file j z)) room place)
    (refused place NoChargeRecord)

-- A trial on a file: r is its answer, `after` is what its plan place then holds, and `left` is the file then.
pub record Tries (s : Model) (file : List ℕ) (j : ℕ) (z : ℤ) (room : ℕ) (place : List ℕ) (r : Result ℤ Refusal) (after left : List ℕ) : Type 0 where
  pub answers : r ≡ (tried s file j z room place).answer
  pub writes : after ≡ (tried s file j z room place).place
  pub file_is_back : left ≡ file
