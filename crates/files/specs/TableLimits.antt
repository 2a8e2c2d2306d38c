-- The table book and the limits of charges: its test is these limits, and its answers keep them.
use Rattle.std.specs.Prelude.{ℕ, ◌≤◌, ◌&&◌, List, [], ◌∷◌, ℤ, ◌≤ℤ◌, Decides, int_le, nat_le}
use Rattle.std.proofs.lemmas.Bool.{cond_both}
use Rattle.std.proofs.lemmas.Bool.Decides.{nat_tests}
use Rattle.std.proofs.lemmas.Int.{ints}
use Rattle.std.proofs.Common.{arith}
use Rattle.model.specs.declared.question.Question.{Question}
use Rattle.model.specs.declared.question.Question.TheVariants.{OfOption, OfResource}
use Rattle.model.specs.declared.answer.Answer.TheVariants.{Charged}
use Rattle.model.specs.declared.answer.Cause.{Cause}
use Rattle.model.specs.declared.answer.Cause.TheVariants.{BeyondLimits, EnteredTwice}
use Rattle.model.specs.declared.answer.Charge.{Charge}
use Rattle.model.specs.Books.{KeepsLimits, InLimits}
use Rattle.files.specs.Records.{records}
use Rattle.files.specs.TableAnswers.{is_within, table_fault, charges, answer_from, table_answers}

-- a charge passes the table book's test exactly when it is within the limits of charges
abbrev pub LimitsExactly : Type 0
LimitsExactly = (q : Question) (c : Charge) → Decides (is_within q c) (InLimits q (Charged c))

bounds : (low high z : ℤ) (m n : ℕ) → Decides (int_le low z && (int_le z high && nat_le m n)) ((low ≤ℤ z) × (z ≤ℤ high) × (m ≤ n))
bounds low high z m n = (λ h. grind (arith, ints, nat_tests), λ b. grind (arith, ints, nat_tests))

pub limits_exactly : LimitsExactly
limits_exactly (OfOption i e o) c = bounds _ _ c.cents c.minutes _
limits_exactly (OfResource i e) c = bounds _ _ c.cents c.minutes _

-- nothing is asked of an answer without a charge
fault_limits : (q : Question) (why : Cause) → InLimits q (table_fault why q)
fault_limits (OfOption i e o) why = tt
fault_limits (OfResource i e) why = tt

barred_limits : (q : Question) → InLimits q (answer_from q [])
barred_limits (OfOption i e o) = tt
barred_limits (OfResource i e) = tt

answer_limits : (q : Question) (cs : List Charge) → InLimits q (answer_from q cs)
answer_limits q [] = barred_limits q
answer_limits q (c ∷ []) = cond_both (is_within q c) (Charged c) (table_fault BeyondLimits q) (InLimits q) (limits_exactly q c).0 (λ _. fault_limits q BeyondLimits)
answer_limits q (c ∷ d ∷ cs) = fault_limits q EnteredTwice

pub table_limited : (file : List ℕ) → KeepsLimits (table_answers file)
table_limited file q = answer_limits q (charges q (records file))
