-- A study with a component is a proper problem of the solver's argument.
use Rattle.std.proofs.Common.{ℕ, ◌≤◌, pos, ◌≤ℤ◌, unwrap_or, arith}
use Rattle.std.proofs.lemmas.Grind.{common_steps}
use Rattle.model.specs.declared.answer.Answer.{Answer}
use Rattle.model.specs.declared.question.Question.TheVariants.{OfResource}
use Rattle.model.specs.Books.{Book, InLimits, KeepsLimits}
use Rattle.model.specs.Studies.{Model, Limits}
use Rattle.plans.specs.Questions.{count}
use Rattle.plans.specs.Postings.{posting_of}
use Rattle.plans.specs.Starts.{parent}
use Rattle.plans.proofs.Fitting.{WithinIf, posting_within}
use Rattle.theory.specs.Entries.{blank}
use Rattle.theory.specs.Problems.{Proper}
use Rattle.theory.specs.Tables.{Sound}
use Rattle.theory.proofs.Places.{echelons_rise}
use Rattle.solutions.specs.Pairs.{pair_resource, pair_echelon, pair_question}
use Rattle.solutions.specs.Problems.{with_proof, parent_number, table, problem}

-- a parent is entered before its component, and so has a number of at most i
parent_before : (s : Model) → Limits s → (i : ℕ) → parent_number (parent s i) ≤ i
parent_before s limits i = grind (arith, common_steps)

-- no pair posts negative money
no_gain : (r e : ℕ) (a : Answer) (w : WithinIf (posting_of 1000 a)) → InLimits (OfResource r e) a → pos 0 ≤ℤ (unwrap_or (with_proof (posting_of 1000 a) w) blank).posting.cents
unfolding blank
no_gain r e a w h = grind arith

module _ (s : Model) (b : Book) (limits : Limits s) (kept : KeepsLimits b) where
  table_sound : Sound (table s b limits kept)
  table_sound = record {
    few = limits.few_components;
    rising = echelons_rise s.echelons limits.few_echelons;
    after_parent = parent_before s limits;
    starts = λ i e. omega arith;
    ranks = record { below = λ v l. omega (arith, limits.few_echelons); told_apart = λ v w l m e. e };
  }

  pub problem_proper : 1 ≤ count s → Proper (problem s b limits kept)
  problem_proper some = record {
    sound = table_sound;
    some_component = some;
    few_pairs = limits.few_pairs;
    no_gain = λ j.
        let q = pair_question s.echelons j in
        no_gain (pair_resource s.echelons j) (pair_echelon s.echelons j) (b q) (posting_within s b limits kept q) (kept q);
  }
