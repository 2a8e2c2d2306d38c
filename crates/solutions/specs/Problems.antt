-- A study with a book as the solver's argument sees it: components counted from 1, pairs by number, and postings within
-- their limits.
use Rattle.std.specs.Prelude.{ℕ, suc, pred, ◌*◌, Bool, cond, not, ◌&&◌, Some, None, Option, ◌==◌, nat_le}
use Rattle.std.specs.Option.{unwrap_or}
use Rattle.costs.specs.declared.posting.Posting.{Posting}
use Rattle.model.specs.declared.question.Question.{Question}
use Rattle.model.specs.declared.question.Question.TheVariants.{OfOption}
use Rattle.model.specs.declared.question.RepairOption.{RepairOption}
use Rattle.model.specs.declared.question.RepairOption.TheVariants.{Discard, Repair, Move}
use Rattle.model.specs.Books.{Book, KeepsLimits}
use Rattle.model.specs.Components.{needs_resource}
use Rattle.model.specs.Studies.{Model, Limits}
use Rattle.plans.specs.Questions.{count, is_open}
use Rattle.plans.specs.Postings.{component, posting}
use Rattle.plans.specs.Starts.{parent}
use Rattle.plans.specs.Orders.{rank}
use Rattle.plans.proofs.Fitting.{WithinIf, posting_within}
use Rattle.theory.specs.Entries.{Entry, blank}
use Rattle.theory.specs.Options.{Options}
use Rattle.theory.specs.Needs.{Needs}
use Rattle.theory.specs.Places.{echelons}
use Rattle.theory.specs.Tables.{Table}
use Rattle.theory.specs.Problems.{Problem}
use Rattle.solutions.specs.Pairs.{pair_resource, pair_echelon, pair_question}

-- a posting with the proof that it is within its limits
abbrev pub with_proof : (o : Option Posting) → WithinIf o → Option Entry
with_proof None h = None
with_proof (Some p) h = Some (record { posting = p; within = h })

-- the number of a component's parent, counted from 1; 0 for a top component
abbrev pub parent_number : Option ℕ → ℕ
parent_number None = 0
parent_number (Some p) = suc p

module _ (s : Model) (b : Book) (limits : Limits s) (kept : KeepsLimits b) where
  abbrev pub entry : Question → Option Entry
  entry q = with_proof (posting s b q) (posting_within s b limits kept q)

  -- nothing is posted outside the echelons 1 to the last
  abbrev pub entry_at : ℕ → ℕ → RepairOption → ℕ → Option Entry
  entry_at last i o e = cond (nat_le 1 e && nat_le e last) (entry (OfOption i e o)) None

  -- component i, counted from 1; there is no move at the last echelon
  abbrev pub options_of : ℕ → Options
  options_of i = record {
    discard = entry_at s.echelons (pred i) Discard;
    repair = entry_at s.echelons (pred i) Repair;
    move = entry_at (pred s.echelons) (pred i) Move;
  }

  -- component i, counted from 1, needs pair j for that option at echelon e
  abbrev pub needs_pair : ℕ → RepairOption → ℕ → ℕ → Bool
  needs_pair i o e j =
      (pair_echelon s.echelons j == e) && needs_resource (component s (pred i)).needs o (pair_resource s.echelons j)

  abbrev pub needs_of : ℕ → Needs
  needs_of i = record { discard = needs_pair i Discard; repair = needs_pair i Repair; move = needs_pair i Move }

  abbrev pub table : Table
  table = record {
    size = count s;
    places = echelons s.echelons;
    options = options_of;
    parent = λ i. parent_number (parent s (pred i));
    first = λ i. 1;
    rank = rank;
  }

  abbrev pub problem : Problem
  problem = record {
    table = table;
    needs = needs_of;
    pair = λ j. unwrap_or (entry (pair_question s.echelons j)) blank;
    pairs = s.resources * s.echelons;
    is_closed = λ j. not (is_open b (pair_question s.echelons j));
  }
