-- What holds of every run.
use Rattle.std.specs.Prelude.{◌≡◌, ℕ, Bool, List, ◌∷◌, ◌++◌, length, Some, vec_items, vec_len, fold, Option, Result}
use Rattle.std.specs.Global.{Vec}
use Rattle.costs.specs.Kinds.{Adding, Laws}
use Rattle.model.specs.declared.refusal.Refusal.{Refusal}
use Rattle.model.specs.Books.{Book, KeepsLimits}
use Rattle.model.specs.Studies.{Model, Limits, blank_study, on_open, on_enter, on_require, on_strike}
use Rattle.solutions.specs.Promises.{Ready, SolvesLeast}
use Rattle.runs.specs.declared.call.Call.{Call}
use Rattle.runs.specs.declared.call.Call.TheVariants.{Open, Enter, Require, Strike, Price, Solve}
use Rattle.runs.specs.Runs.{Run}

-- the study that a call makes of the study s, by the rules: four calls may change it, a price and a solve never do
abbrev pub made_by : {B C : Type 0} → Model → Call B C → Model
made_by s (Open e q _) = (on_open s e q).1
made_by s (Enter p n f _) = (on_enter s p n f).1
made_by s (Require i n _) = (on_require s i n).1
made_by s (Strike _) = (on_strike s).1
made_by s (Price b plan _) = s
made_by s (Solve b plan working _) = s

-- the study that the calls of a list make, one after another
abbrev pub made_by_all : {B C : Type 0} → Model → List (Call B C) → Model
made_by_all s calls = fold made_by s calls

-- the study after a run is the one that its calls make by the rules, whatever books, prices and answers are among them
abbrev pub RulesMakeTheStudy : Type 0 → Type 0 → Type 0
RulesMakeTheStudy B C =
    (means : B → Book) (k : Adding C) (lower : C → C → Bool) (s t : Model) (calls left : List (Call B C))
    → Run means k lower s calls left t → t ≡ made_by_all s calls

-- the blank study is within its limits, and calls make of a study within its limits always such a study
abbrev pub CallsKeepLimits : Type 0 → Type 0 → Type 0
CallsKeepLimits B C = Limits blank_study × ((s : Model) (calls : List (Call B C)) → Limits s → Limits (made_by_all s calls))

-- A solve that stood after so many calls, as the run has left it: m is the study that those calls made.
pub record KeepsPromise {B C : Type 0} (means : B → Book) (k : Adding C) (lower : C → C → Bool) (m : Model) (b : B) (plan : Vec ℕ) (working : Vec C) (calls-before : ℕ) (left : List (Call B C)) : Type 0 where
  -- that study is within its limits
  pub limits : Limits m
  -- in its place the call is left with its book, its answer, the plan place as written and the working list as used
  pub before : List (Call B C)
  pub answer : Result C Refusal
  pub written : Vec ℕ
  pub used : Vec C
  pub after : List (Call B C)
  pub in_place : length before ≡ calls-before
  pub left_so : left ≡ before ++ Solve b written used (Some answer) ∷ after
  -- where the solve was ready, it answers the least plan, first in reading order, exactly when a plan exists
  pub least_and_first : Ready m (means b) (vec_len working) (vec_items plan) → SolvesLeast k lower m (means b) (vec_items written) answer

-- Every solve of every run that starts within the limits keeps its promise, for the study that the calls before it made,
-- wherever the cost kind keeps its laws and the book its limits.
abbrev pub EverySolveKeepsPromise : Type 0 → Type 0 → Type 0
EverySolveKeepsPromise B C =
    (means : B → Book) (k : Adding C) (lower : C → C → Bool) (s t : Model)
    (earlier later left : List (Call B C)) (b : B) (plan : Vec ℕ) (working : Vec C) (old : Option (Result C Refusal))
    → Laws k lower → KeepsLimits (means b) → Limits s
    → Run means k lower s (earlier ++ Solve b plan working old ∷ later) left t
    → KeepsPromise means k lower (made_by_all s earlier) b plan working (length earlier) left
