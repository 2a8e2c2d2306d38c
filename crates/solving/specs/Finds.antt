-- What a walk and a search find, as the solver's argument says it.
use Rattle.std.specs.Prelude.{◌≡◌, ℕ, ◌<◌, Bool, true, List, take}
use Rattle.costs.specs.Kinds.{Adding}
use Rattle.model.specs.Books.{Book, KeepsLimits}
use Rattle.model.specs.Studies.{Model, Limits}
use Rattle.plans.specs.Questions.{count}
use Rattle.planning.specs.declared.table.Survey.{Survey}
use Rattle.planning.specs.Surveys.{Keeps}
use Rattle.theory.specs.Amounts.{value, Known}
use Rattle.theory.specs.Searches.{Best as Found-plan, Found}
use Rattle.theory.specs.Problems.{Problem, walk, plans}
use Rattle.solutions.specs.Problems.{problem}
use Rattle.solving.specs.declared.best.Best.{Best}
use Rattle.solving.specs.declared.mark.Mark.{Mark}
use Rattle.solving.specs.Marked.{held_pairs, shut_pairs}

-- a plan of n bytes with its cost
abbrev pub best_of : {C : Type 0} → ℕ → Best C → Found-plan (List ℕ) C
best_of n r = record { cost = r.cost; plan = take n r.plan }

-- `Walks k lower s t marks r`: whatever the book that the survey t keeps, r is what the walk with the shut pairs answers
abbrev pub Walks : {C : Type 0} → Adding C → (C → C → Bool) → Model → Survey → List (List Mark) → Best C → Type 0
Walks k lower s t marks r =
    (limits : Limits s) (b : Book) (kept : KeepsLimits b) → Keeps s b t
    → (r.cost ≡ value k (walk k lower (problem s b limits kept) (shut_pairs marks s.echelons)).sum)
    × (take (count s) r.plan ≡ (walk k lower (problem s b limits kept) (shut_pairs marks s.echelons)).plan)

-- closed pairs are shut
abbrev pub ShutsClosed : Problem → (ℕ → Bool) → Type 0
ShutsClosed y shut = (j : ℕ) → j < y.pairs → y.is_closed j ≡ true → shut j ≡ true

-- `Searches k lower s t marks before r`: whatever the book, r is what a search of the marks makes of the best before
abbrev pub Searches : {C : Type 0} → Adding C → (C → C → Bool) → Model → Survey → List (List Mark) → Best C → Best C → Type 0
Searches k lower s t marks before r =
    (limits : Limits s) (b : Book) (kept : KeepsLimits b) → Keeps s b t
    → ShutsClosed (problem s b limits kept) (shut_pairs marks s.echelons) → Known k before.cost
    → Found k lower (plans (problem s b limits kept)) (problem s b limits kept).is_closed (held_pairs marks s.echelons) (shut_pairs marks s.echelons) (best_of (count s) before) (best_of (count s) r)
