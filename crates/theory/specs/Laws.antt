-- The main theorems, for every cost kind that keeps its laws.
use Rattle.std.specs.Prelude.{◌≡◌, ℕ, ◌≤◌, Bool, false, List, Option}
use Rattle.costs.specs.Kinds.{Adding, Laws}
use Rattle.theory.specs.Amounts.{Amount, value}
use Rattle.theory.specs.Places.{longest, Rising, echelons}
use Rattle.theory.specs.Ranks.{Ranked}
use Rattle.theory.specs.Tables.{top_byte}
use Rattle.theory.specs.Searches.{Best, Walked, Found}
use Rattle.theory.specs.Rules.{Rules}
use Rattle.theory.specs.ReadingOrder.{ByteOrder}
use Rattle.theory.specs.Answers.{costs_of, solved, Bytewise, Decided}
use Rattle.theory.specs.Problems.{Problem, Proper, plans, costs, walk, no_plan, plan_of}

-- echelons are places
abbrev pub EchelonsArePlaces : Type 0
EchelonsArePlaces = (last : ℕ) → last ≤ longest → Rising (echelons last)

-- a walk with some pairs shut answers the least and first of the plans that need none of them, counting option postings only
abbrev pub WalkIsLeastAndFirst : Type 0 → Type 0
WalkIsLeastAndFirst C =
    (k : Adding C) (lower : C → C → Bool) → Laws k lower
    → (y : Problem) → Proper y
    → (shut : ℕ → Bool) → Walked k lower (plans y) shut (walk k lower y shut)

-- the search may answer by the three rules
abbrev pub SearchKeepsRules : Type 0 → Type 0
SearchKeepsRules C =
    (k : Adding C) (lower : C → C → Bool) → Laws k lower
    → (y : Problem) → Proper y
    → Rules k lower (plans y)

-- the definition that goes through every row of bytes names the answer, which is one, and names none only where there is no
-- plan
abbrev pub DefinitionDecides : Type 0 → Type 0
DefinitionDecides C =
    (k : Adding C) (lower : C → C → Bool) → Laws k lower
    → (rank : ℕ → ℕ) (top n : ℕ) (bytes : List ℕ) (f : List ℕ → Amount)
    → Ranked rank top → ByteOrder rank top bytes → Bytewise f top n
    → Decided k lower rank f (solved k lower f bytes n)

-- what is found is what the definition names, and its cost
pub record Solves {C : Type 0} (k : Adding C) (y : Problem) (r : Best (List ℕ) C) (named : Option (List ℕ)) : Type 0 where
  pub plan : plan_of r ≡ named
  pub cost : r.cost ≡ value k (costs_of (costs y) named)

-- Whatever a search finds that starts with no plan, no pair held, and the closed pairs shut, is what the definition names.
abbrev pub SearchIsDefinition : Type 0 → Type 0
SearchIsDefinition C =
    (k : Adding C) (lower : C → C → Bool) → Laws k lower
    → (y : Problem) → Proper y
    → (bytes : List ℕ) → ByteOrder y.table.rank (top_byte y.table) bytes
    → (r₀ : List ℕ) (r : Best (List ℕ) C)
    → Found k lower (plans y) y.is_closed (λ _. false) y.is_closed (no_plan r₀) r
    → Solves k y r (solved k lower (costs y) bytes y.table.size)
