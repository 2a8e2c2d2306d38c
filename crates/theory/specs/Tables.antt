-- The tables of a study that the walk works on, and the walk itself: its sums, its notes and its plan.
use Rattle.std.specs.Prelude.{◌≡◌, ℕ, zero, suc, ◌-◌, ◌*◌, ◌<◌, ◌≤◌, Bool, cond, ◌==◌}
use Rattle.costs.specs.Kinds.{Adding}
use Rattle.theory.specs.Amounts.{Amount, nothing, closed}
use Rattle.theory.specs.Ranks.{Ranked}
use Rattle.theory.specs.Places.{Places, Rising}
use Rattle.theory.specs.Options.{Options, repaired_at, route}
use Rattle.theory.specs.Choices.{Choice, best}
use Rattle.theory.specs.Breakdowns.{Breakdown, Sums, onto, plan}

-- components 1 to `size`, each with its options, its parent (0 where it is a top component) and, if it is a top component,
-- the place where it starts; the rank of a byte
pub record Table : Type 0 where
  pub size : ℕ
  pub places : Places
  pub options : ℕ → Options
  pub parent : ℕ → ℕ
  pub first : ℕ → ℕ
  pub rank : ℕ → ℕ

-- the greatest byte
abbrev pub top_byte : Table → ℕ
top_byte g = 2 * g.places.last

-- the most postings of options in one plan
abbrev pub most_options : ℕ
most_options = 240

-- what the argument asks of a table: few components, each after its parent; ways up that rise and end; a start for each top
-- component; ranks that tell any two bytes apart
pub record Sound (g : Table) : Type 0 where
  pub few : g.size ≤ 60
  pub rising : Rising g.places
  pub after_parent : (i : ℕ) → g.parent (suc i) ≤ i
  pub starts : (i : ℕ) → g.parent (suc i) ≡ 0 → 0 < g.first (suc i)
  pub ranks : Ranked g.rank (top_byte g)

-- what component i's own options post from start s with byte b; it is not reached where s is 0, and then its byte is 0
abbrev pub own : Table → ℕ → ℕ → ℕ → Amount
own g i s b = cond (s == 0) (cond (b == 0) nothing closed) (route g.places.up (g.options i) (g.places.above s) s b)

-- where component i starts, if its parent is repaired at place e
abbrev pub enter : Table → ℕ → ℕ → ℕ
enter g i e = cond (g.parent i == 0) (g.first i) e

abbrev pub breakdown : Table → Breakdown
breakdown g = record { own = own g; repairs = repaired_at; enter = enter g; parent = g.parent; rank = g.rank; top = top_byte g }

-- the best way on of component i from place s
abbrev pub best_from : {C : Type 0} → Adding C → (C → C → Bool) → Table → ℕ → (ℕ → Amount) → ℕ → Choice
best_from k lower g i under s = best k lower g.rank g.places.up (g.options i) under (g.places.above s) s

-- the same, or byte 0 where component i is not reached
abbrev pub chosen : {C : Type 0} → Adding C → (C → C → Bool) → Table → ℕ → (ℕ → Amount) → ℕ → Choice
chosen k lower g i under s = cond (s == 0) (record { byte = 0; sum = nothing }) (best_from k lower g i under s)

-- component i is taken: what it posts at its best goes onto its parent's sums
unfoldable pub take_one : {C : Type 0} → Adding C → (C → C → Bool) → Table → ℕ → Sums → Sums
take_one k lower g i ex = onto ex (g.parent i) (λ e. (chosen k lower g i (ex i) (enter g i e)).sum)

-- the sums when the last d components are taken
unfoldable pub sums : {C : Type 0} → Adding C → (C → C → Bool) → Table → ℕ → Sums
sums k lower g zero = λ _ _. nothing
sums k lower g (suc d) = take_one k lower g (g.size - d) (sums k lower g d)

-- the sums when the components after i are taken
unfoldable pub sums_at : {C : Type 0} → Adding C → (C → C → Bool) → Table → ℕ → Sums
sums_at k lower g i = sums k lower g (g.size - i)

-- the byte noted for component i at place s
unfoldable pub notes : {C : Type 0} → Adding C → (C → C → Bool) → Table → ℕ → ℕ → ℕ
notes k lower g i s = (chosen k lower g i (sums_at k lower g i i) s).byte

-- the walk's bytes, by component
unfoldable pub walked : {C : Type 0} → Adding C → (C → C → Bool) → Table → ℕ → ℕ
walked k lower g = plan (breakdown g) (notes k lower g) g.size
