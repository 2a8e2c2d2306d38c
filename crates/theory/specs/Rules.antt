-- The three rules by which a search may answer; a search that answers by them ends, as the number of free pairs falls.
use Rattle.std.specs.Prelude.{◌≡◌, ℕ, ◌<◌, Bool, true, false}
use Rattle.costs.specs.Kinds.{Adding}
use Rattle.theory.specs.Amounts.{Known}
use Rattle.theory.specs.Searches.{Plans, Best, Walk, Walked, bound, ahead, Found, With, Same}

-- 1. Nothing better: if the bound of a walk does not come before the best so far, nothing below these marks does, and the
-- best so far is the answer.
abbrev pub NothingBetter : {X C : Type 0} → Adding C → (C → C → Bool) → Plans X → Type 0
NothingBetter {X = X} {C = C} k lower s =
    (closed held shut : ℕ → Bool) (w : Walk X) (b : Best X C)
    → Walked k lower s shut w → Known k b.cost
    → ahead lower s (bound k s held w) b ≡ false
    → Found k lower s closed held shut b b

-- 2. Here: if the bound comes before the best so far, and every pair that the walk's plan needs is held, the bound is that
-- plan's worth, and the answer. Closed pairs have to be shut.
abbrev pub Here : {X C : Type 0} → Adding C → (C → C → Bool) → Plans X → Type 0
Here {X = X} {C = C} k lower s =
    (closed held shut : ℕ → Bool) (w : Walk X) (b : Best X C)
    → Walked k lower s shut w → Known k b.cost
    → ((j : ℕ) → j < s.pairs → closed j ≡ true → shut j ≡ true)
    → ((j : ℕ) → j < s.pairs → s.needs w.plan j ≡ true → shut j ≡ false → held j ≡ true)
    → ahead lower s (bound k s held w) b ≡ true
    → Found k lower s closed held shut b (bound k s held w)

-- 3. Both branches: pair j is held in one search, and shut in a second one, which takes on the first one's answer. The marks
-- of the branches are given pair by pair, so that they may be read off an array.
abbrev pub BothBranches : {X C : Type 0} → Adding C → (C → C → Bool) → Plans X → Type 0
BothBranches {X = X} {C = C} k lower s =
    (closed held shut held₁ shut₁ held₂ shut₂ : ℕ → Bool) (j : ℕ) (b r₁ r₂ : Best X C)
    → Known k b.cost
    → With s.pairs j held held₁ → Same s.pairs shut shut₁ → Found k lower s closed held₁ shut₁ b r₁
    → Same s.pairs held held₂ → With s.pairs j shut shut₂ → Found k lower s closed held₂ shut₂ r₁ r₂
    → Found k lower s closed held shut b r₂

pub record Rules {X C : Type 0} (k : Adding C) (lower : C → C → Bool) (s : Plans X) : Type 0 where
  pub nothing_better : NothingBetter k lower s
  pub here : Here k lower s
  pub both_branches : BothBranches k lower s
