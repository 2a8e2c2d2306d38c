-- The answer: a plan, none lower, and first in reading order among those at its cost; and the definition that goes through
-- every row of bytes. Here `costs` gives each row of bytes what it posts, closed where it is no plan.
use Rattle.std.specs.Prelude.{◌≡◌, ℕ, zero, suc, ◌≤◌, Bool, true, false, cond, ◌⊎◌, List, [], ◌∷◌, map, length, Some, None, fold, Option}
use Rattle.std.specs.List.{flat_map, AllByRecursion}
use Rattle.costs.specs.Kinds.{Adding}
use Rattle.theory.specs.Entries.{sum}
use Rattle.theory.specs.Amounts.{Amount, closed, Fits, value}
use Rattle.theory.specs.ReadingOrder.{Before}

abbrev pub IsPlan : (List ℕ → Amount) → List ℕ → Type 0
IsPlan costs r = (costs r).is_open ≡ true

pub record Answer {C : Type 0} (k : Adding C) (lower : C → C → Bool) (rank : ℕ → ℕ) (costs : List ℕ → Amount) (r : List ℕ) : Type 0 where
  pub plan : IsPlan costs r
  pub least : (y : List ℕ) → IsPlan costs y → lower (sum k (costs y).row) (sum k (costs r).row) ≡ false
  pub first : (y : List ℕ) → IsPlan costs y → sum k (costs y).row ≡ sum k (costs r).row → (r ≡ y) ⊎ Before rank r y

-- every row of n bytes, in reading order where the bytes are in the order of their ranks
unfoldable pub rows : List ℕ → ℕ → List (List ℕ)
rows bytes zero = [] ∷ []
rows bytes (suc n) = flat_map (λ b. map (λ r. b ∷ r) (rows bytes n)) bytes

-- the first cost is lower, and any cost is lower than none
abbrev pub is_lower : {C : Type 0} → (C → C → Bool) → Option C → Option C → Bool
is_lower lower None None = false
is_lower lower None (Some b) = false
is_lower lower (Some a) None = true
is_lower lower (Some a) (Some b) = lower a b

abbrev pub costs_of : {X : Type 0} → (X → Amount) → Option X → Amount
costs_of costs None = closed
costs_of costs (Some x) = costs x

-- the best so far, unless x is a plan at a lower cost
abbrev pub keep : {X C : Type 0} → Adding C → (C → C → Bool) → (X → Amount) → Option X → X → Option X
keep k lower costs b x = cond (is_lower lower (value k (costs x)) (value k (costs_of costs b))) (Some x) b

-- the definition: go through every row of n bytes in reading order, and keep the first of the least plans
unfoldable pub solved : {C : Type 0} → Adding C → (C → C → Bool) → (List ℕ → Amount) → List ℕ → ℕ → Option (List ℕ)
solved k lower costs bytes n = fold (keep k lower costs) None (rows bytes n)

-- what the definition asks of the costs: every plan is a row of n bytes up to the greatest, and posts few enough
pub record Bytewise (costs : List ℕ → Amount) (top n : ℕ) : Type 0 where
  pub size : (y : List ℕ) → IsPlan costs y → length y ≡ n
  pub bytes : (y : List ℕ) → IsPlan costs y → AllByRecursion (λ b. b ≤ top) y
  pub fits : (y : List ℕ) → Fits (costs y)

-- what o says of the plans: a row that it names is the answer, and any answer is that row; it names none only where there
-- is no plan, and one where there is
pub record Decided {C : Type 0} (k : Adding C) (lower : C → C → Bool) (rank : ℕ → ℕ) (costs : List ℕ → Amount) (o : Option (List ℕ)) : Type 0 where
  pub is_answer : (r : List ℕ) → o ≡ Some r → Answer k lower rank costs r
  pub answer_is : (r : List ℕ) → Answer k lower rank costs r → o ≡ Some r
  pub none_without_plan : o ≡ None → (y : List ℕ) → IsPlan costs y → ⊥
  pub one_with_plan : (y : List ℕ) → IsPlan costs y → (r : List ℕ) × (o ≡ Some r)
