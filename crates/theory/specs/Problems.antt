-- What the solver works on: a table, the pairs that its options need, and the pairs' postings; and its plans as rows of bytes.
use Rattle.std.specs.Prelude.{ℕ, zero, suc, ◌<◌, ◌≤◌, Bool, not, ◌&&◌, List, [], ◌∷◌, ◌++◌, length, pos, ◌≤ℤ◌, Some, None, Option, ◌==◌, slice_index}
use Rattle.costs.specs.Kinds.{Adding}
use Rattle.theory.specs.Entries.{Entry}
use Rattle.theory.specs.Amounts.{Amount}
use Rattle.theory.specs.Breakdowns.{spent}
use Rattle.theory.specs.Tables.{Table, Sound, breakdown, walked}
use Rattle.theory.specs.Needs.{Needs, needed}
use Rattle.theory.specs.Marks.{blocked, marked}
use Rattle.theory.specs.Searches.{Plans, Best, Walk, with_pairs}
use Rattle.theory.specs.ReadingOrder.{row_number}

-- by component, the pairs that its options need; by pair, its posting and whether it is closed; the number of pairs
pub record Problem : Type 0 where
  pub table : Table
  pub needs : ℕ → Needs
  pub pair : ℕ → Entry
  pub pairs : ℕ
  pub is_closed : ℕ → Bool

-- the most pairs; with the most postings of options they make the most postings of one sum
abbrev pub most_pairs : ℕ
most_pairs = 16

-- what the argument asks of a problem: a sound table with a component, and few pairs, none with negative money
pub record Proper (y : Problem) : Type 0 where
  pub sound : Sound y.table
  pub some_component : 0 < y.table.size
  pub few_pairs : y.pairs ≤ most_pairs
  pub no_gain : (j : ℕ) → pos 0 ≤ℤ (y.pair j).posting.cents

-- a row of bytes by component: the byte at the front of the row is component 1's, and the whole's byte is 0
abbrev pub bytes_of : List ℕ → ℕ → ℕ
bytes_of r = λ i. slice_index (0 ∷ r) i

-- the bytes of components 1 to n as a row
abbrev pub row_of : ℕ → (ℕ → ℕ) → List ℕ
row_of zero a = []
row_of (suc n) a = row_of n a ++ a (suc n) ∷ []

-- what a row of bytes posts for options: by component, its moves from place to place and then its discard or repair
abbrev pub options_of : Problem → List ℕ → Amount
options_of y r = spent (breakdown y.table) y.table.size (bytes_of r)

-- whether a row of bytes needs pair j
abbrev pub needs_of : Problem → List ℕ → ℕ → Bool
needs_of y r = needed y.table y.needs y.table.size (bytes_of r)

-- closed unless the row has a byte for each component
abbrev pub if_whole : Problem → List ℕ → Amount → Amount
if_whole y r a = record { is_open = length r == y.table.size && a.is_open; row = a.row }

-- the plans of a problem, as the search knows them
abbrev pub plans : Problem → Plans (List ℕ)
plans y = record {
  options = λ r. if_whole y r (options_of y r);
  needs = needs_of y;
  number = row_number y.table.rank 0;
  pair = y.pair;
  pairs = y.pairs;
}

-- What a row of bytes posts: for options, and then for each pair that it needs, by number. It is closed where it is no plan:
-- where it has not one byte for each component, or uses a closed option, or needs a closed pair.
abbrev pub costs : Problem → List ℕ → Amount
costs y r = record {
  is_open = length r == y.table.size && ((options_of y r).is_open && not (blocked y.is_closed (needs_of y r) y.pairs));
  row = (with_pairs y.pair y.pairs (options_of y r) (needs_of y r)).row;
}

-- the table with some pairs shut
abbrev pub under : Problem → (ℕ → Bool) → Table
under y shut = marked y.table y.needs y.pairs shut

-- the walk with some pairs shut
abbrev pub walk : {C : Type 0} → Adding C → (C → C → Bool) → Problem → (ℕ → Bool) → Walk (List ℕ)
walk k lower y shut =
    let a = walked k lower (under y shut) in
    record { sum = spent (breakdown (under y shut)) y.table.size a; plan = row_of y.table.size a }

-- no plan is known, whatever row stands by it
abbrev pub no_plan : {C : Type 0} → List ℕ → Best (List ℕ) C
no_plan r = record { cost = None; plan = r }

-- the plan of a best so far that has a cost
abbrev pub plan_if : {C : Type 0} → Option C → List ℕ → Option (List ℕ)
plan_if None r = None
plan_if (Some c) r = Some r

abbrev pub plan_of : {C : Type 0} → Best (List ℕ) C → Option (List ℕ)
plan_of b = plan_if b.cost b.plan
