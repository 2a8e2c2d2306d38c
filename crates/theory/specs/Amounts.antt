-- Amounts: rows of postings that are open or closed, their costs, and which of two costs comes first.
use Rattle.std.specs.Prelude.{ℕ, ◌≤◌, Bool, true, false, cond, not, ◌&&◌, ◌||◌, List, [], ◌++◌, length, Some, None, Option, nat_lt}
use Rattle.costs.specs.Kinds.{Adding, Cost}
use Rattle.costs.specs.Postings.{most}
use Rattle.theory.specs.Entries.{Entry, sum}

-- What some decisions post, and whether all that they use is open. A closed amount keeps its row, so that its length needs
-- no case.
pub record Amount : Type 0 where
  pub is_open : Bool
  pub row : List Entry

abbrev pub nothing : Amount
nothing = record { is_open = true; row = [] }

abbrev pub closed : Amount
closed = record { is_open = false; row = [] }

-- what two decisions post together
abbrev pub both : Amount → Amount → Amount
both a b = record { is_open = a.is_open && b.is_open; row = a.row ++ b.row }

-- few enough postings for the laws of a cost kind
abbrev pub Fits : Amount → Type 0
Fits a = length a.row ≤ most

-- the cost of an amount, none where it is closed
abbrev pub value : {C : Type 0} → Adding C → Amount → Option C
value k a = cond a.is_open (Some (sum k a.row)) None

-- a cost that the laws speak of, or none
abbrev pub Known : {C : Type 0} → Adding C → Option C → Type 0
Known k None = Unit {0}
Known k (Some c) = Cost k c

-- `precedes lower u x v y`: the cost u of a plan with number x in reading order comes before the cost v of a plan with
-- number y. The lower cost comes first, and the lower number where neither is lower; none comes before nothing.
abbrev pub precedes : {C : Type 0} → (C → C → Bool) → Option C → ℕ → Option C → ℕ → Bool
precedes lower None x None y = false
precedes lower None x (Some b) y = false
precedes lower (Some a) x None y = true
precedes lower (Some a) x (Some b) y = lower a b || (not (lower b a) && nat_lt x y)
