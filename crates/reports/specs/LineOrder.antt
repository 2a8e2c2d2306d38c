-- The order of a report's lines: each component before those under it, and those under one parent by their numbers.
use Rattle.std.specs.Prelude.{ℕ, zero, suc, ◌-◌, Bool, cond, List, [], ◌∷◌, Some, None, Option, nat_eq}
use Rattle.std.specs.Option.{option_eq}
use Rattle.model.specs.Studies.{Model}
use Rattle.plans.specs.Ranges.{upto}
use Rattle.plans.specs.Postings.{component}
use Rattle.plans.specs.Questions.{count}
use Rattle.plans.specs.Starts.{parent}

-- component i stands directly under p, which is none above the top components
abbrev pub is_under : Model → Option ℕ → ℕ → Bool
is_under s p i = option_eq nat_eq (parent s i) p

-- what `entry` gives for each component under p that is numbered below n, in number order
abbrev pub listed_below : Model → (ℕ → List ℕ) → Option ℕ → ℕ → List ℕ
listed_below s entry p n = upto (λ i. cond (is_under s p i) (entry i) []) n

-- a list: the entries of all components under p
abbrev pub listed : Model → (ℕ → List ℕ) → Option ℕ → List ℕ
listed s entry p = listed_below s entry p (count s)

-- an entry: component i, and then the list under it; `left` indenture levels may lie below it
unfoldable pub entry : Model → ℕ → ℕ → List ℕ
entry s zero i = i ∷ []
entry s (suc left) i = i ∷ listed s (entry s left) (Some i)

-- the components in the order of their lines: the list of the top components, with four levels below them
abbrev pub order : Model → List ℕ
order s = listed s (entry s 4) None

-- the entry of component i, with as many levels below it as its own leaves of the five
abbrev pub entry_of : Model → ℕ → List ℕ
entry_of s i = entry s (5 - (component s i).level) i
