-- The working costs and their tags, read as one list of sums.
use Rattle.std.specs.Prelude.{◌≡◌, ℕ, ◌+◌, ◌*◌, ◌<◌, ◌≤◌, List, [], ◌∷◌, length, Some, None, Option, slice_index_or, slice_set}
use Rattle.costs.specs.Kinds.{Adding}
use Rattle.costs.specs.Postings.{most}
use Rattle.model.specs.Studies.{Model}
use Rattle.plans.specs.Questions.{count}
use Rattle.theory.specs.Amounts.{Amount, both}
use Rattle.solving.specs.declared.tag.Tag.{Tag}
use Rattle.solving.specs.declared.tag.Tag.TheVariants as tag
use Rattle.solving.specs.declared.sum.Sum.{Sum}
use Rattle.solving.specs.declared.sum.Sum.TheVariants.{Nothing, Cost, Closed}
use Rattle.solving.specs.Sums.{held, Joins}

-- what a tag and a working cost say together
abbrev pub sum_of : {C : Type 0} → Tag → C → Sum C
sum_of tag.Nothing c = Nothing
sum_of tag.Cost c = Cost c
sum_of tag.Closed c = Closed

unfoldable pub view : {C : Type 0} → List Tag → List C → List (Sum C)
view [] ws = []
view (t ∷ ts) [] = []
view (t ∷ ts) (w ∷ ws) = sum_of t w ∷ view ts ws

-- one cell for each component and echelon
abbrev pub cells : Model → ℕ
cells s = count s * s.echelons

-- a parent's cell at an echelon, where there are so many echelons, is one of so many cells
abbrev pub Room : Option ℕ → ℕ → ℕ → ℕ → Type 0
Room None last e cells = Unit {0}
Room (Some p) last e cells = p * last + e < cells

-- what a sum makes of the cells, where it is added to a parent's cell at an echelon; a top component has no parent
abbrev pub AddsAbove : {C : Type 0} → Adding C → Option ℕ → ℕ → ℕ → Sum C → List (Sum C) → List (Sum C) → Type 0
AddsAbove k None last e sum before after = after ≡ before
AddsAbove k (Some p) last e sum before after =
    (x y : Amount) → slice_index_or before (p * last + e) Closed ≡ held k x → sum ≡ held k y → length x.row + length y.row ≤ most
    → after ≡ slice_set before (p * last + e) (held k (both x y))

-- what it makes of the total: the sum of a top component is added
abbrev pub AddsTop : {C : Type 0} → Adding C → Option ℕ → Sum C → Sum C → Sum C → Type 0
AddsTop k None sum before after = Joins k before sum after
AddsTop k (Some p) sum before after = after ≡ before
