-- Components: what each needs, its parent and level, and what holds of every list of entered components.
use Rattle.std.specs.Prelude.{◌≡◌, ℕ, suc, ◌/◌, ◌%◌, ◌^◌, ◌<◌, ◌≤◌, Bool, true, cond, ◌&&◌, List, length, get_or, Some, None, Option, ◌==◌, nat_le, nat_lt, slice_index_or}
use Rattle.model.specs.declared.question.RepairOption.{RepairOption}
use Rattle.model.specs.declared.question.RepairOption.TheVariants.{Discard, Repair, Move}
use Rattle.model.specs.declared.component.Component.{Component}
use Rattle.model.specs.declared.component.Needs.{Needs}

-- the mask of resources that an option needs
abbrev pub need : Needs → RepairOption → ℕ
need n Discard = n.discard
need n Repair = n.repair
need n Move = n.moving

-- the option needs resource r: bit r of its mask is set
abbrev pub needs_resource : Needs → RepairOption → ℕ → Bool
needs_resource n o r = nat_lt r 8 && need n o / 2 ^ r % 2 == 1

-- each mask names only resources below q
abbrev pub names_below : ℕ → Needs → Bool
names_below q n = nat_lt n.discard (2 ^ q) && (nat_lt n.repair (2 ^ q) && nat_lt n.moving (2 ^ q))

-- a rate is 1 to 1,000,000 failures per thousand years
abbrev pub is_rate : ℕ → Bool
is_rate f = nat_le 1 f && nat_le f 1_000_000

-- the parent that a number names: 255 marks a component without one
abbrev pub parent_of : ℕ → Option ℕ
parent_of n = cond (n == 255) None (Some n)

-- there is no parent, or it is one of the first n components
abbrev pub is_entered : ℕ → Option ℕ → Bool
is_entered n None = true
is_entered n (Some p) = nat_lt p n

-- stands where no component is entered
abbrev pub no_component : Component
no_component = record { parent = None; level = 1; needs = record { discard = 0; repair = 0; moving = 0 }; rate = 1 }

-- a component with other needs
abbrev pub with_needs : Component → Needs → Component
with_needs c n = record { parent = c.parent; level = c.level; needs = n; rate = c.rate }

-- the indenture level of a component with that parent: 1 at the top, else one deeper than the parent
abbrev pub level_under : List Component → Option ℕ → ℕ
level_under cs None = 1
level_under cs (Some p) = suc (get_or cs p no_component).level

-- component i, with q resources: its parent was entered before it, its level follows from its parent's and is at most 5,
-- its needs name only resources below q, and its rate is one
abbrev pub Row : ℕ → List Component → ℕ → Component → Type 0
Row q cs i c =
    (is_entered i c.parent ≡ true) × (c.level ≡ level_under cs c.parent) × (c.level ≤ 5)
    × (names_below q c.needs ≡ true) × (is_rate c.rate ≡ true)

abbrev pub Rows : ℕ → List Component → Type 0
Rows q cs = (i : ℕ) → i < length cs → Row q cs i (slice_index_or cs i no_component)
