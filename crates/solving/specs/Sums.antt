-- What the walk's code holds of the amounts and choices that the solver's argument speaks of.
use Rattle.std.specs.Prelude.{◌≡◌, ℕ, ◌+◌, ◌<◌, ◌≤◌, Bool, true, cond, List, [], ◌∷◌, length, Some, None, Option}
use Rattle.costs.specs.declared.posting.Posting.{Posting}
use Rattle.costs.specs.Kinds.{Adding}
use Rattle.costs.specs.Postings.{most}
use Rattle.plans.specs.Orders.{rank}
use Rattle.planning.specs.declared.table.Choices.{Choices}
use Rattle.theory.specs.Entries.{Entry, sum}
use Rattle.theory.specs.Amounts.{Amount, both, Fits, value, precedes}
use Rattle.theory.specs.Options.{Options, posted}
use Rattle.theory.specs.Choices.{Choice as Chosen, better, way_on}
use Rattle.solving.specs.declared.sum.Sum.{Sum}
use Rattle.solving.specs.declared.sum.Sum.TheVariants.{Nothing, Cost, Closed}
use Rattle.solving.specs.declared.choice.Choice.{Choice}

-- a posting without the proof that it is within its limits
abbrev pub plain : Option Entry → Option Posting
plain None = None
plain (Some p) = Some p.posting

-- the sum of a row, none where it is empty
abbrev pub row_sum : {C : Type 0} → Adding C → List Entry → Sum C
row_sum k [] = Nothing
row_sum k (p ∷ ps) = Cost (sum k (p ∷ ps))

-- what is held of an amount
abbrev pub held : {C : Type 0} → Adding C → Amount → Sum C
held k a = cond a.is_open (row_sum k a.row) Closed

-- what is held of a choice
abbrev pub held_choice : {C : Type 0} → Adding C → Chosen → Choice C
held_choice k c = record { byte = c.byte; sum = held k c.sum }

-- an amount that posts something, if it is open
abbrev pub Posts : Amount → Type 0
Posts a = a.is_open ≡ true → 0 < length a.row

-- the postings at an echelon are those of the options there
abbrev pub Offers : Choices → Options → ℕ → Type 0
Offers p o e = (p.discard ≡ plain (o.discard e)) × (p.repair ≡ plain (o.repair e)) × (p.moving ≡ plain (o.move e))

-- `HoldsPosting k p r`: r is held of what the posting p posts
abbrev pub HoldsPosting : {C : Type 0} → Adding C → Option Posting → Sum C → Type 0
HoldsPosting k p r = (x : Option Entry) → p ≡ plain x → r ≡ held k (posted x)

-- `Joins k a b r`: of whatever amounts a and b are held, r is held of both together
abbrev pub Joins : {C : Type 0} → Adding C → Sum C → Sum C → Sum C → Type 0
Joins k a b r = (x y : Amount) → a ≡ held k x → b ≡ held k y → length x.row + length y.row ≤ most → r ≡ held k (both x y)

-- `OfChoices k a b P`: P holds of whatever choices a and b are held
abbrev pub OfChoices : {C : Type 0} → Adding C → Choice C → Choice C → (Chosen → Chosen → Type 0) → Type 0
OfChoices k a b P = (x y : Chosen) → Fits x.sum → Fits y.sum → Posts x.sum → Posts y.sum → a ≡ held_choice k x → b ≡ held_choice k y → P x y

-- r tells whether a comes before b
abbrev pub Precedes : {C : Type 0} → Adding C → (C → C → Bool) → Choice C → Choice C → Bool → Type 0
Precedes k lower a b r = OfChoices k a b (λ x y. r ≡ precedes lower (value k x.sum) (rank x.byte) (value k y.sum) (rank y.byte))

-- r is the better of a and b
abbrev pub Betters : {C : Type 0} → Adding C → (C → C → Bool) → Choice C → Choice C → Choice C → Type 0
Betters k lower a b r = OfChoices k a b (λ x y. r ≡ held_choice k (better k lower rank x y))

-- `Leads k lower p e under onward r`: r is the best way on from place e, by the postings there, the sum of the components
-- under this one and the best way on from the next place
abbrev pub Leads : {C : Type 0} → Adding C → (C → C → Bool) → Choices → ℕ → Sum C → Choice C → Choice C → Type 0
Leads k lower p e under onward r =
    (o : Options) (below : ℕ → Amount) (on : Chosen) → Offers p o e → under ≡ held k (below e) → onward ≡ held_choice k on → Posts on.sum
    → length (below e).row + 1 ≤ most → length on.sum.row + 1 ≤ most → r ≡ held_choice k (way_on k lower rank o below e on)
