-- Whether all that a component uses is open, as the rows of the survey say.
use Rattle.std.specs.Prelude.{ℕ, zero, suc, Bool, true, not, ◌&&◌, ◌||◌, List, is_some, None, Option, slice_index_or}
use Rattle.costs.specs.declared.posting.Posting.{Posting}
use Rattle.model.specs.declared.question.RepairOption.{RepairOption}
use Rattle.model.specs.declared.question.RepairOption.TheVariants.{Discard, Repair, Move}
use Rattle.model.specs.Components.{needs_resource}
use Rattle.plans.specs.Uses.{uses_at}
use Rattle.planning.specs.declared.route.Route.{Route}
use Rattle.planning.specs.declared.table.Choices.{Choices}
use Rattle.planning.specs.Surveys.{no_choices, no_resource}

-- every number below n passes
abbrev pub every_below : (ℕ → Bool) → ℕ → Bool
every_below f zero = true
every_below f (suc n) = every_below f n && f n

-- what is used has a posting
abbrev pub posted_where : Bool → Option Posting → Bool
posted_where used p = not used || is_some p

-- the component uses that option at echelon e
abbrev pub uses_on : Route → ℕ → RepairOption → Bool
uses_on w e o = uses_at w.start w.byte e o

-- the options that the component uses at echelon e are open
abbrev pub choices_open : Route → ℕ → Choices → Bool
choices_open w e c =
    posted_where (uses_on w e Discard) c.discard
    && (posted_where (uses_on w e Repair) c.repair && posted_where (uses_on w e Move) c.moving)

-- they are at the echelons 1 to 4
abbrev pub options_open : Route → List Choices → Bool
options_open w row = every_below (λ k. choices_open w (suc k) (slice_index_or row k no_choices)) 4

-- the component needs resource r at echelon e by that option
abbrev pub needs_on : Route → ℕ → ℕ → RepairOption → Bool
needs_on w r e o = uses_on w e o && needs_resource w.needs o r

-- the component needs resource r at echelon e
abbrev pub needs_resource_on : Route → ℕ → ℕ → Bool
needs_resource_on w r e = needs_on w r e Discard || (needs_on w r e Repair || needs_on w r e Move)

-- resource r is open at each of the echelons 1 to 4 where the component needs it
abbrev pub resource_open : Route → ℕ → List (Option Posting) → Bool
resource_open w r row =
    every_below (λ k. posted_where (needs_resource_on w r (suc k)) (slice_index_or row k None)) 4

-- each of the first q resources is
abbrev pub resources_open : Route → List (List (Option Posting)) → ℕ → Bool
resources_open w rows q = every_below (λ r. resource_open w r (slice_index_or rows r no_resource)) q
