-- The questions that are put to a component, in their order.
use Rattle.std.specs.Prelude.{ℕ, ◌*◌, Bool, None, Option, nat_le}
use Rattle.model.specs.declared.refusal.Refusal.{Refusal}
use Rattle.model.specs.declared.refusal.Refusal.TheVariants.{ByteTooLarge, ReachMismatch, BeforeStart, OptionClosed, ResourceClosed}
use Rattle.plans.specs.Starts.{final}
use Rattle.plans.specs.Prices.{object, agree}
use Rattle.planning.specs.declared.route.Route.{Route}

-- the first question that component i fails, by its way in the plan and whether its options and its resources are open
abbrev pub first_failed : ℕ → ℕ → Route → Bool → Bool → Option Refusal
first_failed i echelons w options resources =
    object (nat_le w.byte (2 * echelons)) (ByteTooLarge i)
    (object (agree (nat_le 1 w.byte) (nat_le 1 w.start)) (ReachMismatch i)
    (object (nat_le w.start (final w.byte)) (BeforeStart i)
    (object options (OptionClosed i)
    (object resources (ResourceClosed i)
    None))))
