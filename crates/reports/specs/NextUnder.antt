-- The next component under a parent, by number.
use Rattle.std.specs.Prelude.{◌≡◌, ℕ, ◌<◌, ◌≤◌, true, false, Some, None, Option}
use Rattle.model.specs.Studies.{Model}
use Rattle.plans.specs.Questions.{count}
use Rattle.reports.specs.LineOrder.{is_under}

-- no component numbered from `from` to below `end` stands under p
abbrev pub NoneUnder : Model → Option ℕ → ℕ → ℕ → Type 0
NoneUnder s p from end = (k : ℕ) → from ≤ k → k < end → is_under s p k ≡ false

-- the first component under p that is numbered `from` or higher, or none
abbrev pub NextUnder : Model → Option ℕ → ℕ → Option ℕ → Type 0
NextUnder s p from (Some i) = (from ≤ i) × (i < count s) × (is_under s p i ≡ true) × NoneUnder s p from i
NextUnder s p from None = NoneUnder s p from (count s)
