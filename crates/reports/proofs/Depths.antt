-- The levels within entries and lists: nothing there is of a level above the entry's own.
use Rattle.std.proofs.Common.{◌≡◌, ℕ, zero, suc, ◌<◌, ◌≤◌, true, List, Some, Option, arith}
use Rattle.std.specs.List.{AllByRecursion}
use Rattle.std.proofs.ByRecursion.{All-append, All-weaker}
use Rattle.model.specs.Components.{level_under}
use Rattle.model.specs.Studies.{Model, Limits}
use Rattle.plans.specs.Questions.{count}
use Rattle.plans.specs.Ranges.{upto}
use Rattle.reports.specs.LineOrder.{is_under, listed_below, entry, entry_of}
use Rattle.reports.proofs.Entries.{level, level_is}

-- what holds of all parts holds of the list that is made of them
all_upto : (P : ℕ → Type 0) (f : ℕ → List ℕ) (n : ℕ) → ((k : ℕ) → k < n → AllByRecursion P (f k)) → AllByRecursion P (upto f n)
all_upto P f zero each = tt
all_upto P f (suc n) each = All-append P (upto f n) (f n) (all_upto P f n (λ k h. each k (omega arith))) (each n (omega arith))

module _ (s : Model) (limits : Limits s) where
  -- entries that are deep enough make a list that is
  list_deep : (m : ℕ) (f : ℕ → List ℕ) (p : Option ℕ) (n : ℕ) → n ≤ count s → ((j : ℕ) → j < n → is_under s p j ≡ true → AllByRecursion (λ x. m ≤ level s x) (f j)) → AllByRecursion (λ x. m ≤ level s x) (listed_below s f p n)
  list_deep m f p n l each = all_upto (λ x. m ≤ level s x) _ n (λ j b. grind (arith, each j b))

  entry_deep : (left k : ℕ) → k < count s → AllByRecursion (λ x. level s k ≤ level s x) (entry s left k)
  unfolding entry
  entry_deep zero k h = (omega arith, tt)
  entry_deep (suc left) k h = (
    omega arith,
    list_deep (level s k) (entry s left) (Some k) (count s) (omega arith) (λ j b u.
        let deep = level_is s limits (Some k) j b u in
        All-weaker (λ x. level s j ≤ level s x) (λ x. level s k ≤ level s x) (λ x d. omega arith) (entry s left j) (entry_deep left j b)),
  )

  -- a list has only components of its own level and of deeper ones
  pub below_deep : (p : Option ℕ) (n : ℕ) → n ≤ count s → AllByRecursion (λ x. level_under s.components p ≤ level s x) (listed_below s (entry_of s) p n)
  below_deep p n l =
      list_deep (level_under s.components p) (entry_of s) p n l (λ j b u.
      let inside : j < count s = omega arith in
      let deep = level_is s limits p j inside u in
      All-weaker (λ x. level s j ≤ level s x) (λ x. level_under s.components p ≤ level s x) (λ x d. omega arith) (entry_of s j) (entry_deep _ j inside))
