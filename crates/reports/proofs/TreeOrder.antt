-- Two studies of the same tree have the same order of lines.
use Rattle.std.proofs.Common.{◌≡◌, ℕ, zero, suc, ◌<◌, cond, List, [], ◌∷◌, Some, None, Option, refl, ap, ◌∙◌}
use Rattle.std.specs.Option.{option_eq}
use Rattle.std.specs.Prelude.{nat_eq}
use Rattle.model.specs.Studies.{Model}
use Rattle.plans.specs.Questions.{count}
use Rattle.plans.specs.Ranges.{upto}
use Rattle.plans.specs.Starts.{parent}
use Rattle.reports.specs.LineOrder.{is_under, listed, entry, order}
use Rattle.reports.proofs.Ranges.{upto_same}

module _ (s t : Model) (as_many : count s ≡ count t) (same : (i : ℕ) → i < count s → parent s i ≡ parent t i) where
  same_list : (f g : ℕ → List ℕ) (p : Option ℕ) → ((i : ℕ) → i < count s → f i ≡ g i) → listed s f p ≡ listed t g p
  same_list f g p each =
      upto_same _ (λ i. cond (is_under t p i) (g i) []) (count s)
      (λ i h. ap (λ q. cond (option_eq nat_eq q p) (f i) []) (same i h) ∙ ap (λ l. cond (is_under t p i) l []) (each i h))
      ∙ ap (upto (λ i. cond (is_under t p i) (g i) [])) as_many

  same_entry : (left i : ℕ) → i < count s → entry s left i ≡ entry t left i
  unfolding entry
  same_entry zero i h = refl
  same_entry (suc left) i h = ap (λ l. i ∷ l) (same_list (entry s left) (entry t left) (Some i) (same_entry left))

  pub same_order : order s ≡ order t
  same_order = same_list (entry s 4) (entry t 4) None (same_entry 4)
