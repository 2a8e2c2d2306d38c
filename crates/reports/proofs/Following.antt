-- Which line follows which: a component's after its parent's, and those under one parent by number.
use Rattle.std.proofs.Common.{◌≡◌, ℕ, ◌+◌, ◌<◌, ◌≤◌, true, cond, List, [], ◌∷◌, ◌++◌, Some, Option, refl, ap, ◌∙◌, subst, append_assoc, arith}
use Rattle.std.specs.List.{AllByRecursion}
use Rattle.std.proofs.ByRecursion.{All-weaker}
use Rattle.std.proofs.lemmas.Bool.{ltb-true}
use Rattle.std.specs.Cmp.Lexicographic.{options_equiv}
use Rattle.std.proofs.lemmas.Cmp.{nat_eq_equiv}
use Rattle.std.specs.Option.{option_eq}
use Rattle.std.specs.Prelude.{nat_eq}
use Rattle.model.specs.Components.{is_entered, level_under}
use Rattle.model.specs.Studies.{Model, Limits}
use Rattle.plans.specs.Questions.{count}
use Rattle.plans.specs.Starts.{parent}
use Rattle.reports.specs.LineOrder.{is_under, listed_below, listed, entry_of}
use Rattle.reports.specs.OrderLaws.{Follows}
use Rattle.reports.specs.Reports.{indent}
use Rattle.reports.proofs.Depths.{below_deep}
use Rattle.reports.proofs.Entries.{level, level_is, level_low, entry_is}
use Rattle.reports.proofs.Listing.{listed_split}
use Rattle.reports.proofs.Ranges.{upto_split}
use Rattle.reports.proofs.Standing.{entered_more, heading, list_stands}

all_right : (P : ℕ → Type 0) (xs ys : List ℕ) → AllByRecursion P (xs ++ ys) → AllByRecursion P ys
all_right P [] ys h = h
all_right P (x ∷ xs) ys h = all_right P xs ys h.1

module _ (s : Model) (limits : Limits s) where
  under_it : (i : ℕ) (p : Option ℕ) → parent s i ≡ p → is_under s p i ≡ true
  under_it i p e = ap (λ o. option_eq nat_eq o p) e ∙ (options_equiv nat_eq_equiv).refl p

  entered_in : (i : ℕ) (p : Option ℕ) → i < count s → parent s i ≡ p → is_entered (count s) p ≡ true
  entered_in i p h e =
      let Entered : Option ℕ → Type 0 = λ o. is_entered (count s) o ≡ true in
      subst Entered e (entered_more i (count s) (parent s i) (omega arith) (limits.sound_rows i h).0)

  pub follows_parent : (i p : ℕ) → i < count s → parent s i ≡ Some p → Follows s (λ k. level s p < level s k) p i
  follows_parent i p h e =
      let r = list_stands s limits (count s) (Some p) (entered_in i (Some p) h e) (omega arith) in
      let split = listed_split s (entry_of s) (Some p) i h (under_it i (Some p) e) in
      let front = listed_below s (entry_of s) (Some p) i in
      let rest = listed s (entry_of s) (Some i) in
      record {
        before = r.0;
        between = front;
        after = rest ++ (split.0 ++ r.1.0);
        all =
            simp (r.1.1, split.1, entry_is s limits i h, append_assoc);
        only = below_deep s limits (Some p) i (omega arith);
      }

  pub step_more : (i p : ℕ) → i < count s → parent s i ≡ Some p → indent s i ≡ indent s p + 2
  step_more i p h e =
      let deep = level_is s limits (Some p) i h (under_it i (Some p) e) in
      let low = level_low s limits p (ltb-true p (count s) (entered_in i (Some p) h e)) in
      omega arith

  pub follows_lower : (i j : ℕ) → i < j → j < count s → parent s i ≡ parent s j → Follows s (λ k. level s i ≤ level s k) i j
  follows_lower i j less h e =
      let o = parent s j in
      let inside : i < count s = omega arith in
      let r = list_stands s limits (count s) o (entered_in j o h refl) (omega arith) in
      let split = listed_split s (entry_of s) o j h (under_it j o refl) in
      let part = upto_split (λ k. cond (is_under s o k) (entry_of s k) []) i j less in
      let front = listed_below s (entry_of s) o i in
      let mine = listed s (entry_of s) (Some i) in
      let theirs = listed s (entry_of s) (Some j) in
      let cut : listed_below s (entry_of s) o j ≡ front ++ ((i ∷ mine) ++ part.0) =
      simp (part.1, under_it i o e, entry_is s limits i inside) in
      let Deep : List ℕ → Type 0 = AllByRecursion (λ k. level_under s.components o ≤ level s k) in
      let deep = level_is s limits o i inside (under_it i o e) in
      let only = (all_right _ front ((i ∷ mine) ++ part.0) (subst Deep cut (below_deep s limits o j (omega arith)))).1 in
      record {
        before = r.0 ++ (heading o ++ front);
        between = mine ++ part.0;
        after = theirs ++ (split.0 ++ r.1.0);
        all =
            simp (r.1.1, split.1, cut, entry_is s limits j h, append_assoc);
        only = All-weaker (λ k. level_under s.components o ≤ level s k) (λ k. level s i ≤ level s k) (λ k d. omega arith) (mine ++ part.0) only;
      }
