-- Where each list stands in the order of the lines.
use Rattle.std.proofs.Common.{◌≡◌, ℕ, zero, suc, ◌<◌, ◌≤◌, true, List, [], ◌∷◌, ◌++◌, Some, None, Option, sym, ◌∙◌, append_assoc, append-nil, arith}
use Rattle.std.proofs.lemmas.Bool.{ltb-true}
use Rattle.std.specs.Cmp.Lexicographic.{options_equiv}
use Rattle.std.proofs.lemmas.Cmp.{nat_eq_equiv}
use Rattle.model.specs.Components.{is_entered}
use Rattle.model.specs.Studies.{Model, Limits}
use Rattle.plans.specs.Questions.{count}
use Rattle.plans.specs.Starts.{parent}
use Rattle.reports.specs.LineOrder.{listed_below, listed, entry_of, order}
use Rattle.reports.proofs.Entries.{entry_is, order_is}
use Rattle.reports.proofs.Listing.{listed_split}

pub entered_more : (m n : ℕ) (o : Option ℕ) → m ≤ n → is_entered m o ≡ true → is_entered n o ≡ true
entered_more m n o l h = grind arith

-- what stands in front of a list: its parent, and nothing in front of the list of the top components
abbrev pub heading : Option ℕ → List ℕ
heading None = []
heading (Some p) = p ∷ []

module _ (s : Model) (limits : Limits s) where
  -- the list under o, with its heading, somewhere in the order
  pub list_stands : (m : ℕ) (o : Option ℕ) → is_entered m o ≡ true → m ≤ count s → (a : List ℕ) × ((b : List ℕ) × (order s ≡ a ++ (heading o ++ (listed s (entry_of s) o ++ b))))
  list_stands m None h l = ([], ([], order_is s limits ∙ sym (append-nil (listed s (entry_of s) None))))
  list_stands zero (Some q) h l = absurd (omega (arith, ltb-true q 0 h))
  list_stands (suc m) (Some q) h l =
      let o = parent s q in
      let before : q < suc m = ltb-true q (suc m) h in
      let inside : q < count s = omega arith in
      let r = list_stands m o (entered_more q m o (omega arith) (limits.sound_rows q inside).0) (omega arith) in
      let split = listed_split s (entry_of s) o q inside ((options_equiv nat_eq_equiv).refl o) in
      let front = listed_below s (entry_of s) o q in (
        r.0 ++ (heading o ++ front),
        (
          split.0 ++ r.1.0,
          simp (r.1.1, split.1, entry_is s limits q inside, append_assoc),
        ),
      )
