-- What a component uses at one echelon: nothing, or one of its options.
use Rattle.std.proofs.Common.{◌≡◌, ℕ, suc, ◌*◌, ◌<◌, ◌≤◌, Bool, true, false, cond, ltb, List, [], ◌∷◌, refl, ◌∙◌, ap₂, arith}
use Rattle.std.proofs.lemmas.Bool.Decides.{nat_tests}
use Rattle.std.proofs.lemmas.Bool.{lt-ltb}
use Rattle.model.specs.declared.question.Question.{Question}
use Rattle.model.specs.declared.question.Question.TheVariants.{OfOption}
use Rattle.model.specs.declared.question.RepairOption.{RepairOption}
use Rattle.model.specs.declared.question.RepairOption.TheVariants.{Discard, Repair, Move}
use Rattle.model.specs.Books.{Book, KeepsLimits}
use Rattle.model.specs.Studies.{Model, Limits}
use Rattle.plans.specs.Questions.{echelon_questions}
use Rattle.plans.specs.Starts.{byte, final, start}
use Rattle.plans.specs.Uses.{uses_at, uses}
use Rattle.theory.specs.Amounts.{Amount, nothing, both}
use Rattle.theory.specs.Options.{posted}
use Rattle.theory.proofs.Routes.{both_nothing}
use Rattle.solutions.specs.Problems.{entry}
use Rattle.solutions.proofs.Amounts.{asked, amount_of}

-- ---- which option is used, from a start a with a byte v
pub unused : (a v e : ℕ) → (1 ≤ a → e ≡ final v → ⊥) → (1 ≤ a → a ≤ e → e < final v → ⊥) → (o : RepairOption) → uses_at a v e o ≡ false
unused a v e h k Discard = grind (arith, nat_tests)
unused a v e h k Repair = grind (arith, nat_tests)
unused a v e h k Move = grind (arith, nat_tests)

discard_used : (a v e : ℕ) → 1 ≤ a → suc v ≡ 2 * e → (uses_at a v e Discard ≡ true) × (uses_at a v e Repair ≡ false) × (uses_at a v e Move ≡ false)
discard_used a v e l h = (grind (arith, nat_tests), grind (arith, nat_tests), grind (arith, nat_tests))

repair_used : (a v e : ℕ) → 1 ≤ a → v ≡ 2 * e → (uses_at a v e Discard ≡ false) × (uses_at a v e Repair ≡ true) × (uses_at a v e Move ≡ false)
repair_used a v e l h = (grind (arith, nat_tests), grind (arith, nat_tests), grind (arith, nat_tests))

move_used : (a v e : ℕ) → 1 ≤ a → a ≤ e → e < final v → (uses_at a v e Discard ≡ false) × (uses_at a v e Repair ≡ false) × (uses_at a v e Move ≡ true)
move_used a v e l m h = (grind (arith, nat_tests), grind (arith, nat_tests), grind (arith, nat_tests))

-- ---- the amount of three questions of which at most one passes, the third asked or not
module _ (s : Model) (b : Book) (limits : Limits s) (kept : KeepsLimits b) (x y z : Question) where
  abbrev three : Bool → Bool → Bool → Bool → Amount
  three first second third also =
      both (asked s b limits kept first x) (both (asked s b limits kept second y)
      (cond also (both (asked s b limits kept third z) nothing) nothing))

  three_asked : (f : Question → Bool) (also : Bool) → amount_of s b limits kept f (x ∷ y ∷ cond also (z ∷ []) []) ≡ three (f x) (f y) (f z) also
  three_asked f also = grind arith

  none_of_three : (also : Bool) → three false false false also ≡ nothing
  none_of_three also = grind arith

  first_of_three : (also : Bool) → three true false false also ≡ posted (entry s b limits kept x)
  first_of_three also = grind arith

  second_of_three : (also : Bool) → three false true false also ≡ posted (entry s b limits kept y)
  second_of_three also = grind arith

  third_of_three : three false false true true ≡ posted (entry s b limits kept z)
  third_of_three = both_nothing (posted (entry s b limits kept z))

-- ---- so the amount of component i at echelon e
module _ (s : Model) (b : Book) (limits : Limits s) (kept : KeepsLimits b) (plan : List ℕ) (i e : ℕ) where
  abbrev at_echelon : Amount
  at_echelon = amount_of s b limits kept (uses s plan) (echelon_questions s.echelons i e)

  abbrev of_options : Bool → Bool → Bool → Bool → Amount
  of_options = three s b limits kept (OfOption i e Discard) (OfOption i e Repair) (OfOption i e Move)

  abbrev uses_here : RepairOption → Bool
  uses_here = uses_at (start s plan i) (byte plan i) e

  by_tests : (d r m also : Bool) → uses_here Discard ≡ d → uses_here Repair ≡ r → uses_here Move ≡ m → ltb e s.echelons ≡ also → at_echelon ≡ of_options d r m also
  by_tests d r m also p q t l =
      three_asked s b limits kept (OfOption i e Discard) (OfOption i e Repair) (OfOption i e Move) (uses s plan) (ltb e s.echelons)
      ∙ ap₂ (λ u v. of_options u v (uses_here Move) (ltb e s.echelons)) p q
      ∙ ap₂ (of_options d r) t l

  pub echelon_nothing : ((o : RepairOption) → uses_here o ≡ false) → at_echelon ≡ nothing
  echelon_nothing h =
      by_tests false false false (ltb e s.echelons) (h Discard) (h Repair) (h Move) refl
      ∙ none_of_three s b limits kept (OfOption i e Discard) (OfOption i e Repair) (OfOption i e Move) (ltb e s.echelons)

  module _ (reached : 1 ≤ start s plan i) where
    pub echelon_discard : suc (byte plan i) ≡ 2 * e → at_echelon ≡ posted (entry s b limits kept (OfOption i e Discard))
    echelon_discard h =
        let t = discard_used (start s plan i) (byte plan i) e reached h in
        by_tests true false false (ltb e s.echelons) t.0 t.1 t.2 refl
        ∙ first_of_three s b limits kept (OfOption i e Discard) (OfOption i e Repair) (OfOption i e Move) (ltb e s.echelons)

    pub echelon_repair : byte plan i ≡ 2 * e → at_echelon ≡ posted (entry s b limits kept (OfOption i e Repair))
    echelon_repair h =
        let t = repair_used (start s plan i) (byte plan i) e reached h in
        by_tests false true false (ltb e s.echelons) t.0 t.1 t.2 refl
        ∙ second_of_three s b limits kept (OfOption i e Discard) (OfOption i e Repair) (OfOption i e Move) (ltb e s.echelons)

    pub echelon_move : start s plan i ≤ e → e < final (byte plan i) → e < s.echelons → at_echelon ≡ posted (entry s b limits kept (OfOption i e Move))
    echelon_move l h before =
        let t = move_used (start s plan i) (byte plan i) e reached l h in
        by_tests false false true true t.0 t.1 t.2 (lt-ltb e s.echelons before)
        ∙ third_of_three s b limits kept (OfOption i e Discard) (OfOption i e Repair) (OfOption i e Move)
