-- The pairs that a component needs by its way from its start, and those that it needs by the options it uses.
use Rattle.std.proofs.Common.{◌≡◌, ℕ, zero, suc, ◌+◌, ◌-◌, ◌*◌, ◌<◌, ◌≤◌, Bool, false, cond, ◌&&◌, ◌||◌, eqb, leb, List, sym, refl, ap, ◌∙◌, arith}
use lib.Dec.{eqb-suc-zero}
use Rattle.std.proofs.lemmas.Bool.{cond-false}
use Rattle.std.proofs.lemmas.Bool.Decides.{nat_tests}
use Rattle.model.specs.declared.question.RepairOption.{RepairOption}
use Rattle.model.specs.declared.question.RepairOption.TheVariants.{Discard, Repair, Move}
use Rattle.model.specs.Books.{Book, KeepsLimits}
use Rattle.model.specs.Components.{needs_resource}
use Rattle.model.specs.Studies.{Model, Limits}
use Rattle.plans.specs.Postings.{component}
use Rattle.plans.specs.Starts.{byte, final, start}
use Rattle.plans.specs.Uses.{uses_at, needs_at}
use Rattle.theory.specs.Needs.{route_needs, own_needs}
use Rattle.theory.proofs.Routes.{ways_on}
use Rattle.solutions.specs.Pairs.{pair_resource, pair_echelon}
use Rattle.solutions.specs.Problems.{needs_of, table}
use Rattle.solutions.proofs.Routed.{Suits}

-- ---- from a start a with a byte v: is something needed at echelon e, where each option's answer is given?
abbrev needs_here : ℕ → ℕ → ℕ → Bool → Bool → Bool → Bool
needs_here a v e x y z = (uses_at a v e Discard && x) || ((uses_at a v e Repair && y) || (uses_at a v e Move && z))

module _ (a v e at : ℕ) (x y z : Bool) where
  discards_need : 1 ≤ a → suc v ≡ 2 * e → (eqb at e && x) ≡ (leb e at && needs_here a v at x y z)
  discards_need l h = grind (arith, nat_tests)

  repairs_need : 1 ≤ a → v ≡ 2 * e → (eqb at e && y) ≡ (leb e at && needs_here a v at x y z)
  repairs_need l h = grind (arith, nat_tests)

  moves_need : 1 ≤ a → a ≤ e → e < final v → ((eqb at e && z) || (leb (suc e) at && needs_here a v at x y z)) ≡ (leb e at && needs_here a v at x y z)
  moves_need l m h = grind (arith, nat_tests)

  from_start : 1 ≤ a → a ≤ final v → (leb a at && needs_here a v at x y z) ≡ needs_here a v at x y z
  from_start l m = grind (arith, nat_tests)

module _ (s : Model) (b : Book) (limits : Limits s) (kept : KeepsLimits b) (plan : List ℕ) (i j : ℕ) where
  -- where component i starts, its byte, and the echelon of pair j
  abbrev a : ℕ
  a = start s plan i

  abbrev v : ℕ
  v = byte plan i

  abbrev at : ℕ
  at = pair_echelon s.echelons j

  -- an option of component i needs the resource of pair j
  abbrev option_needs : RepairOption → Bool
  option_needs o = needs_resource (component s i).needs o (pair_resource s.echelons j)

  -- what plans say that component i needs
  abbrev needs : Bool
  needs = needs_here a v at (option_needs Discard) (option_needs Repair) (option_needs Move)

  -- what it needs on its way from echelon e
  abbrev on_the_way : ℕ → ℕ → Bool
  on_the_way left e = route_needs suc (needs_of s b limits kept (suc i)) left e v j

  -- from an echelon between the start and the final one
  route_needs_is : 1 ≤ a → v ≤ 2 * s.echelons → (left m : ℕ) → m + left ≡ s.echelons → a ≤ suc m → suc m ≤ final v → on_the_way left (suc m) ≡ leb (suc m) at && needs
  route_needs_is reached fits zero m e l h = absurd (omega arith)
  route_needs_is reached fits (suc left) m e l h =
      let x = option_needs Discard in
      let y = option_needs Repair in
      let z = option_needs Move in
      ways_on v (suc m) (eqb at (suc m) && x) (eqb at (suc m) && y) _ (λ t. t ≡ leb (suc m) at && needs)
      (discards_need a v (suc m) at x y z reached)
      (repairs_need a v (suc m) at x y z reached)
      (λ nd nr.
      let more : suc m < final v = omega arith in
      let rest = route_needs_is reached fits left (suc m) (omega arith) (omega arith) more in
      ap (λ t. (eqb at (suc m) && z) || t) rest ∙ moves_need a v (suc m) at x y z reached l more)

  own_needs_is : Suits s.echelons a v → (e : ℕ) → a ≡ e → own_needs (table s b limits kept) (needs_of s b limits kept) (suc i) e v j ≡ needs
  own_needs_is ok zero z = cc
  own_needs_is ok (suc m) z =
      let fits = ok.byte_fits in
      let from = ok.from_the_start in
      let left : ℕ = s.echelons - m in
      let same : cond (eqb (suc m) 0) 0 (suc s.echelons - suc m) ≡ left = cond-false (eqb (suc m) 0) 0 _ (eqb-suc-zero m) ∙ (let e : suc s.echelons - suc m ≡ left = omega arith in e) in
      cond-false (eqb (suc m) 0) false _ (eqb-suc-zero m)
      ∙ ap (λ n. on_the_way n (suc m)) same
      ∙ route_needs_is (omega arith) fits left m (omega arith) (omega arith) (omega arith)
      ∙ ap (λ e. leb e at && needs) (sym z)
      ∙ from_start a v a at (option_needs Discard) (option_needs Repair) (option_needs Move) (omega arith) from

  -- a component whose byte suits its start needs the pairs that it needs by its options
  pub own_needs_pair : Suits s.echelons a v → own_needs (table s b limits kept) (needs_of s b limits kept) (suc i) a v j ≡ needs_at s plan (pair_resource s.echelons j) (pair_echelon s.echelons j) i
  own_needs_pair ok = own_needs_is ok a refl
