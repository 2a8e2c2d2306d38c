-- The mask of the resources that are shut, against what an option needs.
use Rattle.std.proofs.Common.{◌≡◌, ℕ, zero, suc, ◌+◌, ◌*◌, ◌/◌, ◌%◌, ◌^◌, ◌<◌, ◌≤◌, Bool, true, false, not, ◌&&◌, ◌||◌, eqb, List, [], get_or, sym, refl, ap, ◌∙◌, mod-lt, mod-eq_of_lt, one-mul, div-add-mod', add-one, arith, pow_pos, pow-add}
use lib.Bits.{bit_and, bit_or, and_block, and_mod, and_le_r, and_mask, and_zero_r}
use Rattle.std.proofs.lemmas.Bool.{ne_eqb, lt-ltb}
use Rattle.std.proofs.lemmas.Nat.{or_disjoint}
use Rattle.std.proofs.Math.Nat.{div-eq_of_lt}
use Rattle.model.specs.declared.component.Needs.{Needs}
use Rattle.model.specs.declared.question.RepairOption.{RepairOption}
use Rattle.model.specs.Components.{need, needs_resource}
use Rattle.plans.specs.Ranges.{some_below}
use Rattle.solving.specs.declared.mark.Mark.{Mark}
use Rattle.solving.specs.declared.mark.Mark.TheVariants.{Held, Free, Shut}
use Rattle.solving.specs.Marked.{is_shut}
use Rattle.solving.specs.Allowed.{bit_of, shut_mask, is_barred}

-- ---- the mask, resource by resource
bit_le : (m : Mark) (r : ℕ) → bit_of m r ≤ 2 ^ r
bit_le Held r = omega arith
bit_le Free r = omega arith
bit_le Shut r = omega arith

mask_lt : (marks : List (List Mark)) (e r : ℕ) → shut_mask marks e r < 2 ^ r
unfolding shut_mask
mask_lt marks e zero = omega arith
mask_lt marks e (suc r) = omega (arith, mask_lt marks e r, bit_le (get_or (get_or marks r []) e Held) r, pow-add 2 1 r)

-- ---- the bits that a mask has in common with the needs
low : (a s r : ℕ) → s < 2 ^ r → bit_and (a % 2 ^ r) s ≡ bit_and a s
low a s r h =
    let le = and_le_r a s in
    let lt : bit_and a s < 2 ^ r = omega arith in
    sym (sym (mod-eq_of_lt lt) ∙ and_mod a s r ∙ ap (bit_and (a % 2 ^ r)) (mod-eq_of_lt h))

-- one bit more on top
top : (a s r : ℕ) → s < 2 ^ r → bit_and a (s + 2 ^ r) ≡ a / 2 ^ r % 2 * 2 ^ r + bit_and a s
top a s r h =
    let is : s + 2 ^ r ≡ 1 * 2 ^ r + s = omega (arith, one-mul (2 ^ r)) in
    ap (bit_and a) is
    ∙ ap (λ (v : ℕ). bit_and v (1 * 2 ^ r + s)) (sym (div-add-mod' a (2 ^ r)))
    ∙ and_block r (a / 2 ^ r) 1 (a % 2 ^ r) s (mod-lt a (pow_pos r)) h
    ∙ ap (λ (v : ℕ). v * 2 ^ r + bit_and (a % 2 ^ r) s) (and_mask (a / 2 ^ r) 1)
    ∙ ap (λ (v : ℕ). a / 2 ^ r % 2 * 2 ^ r + v) (low a s r h)

-- the bit of the next resource is in no mask of those before it
apart : (a r : ℕ) (m : Mark) → a < 2 ^ r → bit_and a (bit_of m r) ≡ 0
apart a r Held h = and_zero_r a
apart a r Free h = and_zero_r a
apart a r Shut h =
    let none : a / 2 ^ r ≡ 0 = div-eq_of_lt h in
    let plain : 2 ^ r ≡ 0 + 2 ^ r = omega arith in
    ap (bit_and a) plain ∙ top a 0 r (pow_pos r) ∙ ap (λ (v : ℕ). v % 2 * 2 ^ r + bit_and a 0) none ∙ ap (λ v. 0 * 2 ^ r + v) (and_zero_r a) ∙ omega arith

-- one resource more, by the line of its marks
pub mask_more : (marks : List (List Mark)) (line : List Mark) (e r mask b : ℕ) → (mask ≡ shut_mask marks e r) × (mask < 2 ^ r) → line ≡ get_or marks r [] → b ≡ bit_of (get_or line e Held) r → (bit_or mask b ≡ shut_mask marks e (r + 1)) × (bit_or mask b < 2 ^ (r + 1))
unfolding shut_mask
mask_more marks line e r mask b m same q =
    let is : b ≡ bit_of (get_or (get_or marks r []) e Held) r = q ∙ ap (λ l. bit_of (get_or l e Held) r) same in
    let le = bit_le (get_or (get_or marks r []) e Held) r in
    let joined : bit_or mask b ≡ mask + b = or_disjoint mask b (ap (bit_and mask) is ∙ apart mask r (get_or (get_or marks r []) e Held) m.1) in
    (joined ∙ rw add-one (ap (λ v. v + b) m.0 ∙ ap (λ v. shut_mask marks e r + v) is), omega (arith, joined, pow-add 2 r 1))

or_nothing : (x y : Bool) → x ≡ x || (y && false)
or_nothing true y = refl
or_nothing false true = refl
or_nothing false false = refl

or_true : (x : Bool) → true ≡ x || true
or_true true = refl
or_true false = refl

digit : (b x p : ℕ) → b < 2 → 0 < p → not (eqb (b * p + x) 0) ≡ not (eqb x 0) || (eqb b 1 && true)
digit zero x p h l =
    let none : zero * p + x ≡ x = omega arith in
    ap (λ v. not (eqb v 0)) none ∙ or_nothing (not (eqb x 0)) true
digit (suc zero) x p h l =
    let some : eqb (1 * p + x) 0 ≡ false = ne_eqb (1 * p + x) 0 (λ z. omega arith) in
    ap not some ∙ or_true (not (eqb x 0))
digit (suc (suc b)) x p h l = absurd (omega arith)

common : (a s r : ℕ) (m : Mark) → s < 2 ^ r → not (eqb (bit_and a (s + bit_of m r)) 0) ≡ not (eqb (bit_and a s) 0) || (eqb (a / 2 ^ r % 2) 1 && is_shut m)
common a s r Held h = let none : s + 0 ≡ s = omega arith in ap (λ v. not (eqb (bit_and a v) 0)) none ∙ or_nothing _ _
common a s r Free h = let none : s + 0 ≡ s = omega arith in ap (λ v. not (eqb (bit_and a v) 0)) none ∙ or_nothing _ _
common a s r Shut h = ap (λ v. not (eqb v 0)) (top a s r h) ∙ digit (a / 2 ^ r % 2) (bit_and a s) (2 ^ r) (mod-lt (a / 2 ^ r) (omega arith)) (pow_pos r)

-- the option needs resource r, which is shut at echelon e
abbrev pub needs_shut : Needs → RepairOption → List (List Mark) → ℕ → ℕ → Bool
needs_shut n o marks e r = needs_resource n o r && is_shut (get_or (get_or marks r []) e Held)

-- an option is barred exactly if it needs one of the resources that are shut
pub barred_is : (n : Needs) (o : RepairOption) (marks : List (List Mark)) (e q : ℕ) → q ≤ 8 → is_barred n o (shut_mask marks e q) ≡ some_below (needs_shut n o marks e) q
unfolding shut_mask
barred_is n o marks e zero h = ap (λ v. not (eqb v 0)) (and_zero_r (need n o))
barred_is n o marks e (suc q) h =
    let m = get_or (get_or marks q []) e Held in
    common (need n o) (shut_mask marks e q) q m (mask_lt marks e q)
    ∙ ap (λ v. v || (eqb (need n o / 2 ^ q % 2) 1 && is_shut m)) (barred_is n o marks e q (omega arith))
    ∙ ap (λ v. some_below (needs_shut n o marks e) q || ((v && eqb (need n o / 2 ^ q % 2) 1) && is_shut m)) (sym (lt-ltb q 8 (omega arith)))
