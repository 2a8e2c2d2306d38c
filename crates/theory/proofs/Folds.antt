-- Going through a list in order and keeping the first of the least: no element precedes what is kept.
use Rattle.std.proofs.Common.{◌≡◌, ℕ, ◌<◌, ◌≤◌, Bool, true, false, cond, List, [], ◌∷◌, Some, None, fold, Option, refl, arith}
use Rattle.std.specs.List.{AllByRecursion}
use Rattle.costs.specs.Kinds.{Adding, Laws}
use Rattle.theory.specs.Entries.{Entry, sum}
use Rattle.theory.specs.Amounts.{Amount, Fits, value, precedes}
use Rattle.theory.specs.ReadingOrder.{InOrder}
use Rattle.theory.specs.Answers.{is_lower, costs_of, keep}
use Rattle.theory.proofs.Precedence.{known, turned, itself, pass}

abbrev number_of : {X : Type 0} → (X → ℕ) → Option X → ℕ
number_of number None = 0
number_of number (Some x) = number x

-- y comes after the best so far
abbrev After : {X : Type 0} → (X → ℕ) → Option X → X → Type 0
After number None y = Unit {0}
After number (Some x) y = number x < number y

-- the best so far, if any, is open
abbrev pub IsOpen : {X : Type 0} → (X → Amount) → Option X → Type 0
IsOpen costs None = Unit {0}
IsOpen costs (Some x) = (costs x).is_open ≡ true

pub after_none : {X : Type 0} (number : X → ℕ) (xs : List X) → AllByRecursion (After number None) xs
after_none number [] = tt
after_none number (x ∷ xs) = (tt, after_none number xs)

module _ {C : Type 0} (lower : C → C → Bool) where
  -- a later one that is not lower does not precede
  later_not_lower : (u v : Option C) (x y : ℕ) → y ≤ x → is_lower lower u v ≡ false → precedes lower u x v y ≡ false
  later_not_lower u v x y l e = grind arith

  lower_precedes : (u v : Option C) (x y : ℕ) → is_lower lower u v ≡ true → precedes lower u x v y ≡ true
  lower_precedes u v x y e = grind arith

module _ {X C : Type 0} {k : Adding C} {lower : C → C → Bool} (laws : Laws k lower) (costs : X → Amount) (fits : (x : X) → Fits (costs x)) (number : X → ℕ) where
  fits_of : (b : Option X) → Fits (costs_of costs b)
  fits_of None = omega arith
  fits_of (Some x) = fits x

  lower_is_open : (o : Bool) (r : List Entry) (v : Option C) → is_lower lower (cond o (Some (sum k r)) None) v ≡ true → o ≡ true
  lower_is_open o r v e = grind arith

  -- a does not precede c
  abbrev NotBefore : Amount → ℕ → Option X → Type 0
  NotBefore a n c = precedes lower (value k a) n (value k (costs_of costs c)) (number_of number c) ≡ false

  -- c is kept of the best so far and x
  abbrev KeptOf : Option X → X → List X → Option X → Type 0
  KeptOf b x xs c = NotBefore (costs_of costs b) (number_of number b) c × NotBefore (costs x) (number x) c × AllByRecursion (After number c) xs × IsOpen costs c

  keep_one : (b : Option X) (x : X) (xs : List X) → After number b x → AllByRecursion (After number b) xs → AllByRecursion (λ y. number x < number y) xs → IsOpen costs b → KeptOf b x xs (keep k lower costs b x)
  keep_one b x xs p ps qs opens = go (is_lower lower (value k (costs x)) (value k (costs_of costs b))) refl
    where
      later : (c : Option X) → After number c x → is_lower lower (value k (costs x)) (value k (costs_of costs c)) ≡ false → NotBefore (costs x) (number x) c
      later None q e = later_not_lower lower (value k (costs x)) None (number x) 0 (omega arith) e
      later (Some y) q e = later_not_lower lower (value k (costs x)) (value k (costs y)) (number x) (number y) (omega arith) e

      go : (t : Bool) → is_lower lower (value k (costs x)) (value k (costs_of costs b)) ≡ t → KeptOf b x xs (cond t (Some x) b)
      go true e = (turned laws (value k (costs x)) (value k (costs_of costs b)) (number x) (number_of number b) (known k (costs x) (fits x)) (known k (costs_of costs b) (fits_of b)) (lower_precedes lower (value k (costs x)) (value k (costs_of costs b)) (number x) (number_of number b) e), itself laws (costs x) (number x) (number x) (omega arith) (fits x), qs, lower_is_open (costs x).is_open (costs x).row (value k (costs_of costs b)) e)
      go false e = (itself laws (costs_of costs b) (number_of number b) (number_of number b) (omega arith) (fits_of b), later b p e, ps, opens)

  -- neither b nor any element precedes r, which is open
  abbrev pub KeptAll : Option X → List X → Option X → Type 0
  KeptAll b xs r = NotBefore (costs_of costs b) (number_of number b) r × AllByRecursion (λ y. NotBefore (costs y) (number y) r) xs × IsOpen costs r

  pub keep_all : (b : Option X) (xs : List X) → InOrder number xs → AllByRecursion (After number b) xs → IsOpen costs b → KeptAll b xs (fold (keep k lower costs) b xs)
  keep_all b [] o ps opens = (itself laws (costs_of costs b) (number_of number b) (number_of number b) (omega arith) (fits_of b), tt, opens)
  keep_all b (x ∷ xs) o ps opens =
      let s = keep_one b x xs ps.0 ps.1 o.0 opens in
      let c = keep k lower costs b x in
      let r = fold (keep k lower costs) c xs in
      let ih = keep_all c xs o.1 s.2 s.3 in
      (pass laws (costs_of costs b) (costs_of costs c) (costs_of costs r) (number_of number b) (number_of number c) (number_of number r) (fits_of b) (fits_of c) (fits_of r) s.0 ih.0, (pass laws (costs x) (costs_of costs c) (costs_of costs r) (number x) (number_of number c) (number_of number r) (fits x) (fits_of c) (fits_of r) s.1 ih.0, ih.1), ih.2)
