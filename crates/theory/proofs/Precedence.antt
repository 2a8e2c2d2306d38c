-- Costs with their numbers in reading order are in order: none precedes itself, and what precedes is passed on.
use Rattle.std.proofs.Common.{◌≡◌, ℕ, ◌≤◌, Bool, true, false, cond, List, length, Some, None, Option, sym, refl, ap, subst, subst₂, arith}
use Rattle.std.proofs.lemmas.Bool.Decides.{nat_tests}
use Rattle.std.proofs.lemmas.Bool.{or_parts}
use Rattle.costs.specs.Kinds.{Adding, Laws, Cost}
use Rattle.costs.specs.Postings.{most}
use Rattle.theory.specs.Entries.{Entry, sum}
use Rattle.theory.specs.Amounts.{Amount, Fits, value, Known, precedes}
use Rattle.theory.proofs.Sums.{sum_known}

-- the cost of an amount that fits is one that the laws speak of
pub known : {C : Type 0} (k : Adding C) (a : Amount) → Fits a → Known k (value k a)
known k a h = elim a.is_open as (λ b. Known k (cond b (Some (sum k a.row)) None)) [ true ↦ sum_known k a.row h | false ↦ tt ]

pub none_is_last : {C : Type 0} (lower : C → C → Bool) (v : Option C) (x y : ℕ) → precedes lower None x v y ≡ false
none_is_last lower v x y = grind arith

-- an open amount precedes none
pub open_is_before_none : {C : Type 0} (k : Adding C) (lower : C → C → Bool) (a : Amount) (x y : ℕ) → a.is_open ≡ true → precedes lower (value k a) x None y ≡ true
open_is_before_none k lower a x y e = ap (λ o. precedes lower (cond o (Some (sum k a.row)) None) x None y) e

-- the same costs, and numbers in an order that is no better
pub weaker : {C : Type 0} (lower : C → C → Bool) (u v : Option C) (x y x' y' : ℕ) → (y ≤ x → y' ≤ x') → precedes lower u x v y ≡ false → precedes lower u x' v y' ≡ false
weaker lower u v x y x' y' f e = grind arith

module _ {C : Type 0} {k : Adding C} {lower : C → C → Bool} (laws : Laws k lower) where
  -- the laws of the order, for costs
  over : (a b c : C) → Cost k a → Cost k b → Cost k c → lower a b ≡ true → lower b c ≡ true → lower a c ≡ true
  over a b c s t u = laws.transitive s.0 t.0 u.0 a b c s.2 t.2 u.2 s.1 t.1 u.1

  pub not_of_itself : (a : C) → Cost k a → lower a a ≡ false
  not_of_itself a s = laws.not_of_itself s.0 a s.2 s.1

  pub neither_is_same : (a b : C) → Cost k a → Cost k b → lower a b ≡ false → lower b a ≡ false → a ≡ b
  neither_is_same a b s t = laws.neither_is_same s.0 t.0 a b s.2 t.2 s.1 t.1

  pub row_not_lower : (u : List Entry) → length u ≤ most → lower (sum k u) (sum k u) ≡ false
  row_not_lower u l = not_of_itself (sum k u) (sum_known k u l)

  pub one_way : (a b : C) → Cost k a → Cost k b → lower a b ≡ true → lower b a ≡ false
  one_way a b s t e =
      let back = over a b a s t s e in
      let not-self = not_of_itself a s in
      grind arith

  pub not_lower : (a b c : C) → Cost k a → Cost k b → Cost k c → lower a b ≡ false → lower b c ≡ false → lower a c ≡ false
  not_lower a b c s t u p q =
      let behind = over b a c t s u in
      let same = neither_is_same a b s t p in
      grind arith

  -- what does not precede the second, where the second does not precede the third, does not precede the third
  pub passed_on : (u v w : Option C) (x y t : ℕ) → Known k u → Known k v → Known k w → precedes lower u x v y ≡ false → precedes lower v y w t ≡ false → precedes lower u x w t ≡ false
  passed_on None None None x y t g h i p q = refl
  passed_on None None (Some c) x y t g h i p q = refl
  passed_on None (Some b) None x y t g h i p q = refl
  passed_on None (Some b) (Some c) x y t g h i p q = refl
  passed_on (Some a) None None x y t g h i p q = p
  passed_on (Some a) None (Some c) x y t g h i p q = cc
  passed_on (Some a) (Some b) None x y t g h i p q = q
  passed_on (Some a) (Some b) (Some c) x y t g h i p q =
      let c1 = not_lower a b c g h i in
      let c2 = not_lower b c a h i g in
      let c3 = not_lower c a b i g h in
      grind (arith, nat_tests)

  -- no cost precedes itself, unless by a lower number
  pub not_itself : (u : Option C) (x y : ℕ) → y ≤ x → Known k u → precedes lower u x u y ≡ false
  not_itself u x y l g = grind arith

  pub turned : (u v : Option C) (x y : ℕ) → Known k u → Known k v → precedes lower u x v y ≡ true → precedes lower v y u x ≡ false
  turned None None x y g h e = refl
  turned None (Some b) x y g h e = cc
  turned (Some a) None x y g h e = refl
  turned (Some a) (Some b) x y g h e = let p = one_way a b g h in let q = one_way b a h g in grind (arith, nat_tests)

  -- neither precedes the other at one number: the same cost
  pub same_cost : (u v : Option C) (x : ℕ) → Known k u → Known k v → precedes lower u x v x ≡ false → precedes lower v x u x ≡ false → u ≡ v
  same_cost u v x g h p q = grind arith

  -- the same two for amounts that fit
  pub pass : (a b c : Amount) (x y t : ℕ) → Fits a → Fits b → Fits c → precedes lower (value k a) x (value k b) y ≡ false → precedes lower (value k b) y (value k c) t ≡ false → precedes lower (value k a) x (value k c) t ≡ false
  pass a b c x y t f g h = passed_on (value k a) (value k b) (value k c) x y t (known k a f) (known k b g) (known k c h)

  pub itself : (a : Amount) (x y : ℕ) → y ≤ x → Fits a → precedes lower (value k a) x (value k a) y ≡ false
  itself a x y l f = not_itself (value k a) x y l (known k a f)

  -- of two open amounts: the first is not lower, and at one cost its number is not lower
  pub between_open : (a b : Amount) (x y : ℕ) → Fits b → a.is_open ≡ true → b.is_open ≡ true → precedes lower (value k a) x (value k b) y ≡ false → (lower (sum k a.row) (sum k b.row) ≡ false) × (sum k a.row ≡ sum k b.row → y ≤ x)
  between_open a b x y fb p q e =
      let h : precedes lower (Some (sum k a.row)) x (Some (sum k b.row)) y ≡ false = subst₂ (λ m n. precedes lower (cond m (Some (sum k a.row)) None) x (cond n (Some (sum k b.row)) None) y ≡ false) p q e in
      let none = row_not_lower b.row fb in
      ((or_parts _ _ h).0, λ same. let l = subst (λ c. lower (sum k b.row) c ≡ false) (sym same) none in grind (arith, nat_tests))
