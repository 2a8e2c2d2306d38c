-- Postings added to both of two amounts keep which precedes, and a posting without negative money never lowers.
use Rattle.std.proofs.Common.{◌≡◌, ℕ, ◌+◌, ◌*◌, ◌<◌, ◌≤◌, Bool, true, false, cond, ◌&&◌, ◌⊎◌, List, [], ◌∷◌, ◌++◌, length, pos, ◌≤ℤ◌, Some, None, sym, refl, ap, subst, subst₂, inl, inr, arith, length-append}
use Rattle.std.proofs.lemmas.Bool.Decides.{nat_tests}
use Rattle.costs.specs.Postings.{most}
use Rattle.costs.specs.Kinds.{Adding, SumOf, join, Laws, Cost}
use Rattle.theory.specs.Entries.{Entry, post, sum}
use Rattle.theory.specs.Amounts.{Amount, both, value, precedes}
use Rattle.theory.specs.Ranks.{base}
use Rattle.theory.proofs.Sums.{one_of, sum_known, sum_of, sum_push, sum_lower, sum_same}
use Rattle.theory.proofs.Precedence.{not_of_itself, neither_is_same, row_not_lower, one_way, not_lower}

-- both rows have a posting; or they are one row at one rank
abbrev pub Posted : List Entry → ℕ → List Entry → ℕ → Type 0
Posted u x v y = ((0 < length u) × (0 < length v)) ⊎ ((u ≡ v) × (x ≡ y))

module _ {C : Type 0} {k : Adding C} {lower : C → C → Bool} (laws : Laws k lower) where
  keeps_row : (n x y : ℕ) (r u v : List Entry) → length r + length u ≤ most → length r + length v ≤ most → 0 < length u → 0 < length v → precedes lower (Some (sum k u)) x (Some (sum k v)) y ≡ false → precedes lower (Some (sum k (r ++ u))) (n * base + x) (Some (sum k (r ++ v))) (n * base + y) ≡ false
  keeps_row n x y r u v l m h i e =
      let lu = length-append r u in
      let lv = length-append r v in
      let su = sum_known k u (omega arith) in
      let sv = sum_known k v (omega arith) in
      let sru = sum_known k (r ++ u) (omega arith) in
      let srv = sum_known k (r ++ v) (omega arith) in
      let up = sum_lower laws r v u i h m l in
      let back = one_way laws (sum k (r ++ v)) (sum k (r ++ u)) srv sru in
      let tie = neither_is_same laws (sum k u) (sum k v) su sv in
      let alike = sum_same laws r u v h i l m in
      let none = row_not_lower laws (r ++ v) (omega arith) in
      grind (arith, nat_tests)

  -- u with rank x does not precede v with rank y: nor does it with r in front of both, and n in front of both ranks
  pub keeps : (n x y : ℕ) (r u v : Amount) → length r.row + length u.row ≤ most → length r.row + length v.row ≤ most → (u.is_open ≡ true → v.is_open ≡ true → Posted u.row x v.row y) → precedes lower (value k u) x (value k v) y ≡ false → precedes lower (value k (both r u)) (n * base + x) (value k (both r v)) (n * base + y) ≡ false
  keeps n x y r u v l m posted e = go r.is_open u.is_open v.is_open posted e
    where
      go : (ro uo vo : Bool) → (uo ≡ true → vo ≡ true → Posted u.row x v.row y) → precedes lower (cond uo (Some (sum k u.row)) None) x (cond vo (Some (sum k v.row)) None) y ≡ false → precedes lower (cond (ro && uo) (Some (sum k (r.row ++ u.row))) None) (n * base + x) (cond (ro && vo) (Some (sum k (r.row ++ v.row))) None) (n * base + y) ≡ false
      go false uo vo al p = refl
      go true false true al p = refl
      go true false false al p = refl
      go true true false al p = p
      go true true true al p = elim (al refl refl) [
        | inl h ↦ keeps_row n x y r.row u.row v.row l m h.0 h.1 p
        | inr h ↦ let same = ap (λ w. sum k (r.row ++ w)) h.0 in
            let lv = length-append r.row v.row in
            let none = row_not_lower laws (r.row ++ v.row) (omega arith) in
            grind (arith, nat_tests)
      ]

  -- the same where the numbers stay
  pub keeps_plain : (x y : ℕ) (r u v : Amount) → length r.row + length u.row ≤ most → length r.row + length v.row ≤ most → (u.is_open ≡ true → 0 < length u.row) → (v.is_open ≡ true → 0 < length v.row) → precedes lower (value k u) x (value k v) y ≡ false → precedes lower (value k (both r u)) x (value k (both r v)) y ≡ false
  keeps_plain x y r u v l m hu hv e =
      let ex : 0 * base + x ≡ x = omega arith in
      let ey : 0 * base + y ≡ y = omega arith in
      subst₂ (λ i j. precedes lower (value k (both r u)) i (value k (both r v)) j ≡ false) ex ey (keeps 0 x y r u v l m (λ p t. inl (hu p, hv t)) e)

  after_both : (l m : ℕ) (a b : C) (p : Entry) → SumOf k l a → SumOf k m b → l + 1 ≤ most → m + 1 ≤ most → lower a b ≡ false → lower (k.plus a (post k p)) (k.plus b (post k p)) ≡ false
  after_both l m a b p s t h i e =
      let c = post k p in
      let up = laws.stays_lower m l 1 b a c t s (one_of k p) (omega arith) (omega arith) in
      let with_b : Cost k (k.plus b c) = (m + 1, i, join m 1 b c t (one_of k p)) in
      let back = one_way laws (k.plus b c) (k.plus a c) with_b (l + 1, h, join l 1 a c s (one_of k p)) in
      let tie = laws.neither_is_same l m a b s t (omega arith) (omega arith) e in
      let none = not_of_itself laws (k.plus b c) with_b in
      grind arith

  -- one posting behind both rows
  pub on_both : (p : Entry) (u v : List Entry) → 0 < length u → 0 < length v → length u + 1 ≤ most → length v + 1 ≤ most → lower (sum k u) (sum k v) ≡ false → lower (sum k (u ++ p ∷ [])) (sum k (v ++ p ∷ [])) ≡ false
  on_both p u v h i l m e =
      subst₂ (λ x y. lower x y ≡ false) (sym (sum_push k u p h)) (sym (sum_push k v p i)) (after_both (length u) (length v) (sum k u) (sum k v) p (sum_of k u h) (sum_of k v i) l m e)

  -- one posting without negative money behind the row that is not lower
  pub more_not_lower : (p : Entry) (u v : List Entry) → pos 0 ≤ℤ p.posting.cents → 0 < length u → length u + 1 ≤ most → length v ≤ most → lower (sum k u) (sum k v) ≡ false → lower (sum k (u ++ p ∷ [])) (sum k v) ≡ false
  more_not_lower p u v gain h l m e =
      let su = sum_of k u h in
      let step = laws.never_lowers (length u) (sum k u) p.posting su l p.within gain in
      subst (λ x. lower x (sum k v) ≡ false) (sym (sum_push k u p h)) (not_lower laws (k.plus (sum k u) (post k p)) (sum k u) (sum k v) (length u + 1, l, join (length u) 1 (sum k u) (post k p) su (one_of k p)) (sum_known k u (omega arith)) (sum_known k v m) step e)

-- rows that are not lower, as amounts at one number
pub not_lower_precedes : {C : Type 0} (k : Adding C) (lower : C → C → Bool) (o : Bool) (x : ℕ) (u v : List Entry) → lower (sum k u) (sum k v) ≡ false → precedes lower (value k (record { is_open = o; row = u })) x (value k (record { is_open = o; row = v })) x ≡ false
not_lower_precedes k lower true x u v e = grind (arith, nat_tests)
not_lower_precedes k lower false x u v e = refl
