-- The postings of pairs: more of them are never lower, since none has negative money.
use Rattle.std.proofs.Common.{◌≡◌, ℕ, zero, suc, ◌+◌, ◌<◌, ◌≤◌, Bool, true, false, cond, List, [], ◌∷◌, ◌++◌, length, pos, ◌≤ℤ◌, Some, None, sym, refl, ap, ◌∙◌, subst, subst₂, append_assoc, append-nil, arith, length-append}
use Rattle.std.proofs.lemmas.Bool.{false≢true}
use Rattle.costs.specs.Postings.{most}
use Rattle.costs.specs.Kinds.{Adding, Laws}
use Rattle.theory.specs.Entries.{Entry, sum}
use Rattle.theory.specs.Amounts.{Amount, Fits, both, value, precedes}
use Rattle.theory.specs.Searches.{pair_postings, with_pairs}
use Rattle.theory.proofs.Sums.{sum_turn}
use Rattle.theory.proofs.Precedence.{row_not_lower}
use Rattle.theory.proofs.Keeping.{keeps_plain, on_both, more_not_lower}

module _ (q : ℕ → Entry) where
  pub pairs_length : (f : ℕ → Bool) (n : ℕ) → length (pair_postings q f n) ≤ n
  pairs_length f zero = omega arith
  pairs_length f (suc n) =
      let ih = pairs_length f n in
      let l = length-append (pair_postings q f n) (cond (f n) (q n ∷ []) []) in
      let one : length (cond (f n) (q n ∷ []) []) ≤ 1 = elim (f n) as (λ b. length (cond b (q n ∷ []) []) ≤ 1) [ true ↦ omega arith | false ↦ omega arith ] in
      omega arith

  pub pairs_same : (f g : ℕ → Bool) (n : ℕ) → ((j : ℕ) → j < n → f j ≡ g j) → pair_postings q f n ≡ pair_postings q g n
  pairs_same f g zero h = refl
  pairs_same f g (suc n) h = ap (λ r. r ++ cond (f n) (q n ∷ []) []) (pairs_same f g n (λ j l. h j (omega arith))) ∙ ap (λ b. pair_postings q g n ++ cond b (q n ∷ []) []) (h n (omega arith))

  pub pairs_fit : (n : ℕ) (a : Amount) (f : ℕ → Bool) → length a.row + n ≤ most → Fits (with_pairs q n a f)
  pairs_fit n a f h = omega (arith, length-append a.row (pair_postings q f n), pairs_length f n)

module _ {C : Type 0} {k : Adding C} {lower : C → C → Bool} (laws : Laws k lower) (q : ℕ → Entry) where
  one_more : (p : Entry) → pos 0 ≤ℤ p.posting.cents → (u v : List Entry) → 0 < length u → 0 < length v → length u + 1 ≤ most → length v + 1 ≤ most → lower (sum k u) (sum k v) ≡ false → (a b : Bool) → (a ≡ true → b ≡ true) → lower (sum k (u ++ cond b (p ∷ []) [])) (sum k (v ++ cond a (p ∷ []) [])) ≡ false
  one_more p gain u v h i l m e true true im = on_both laws p u v h i l m e
  one_more p gain u v h i l m e true false im = absurd (false≢true (im refl))
  one_more p gain u v h i l m e false true im = subst (λ r. lower (sum k (u ++ p ∷ [])) (sum k r) ≡ false) (sym (append-nil v)) (more_not_lower laws p u v gain h l (omega arith) e)
  one_more p gain u v h i l m e false false im = subst₂ (λ r t. lower (sum k r) (sum k t) ≡ false) (sym (append-nil u)) (sym (append-nil v)) e

  -- a row with more pairs is not lower
  pub more_pairs : ((j : ℕ) → pos 0 ≤ℤ (q j).posting.cents) → (u : List Entry) → 0 < length u → (f g : ℕ → Bool) (n : ℕ) → length u + n ≤ most → ((j : ℕ) → j < n → f j ≡ true → g j ≡ true) → lower (sum k (u ++ pair_postings q g n)) (sum k (u ++ pair_postings q f n)) ≡ false
  more_pairs gain u h f g zero l im = subst (λ r. lower (sum k r) (sum k r) ≡ false) (sym (append-nil u)) (row_not_lower laws u (omega arith))
  more_pairs gain u h f g (suc n) l im =
      let ih = more_pairs gain u h f g n (omega arith) (λ j i. im j (omega arith)) in
      let lf = length-append u (pair_postings q f n) in
      let lg = length-append u (pair_postings q g n) in
      let mf = pairs_length q f n in
      let mg = pairs_length q g n in
      subst₂ (λ x y. lower (sum k x) (sum k y) ≡ false) (append_assoc u (pair_postings q g n) (cond (g n) (q n ∷ []) [])) (append_assoc u (pair_postings q f n) (cond (f n) (q n ∷ []) [])) (one_more (q n) (gain n) (u ++ pair_postings q g n) (u ++ pair_postings q f n) (omega arith) (omega arith) (omega arith) (omega arith) ih (f n) (g n) (im n (omega arith)))

  in_front : (n : ℕ) (f : ℕ → Bool) (a : Amount) → length a.row + n ≤ most → value k (both (record { is_open = true; row = pair_postings q f n }) a) ≡ value k (with_pairs q n a f)
  in_front n f a h = ap (λ c. cond a.is_open (Some c) None) (sum_turn laws (pair_postings q f n) a.row (omega (arith, pairs_length q f n)))

  -- the same pairs behind both amounts
  pub pairs_on_both : (n : ℕ) (f : ℕ → Bool) (a b : Amount) (x y : ℕ) → length a.row + n ≤ most → length b.row + n ≤ most → (a.is_open ≡ true → 0 < length a.row) → (b.is_open ≡ true → 0 < length b.row) → precedes lower (value k a) x (value k b) y ≡ false → precedes lower (value k (with_pairs q n a f)) x (value k (with_pairs q n b f)) y ≡ false
  pairs_on_both n f a b x y l m ha hb e =
      let h : Amount = record { is_open = true; row = pair_postings q f n } in
      let few = pairs_length q f n in
      let r = keeps_plain laws x y h a b (omega arith) (omega arith) ha hb e in
      subst₂ (λ u v. precedes lower u x v y ≡ false) (in_front n f a l) (in_front n f b m) r
