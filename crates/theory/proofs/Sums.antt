-- What the laws of a cost kind say of the sums of rows: joining, turning and comparing them.
use Rattle.std.proofs.Common.{◌≡◌, ℕ, suc, ◌+◌, ◌<◌, ◌≤◌, Bool, true, List, [], ◌∷◌, ◌++◌, length, sym, refl, ap, ◌∙◌, subst, append_assoc, append-nil, arith, length-append}
use Rattle.std.proofs.lemmas.List.Sums.{fold-append}
use Rattle.costs.specs.Postings.{most}
use Rattle.costs.specs.Kinds.{Adding, SumOf, one, join, Laws, Cost}
use Rattle.theory.specs.Entries.{Entry, post, adds, blank, sum}

module _ {C : Type 0} (k : Adding C) where
  -- one entry is a sum of one posting
  pub one_of : (p : Entry) → SumOf k 1 (post k p)
  one_of p = one p.posting p.within

  adds_of : (n : ℕ) (c : C) (ps : List Entry) → SumOf k n c → SumOf k (n + length ps) (adds k c ps)
  adds_of n c [] s = let e : n ≡ n + 0 = omega arith in subst (λ m. SumOf k m c) e s
  adds_of n c (p ∷ ps) s =
      let e : n + 1 + length ps ≡ n + suc (length ps) = omega arith in
      subst (λ m. SumOf k m (adds k c (p ∷ ps))) e (adds_of (n + 1) (k.plus c (post k p)) ps (join n 1 c (post k p) s (one_of p)))

  -- a row of at most 256 postings has a sum that the laws speak of
  pub sum_known : (ps : List Entry) → length ps ≤ most → Cost k (sum k ps)
  sum_known [] h = (1, omega arith, one_of blank)
  sum_known (p ∷ ps) h = (1 + length ps, omega arith, adds_of 1 (post k p) ps (one_of p))

  -- a row with a posting has a sum of as many as it has
  pub sum_of : (ps : List Entry) → 0 < length ps → SumOf k (length ps) (sum k ps)
  sum_of [] h = absurd (omega arith)
  sum_of (p ∷ ps) h =
      let e : 1 + length ps ≡ suc (length ps) = omega arith in
      subst (λ m. SumOf k m (adds k (post k p) ps)) e (adds_of 1 (post k p) ps (one_of p))

  pub sum_push : (ps : List Entry) (p : Entry) → 0 < length ps → sum k (ps ++ p ∷ []) ≡ k.plus (sum k ps) (post k p)
  sum_push [] p h = absurd (omega arith)
  sum_push (q ∷ ps) p h = fold-append _ (post k q) ps (p ∷ [])

module _ {C : Type 0} {k : Adding C} {lower : C → C → Bool} (laws : Laws k lower) where
  adds_plus : (m n : ℕ) (c d : C) (ps : List Entry) → SumOf k m c → SumOf k n d → m + n + length ps ≤ most → adds k (k.plus c d) ps ≡ k.plus c (adds k d ps)
  adds_plus m n c d [] s t h = refl
  adds_plus m n c d (p ∷ ps) s t h =
      ap (λ x. adds k x ps) (laws.any_grouping m n 1 c d (post k p) s t (one_of k p) (omega arith))
      ∙ adds_plus m (n + 1) c (k.plus d (post k p)) ps s (join n 1 d (post k p) t (one_of k p)) (omega arith)

  -- the sum of two rows one after the other is the sum of their sums
  pub sum_append : (us vs : List Entry) → 0 < length us → 0 < length vs → length us + length vs ≤ most → sum k (us ++ vs) ≡ k.plus (sum k us) (sum k vs)
  sum_append [] vs h i l = absurd (omega arith)
  sum_append (a ∷ us) [] h i l = absurd (omega arith)
  sum_append (a ∷ us) (b ∷ vs) h i l =
      fold-append _ (post k a) us (b ∷ vs)
      ∙ adds_plus (1 + length us) 1 (adds k (post k a) us) (post k b) vs (adds_of k 1 (post k a) us (one_of k a)) (one_of k b) (omega arith)

  -- either row may stand first
  pub sum_turn : (us vs : List Entry) → length us + length vs ≤ most → sum k (us ++ vs) ≡ sum k (vs ++ us)
  sum_turn [] vs l = ap (sum k) (sym (append-nil vs))
  sum_turn (a ∷ us) [] l = ap (sum k) (append-nil (a ∷ us))
  sum_turn (a ∷ us) (b ∷ vs) l =
      sum_append (a ∷ us) (b ∷ vs) (omega arith) (omega arith) l
      ∙ laws.any_order (length (a ∷ us)) (length (b ∷ vs)) (sum k (a ∷ us)) (sum k (b ∷ vs)) (sum_of k (a ∷ us) (omega arith)) (sum_of k (b ∷ vs) (omega arith)) l
      ∙ sym (sum_append (b ∷ vs) (a ∷ us) (omega arith) (omega arith) (omega arith))

  sum_on : (us vs ws : List Entry) → length us ≡ length vs → sum k us ≡ sum k vs → sum k (us ++ ws) ≡ sum k (vs ++ ws)
  sum_on [] [] ws l e = refl
  sum_on [] (b ∷ vs) ws l e = absurd (omega arith)
  sum_on (a ∷ us) [] ws l e = absurd (omega arith)
  sum_on (a ∷ us) (b ∷ vs) ws l e = fold-append _ (post k a) us ws ∙ ap (λ x. adds k x ws) e ∙ sym (fold-append _ (post k b) vs ws)

  -- what stands in the middle may stand at the end
  pub sum_swap : (us vs ws : List Entry) → length us + (length vs + length ws) ≤ most → sum k (us ++ (vs ++ ws)) ≡ sum k ((us ++ ws) ++ vs)
  sum_swap us vs ws l =
      let l1 = length-append vs ws in
      let l2 = length-append ws vs in
      sum_turn us (vs ++ ws) (omega arith)
      ∙ sum_on (vs ++ ws) (ws ++ vs) us (omega arith) (sum_turn vs ws (omega arith))
      ∙ sum_turn (ws ++ vs) us (omega arith)
      ∙ ap (sum k) (sym (append_assoc us ws vs))

  -- a lower row stays lower behind one row
  pub sum_lower : (rs us vs : List Entry) → 0 < length us → 0 < length vs → length rs + length us ≤ most → length rs + length vs ≤ most → lower (sum k us) (sum k vs) ≡ true → lower (sum k (rs ++ us)) (sum k (rs ++ vs)) ≡ true
  sum_lower [] us vs h i l m e = e
  sum_lower (r ∷ rs) us vs h i l m e =
      let turn : (ws : List Entry) → 0 < length ws → length (r ∷ rs) + length ws ≤ most → sum k ((r ∷ rs) ++ ws) ≡ k.plus (sum k ws) (sum k (r ∷ rs)) =
      λ ws j n. sum_turn (r ∷ rs) ws n ∙ sum_append ws (r ∷ rs) j (omega arith) (omega arith) in
      let below = laws.stays_lower (length us) (length vs) (length (r ∷ rs)) (sum k us) (sum k vs) (sum k (r ∷ rs)) (sum_of k us h) (sum_of k vs i) (sum_of k (r ∷ rs) (omega arith)) (omega arith) (omega arith) e in
      ap (λ x. lower x (sum k ((r ∷ rs) ++ vs))) (turn us h l) ∙ ap (lower _) (turn vs i m) ∙ below

  -- rows of one cost have one cost behind one row
  pub sum_same : (rs us vs : List Entry) → 0 < length us → 0 < length vs → length rs + length us ≤ most → length rs + length vs ≤ most → sum k us ≡ sum k vs → sum k (rs ++ us) ≡ sum k (rs ++ vs)
  sum_same [] us vs h i l m e = e
  sum_same (r ∷ rs) us vs h i l m e =
      sum_append (r ∷ rs) us (omega arith) h l ∙ ap (k.plus (sum k (r ∷ rs))) e ∙ sym (sum_append (r ∷ rs) vs (omega arith) i m)
