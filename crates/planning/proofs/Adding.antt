-- Postings added to a sum: one, and one list after another.
use Rattle.std.proofs.Common.{◌≡◌, ℕ, ◌+◌, ◌≤◌, Bool, List, [], ◌∷◌, ◌++◌, length, Some, None, Option, sym, refl, ap, ◌∙◌, subst, append_assoc, append-nil, add-one, arith, length-append}
use Rattle.std.specs.Option.{MatchOption}
use Rattle.std.specs.List.{AllByRecursion}
use Rattle.costs.specs.declared.posting.Posting.{Posting}
use Rattle.costs.specs.Kinds.{Adding, SumOf, one, join}
use Rattle.costs.specs.Postings.{Within, most}
use Rattle.plans.specs.Ranges.{upto}
use Rattle.plans.specs.Postings.{plus_posting, plus_postings, summed}
use Rattle.plans.proofs.Joined.{sums_append}
use Rattle.planning.specs.Sums.{Summable, Adds, if_used, of_resource, used_at}

-- what holds of each of two joined lists
all_parts : {A : Type 0} (P : A → Type 0) (xs ys : List A) → AllByRecursion P (xs ++ ys) → AllByRecursion P xs × AllByRecursion P ys
all_parts P [] ys all = (tt, all)
all_parts P (x ∷ xs) ys all = let rest = all_parts P xs ys all.1 in ((all.0, rest.0), rest.1)

pub summable_front : (ps qs : List Posting) → Summable (ps ++ qs) → Summable ps
summable_front ps qs fit = ((all_parts Within ps qs fit.0).0, omega (arith, fit.1, length-append ps qs))

-- the postings of what is used, each beside the word whether it is
abbrev pub beside : List Bool → List (Option Posting) → List Posting
beside [] ps = []
beside (u ∷ us) [] = []
beside (u ∷ us) (p ∷ ps) = if_used u p ++ beside us ps

pub beside_row : (us : List Bool) (ps : List (Option Posting)) → length us ≡ 4 → length ps ≡ 4 → beside us ps ≡ of_resource (used_at us) ps
beside_row (a ∷ b ∷ c ∷ d ∷ []) (w ∷ x ∷ y ∷ z ∷ []) long four =
    ap (λ t. if_used a w ++ (if_used b x ++ (if_used c y ++ t))) (append-nil (if_used d z))
beside_row [] ps long four = absurd (omega arith)
beside_row (a ∷ []) ps long four = absurd (omega arith)
beside_row (a ∷ b ∷ []) ps long four = absurd (omega arith)
beside_row (a ∷ b ∷ c ∷ []) ps long four = absurd (omega arith)
beside_row (a ∷ b ∷ c ∷ d ∷ e ∷ us) ps long four = absurd (omega arith)
beside_row (a ∷ b ∷ c ∷ d ∷ []) [] long four = absurd (omega arith)
beside_row (a ∷ b ∷ c ∷ d ∷ []) (w ∷ []) long four = absurd (omega arith)
beside_row (a ∷ b ∷ c ∷ d ∷ []) (w ∷ x ∷ []) long four = absurd (omega arith)
beside_row (a ∷ b ∷ c ∷ d ∷ []) (w ∷ x ∷ y ∷ []) long four = absurd (omega arith)
beside_row (a ∷ b ∷ c ∷ d ∷ []) (w ∷ x ∷ y ∷ z ∷ v ∷ ps) long four = absurd (omega arith)

module _ {C : Type 0} (k : Adding C) where
  -- a sum of n postings, none where n is 0
  abbrev Counted : ℕ → Option C → Type 0
  Counted n None = n ≡ 0
  Counted n (Some c) = SumOf k n c

  counted_more : (n : ℕ) (sum : Option C) (p : Posting) → Within p → Counted n sum → Counted (n + 1) (plus_posting k sum p)
  counted_more n None p w counted = let e : 1 ≡ n + 1 = omega (arith, counted) in subst (λ m. SumOf k m (k.post p)) e (one p w)
  counted_more n (Some c) p w counted = join n 1 c (k.post p) counted (one p w)

  counted_all : (ps : List Posting) (n : ℕ) (sum : Option C) → AllByRecursion Within ps → Counted n sum → Counted (n + length ps) (plus_postings k sum ps)
  counted_all [] n sum all counted = let e : n ≡ n + 0 = omega arith in subst (λ m. Counted m sum) e counted
  counted_all (p ∷ ps) n sum all counted =
      let e : n + 1 + length ps ≡ n + length (p ∷ ps) = omega arith in
      subst (λ m. Counted m (plus_postings k sum (p ∷ ps))) e (counted_all ps (n + 1) (plus_posting k sum p) all.1 (counted_more n sum p all.0 counted))

  -- a sum of postings within their limits is one of as many postings
  sum_of : (ps : List Posting) (c : C) → AllByRecursion Within ps → summed k ps ≡ Some c → SumOf k (length ps) c
  sum_of ps c all is =
      let n : 0 + length ps ≡ length ps = omega arith in
      subst (λ m. SumOf k m c) n (subst (Counted (0 + length ps)) is (counted_all ps 0 None all refl))

  -- one posting after others
  summed_push : (ps : List Posting) (sum : Option C) (p : Posting) → sum ≡ summed k ps → plus_posting k sum p ≡ summed k (ps ++ p ∷ [])
  summed_push ps sum p is = ap (λ o. plus_posting k o p) is ∙ sym (sums_append k None ps (p ∷ []))

  adds_first : (sum : Option C) (p : Posting) (x : C) → sum ≡ None → (Within p → x ≡ k.post p) → Adds k sum (p ∷ []) (Some x)
  adds_first sum p x none posts ps is fit =
      ap Some (posts (all_parts Within ps (p ∷ []) fit.0).1.0) ∙ ap (λ o. plus_posting k o p) (sym none) ∙ summed_push ps sum p is

  adds_next : (sum : Option C) (p : Posting) (a x r : C) → sum ≡ Some a → (Within p → x ≡ k.post p) → ((m n : ℕ) → SumOf k m a → SumOf k n x → m + n ≤ most → r ≡ k.plus a x) → Adds k sum (p ∷ []) (Some r)
  adds_next sum p a x r some posts adds ps is fit =
      let parts = all_parts Within ps (p ∷ []) fit.0 in
      let x-is = posts parts.1.0 in
      let of-a = sum_of ps a parts.0 (sym is ∙ some) in
      let of_x = subst (SumOf k 1) (sym x-is) (one p parts.1.0) in
      let r-is = adds (length ps) 1 of-a of_x (omega (arith, fit.1, length-append ps (p ∷ []))) in
      ap Some (r-is ∙ ap (k.plus a) x-is) ∙ ap (λ o. plus_posting k o p) (sym some) ∙ summed_push ps sum p is

  pub adds_one : (sum : Option C) (p : Posting) (x r : C) (Made : C → Type 0) → (Within p → x ≡ k.post p) → MatchOption sum (r ≡ x) Made → ((a : C) → Made a → (m n : ℕ) → SumOf k m a → SumOf k n x → m + n ≤ most → r ≡ k.plus a x) → Adds k sum (p ∷ []) (Some r)
  adds_one None p x r Made posts made sums = adds_first None p r refl (λ w. made ∙ posts w)
  adds_one (Some a) p x r Made posts made sums = adds_next (Some a) p a x r refl posts (sums a made)

  pub adds_none : (sum : Option C) → Adds k sum [] sum
  adds_none sum ps is fit = is ∙ ap (summed k) (sym (append-nil ps))

  pub adds_then : (a b c : Option C) (xs ys : List Posting) → Adds k a xs b → Adds k b ys c → Adds k a (xs ++ ys) c
  adds_then a b c xs ys first next ps is fit =
      let regroup = append_assoc ps xs ys in
      let fits = subst Summable (sym regroup) fit in
      next (ps ++ xs) (first ps is (summable_front (ps ++ xs) ys fits)) fits ∙ ap (summed k) regroup

  -- the answer of a test, put into what is added where it passes
  pub adds_if : (a b : Option C) (t u : Bool) (p : Option Posting) → t ≡ u → Adds k a (if_used t p) b → Adds k a (if_used u p) b
  adds_if a b t u p same adds = subst (λ w. Adds k a (if_used w p) b) same adds

  -- one more of those that stand side by side
  pub adds_beside : (a b r : Option C) (us vs : List Bool) (ps qs : List (Option Posting)) (u : Bool) (p : Option Posting) → us ≡ u ∷ vs → ps ≡ p ∷ qs → Adds k a (if_used u p) b → Adds k b (beside vs qs) r → Adds k a (beside us ps) r
  adds_beside a b r us vs ps qs u p e f first rest =
      let joined : beside us ps ≡ if_used u p ++ beside vs qs = ap (λ x. beside x ps) e ∙ ap (beside (u ∷ vs)) f in
      subst (λ t. Adds k a t r) (sym joined) (adds_then a b r (if_used u p) (beside vs qs) first rest)

  -- and none
  pub adds_no_more : (sum : Option C) (us : List Bool) (ps : List (Option Posting)) → us ≡ [] → Adds k sum (beside us ps) sum
  adds_no_more sum us ps e = subst (λ x. Adds k sum (beside x ps) sum) (sym e) (adds_none sum)

  -- one part more
  pub adds_more : (f : ℕ → List Posting) (a b c : Option C) (i : ℕ) (new : List Posting) → new ≡ f i → Adds k a (upto f i) b → Adds k b new c → Adds k a (upto f (i + 1)) c
  adds_more f a b c i new is so_far next =
      subst (λ n. Adds k a (upto f n) c) (sym (add-one i)) (adds_then a b c (upto f i) (f i) so_far (subst (λ ps. Adds k b ps c) is next))

  pub adds_three : (a b c d : Option C) (xs ys zs : List Posting) → Adds k a xs b → Adds k b ys c → Adds k c zs d → Adds k a (xs ++ (ys ++ zs)) d
  adds_three a b c d xs ys zs first second third = adds_then a b d xs (ys ++ zs) first (adds_then b c d ys zs second third)

  pub adds_four : (a b c d e : Option C) (ws xs ys zs : List Posting) → Adds k a ws b → Adds k b xs c → Adds k c ys d → Adds k d zs e → Adds k a (ws ++ (xs ++ (ys ++ zs))) e
  adds_four a b c d e ws xs ys zs first second third fourth = adds_then a b e ws (xs ++ (ys ++ zs)) first (adds_three b c d e xs ys zs second third fourth)
