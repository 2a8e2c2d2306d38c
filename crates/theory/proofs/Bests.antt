-- The best way on from a place is open at its cost, and no byte comes before it.
use Rattle.std.proofs.Common.{◌≡◌, ℕ, zero, suc, ◌+◌, ◌-◌, ◌*◌, ◌<◌, ◌≤◌, Bool, true, false, ◌⊎◌, length, sym, refl, ap, ◌∙◌, subst, ap₂, subst₂, inl, inr, ⊎_elim, arith, length-append}
use Rattle.std.proofs.lemmas.Bool.{cond_both}
use Rattle.costs.specs.Postings.{most}
use Rattle.costs.specs.Kinds.{Adding, Laws}
use Rattle.theory.specs.Amounts.{Amount, nothing, closed, both, Fits, value, precedes}
use Rattle.theory.specs.Places.{Places, longest, Rising}
use Rattle.theory.specs.Options.{Options, posted, repaired_at, route}
use Rattle.theory.specs.Choices.{Choice, better, discarded, repaired, moved, best}
use Rattle.theory.proofs.Precedence.{pass, itself, turned, known}
use Rattle.theory.proofs.Keeping.{keeps_plain}
use Rattle.theory.proofs.Routes.{discard_repairs_nowhere, repair_repairs_here, both_assoc, both_nothing, posted_length, route_discard, route_repair, route_move, route_ways, route_length}

-- ---- the better of two choices
module _ {C : Type 0} (k : Adding C) (lower : C → C → Bool) (rank : ℕ → ℕ) where
  pub better_either : (Q : Choice → Type 0) (a b : Choice) → Q a → Q b → Q (better k lower rank a b)
  better_either Q a b p q = cond_both (precedes lower (value k b.sum) (rank b.byte) (value k a.sum) (rank a.byte)) b a Q (λ _. q) (λ _. p)

  abbrev Before : Choice → Choice → Type 0
  Before a c = precedes lower (value k a.sum) (rank a.byte) (value k c.sum) (rank c.byte) ≡ false

  better_first : Laws k lower → (a b : Choice) → Fits a.sum → Fits b.sum → let c = better k lower rank a b in Before a c × Before b c × Fits c.sum
  better_first laws a b fa fb = cond_both (precedes lower (value k b.sum) (rank b.byte) (value k a.sum) (rank a.byte)) b a
      (λ c. Before a c × Before b c × Fits c.sum)
      (λ e. (turned laws (value k b.sum) (value k a.sum) (rank b.byte) (rank a.byte) (known k b.sum fb) (known k a.sum fa) e, itself laws b.sum (rank b.byte) (rank b.byte) (omega arith) fb, fb))
      (λ e. (itself laws a.sum (rank a.byte) (rank a.byte) (omega arith) fa, e, fa))

-- ---- the best way on, where `under` posts nothing at place 0, that is for a component that is discarded
module _ {C : Type 0} (k : Adding C) (lower : C → C → Bool) (rank : ℕ → ℕ) (w : Places) (ok : Rising w) (o : Options) (under : ℕ → Amount) (bare : under 0 ≡ nothing) where
  -- what byte b posts from place e, the components under it among it
  abbrev pub posts : ℕ → ℕ → ℕ → Amount
  posts left e b = both (route w.up o left e b) (under (repaired_at b))

  -- a choice is what its byte posts; the byte is 0, or it names a place from e to the last
  abbrev pub Right : ℕ → ℕ → Choice → Type 0
  Right left e c = (posts left e c.byte ≡ c.sum) × ((c.byte ≡ 0) ⊎ ((0 < left) × (2 * e ≤ suc c.byte) × (c.byte ≤ 2 * w.last)))

  pub best_right : (left e : ℕ) → w.above e ≡ left → (0 < left → 0 < e) → Right left e (best k lower rank w.up o under left e)
  best_right zero e l h = (ap (both closed) bare, inl refl)
  best_right (suc left) e l h =
      let on = best k lower rank w.up o under left (w.up e) in
      let fewer = ok.one_fewer e (omega arith) in
      let here = ok.numbered e (omega arith) in
      let pos = h (omega arith) in
      let next : 0 < left → e < w.up e = λ m. ok.higher e (omega arith) in
      let ih = best_right left (w.up e) (omega arith) (λ m. omega (arith, next m)) in
      let n = on.byte in
      let far : (suc n ≡ 2 * e → ⊥) × (n ≡ 2 * e → ⊥) × ((n ≡ 0) ⊎ ((0 < suc left) × (2 * e ≤ suc n) × (n ≤ 2 * w.last))) = ⊎_elim
      (λ z. ((λ q. omega arith), (λ q. omega arith), inl z))
      (λ z. let m = next z.0 in ((λ q. omega (arith, z.1)), (λ q. omega (arith, z.1)), inr (omega arith, omega (arith, z.1), z.2)))
      ih.1 in
      let d : Right (suc left) e (discarded o e) = (ap₂ (λ a p. both a (under p)) (route_discard w.up o left e (2 * e - 1) (omega arith)) (discard_repairs_nowhere e pos) ∙ ap (both (posted (o.discard e))) bare ∙ both_nothing (posted (o.discard e)), inr (omega arith, omega arith, omega arith)) in
      let r : Right (suc left) e (repaired o under e) = (ap₂ (λ a p. both a (under p)) (route_repair w.up o left e (2 * e) refl) (repair_repairs_here e), inr (omega arith, omega arith, omega arith)) in
      let m : Right (suc left) e (moved o e on) = (ap (λ a. both a (under (repaired_at n))) (route_move w.up o left e n far.0 far.1) ∙ both_assoc (posted (o.move e)) (route w.up o left (w.up e) n) (under (repaired_at n)) ∙ ap (both (posted (o.move e))) ih.0, far.2) in
      better_either k lower rank (Right (suc left) e) (better k lower rank (discarded o e) (repaired o under e)) (moved o e on) (better_either k lower rank (Right (suc left) e) (discarded o e) (repaired o under e) d r) m

  module _ (laws : Laws k lower) (room : (e : ℕ) → length (under e).row + longest ≤ most) where
    posts_open : (left e b : ℕ) → (posts left e b).is_open ≡ true → 0 < length (posts left e b).row
    posts_open left e b h = grind arith

    -- no byte comes before the best way on
    pub best_first : (left e : ℕ) → w.above e ≡ left → (0 < left → 0 < e) → left ≤ longest → (b : ℕ) → precedes lower (value k (posts left e b)) (rank b) (value k (best k lower rank w.up o under left e).sum) (rank (best k lower rank w.up o under left e).byte) ≡ false
    best_first zero e l h fits b = refl
    best_first (suc left) e l h fits b =
        let on = best k lower rank w.up o under left (w.up e) in
        let c = best k lower rank w.up o under (suc left) e in
        let fewer = ok.one_fewer e (omega arith) in
        let pos = h (omega arith) in
        let next : 0 < left → 0 < w.up e = λ m. let u = ok.higher e (omega arith) in omega arith in
        let is = (best_right left (w.up e) (omega arith) next).0 in
        let open-on : on.sum.is_open ≡ true → 0 < length on.sum.row = subst (λ a. a.is_open ≡ true → 0 < length a.row) is (posts_open left (w.up e) on.byte) in
        let len-on : length on.sum.row + 1 ≤ most = subst (λ a. length a.row + 1 ≤ most) is (omega (arith, length-append (route w.up o left (w.up e) on.byte).row (under (repaired_at on.byte)).row, route_length w.up o left (w.up e) on.byte, room (repaired_at on.byte))) in
        let fd : Fits (discarded o e).sum = omega (arith, posted_length (o.discard e)) in
        let fr : Fits (repaired o under e).sum = omega (arith, length-append (posted (o.repair e)).row (under e).row, posted_length (o.repair e), room e) in
        let fm : Fits (moved o e on).sum = omega (arith, length-append (posted (o.move e)).row on.sum.row, posted_length (o.move e)) in
        let mid = better k lower rank (discarded o e) (repaired o under e) in
        let two = better_first k lower rank laws (discarded o e) (repaired o under e) fd fr in
        let three = better_first k lower rank laws mid (moved o e on) two.2 fm in
        route_ways w.up o left e b (λ a. precedes lower (value k (both a (under (repaired_at b)))) (rank b) (value k c.sum) (rank c.byte) ≡ false)
        (λ d. let eb : 2 * e - 1 ≡ b = omega arith in
        let bare-here : under (repaired_at b) ≡ nothing = ap (λ v. under (repaired_at v)) (sym eb) ∙ ap under (discard_repairs_nowhere e pos) ∙ bare in
        let sum-here : posted (o.discard e) ≡ both (posted (o.discard e)) (under (repaired_at b)) = sym (both_nothing (posted (o.discard e))) ∙ ap (both (posted (o.discard e))) (sym bare-here) in
        subst₂ (λ a i. precedes lower (value k a) (rank i) (value k c.sum) (rank c.byte) ≡ false) sum-here eb (pass laws (discarded o e).sum mid.sum c.sum _ (rank mid.byte) _ fd two.2 three.2 two.0 three.0))
        (λ r. let eh : e ≡ repaired_at b = sym (repair_repairs_here e) ∙ ap repaired_at (sym r) in
        subst₂ (λ p i. precedes lower (value k (both (posted (o.repair e)) (under p))) (rank i) (value k c.sum) (rank c.byte) ≡ false) eh (sym r) (pass laws (repaired o under e).sum mid.sum c.sum _ (rank mid.byte) _ fr two.2 three.2 two.1 three.0))
        (λ nd nr. let ih = best_first left (w.up e) (omega arith) next (omega arith) b in
        let v = posts left (w.up e) b in
        let lv = length-append (route w.up o left (w.up e) b).row (under (repaired_at b)).row in
        let lr = route_length w.up o left (w.up e) b in
        let lu = room (repaired_at b) in
        let lm = posted_length (o.move e) in
        let fv : Fits (both (posted (o.move e)) v) = omega (arith, length-append (posted (o.move e)).row v.row) in
        let kept = keeps_plain laws (rank b) (rank on.byte) (posted (o.move e)) v on.sum (omega arith) (omega arith) (posts_open left (w.up e) b) open-on ih in
        subst (λ a. precedes lower (value k a) (rank b) (value k c.sum) (rank c.byte) ≡ false) (sym (both_assoc (posted (o.move e)) (route w.up o left (w.up e) b) (under (repaired_at b)))) (pass laws (both (posted (o.move e)) v) (moved o e on).sum c.sum (rank b) (rank on.byte) _ fv fm three.2 kept three.1))
