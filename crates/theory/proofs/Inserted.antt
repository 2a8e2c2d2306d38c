-- What is put onto a component's sums stands somewhere in the total, and so it may as well stand at the end.
use Rattle.std.proofs.Common.{◌≡◌, ℕ, zero, suc, ◌+◌, ◌<◌, ◌≤◌, Bool, cond, ◌&&◌, List, [], ◌++◌, length, Some, None, sym, refl, ap, ◌∙◌, subst, subst₂, inl, inr, append_assoc, append-nil, arith, length-append}
use Rattle.std.proofs.lemmas.Grind.{common_steps}
use Rattle.std.proofs.Math.Bool.{and_assoc, and_comm}
use Rattle.std.proofs.lemmas.Bool.{eq-eqb, ne_eqb, cases_eq}
use Rattle.costs.specs.Postings.{most}
use Rattle.costs.specs.Kinds.{Adding, Laws}
use Rattle.theory.specs.Entries.{Entry, sum}
use Rattle.theory.specs.Amounts.{Amount, both, value}
use Rattle.theory.specs.Breakdowns.{Breakdown, Sums, total, onto, way, start}
use Rattle.theory.proofs.Sums.{sum_swap}

-- b is a with w put in somewhere
pub record Inserted (a w b : Amount) : Type 0 where
  pub fore : List Entry
  pub aft : List Entry
  pub opens : b.is_open ≡ a.is_open && w.is_open
  pub without : a.row ≡ fore ++ aft
  pub with_it : b.row ≡ fore ++ (w.row ++ aft)

at_end : (a w : Amount) → Inserted a w (both a w)
at_end a w = record { fore = a.row; aft = []; opens = refl; without = sym (append-nil a.row); with_it = ap (λ r. a.row ++ r) (sym (append-nil w.row)) }

at_inner_end : (a o e w : Amount) → Inserted (both a (both o e)) w (both a (both o (both e w)))
at_inner_end a o e w = record {
  fore = a.row ++ (o.row ++ e.row);
  aft = [];
  opens = simp and_assoc;
  without = sym (append-nil _);
  with_it = simp (append_assoc, append-nil);
}

before_more : (a w b x : Amount) → Inserted a w b → Inserted (both a x) w (both b x)
before_more a w b x s = record {
  fore = s.fore;
  aft = s.aft ++ x.row;
  opens = ap (λ g. g && x.is_open) s.opens ∙ simp and_assoc (ap (λ g. a.is_open && g) (and_comm w.is_open x.is_open));
  without = ap (λ r. r ++ x.row) s.without ∙ append_assoc s.fore s.aft x.row;
  with_it = ap (λ r. r ++ x.row) s.with_it ∙ simp append_assoc;
}

pub onto_same : (ex : Sums) (p e : ℕ) (w : ℕ → Amount) → onto ex p w p e ≡ both (ex p e) (w e)
onto_same ex p e w = ap (λ b. cond b (both (ex p e) (w e)) (ex p e)) (eq-eqb p p refl)

pub onto_other : (ex : Sums) (p i e : ℕ) (w : ℕ → Amount) → (i ≡ p → ⊥) → onto ex p w i e ≡ ex i e
onto_other ex p i e w h = ap (λ b. cond b (both (ex i e) (w e)) (ex i e)) (ne_eqb i p h)

-- what is put onto a later component is not in the total
not_in_total : (t : Breakdown) (ex : Sums) (a : ℕ → ℕ) (p : ℕ) (w : ℕ → Amount) (n : ℕ) → n < p → total t n (onto ex p w) a ≡ total t n ex a
not_in_total t ex a p w zero h = onto_other ex p 0 (t.repairs (a 0)) w (omega arith)
not_in_total t ex a p w (suc n) h =
    ap (λ x. both x (way t (onto ex p w) (suc n) (start t a (suc n)) (a (suc n)))) (not_in_total t ex a p w n (omega arith))
    ∙ ap (λ x. both (total t n ex a) (both (t.own (suc n) (start t a (suc n)) (a (suc n))) x)) (onto_other ex p (suc n) (t.repairs (a (suc n))) w (omega arith))

-- what is put onto an earlier one is, at the place where its byte repairs
pub in_total : (t : Breakdown) (ex : Sums) (a : ℕ → ℕ) (p : ℕ) (w : ℕ → Amount) (n : ℕ) → p ≤ n → Inserted (total t n ex a) (w (t.repairs (a p))) (total t n (onto ex p w) a)
in_total t ex a p w zero h =
    let e : 0 ≡ p = omega arith in
    let here = subst (λ b. Inserted (ex 0 (t.repairs (a 0))) (w (t.repairs (a 0))) b) (sym (onto_same ex 0 (t.repairs (a 0)) w)) (at_end (ex 0 (t.repairs (a 0))) (w (t.repairs (a 0)))) in
    subst (λ q. Inserted (total t 0 ex a) (w (t.repairs (a q))) (total t 0 (onto ex q w) a)) e here
in_total t ex a p w (suc n) h = elim (cases_eq (suc n) p) [ inl e ↦ last e | inr d ↦ earlier d (in_total t ex a p w n (omega arith)) ]
  where
    mine : Amount
    mine = t.own (suc n) (start t a (suc n)) (a (suc n))

    place : ℕ
    place = t.repairs (a (suc n))

    last : suc n ≡ p → Inserted (total t (suc n) ex a) (w (t.repairs (a p))) (total t (suc n) (onto ex p w) a)
    last e =
        let here = subst₂ (λ x y. Inserted (total t (suc n) ex a) (w place) (both x (both mine y))) (sym (not_in_total t ex a (suc n) w n (omega arith))) (sym (onto_same ex (suc n) place w)) (at_inner_end (total t n ex a) mine (ex (suc n) place) (w place)) in
        subst (λ q. Inserted (total t (suc n) ex a) (w (t.repairs (a q))) (total t (suc n) (onto ex q w) a)) e here

    earlier : (suc n ≡ p → ⊥) → Inserted (total t n ex a) (w (t.repairs (a p))) (total t n (onto ex p w) a) → Inserted (total t (suc n) ex a) (w (t.repairs (a p))) (total t (suc n) (onto ex p w) a)
    earlier d ih =
        let other = onto_other ex p (suc n) place w d in
        subst (λ x. Inserted (total t (suc n) ex a) (w (t.repairs (a p))) (both (total t n (onto ex p w) a) (both mine x))) (sym other) (before_more (total t n ex a) (w (t.repairs (a p))) (total t n (onto ex p w) a) (both mine (ex (suc n) place)) ih)

-- an amount put in somewhere costs what it costs at the end
pub inserted_value : {C : Type 0} {k : Adding C} {lower : C → C → Bool} → Laws k lower → (a w b : Amount) → Inserted a w b → length a.row + length w.row ≤ most → value k b ≡ value k (both a w)
inserted_value {k = k} laws a w b s h =
    let la = ap length s.without ∙ length-append s.fore s.aft in
    let rows : sum k b.row ≡ sum k (a.row ++ w.row) = ap (sum k) s.with_it ∙ sum_swap laws s.fore w.row s.aft (omega arith) ∙ ap (λ r. sum k (r ++ w.row)) (sym s.without) in
    ap (λ g. cond g (Some (sum k b.row)) None) s.opens ∙ ap (λ c. cond (a.is_open && w.is_open) (Some c) None) rows

pub inserted_length : (a w b : Amount) → Inserted a w b → length b.row ≡ length a.row + length w.row
inserted_length a w b s = grind (arith, common_steps)
