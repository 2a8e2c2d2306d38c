-- The plan that right notes give is least and first: no row of bytes precedes it.
--
-- Induct on the components, the last one first. With component i + 1 taken, what the first i components post for any bytes
-- costs the same as what the first i + 1 post, when the last of them has the byte noted for its start. That byte is least
-- whatever the others are, and since the component is the last one, it decides last in reading order too.
use Rattle.std.proofs.Common.{◌≡◌, ℕ, zero, suc, ◌+◌, ◌*◌, ◌≤◌, Bool, true, false, cond, eqb, length, sym, refl, ap, ◌∙◌, subst, subst₂, inl, inr, ⊎_elim, arith, length-append}
use Rattle.std.proofs.lemmas.Bool.{cases_eq, and_parts}
use Rattle.costs.specs.Postings.{most}
use Rattle.costs.specs.Kinds.{Adding, Laws}
use Rattle.theory.specs.Ranks.{base}
use Rattle.theory.specs.Amounts.{Fits, value, precedes}
use Rattle.theory.specs.Breakdowns.{Breakdown, Sums, total, way, start, number, put, taken, plan, Noted}
use Rattle.theory.specs.Tables.{most_options}
use Rattle.theory.proofs.Precedence.{pass, itself, weaker}
use Rattle.theory.proofs.Keeping.{Posted, keeps}
use Rattle.theory.proofs.Inserted.{Inserted, in_total, inserted_value, inserted_length}
use Rattle.theory.proofs.Totals.{Bytes, Regular, put_other, same_number, with_next, total_put, number_put, Bounded}

module _ (t : Breakdown) (ok : Regular t) (notes : ℕ → ℕ → ℕ) where
  -- component i + 1's noted byte, for the bytes before it
  note : ℕ → (ℕ → ℕ) → ℕ
  note i a = notes (suc i) (start t a (suc i))

  -- the total with component i + 1 taken is that of one more byte, the noted one, put in somewhere
  took : (i : ℕ) (ex : Sums) (a : ℕ → ℕ) → Inserted (total t i ex a) (way t ex (suc i) (start t a (suc i)) (note i a)) (total t i (taken t notes (suc i) ex) a)
  unfolding note
  took i ex a = in_total t ex a (t.parent (suc i)) (λ e. way t ex (suc i) (t.enter (suc i) e) (notes (suc i) (t.enter (suc i) e))) i (ok.after_parent i)

  fits : (i : ℕ) (ex : Sums) → Bounded t (suc i) ex → (a : ℕ → ℕ) (v : ℕ) → length (total t i ex a).row + length (way t ex (suc i) (start t a (suc i)) v).row ≤ most_options
  unfolding with_next
  fits i ex bound a v =
      let l = bound (put a (suc i) v) in
      let e = ap (λ x. length x.row) (total_put t ok ex a i v) in
      let f = length-append (total t i ex a).row (way t ex (suc i) (start t a (suc i)) v).row in
      omega arith

  -- taking a component adds no posting to any total
  pub still_bounded : (i : ℕ) (ex : Sums) → Bounded t (suc i) ex → Bounded t i (taken t notes (suc i) ex)
  still_bounded i ex bound a =
      let l = fits i ex bound a (note i a) in
      let e = inserted_length _ _ _ (took i ex a) in
      omega arith

  module _ (small : (i s : ℕ) → notes (suc i) s ≤ t.top) where
    pub plan_bytes : (i : ℕ) → Bytes t (plan t notes i)
    plan_bytes zero j = omega arith
    plan_bytes (suc i) j = elim (eqb j (suc i)) as (λ b. cond b (notes (suc i) (start t (plan t notes i) (suc i))) (plan t notes i j) ≤ t.top) [ true ↦ small i (start t (plan t notes i) (suc i)) | false ↦ plan_bytes i j ]

    pub plan_whole : (i : ℕ) → plan t notes i 0 ≡ 0
    plan_whole zero = refl
    plan_whole (suc i) = put_other (plan t notes i) (suc i) _ 0 (omega arith) ∙ plan_whole i

    -- of two rows of bytes the one with the lower number keeps it when each gets its noted byte
    later : (i : ℕ) (a b : ℕ → ℕ) → Bytes t a → Bytes t b → a 0 ≡ b 0 → number t.rank i a ≤ number t.rank i b → number t.rank i a * base + t.rank (note i a) ≤ number t.rank i b * base + t.rank (note i b)
    unfolding note
    later i a b fa fb whole l =
        let up = ok.after_parent i in
        let ra = ok.ranks.below (note i a) (small i (start t a (suc i))) in
        ⊎_elim
        (λ e. let same = same_number t ok a b fa fb whole i e (t.parent (suc i)) up in
        let r = ap (λ x. t.rank (notes (suc i) (t.enter (suc i) (t.repairs x)))) same in
        omega arith)
        (λ n. omega arith)
        (cases_eq (number t.rank i a) (number t.rank i b))

    module _ {C : Type 0} {k : Adding C} {lower : C → C → Bool} (laws : Laws k lower) where
      -- bytes do not precede the same bytes with the last one as noted
      noted_first : (i : ℕ) (ex : Sums) → Bounded t (suc i) ex → Noted k lower t notes (suc i) ex → (b : ℕ → ℕ) → precedes lower (value k (total t (suc i) ex b)) (number t.rank (suc i) b) (value k (with_next t ok ex b i (note i b))) (number t.rank i b * base + t.rank (note i b)) ≡ false
      unfolding with_next note
      noted_first i ex bound right b =
          let s = start t b (suc i) in
          let v = b (suc i) in
          let n = note i b in
          let u = way t ex (suc i) s v in
          let w = way t ex (suc i) s n in
          let posted : u.is_open ≡ true → w.is_open ≡ true → Posted u.row (t.rank v) w.row (t.rank n) =
          λ p q. ⊎_elim
          (λ h. inl (omega (arith, h.0, length-append (t.own (suc i) s v).row (ex (suc i) (t.repairs v)).row), omega (arith, h.1, length-append (t.own (suc i) s n).row (ex (suc i) (t.repairs n)).row)))
          (λ e. inr (ap (λ c. (way t ex (suc i) s c).row) e, ap t.rank e))
          (ok.posts (suc i) s v n (and_parts _ _ p).0 (and_parts _ _ q).0) in
          keeps laws (number t.rank i b) (t.rank v) (t.rank n) (total t i ex b) u w (omega (arith, fits i ex bound b v)) (omega (arith, fits i ex bound b n)) posted (right.0 s v)

      taken_value : (i : ℕ) (ex : Sums) → Bounded t (suc i) ex → (a : ℕ → ℕ) → value k (total t i (taken t notes (suc i) ex) a) ≡ value k (with_next t ok ex a i (note i a))
      unfolding with_next note
      taken_value i ex bound a = inserted_value laws _ _ _ (took i ex a) (omega (arith, fits i ex bound a (note i a)))

      -- the plan's bytes up to component i + 1 cost what its bytes up to component i cost with that component taken
      pub plan_step : (i : ℕ) (ex : Sums) → Bounded t (suc i) ex → value k (total t (suc i) ex (plan t notes (suc i))) ≡ value k (total t i (taken t notes (suc i) ex) (plan t notes i))
      unfolding note
      plan_step i ex bound = ap (value k) (total_put t ok ex (plan t notes i) i (note i (plan t notes i))) ∙ sym (taken_value i ex bound (plan t notes i))

      next_fits : (i : ℕ) (ex : Sums) → Bounded t (suc i) ex → (a : ℕ → ℕ) → Fits (with_next t ok ex a i (note i a))
      next_fits i ex bound a = subst (λ x. length x.row ≤ most) (total_put t ok ex a i (note i a)) (omega (arith, bound (put a (suc i) (note i a))))

      -- no row of bytes precedes the plan of the notes
      pub plan_first : (i : ℕ) (ex : Sums) → Bounded t i ex → Noted k lower t notes i ex → (b : ℕ → ℕ) → Bytes t b → b 0 ≡ 0 → precedes lower (value k (total t i ex b)) (number t.rank i b) (value k (total t i ex (plan t notes i))) (number t.rank i (plan t notes i)) ≡ false
      unfolding note
      plan_first zero ex bound right b fb whole =
          let e : total t 0 ex b ≡ total t 0 ex (plan t notes 0) = ap (λ x. ex 0 (t.repairs x)) whole in
          subst (λ x. precedes lower (value k (total t 0 ex b)) 0 (value k x) 0 ≡ false) e (itself laws (total t 0 ex b) 0 0 (omega arith) (omega (arith, bound b)))
      plan_first (suc i) ex bound right b fb whole =
          let a = plan t notes i in
          let ih = plan_first i (taken t notes (suc i) ex) (still_bounded i ex bound) right.1 b fb whole in
          let two = subst₂ (λ x y. precedes lower x (number t.rank i b) y (number t.rank i a) ≡ false) (taken_value i ex bound b) (taken_value i ex bound a) ih in
          let three = weaker lower (value k (with_next t ok ex b i (note i b))) (value k (with_next t ok ex a i (note i a))) (number t.rank i b) (number t.rank i a) (number t.rank i b * base + t.rank (note i b)) (number t.rank i a * base + t.rank (note i a)) (later i a b (plan_bytes i) fb (plan_whole i ∙ sym whole)) two in
          let four = pass laws (total t (suc i) ex b) (with_next t ok ex b i (note i b)) (with_next t ok ex a i (note i a)) (number t.rank (suc i) b) (number t.rank i b * base + t.rank (note i b)) (number t.rank i a * base + t.rank (note i a)) (omega (arith, bound b)) (next_fits i ex bound b) (next_fits i ex bound a) (noted_first i ex bound right b) three in
          subst₂ (λ x y. precedes lower (value k (total t (suc i) ex b)) (number t.rank (suc i) b) (value k x) y ≡ false) (sym (total_put t ok ex a i (note i a))) (sym (number_put t ok a i (note i a))) four
