-- Totals and numbers of bytes: they depend on the bytes up to a component only, and one byte more adds at the end.
use Rattle.std.proofs.Common.{◌≡◌, ℕ, zero, suc, ◌+◌, ◌*◌, ◌<◌, ◌≤◌, true, cond, ◌⊎◌, ◌++◌, length, sym, refl, ap, ◌∙◌, subst, ⊎_elim, arith, length-append}
use Rattle.std.proofs.lemmas.Bool.{eq-eqb, ne_eqb, cases_eq}
use Rattle.theory.specs.Ranks.{base, Ranked}
use Rattle.theory.specs.Amounts.{Amount, nothing, both}
use Rattle.theory.specs.Breakdowns.{Breakdown, Sums, total, spent, way, start, number, put}
use Rattle.theory.specs.Tables.{most_options}
use Rattle.theory.proofs.Routes.{both_nothing}

-- every byte is one that has a rank
abbrev pub Bytes : Breakdown → (ℕ → ℕ) → Type 0
Bytes t a = (i : ℕ) → a i ≤ t.top

-- what the walk asks of a breakdown: each component comes after its parent; ranks tell bytes apart; and where two bytes are
-- open from one start, both post something or they are one byte
pub record Regular (t : Breakdown) : Type 0 where
  pub after_parent : (i : ℕ) → t.parent (suc i) ≤ i
  pub ranks : Ranked t.rank t.top
  pub posts : (i s b c : ℕ) → (t.own i s b).is_open ≡ true → (t.own i s c).is_open ≡ true → ((0 < length (t.own i s b).row) × (0 < length (t.own i s c).row)) ⊎ (b ≡ c)

pub put_same : (a : ℕ → ℕ) (i v : ℕ) → put a i v i ≡ v
put_same a i v = ap (λ b. cond b v (a i)) (eq-eqb i i refl)

pub put_other : (a : ℕ → ℕ) (i v j : ℕ) → (j ≡ i → ⊥) → put a i v j ≡ a j
put_other a i v j h = ap (λ b. cond b v (a j)) (ne_eqb j i h)

-- where no component is taken, the total is what the components post
pub total_is_spent : (t : Breakdown) (a : ℕ → ℕ) (n : ℕ) → total t n (λ _ _. nothing) a ≡ spent t n a
total_is_spent t a zero = refl
total_is_spent t a (suc n) =
    ap (both (total t n (λ _ _. nothing) a)) (both_nothing (t.own (suc n) (start t a (suc n)) (a (suc n))))
    ∙ ap (λ x. both x (t.own (suc n) (start t a (suc n)) (a (suc n)))) (total_is_spent t a n)

module _ (t : Breakdown) (ok : Regular t) where
  pub total_same : (ex : Sums) (a b : ℕ → ℕ) (n : ℕ) → ((i : ℕ) → i ≤ n → a i ≡ b i) → total t n ex a ≡ total t n ex b
  total_same ex a b zero h = ap (λ x. ex 0 (t.repairs x)) (h 0 (omega arith))
  total_same ex a b (suc n) h =
      let up = ok.after_parent n in
      let e1 = total_same ex a b n (λ i l. h i (omega arith)) in
      let e2 = h (t.parent (suc n)) (omega arith) in
      let e3 = h (suc n) (omega arith) in
      ap (λ x. both x (way t ex (suc n) (start t a (suc n)) (a (suc n)))) e1
      ∙ ap (λ x. both (total t n ex b) (way t ex (suc n) (t.enter (suc n) (t.repairs x)) (a (suc n)))) e2
      ∙ ap (λ x. both (total t n ex b) (way t ex (suc n) (start t b (suc n)) x)) e3

  number_same : (a b : ℕ → ℕ) (n : ℕ) → ((i : ℕ) → i ≤ n → a i ≡ b i) → number t.rank n a ≡ number t.rank n b
  number_same a b zero h = refl
  number_same a b (suc n) h =
      let e1 = number_same a b n (λ i l. h i (omega arith)) in
      let e2 = ap t.rank (h (suc n) (omega arith)) in
      omega arith

  -- one number: the same bytes
  pub same_number : (a b : ℕ → ℕ) → Bytes t a → Bytes t b → a 0 ≡ b 0 → (n : ℕ) → number t.rank n a ≡ number t.rank n b → (i : ℕ) → i ≤ n → a i ≡ b i
  same_number a b fa fb whole zero e i l = let z : i ≡ 0 = omega arith in subst (λ j. a j ≡ b j) (sym z) whole
  same_number a b fa fb whole (suc n) e i l =
      let ra = ok.ranks.below (a (suc n)) (fa (suc n)) in
      let rb = ok.ranks.below (b (suc n)) (fb (suc n)) in
      ⊎_elim
      (λ z. subst (λ j. a j ≡ b j) (sym z) (ok.ranks.told_apart (a (suc n)) (b (suc n)) (fa (suc n)) (fb (suc n)) (omega arith)))
      (λ d. same_number a b fa fb whole n (omega arith) i (omega arith))
      (cases_eq i (suc n))

  -- the total of bytes 1 to n, and byte v for the next component
  unfoldable pub with_next : Sums → (ℕ → ℕ) → ℕ → ℕ → Amount
  with_next ex a n v = both (total t n ex a) (way t ex (suc n) (start t a (suc n)) v)

  pub total_put : (ex : Sums) (a : ℕ → ℕ) (n v : ℕ) → total t (suc n) ex (put a (suc n) v) ≡ with_next ex a n v
  unfolding with_next
  total_put ex a n v =
      let up = ok.after_parent n in
      let e1 = total_same ex (put a (suc n) v) a n (λ i l. put_other a (suc n) v i (omega arith)) in
      let e2 = put_other a (suc n) v (t.parent (suc n)) (omega arith) in
      let e3 = put_same a (suc n) v in
      ap (λ x. both x (way t ex (suc n) (start t (put a (suc n) v) (suc n)) (put a (suc n) v (suc n)))) e1
      ∙ ap (λ x. both (total t n ex a) (way t ex (suc n) (t.enter (suc n) (t.repairs x)) (put a (suc n) v (suc n)))) e2
      ∙ ap (λ x. both (total t n ex a) (way t ex (suc n) (start t a (suc n)) x)) e3

  pub number_put : (a : ℕ → ℕ) (n v : ℕ) → number t.rank (suc n) (put a (suc n) v) ≡ number t.rank n a * base + t.rank v
  number_put a n v =
      let e1 = number_same (put a (suc n) v) a n (λ i l. put_other a (suc n) v i (omega arith)) in
      let e2 = ap t.rank (put_same a (suc n) v) in
      omega arith

-- ---- few postings, whatever the bytes
abbrev pub Bounded : Breakdown → ℕ → Sums → Type 0
Bounded t n ex = (a : ℕ → ℕ) → length (total t n ex a).row ≤ most_options

-- the sums of a component stand in some total
part : (t : Breakdown) (ex : Sums) (a : ℕ → ℕ) (n i : ℕ) → i ≤ n → length (ex i (t.repairs (a i))).row ≤ length (total t n ex a).row
part t ex a zero i l = let e : 0 ≡ i = omega arith in subst (λ j. length (ex j (t.repairs (a j))).row ≤ length (ex 0 (t.repairs (a 0))).row) e (omega arith)
part t ex a (suc n) i l =
    let mine = (t.own (suc n) (start t a (suc n)) (a (suc n))).row in
    let mine-ex = (ex (suc n) (t.repairs (a (suc n)))).row in
    let l1 = length-append (total t n ex a).row (mine ++ mine-ex) in
    let l2 = length-append mine mine-ex in
    ⊎_elim
    (λ e. subst (λ j. length (ex j (t.repairs (a j))).row ≤ length (total t (suc n) ex a).row) (sym e) (omega arith))
    (λ d. omega (arith, part t ex a n i (omega arith)))
    (cases_eq i (suc n))

pub sums_bounded_at : (t : Breakdown) (ex : Sums) (n i e b : ℕ) → t.repairs b ≡ e → i ≤ n → Bounded t n ex → length (ex i e).row ≤ most_options
sums_bounded_at t ex n i e b is l bound = subst (λ x. length (ex i x).row ≤ most_options) is (omega (arith, part t ex (λ _. b) n i l, bound (λ _. b)))
