-- The plan that is read off the notes is the walk's.
use Rattle.std.proofs.Common.{◌≡◌, ℕ, zero, suc, ◌+◌, ◌-◌, ◌*◌, ◌<◌, ◌≤◌, Bool, true, cond, ◌&&◌, eqb, leb, List, [], ◌∷◌, ◌++◌, length, get_or, take, set, Some, None, Option, sym, refl, ap, ◌∙◌, subst, ⊎_elim, add-one, arith}
use Rattle.std.proofs.lemmas.List.{get_or-set_same, get_or-set_other, take_more}
use Rattle.std.proofs.lemmas.Bool.{cases_eq, ne_eqb, le-leb, and_from, cond-true, cond-false}
use Rattle.std.proofs.lemmas.Bool.Decides.{nat_tests}
use Rattle.costs.specs.Kinds.{Adding}
use Rattle.model.specs.Studies.{Model, Limits}
use Rattle.plans.specs.Questions.{count}
use Rattle.plans.specs.Starts.{parent, start_under}
use Rattle.theory.specs.Options.{Options, repaired_at}
use Rattle.theory.specs.Breakdowns.{Breakdown, start, plan}
use Rattle.theory.specs.Tables.{Table, breakdown, notes, walked}
use Rattle.theory.specs.Problems.{row_of}
use Rattle.theory.proofs.Totals.{put_same, put_other}
use Rattle.theory.proofs.Walked.{walked_bytes}
use Rattle.solutions.specs.Problems.{parent_number}
use Rattle.solving.specs.Steps.{tabled, Noted, noted_at, ReadsOff}
use Rattle.solving.proofs.Tabled.{parent_before, sound}

-- ---- one byte more is read off
module _ (s : Model) (limits : Limits s) where
  -- a start depends on the bytes of earlier components only
  start_same : (p : Option ℕ) (i n v : ℕ) (bytes : List ℕ) → parent_number p ≤ i → i ≤ n → start_under (set bytes n v) p ≡ start_under bytes p
  start_same None i n v bytes h l = refl
  start_same (Some p) i n v bytes h l = ap repaired_at (get_or-set_other bytes n p v 0 (λ z. omega arith))

  pub read_more : (noted : List (List ℕ)) (n a v : ℕ) (bytes : List ℕ) → n < length bytes → a ≡ start_under bytes (parent s n) → v ≡ noted_at (get_or noted n []) a → ReadsOff s noted n bytes → ReadsOff s noted (n + 1) (set bytes n v)
  read_more noted n a v bytes long is-start is so_far i h =
      let stays : start_under (set bytes n v) (parent s i) ≡ start_under bytes (parent s i) = start_same (parent s i) i n v bytes (parent_before s limits i) (omega arith) in
      ⊎_elim
      (λ at. subst (λ j. get_or (set bytes n v) j 0 ≡ noted_at (get_or noted j []) (start_under (set bytes n v) (parent s j))) (sym at)
      (get_or-set_same bytes n v 0 long ∙ is ∙ ap (noted_at (get_or noted n [])) (is-start ∙ sym (start_same (parent s n) n n v bytes (parent_before s limits n) (omega arith)))))
      (λ ne. get_or-set_other bytes n i v 0 ne ∙ so_far i (omega arith) ∙ ap (noted_at (get_or noted i [])) (sym stays))
      (cases_eq i n)

-- ---- the walk's bytes
-- the byte of a component is settled when it is written
plan_settled : (t : Breakdown) (f : ℕ → ℕ → ℕ) (n i : ℕ) → i ≤ n → plan t f n i ≡ plan t f i i
plan_settled t f zero i l = let e : i ≡ 0 = omega arith in subst (λ j. plan t f 0 j ≡ plan t f j j) (sym e) refl
plan_settled t f (suc n) i l = ⊎_elim
    (λ at. subst (λ j. plan t f (suc n) j ≡ plan t f j j) (sym at) refl)
    (λ ne. put_other (plan t f n) (suc n) (f (suc n) (start t (plan t f n) (suc n))) i ne ∙ plan_settled t f n i (omega arith))
    (cases_eq i (suc n))

module _ {C : Type 0} (k : Adding C) (lower : C → C → Bool) (s : Model) (limits : Limits s) (o : ℕ → Options) where
  abbrev t : Table
  t = tabled s o

  abbrev f : ℕ → ℕ → ℕ
  f = notes k lower t

  abbrev a : ℕ → ℕ
  a = walked k lower t

  -- each byte is the one noted for the component's start
  walked_noted : (i : ℕ) → i < count s → a (suc i) ≡ f (suc i) (start (breakdown t) a (suc i))
  unfolding walked
  walked_noted i h =
      let b = breakdown t in
      let p = parent_number (parent s i) in
      let before = parent_before s limits i in
      let here : plan b f (count s) (suc i) ≡ f (suc i) (start b (plan b f i) (suc i)) = plan_settled b f (count s) (suc i) h ∙ put_same (plan b f i) (suc i) (f (suc i) (start b (plan b f i) (suc i))) in
      let above : plan b f i p ≡ plan b f (count s) p = plan_settled b f i p before ∙ sym (plan_settled b f (count s) p (omega arith)) in
      here ∙ ap (λ v. f (suc i) (b.enter (suc i) (repaired_at v))) above

  -- the byte noted for a start is the one that the notes hold
  noted_is : (i st : ℕ) (bytes : List ℕ) → st ≤ s.echelons → Noted s.echelons f i bytes → noted_at bytes st ≡ f (suc i) st
  unfolding notes
  noted_is i zero bytes h noted = refl
  noted_is i (suc e) bytes h noted =
      let few = limits.few_echelons in
      let test : leb 1 (suc e) && leb (suc e) 4 ≡ true = and_from _ _ (le-leb 1 (suc e) (omega arith)) (le-leb (suc e) 4 (omega arith)) in
      let one : suc e - 1 ≡ e = omega arith in
      cond-true (leb 1 (suc e) && leb (suc e) 4) (get_or bytes (suc e - 1) 0) 0 test ∙ ap (λ n. get_or bytes n 0) one ∙ noted e (omega arith)

  repaired_low : (b : ℕ) → b ≤ 2 * s.echelons → repaired_at b ≤ s.echelons
  repaired_low b h = grind (arith, nat_tests)

  -- a component that is not a top component starts where its parent is repaired
  under : (p : ℕ) → cond (eqb (parent_number (Some p)) 0) 1 (repaired_at (a (suc p))) ≡ repaired_at (a (suc p))
  under p = cond-false (eqb (suc p) 0) 1 (repaired_at (a (suc p))) (ne_eqb (suc p) 0 (λ z. omega arith))

  start_low : (i : ℕ) → start (breakdown t) a (suc i) ≤ s.echelons
  start_low i = go (parent s i)
    where
      go : (p : Option ℕ) → cond (eqb (parent_number p) 0) 1 (repaired_at (a (parent_number p))) ≤ s.echelons
      go None = limits.some_echelon
      go (Some p) =
          subst (λ n. n ≤ s.echelons) (sym (under p)) (repaired_low (a (suc p)) (walked_bytes k lower t (sound s limits o) (suc p)))

  -- the plan's bytes are the walk's
  module _ (noted : List (List ℕ)) (bytes : List ℕ) (all : (i : ℕ) → i < count s → Noted s.echelons f i (get_or noted i [])) (read : ReadsOff s noted (count s) bytes) where
    starts_same : (p : Option ℕ) → ((j : ℕ) → suc j ≤ parent_number p → get_or bytes j 0 ≡ a (suc j)) → start_under bytes p ≡ cond (eqb (parent_number p) 0) 1 (repaired_at (a (parent_number p)))
    starts_same None so_far = refl
    starts_same (Some p) so_far = ap repaired_at (so_far p (omega arith)) ∙ sym (under p)

    below : (n : ℕ) → n ≤ count s → (i : ℕ) → i < n → get_or bytes i 0 ≡ a (suc i)
    below zero l i h = absurd (omega arith)
    below (suc n) l i h =
        let before = parent_before s limits i in
        let starts = starts_same (parent s i) (λ j m. below n (omega arith) j (omega arith)) in
        read i (omega arith) ∙ ap (noted_at (get_or noted i [])) starts
        ∙ noted_is i (start (breakdown t) a (suc i)) (get_or noted i []) (start_low i) (all i (omega arith))
        ∙ sym (walked_noted i (omega arith))

    row_is : (n : ℕ) → n ≤ count s → n ≤ length bytes → take n bytes ≡ row_of n a
    row_is zero l h = refl
    row_is (suc n) l h =
        ap (λ m. take m bytes) (sym (add-one n)) ∙ take_more bytes n 0 (omega arith)
        ∙ ap (λ r. r ++ get_or bytes n 0 ∷ []) (row_is n (omega arith) (omega arith)) ∙ ap (λ v. row_of n a ++ v ∷ []) (below (suc n) l n (omega arith))

    pub plan_is : count s ≤ length bytes → take (count s) bytes ≡ row_of (count s) a
    plan_is h = row_is (count s) (omega arith) h
