-- A row of bytes whose options are open needs exactly those pairs that it uses as a plan.
use Rattle.std.proofs.Common.{◌≡◌, ℕ, zero, suc, ◌+◌, ◌*◌, ◌<◌, ◌≤◌, Bool, true, false, cond, ◌&&◌, ◌||◌, eqb, ltb, leb, List, Some, None, Option, sym, refl, ap, ◌∙◌, subst, ap₂, subst₂, ⊎_elim, arith}
use Rattle.std.proofs.lemmas.Bool.{cases_eq, cases_lt, eq-eqb, ne_eqb, le-leb, lt-leb, lt-ltb, le-ltb, and_parts, and_from, and_left, and_right, or_left, false≢true, cond-true, cond-false}
use Rattle.model.specs.Books.{Book, KeepsLimits}
use Rattle.model.specs.Components.{needs_resource}
use Rattle.model.specs.Studies.{Model, Limits}
use Rattle.model.specs.declared.question.RepairOption.{RepairOption}
use Rattle.model.specs.declared.question.RepairOption.TheVariants.{Discard, Repair, Move}
use Rattle.plans.specs.Ranges.{some_below}
use Rattle.plans.specs.Questions.{count}
use Rattle.plans.specs.Postings.{component}
use Rattle.plans.specs.Starts.{byte, final, parent, start_under, start as plan-start}
use Rattle.plans.specs.Uses.{needs_at, uses}
use Rattle.theory.specs.Amounts.{Amount}
use Rattle.theory.specs.Options.{Options, posted, repaired_at, route}
use Rattle.theory.specs.Breakdowns.{spent, start}
use Rattle.theory.specs.Tables.{own, breakdown}
use Rattle.theory.specs.Needs.{Needs, route_needs, own_needs, needed}
use Rattle.theory.specs.Problems.{Problem, bytes_of, options_of, needs_of}
use Rattle.theory.proofs.Routes.{route_move}
use Rattle.solutions.specs.Pairs.{pair_resource, pair_echelon, pair_question}
use Rattle.solutions.specs.Problems.{parent_number, problem}

-- ---- tests joined
only_first : (x d r m : Bool) → x && d ≡ (x && d) || ((false && r) || (false && m))
only_first true true r m = refl
only_first true false r m = refl
only_first false d r m = refl

only_second : (x d r m : Bool) → x && r ≡ (false && d) || ((x && r) || (false && m))
only_second true d true m = refl
only_second true d false m = refl
only_second false d r m = refl

one_more : (x z m p q : Bool) → (x && m) || (p || (q || (z && m))) ≡ p || (q || ((x || z) && m))
one_more false z m p q = refl
one_more true true false p q = refl
one_more true false false p q = refl
one_more true z true true q = refl
one_more true z true false true = refl
one_more true z true false false = refl

-- no echelon is from e on and before e
none_between : (e q f : ℕ) → f ≡ e → leb e q && ltb q f ≡ false
none_between e q f h = ⊎_elim
    (λ l. and_left (leb e q) (ltb q f) (lt-leb e q l))
    (λ l. and_right (leb e q) (ltb q f) (le-ltb q f (omega arith)))
    (cases_lt q e)

-- the echelons from e on and before f are e, and those from the next on
from_here : (e q f : ℕ) → e < f → leb e q && ltb q f ≡ eqb q e || (leb (suc e) q && ltb q f)
from_here e q f h = ⊎_elim
    (λ i. and_from (leb e q) (ltb q f) (le-leb e q (omega arith)) (lt-ltb q f (omega arith)) ∙ sym (or_left (eqb q e) (leb (suc e) q && ltb q f) (eq-eqb q e i)))
    (λ i. ap (λ x. x && ltb q f) (same i) ∙ sym (ap (λ x. x || (leb (suc e) q && ltb q f)) (ne_eqb q e i)))
    (cases_eq q e)
  where
    same : (q ≡ e → ⊥) → leb e q ≡ leb (suc e) q
    same i = ⊎_elim (λ l. lt-leb e q l ∙ sym (lt-leb (suc e) q (omega arith))) (λ l. le-leb e q l ∙ sym (le-leb (suc e) q (omega arith))) (cases_lt q e)

-- ---- one component's way up: it needs a resource at echelon q by what it does there
module _ (o : Options) (u : Needs) (j q : ℕ) (d r m : Bool) (discards : (e : ℕ) → u.discard e j ≡ eqb q e && d) (repairs : (e : ℕ) → u.repair e j ≡ eqb q e && r) (moves : (e : ℕ) → u.move e j ≡ eqb q e && m) where
  abbrev Used : ℕ → ℕ → Bool
  Used e b = (eqb (b + 1) (2 * q) && d) || ((eqb b (2 * q) && r) || ((leb e q && ltb q (final b)) && m))

  used_discard : (e b : ℕ) → suc b ≡ 2 * e → eqb q e && d ≡ Used e b
  used_discard e b h =
      let here : eqb (b + 1) (2 * q) ≡ eqb q e = ⊎_elim (λ i. eq-eqb (b + 1) (2 * q) (omega arith) ∙ sym (eq-eqb q e i)) (λ i. ne_eqb (b + 1) (2 * q) (λ f. i (omega arith)) ∙ sym (ne_eqb q e i)) (cases_eq q e) in
      let other : eqb b (2 * q) ≡ false = ne_eqb b (2 * q) (omega arith) in
      let past = none_between e q (final b) (omega arith) in
      only_first (eqb q e) d r m ∙ subst₂ (λ x z. (eqb q e && d) || ((false && r) || (false && m)) ≡ (x && d) || ((z && r) || ((leb e q && ltb q (final b)) && m))) (sym here) (sym other) (ap (λ x. (eqb q e && d) || ((false && r) || (x && m))) (sym past))

  used_repair : (e b : ℕ) → b ≡ 2 * e → eqb q e && r ≡ Used e b
  used_repair e b h =
      let here : eqb b (2 * q) ≡ eqb q e = ⊎_elim (λ i. eq-eqb b (2 * q) (omega arith) ∙ sym (eq-eqb q e i)) (λ i. ne_eqb b (2 * q) (λ f. i (omega arith)) ∙ sym (ne_eqb q e i)) (cases_eq q e) in
      let other : eqb (b + 1) (2 * q) ≡ false = ne_eqb (b + 1) (2 * q) (omega arith) in
      let past = none_between e q (final b) (omega arith) in
      only_second (eqb q e) d r m ∙ subst₂ (λ x z. (false && d) || ((eqb q e && r) || (false && m)) ≡ (z && d) || ((x && r) || ((leb e q && ltb q (final b)) && m))) (sym here) (sym other) (ap (λ x. (false && d) || ((eqb q e && r) || (x && m))) (sym past))

  used_move : (e b : ℕ) → e < final b → (eqb q e && m) || Used (suc e) b ≡ Used e b
  used_move e b h =
      one_more (eqb q e) (leb (suc e) q && ltb q (final b)) m (eqb (b + 1) (2 * q) && d) (eqb b (2 * q) && r)
      ∙ ap (λ x. (eqb (b + 1) (2 * q) && d) || ((eqb b (2 * q) && r) || (x && m))) (sym (from_here e q (final b) h))

  route_used : (left e b : ℕ) → (route suc o left e b).is_open ≡ true → (e ≤ final b) × (route_needs suc u left e b j ≡ Used e b)
  route_used zero e b h = absurd (false≢true h)
  route_used (suc left) e b h = ⊎_elim
      (λ at. (omega arith, cond-true (eqb (suc b) (2 * e)) _ _ (eq-eqb (suc b) (2 * e) at) ∙ discards e ∙ used_discard e b at))
      (λ no-discard. ⊎_elim
      (λ at. (omega arith, cond-false (eqb (suc b) (2 * e)) _ _ (ne_eqb (suc b) (2 * e) no-discard) ∙ cond-true (eqb b (2 * e)) _ _ (eq-eqb b (2 * e) at) ∙ repairs e ∙ used_repair e b at))
      (λ no-repair.
      let opens = subst (λ (a : Amount). a.is_open ≡ true) (route_move suc o left e b no-discard no-repair) h in
      let rest : (suc e ≤ final b) × (route_needs suc u left (suc e) b j ≡ Used (suc e) b) = route_used left (suc e) b (and_parts (posted (o.move e)).is_open (route suc o left (suc e) b).is_open opens).1 in (
        omega (arith, rest.0),
        cond-false (eqb (suc b) (2 * e)) _ _ (ne_eqb (suc b) (2 * e) no-discard) ∙ cond-false (eqb b (2 * e)) _ _ (ne_eqb b (2 * e) no-repair)
            ∙ ap₂ ◌||◌ (moves e) rest.1 ∙ used_move e b rest.0,
      ))
      (cases_eq b (2 * e)))
      (cases_eq (suc b) (2 * e))

-- ---- every component
module _ (s : Model) (b : Book) (limits : Limits s) (kept : KeepsLimits b) (row : List ℕ) (j : ℕ) where
  abbrev y : Problem
  y = problem s b limits kept

  abbrev q : ℕ
  q = pair_echelon s.echelons j

  abbrev needs_by : ℕ → RepairOption → Bool
  needs_by i o = needs_resource (component s i).needs o (pair_resource s.echelons j)

  -- where a component starts
  starts : (i : ℕ) → start (breakdown y.table) (bytes_of row) (suc i) ≡ plan-start s row i
  starts i = go (parent s i)
    where
      go : (p : Option ℕ) → cond (eqb (parent_number p) 0) 1 (repaired_at (bytes_of row (parent_number p))) ≡ start_under row p
      go None = refl
      go (Some p) = cond-false (eqb (suc p) 0) 1 (repaired_at (byte row p)) (ne_eqb (suc p) 0 (omega arith))

  -- what component i needs from start e, if the test whether it is reached comes out as t
  abbrev needs_if : ℕ → ℕ → Bool → Bool
  needs_if i e t = ((t && eqb (byte row i + 1) (2 * q)) && needs_by i Discard) || (((t && eqb (byte row i) (2 * q)) && needs_by i Repair) || ((t && (leb e q && ltb q (final (byte row i)))) && needs_by i Move))

  needs_from : (i e : ℕ) → (own y.table (suc i) e (byte row i)).is_open ≡ true → own_needs y.table y.needs (suc i) e (byte row i) j ≡ needs_if i e (leb 1 e)
  needs_from i e h = ⊎_elim
      (λ z. cond-true (eqb e 0) _ _ (eq-eqb e 0 z) ∙ ap (needs_if i e) (sym (lt-leb 1 e (omega arith))))
      (λ n.
      let opens = subst (λ (a : Amount). a.is_open ≡ true) (cond-false (eqb e 0) _ _ (ne_eqb e 0 n)) h in
      cond-false (eqb e 0) _ _ (ne_eqb e 0 n)
      ∙ (route_used (y.table.options (suc i)) (y.needs (suc i)) j q (needs_by i Discard) (needs_by i Repair) (needs_by i Move) (λ _. refl) (λ _. refl) (λ _. refl) (y.table.places.above e) e (byte row i) opens).1
      ∙ ap (needs_if i e) (sym (le-leb 1 e (omega arith))))
      (cases_eq e 0)

  needs_same : (n : ℕ) → (spent (breakdown y.table) n (bytes_of row)).is_open ≡ true → needed y.table y.needs n (bytes_of row) j ≡ some_below (needs_at s row (pair_resource s.echelons j) q) n
  needs_same zero h = refl
  needs_same (suc n) h =
      let e = start (breakdown y.table) (bytes_of row) (suc n) in
      let parts = and_parts (spent (breakdown y.table) n (bytes_of row)).is_open (own y.table (suc n) e (byte row n)).is_open h in
      ap₂ ◌||◌ (needs_same n parts.0) (needs_from n e parts.1 ∙ ap (λ i. needs_if n i (leb 1 i)) (starts n))

  pub needs_used : (options_of y row).is_open ≡ true → needs_of y row j ≡ uses s row (pair_question s.echelons j)
  needs_used = needs_same (count s)
