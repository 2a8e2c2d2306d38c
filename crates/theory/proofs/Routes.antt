-- What a byte posts from a place: the three ways on, their lengths, and the bytes that are open.
use Rattle.std.proofs.Common.{◌≡◌, ℕ, zero, suc, ◌-◌, ◌*◌, ◌<◌, ◌≤◌, Bool, true, cond, eqb, List, length, Some, None, Option, ◌∙◌, ap₂, append_assoc, append-nil, arith, length-append}
use Rattle.std.proofs.Math.Bool.{and_assoc, and-true}
use Rattle.std.proofs.lemmas.Bool.Decides.{nat_tests}
use Rattle.std.proofs.lemmas.Bool.{eq-eqb, ne_eqb, eqb-true, eqb-false, and_parts, false≢true, cond-true, cond-false, cond_both}
use Rattle.theory.specs.Entries.{Entry}
use Rattle.theory.specs.Amounts.{Amount, nothing, both}
use Rattle.theory.specs.Places.{Places, Rising}
use Rattle.theory.specs.Options.{Options, posted, repaired_at, route}

-- ---- bytes
pub discard_repairs_nowhere : (e : ℕ) → 0 < e → repaired_at (2 * e - 1) ≡ 0
discard_repairs_nowhere e h = grind (arith, nat_tests)

pub repair_repairs_here : (e : ℕ) → repaired_at (2 * e) ≡ e
repair_repairs_here e = grind (arith, nat_tests)

-- ---- amounts
abbrev pub amount : Bool → List Entry → Amount
amount o r = record { is_open = o; row = r }

pub both_assoc : (a b c : Amount) → both (both a b) c ≡ both a (both b c)
both_assoc a b c = ap₂ amount (and_assoc a.is_open b.is_open c.is_open) (append_assoc a.row b.row c.row)

pub both_nothing : (a : Amount) → both a nothing ≡ a
both_nothing a = ap₂ amount (and-true a.is_open) (append-nil a.row)

pub posted_length : (x : Option Entry) → length (posted x).row ≤ 1
posted_length None = omega arith
posted_length (Some p) = omega arith

-- ---- routes
-- what holds of each of the three ways on from place e with byte b holds of the one that b takes
pub ways_on :
    {A : Type 0} (b e : ℕ) (x y z : A) (Q : A → Type 0) → (suc b ≡ 2 * e → Q x) → (b ≡ 2 * e → Q y) → ((suc b ≡ 2 * e → ⊥) → (b ≡ 2 * e → ⊥) → Q z)
    → Q (cond (eqb (suc b) (2 * e)) x (cond (eqb b (2 * e)) y z))
ways_on b e x y z Q d r m =
    cond_both (eqb (suc b) (2 * e)) x (cond (eqb b (2 * e)) y z) Q
    (λ t. d (eqb-true _ _ t))
    (λ t. cond_both (eqb b (2 * e)) y z Q (λ u. r (eqb-true _ _ u)) (λ u. m (eqb-false _ _ t) (eqb-false _ _ u)))

module _ (up : ℕ → ℕ) (o : Options) where
  pub route_discard : (left e b : ℕ) → suc b ≡ 2 * e → route up o (suc left) e b ≡ posted (o.discard e)
  route_discard left e b h = cond-true (eqb (suc b) (2 * e)) _ _ (eq-eqb (suc b) (2 * e) h)

  pub route_repair : (left e b : ℕ) → b ≡ 2 * e → route up o (suc left) e b ≡ posted (o.repair e)
  route_repair left e b h = cond-false (eqb (suc b) (2 * e)) _ _ (ne_eqb (suc b) (2 * e) (omega arith)) ∙ cond-true (eqb b (2 * e)) _ _ (eq-eqb b (2 * e) h)

  pub route_move : (left e b : ℕ) → (suc b ≡ 2 * e → ⊥) → (b ≡ 2 * e → ⊥) → route up o (suc left) e b ≡ both (posted (o.move e)) (route up o left (up e) b)
  route_move left e b d r = cond-false (eqb (suc b) (2 * e)) _ _ (ne_eqb (suc b) (2 * e) d) ∙ cond-false (eqb b (2 * e)) _ _ (ne_eqb b (2 * e) r)

  -- what holds of each of the three ways on holds of the route
  pub route_ways : (left e b : ℕ) (Q : Amount → Type 0) → (suc b ≡ 2 * e → Q (posted (o.discard e))) → (b ≡ 2 * e → Q (posted (o.repair e))) → ((suc b ≡ 2 * e → ⊥) → (b ≡ 2 * e → ⊥) → Q (both (posted (o.move e)) (route up o left (up e) b))) → Q (route up o (suc left) e b)
  route_ways left e b Q = ways_on b e _ _ _ Q

  -- at most one posting for each place left
  pub route_length : (left e b : ℕ) → length (route up o left e b).row ≤ left
  route_length zero e b = omega arith
  route_length (suc left) e b =
      let ih = route_length left (up e) b in
      route_ways left e b (λ a. length a.row ≤ suc left)
      (λ _. omega (arith, posted_length (o.discard e)))
      (λ _. omega (arith, posted_length (o.repair e)))
      (λ _ _. omega (arith, posted_length (o.move e), length-append (posted (o.move e)).row (route up o left (up e) b).row))

  -- an open route has a posting
  pub route_open : (left e b : ℕ) → (route up o left e b).is_open ≡ true → 0 < length (route up o left e b).row
  route_open left e b = grind arith

-- an open route ends at a place
pub route_byte : (w : Places) → Rising w → (o : Options) (left e b : ℕ) → w.above e ≡ left → (route w.up o left e b).is_open ≡ true → b ≤ 2 * w.last
route_byte w ok o zero e b l = λ h. absurd (false≢true h)
route_byte w ok o (suc left) e b l =
    let here = ok.numbered e (omega arith) in
    let fewer = ok.one_fewer e (omega arith) in
    route_ways w.up o left e b (λ a. a.is_open ≡ true → b ≤ 2 * w.last)
    (λ d _. omega arith)
    (λ r _. omega arith)
    (λ _ _ h. route_byte w ok o left (w.up e) b (omega arith) (and_parts _ _ h).1)
