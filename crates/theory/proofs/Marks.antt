-- Closing the options that need a shut pair leaves the plans that need none, at what they post, and no other.
use Rattle.std.proofs.Common.{◌≡◌, ℕ, zero, suc, ◌*◌, Bool, true, false, cond, ◌&&◌, ◌||◌, eqb, Option, sym, refl, subst, ap₂, ⊎_elim, arith}
use Rattle.std.proofs.lemmas.Bool.{cases_eq, false≢true, both_ways, false_from_ne_true, and_parts, and_from, or_parts, or_from, or_left, or_right, or_cases}
use Rattle.theory.specs.Entries.{Entry}
use Rattle.theory.specs.Amounts.{Amount, nothing, closed, both}
use Rattle.theory.specs.Options.{Options, posted, route}
use Rattle.theory.specs.Breakdowns.{spent, start}
use Rattle.theory.specs.Tables.{Table, own, breakdown, Sound}
use Rattle.theory.specs.Needs.{Needs, route_needs, own_needs, needed}
use Rattle.theory.specs.Marks.{blocked, Clear, unless, allowed, marked}

pub clear_from : (shut f : ℕ → Bool) (m : ℕ) → blocked shut f m ≡ false → Clear shut m f
clear_from shut f zero e j l fj = absurd (omega arith)
clear_from shut f (suc m) e j l fj = ⊎_elim
    (λ is. let h = subst (λ i. f i ≡ true) is fj in subst (λ i. shut i ≡ false) (sym is) (false_from_ne_true (shut m) (λ s. both_ways _ (or_parts _ _ e).1 (and_from _ _ h s))))
    (λ n. clear_from shut f m (or_parts _ _ e).0 j (omega arith) fj)
    (cases_eq j m)

pub from_clear : (shut f : ℕ → Bool) (m : ℕ) → Clear shut m f → blocked shut f m ≡ false
from_clear shut f zero h = refl
from_clear shut f (suc m) h =
    or_from (blocked shut f m) (f m && shut m) (from_clear shut f m (λ j l. h j (omega arith)))
    (false_from_ne_true _ (λ both. let p = and_parts (f m) (shut m) both in both_ways _ (h m (omega arith) p.0) p.1))

-- a is an amount that needs the pairs f, b the same under the marks: b is closed, or it is a, which is clear
pub record Allowed (shut : ℕ → Bool) (m : ℕ) (a b : Amount) (f : ℕ → Bool) : Type 0 where
  pub out : b.is_open ≡ true → (b ≡ a) × Clear shut m f
  pub into : a.is_open ≡ true → Clear shut m f → b ≡ a

module _ (shut : ℕ → Bool) (m : ℕ) where
  allowed_option : (f : ℕ → Bool) (x : Option Entry) → Allowed shut m (posted x) (posted (unless (blocked shut f m) x)) f
  allowed_option f x = go (blocked shut f m) refl
    where
      go : (c : Bool) → blocked shut f m ≡ c → Allowed shut m (posted x) (posted (unless c x)) f
      go true e = record { out = λ h. absurd (false≢true h); into = λ _ h. absurd (both_ways _ (from_clear shut f m h) e) }
      go false e = record { out = λ _. (refl, clear_from shut f m e); into = λ _ _. refl }

  allowed_both : (a b c d : Amount) (f g : ℕ → Bool) → Allowed shut m a b f → Allowed shut m c d g → Allowed shut m (both a c) (both b d) (λ j. f j || g j)
  allowed_both a b c d f g p q = record {
    out = λ h. let two = and_parts _ _ h in
        let x = p.out two.0 in
        let y = q.out two.1 in
        (ap₂ both x.0 y.0, λ j l e. ⊎_elim (x.1 j l) (y.1 j l) (or_cases (f j) (g j) e));
    into = λ h o. let two = and_parts _ _ h in ap₂ both (p.into two.0 (λ j l e. o j l (or_left (f j) (g j) e))) (q.into two.1 (λ j l e. o j l (or_right (f j) (g j) e)));
  }

  allowed_alike : (a : Amount) → Allowed shut m a a (λ _. false)
  allowed_alike a = record { out = λ _. (refl, λ j l e. absurd (false≢true e)); into = λ _ _. refl }

  allowed_cond : (t : Bool) (a b c d : Amount) (f g : ℕ → Bool) → Allowed shut m a b f → Allowed shut m c d g → Allowed shut m (cond t a c) (cond t b d) (λ j. cond t (f j) (g j))
  allowed_cond true a b c d f g p q = p
  allowed_cond false a b c d f g p q = q

  allowed_route : (up : ℕ → ℕ) (u : Needs) (o : Options) (left e b : ℕ) → Allowed shut m (route up o left e b) (route up (allowed shut m u o) left e b) (route_needs up u left e b)
  allowed_route up u o zero e b = allowed_alike closed
  allowed_route up u o (suc left) e b =
      allowed_cond (eqb (suc b) (2 * e)) _ _ _ _ _ _ (allowed_option (u.discard e) (o.discard e))
      (allowed_cond (eqb b (2 * e)) _ _ _ _ _ _ (allowed_option (u.repair e) (o.repair e))
      (allowed_both _ _ _ _ (u.move e) (route_needs up u left (up e) b) (allowed_option (u.move e) (o.move e)) (allowed_route up u o left (up e) b)))

  allowed_own : (g : Table) (u : ℕ → Needs) (i s b : ℕ) → Allowed shut m (own g i s b) (own (marked g u m shut) i s b) (own_needs g u i s b)
  allowed_own g u i s b = allowed_cond (eqb s 0) _ _ _ _ _ _ (allowed_alike (cond (eqb b 0) nothing closed)) (allowed_route g.places.up (u i) (g.options i) (g.places.above s) s b)

  -- what bytes post under the marks
  pub allowed_spent : (g : Table) (u : ℕ → Needs) (a : ℕ → ℕ) (n : ℕ) → Allowed shut m (spent (breakdown g) n a) (spent (breakdown (marked g u m shut)) n a) (needed g u n a)
  allowed_spent g u a zero = allowed_alike nothing
  allowed_spent g u a (suc n) =
      let s = start (breakdown g) a (suc n) in
      let b = a (suc n) in
      allowed_both (spent (breakdown g) n a) (spent (breakdown (marked g u m shut)) n a) (own g (suc n) s b) (own (marked g u m shut) (suc n) s b) (needed g u n a) (own_needs g u (suc n) s b) (allowed_spent g u a n) (allowed_own g u (suc n) s b)

  -- the table under the marks is as sound
  pub marked_sound : (g : Table) (u : ℕ → Needs) → Sound g → Sound (marked g u m shut)
  marked_sound g u t = grind arith
