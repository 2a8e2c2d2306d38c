-- A sound table is a regular breakdown of few postings.
use Rattle.std.proofs.Common.{◌≡◌, ℕ, zero, suc, ◌*◌, ◌<◌, ◌≤◌, Bool, true, false, cond, eqb, ◌⊎◌, length, sym, refl, ◌∙◌, subst, inl, inr, ⊎_elim, arith, length-append}
use Rattle.std.proofs.lemmas.Bool.{eqb-true, eqb-false, cases_eq, and_parts, cond_both}
use Rattle.theory.specs.Amounts.{Amount, nothing, closed}
use Rattle.theory.specs.Places.{longest}
use Rattle.theory.specs.Options.{route}
use Rattle.theory.specs.Breakdowns.{spent, start}
use Rattle.theory.specs.Tables.{Table, top_byte, Sound, own, enter, breakdown, most_options}
use Rattle.theory.proofs.Routes.{route_length, route_open, route_byte}
use Rattle.theory.proofs.Totals.{Regular, Bounded, total_is_spent}

-- not reached: nothing is posted, and only byte 0 is open
pub unreached : (b : ℕ) → (cond (eqb b 0) nothing closed).is_open ≡ true → b ≡ 0
unreached b = grind arith

module _ (g : Table) where
  -- a top component starts at its first place, any other where its parent is repaired
  pub enter_top : (i e : ℕ) → g.parent i ≡ 0 → enter g i e ≡ g.first i
  enter_top i e h = grind arith

  pub enter_under : (i e : ℕ) → (g.parent i ≡ 0 → ⊥) → enter g i e ≡ e
  enter_under i e h = grind arith

  -- what holds of a component that is not reached, and of one that goes its route, holds of what it posts
  own_either :
      (i s b : ℕ) (Q : Amount → Type 0) → (s ≡ 0 → Q (cond (eqb b 0) nothing closed)) → (0 < s → Q (route g.places.up (g.options i) (g.places.above s) s b))
      → Q (own g i s b)
  own_either i s b Q h k = cond_both (eqb s 0) _ _ Q (λ e. h (eqb-true s 0 e)) (λ e. let n = eqb-false s 0 e in k (omega arith))

module _ (g : Table) (ok : Sound g) where
  own_length : (i s b : ℕ) → length (own g i s b).row ≤ longest
  own_length i s b = own_either g i s b (λ a. length a.row ≤ longest)
      (λ _. cond_both (eqb b 0) nothing closed (λ a. length a.row ≤ longest) (λ _. omega arith) (λ _. omega arith))
      (λ _. omega (arith, route_length g.places.up (g.options i) (g.places.above s) s b, ok.rising.short s))

  own_posts : (i s b c : ℕ) → (own g i s b).is_open ≡ true → (own g i s c).is_open ≡ true → ((0 < length (own g i s b).row) × (0 < length (own g i s c).row)) ⊎ (b ≡ c)
  own_posts i s b c = go (eqb s 0)
    where
      way : ℕ → Amount
      way v = route g.places.up (g.options i) (g.places.above s) s v

      go : (z : Bool) → (cond z (cond (eqb b 0) nothing closed) (way b)).is_open ≡ true → (cond z (cond (eqb c 0) nothing closed) (way c)).is_open ≡ true → ((0 < length (cond z (cond (eqb b 0) nothing closed) (way b)).row) × (0 < length (cond z (cond (eqb c 0) nothing closed) (way c)).row)) ⊎ (b ≡ c)
      go true p q = inr (unreached b p ∙ sym (unreached c q))
      go false p q = inl (route_open g.places.up (g.options i) (g.places.above s) s b p, route_open g.places.up (g.options i) (g.places.above s) s c q)

  pub regular : Regular (breakdown g)
  regular = record { after_parent = ok.after_parent; ranks = ok.ranks; posts = own_posts }

  -- at most 4 postings for each component
  spent_length : (n : ℕ) (a : ℕ → ℕ) → length (spent (breakdown g) n a).row ≤ longest * n
  spent_length zero a = omega arith
  spent_length (suc n) a =
      let mine = own g (suc n) (start (breakdown g) a (suc n)) (a (suc n)) in
      omega (arith, spent_length n a, length-append (spent (breakdown g) n a).row mine.row, own_length (suc n) (start (breakdown g) a (suc n)) (a (suc n)))

  pub spent_fits : (a : ℕ → ℕ) → length (spent (breakdown g) g.size a).row ≤ most_options
  spent_fits a = omega (arith, spent_length g.size a, ok.few)

  pub bounded : Bounded (breakdown g) g.size (λ _ _. nothing)
  bounded a = subst (λ x. length x.row ≤ most_options) (sym (total_is_spent (breakdown g) a g.size)) (spent_fits a)

  -- ---- bytes that are open
  own_byte : (i s b : ℕ) → (own g i s b).is_open ≡ true → b ≤ top_byte g
  own_byte i s b = own_either g i s b (λ a. a.is_open ≡ true → b ≤ top_byte g)
      (λ _ h. omega (arith, unreached b h))
      (λ _. route_byte g.places ok.rising (g.options i) (g.places.above s) s b refl)

  pub open_bytes : (a : ℕ → ℕ) (n : ℕ) → (spent (breakdown g) n a).is_open ≡ true → (i : ℕ) → i < n → a (suc i) ≤ top_byte g
  open_bytes a zero e i l = absurd (omega arith)
  open_bytes a (suc n) e i l =
      let two = and_parts _ _ e in
      ⊎_elim
      (λ is. subst (λ j. a (suc j) ≤ top_byte g) (sym is) (own_byte (suc n) (start (breakdown g) a (suc n)) (a (suc n)) two.1))
      (λ d. open_bytes a n two.0 i (omega arith))
      (cases_eq i n)

  own_some : (i s b : ℕ) → 0 < s → (own g i s b).is_open ≡ true → 0 < length (own g i s b).row
  own_some i s b h = grind arith

  -- the first component is a top component, so bytes that are open post something
  pub open_posts : (a : ℕ → ℕ) (n : ℕ) → 0 < n → (spent (breakdown g) n a).is_open ≡ true → 0 < length (spent (breakdown g) n a).row
  open_posts a zero l e = absurd (omega arith)
  open_posts a (suc zero) l e =
      let whole : g.parent 1 ≡ 0 = omega (arith, ok.after_parent 0) in
      let e1 : start (breakdown g) a 1 ≡ g.first 1 = enter_top g 1 _ whole in
      own_some 1 (start (breakdown g) a 1) (a 1) (omega (arith, ok.starts 0 whole)) e
  open_posts a (suc (suc n)) l e = omega (arith, length-append (spent (breakdown g) (suc n) a).row (own g (suc (suc n)) (start (breakdown g) a (suc (suc n))) (a (suc (suc n)))).row, open_posts a (suc n) (omega arith) (and_parts _ _ e).0)
