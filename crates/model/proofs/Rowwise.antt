-- The rows stay sound when one is added at the end, when the last is removed and when one gets other needs.
use Rattle.std.proofs.Common.{◌≡◌, ℕ, suc, ◌<◌, ◌≤◌, true, List, [], ◌∷◌, ◌++◌, length, get_or, take, set, Some, None, Option, sym, refl, ap, ◌∙◌, subst, inl, inr, arith}
use Rattle.std.proofs.lemmas.Bool.{cases_eq, cases_lt, ltb-true, lt-ltb}
use Rattle.std.proofs.lemmas.List.{get_or_append_left, get_or_push, length_push, length-take, get_or-take, length-set, get_or-set_same, get_or-set_other}
use Rattle.model.specs.declared.component.Component.{Component}
use Rattle.model.specs.declared.component.Needs.{Needs}
use Rattle.model.specs.Components.{names_below, is_entered, level_under, no_component, with_needs, Row, Rows}

entered_more : (m n : ℕ) (o : Option ℕ) → m ≤ n → is_entered m o ≡ true → is_entered n o ≡ true
entered_more m n None l h = refl
entered_more m n (Some p) l h = lt-ltb p n (omega (arith, ltb-true p m h))

-- the level depends on the parent's row alone
level_same : (xs ys : List Component) (m : ℕ) (o : Option ℕ) → ((k : ℕ) → k < m → get_or ys k no_component ≡ get_or xs k no_component) → is_entered m o ≡ true → level_under xs o ≡ level_under ys o
level_same xs ys m None same h = refl
level_same xs ys m (Some p) same h = ap (λ (c : Component). suc c.level) (sym (same p (ltb-true p m h)))

-- rows that are as before below m are sound below m
module _ (q : ℕ) (xs ys : List Component) (sound : Rows q xs) (m : ℕ) (few : m ≤ length xs) (same : (k : ℕ) → k < m → get_or ys k no_component ≡ get_or xs k no_component) where
  row_kept : (k : ℕ) → k < m → Row q ys k (get_or ys k no_component)
  row_kept k l =
      let lx : k < length xs = omega arith in
      let r = sound k lx in
      let le : k ≤ m = omega arith in
      let e = level_same xs ys m (get_or xs k no_component).parent same (entered_more k m (get_or xs k no_component).parent le r.0) in
      subst (λ c. Row q ys k c) (sym (same k l)) (r.0, r.1 ∙ e, r.2, r.3, r.4)

pub rows_push : (q : ℕ) (xs : List Component) (c : Component) → Rows q xs → Row q xs (length xs) c → Rows q (xs ++ c ∷ [])
rows_push q xs c sound r k h =
    let n = length_push xs c in
    let in-xs : length xs ≤ length xs = omega arith in
    elim (cases_lt k (length xs)) [
      | inl l ↦ row_kept q xs (xs ++ c ∷ []) sound (length xs) in-xs (λ j b. get_or_append_left xs (c ∷ []) no_component j b) k l
      | inr g ↦
          let e : length xs ≡ k = omega arith in
          let o = level_same xs (xs ++ c ∷ []) (length xs) c.parent (λ j b. get_or_append_left xs (c ∷ []) no_component j b) r.0 in
          subst (λ x. Row q (xs ++ c ∷ []) k x) (sym (get_or_push xs c no_component k e)) (subst (λ j. is_entered j c.parent ≡ true) e r.0, r.1 ∙ o, r.2, r.3, r.4)
    ]

pub rows_take : (q : ℕ) (xs : List Component) (n : ℕ) → Rows q xs → Rows q (take n xs)
rows_take q xs n sound k h =
    let e = length-take n xs in
    row_kept q xs (take n xs) sound (length (take n xs)) (omega arith) (λ j b. let bn : j < n = omega arith in get_or-take n xs j no_component bn) k h

-- the level depends on the levels alone
level_kept : (xs ys : List Component) (o : Option ℕ) → ((p : ℕ) → (get_or ys p no_component).level ≡ (get_or xs p no_component).level) → level_under xs o ≡ level_under ys o
level_kept xs ys None same = refl
level_kept xs ys (Some p) same = ap suc (sym (same p))

pub rows_set : (q : ℕ) (xs : List Component) (i : ℕ) (n : Needs) → i < length xs → Rows q xs → names_below q n ≡ true → Rows q (set xs i (with_needs (get_or xs i no_component) n))
rows_set q xs i n l sound fit k h =
    let c = with_needs (get_or xs i no_component) n in
    let e = length-set xs i c in
    let lk : k < length xs = omega arith in
    let r = sound k lk in
    let same : (j : ℕ) → ((get_or (set xs i c) j no_component).level ≡ (get_or xs j no_component).level) =
    λ j. elim (cases_eq j i) [
      | inl z ↦ rw (z, get_or-set_same xs i c no_component l)
      | inr ne ↦ ap (λ (x : Component). x.level) (get_or-set_other xs i j c no_component ne)
    ] in
    let lev : (o : Option ℕ) → level_under xs o ≡ level_under (set xs i c) o = λ o. level_kept xs (set xs i c) o same in
    elim (cases_eq k i) [
      | inl z ↦
          let there : get_or (set xs i c) k no_component ≡ c = ap (λ j. get_or (set xs i c) j no_component) z ∙ get_or-set_same xs i c no_component l in
          let o = sound i l in
          subst (λ x. Row q (set xs i c) k x) (sym there) (subst (λ j. is_entered j c.parent ≡ true) (sym z) o.0, o.1 ∙ lev c.parent, o.2, fit, o.4)
      | inr ne ↦ subst (λ x. Row q (set xs i c) k x) (sym (get_or-set_other xs i k c no_component ne)) (r.0, r.1 ∙ lev (get_or xs k no_component).parent, r.2, r.3, r.4)
    ]
