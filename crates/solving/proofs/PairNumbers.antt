-- Pairs by number: the pairs of a resource stand one after another, and one pair's mark is changed without the others'.
use Rattle.std.proofs.Common.{◌≡◌, ℕ, zero, suc, ◌+◌, ◌*◌, ◌/◌, ◌%◌, ◌<◌, Bool, true, ◌||◌, List, [], ◌++◌, length, get_or, set, sym, refl, ap, ◌∙◌, ⊎_elim, append_assoc, append-nil, add-zero, add-suc, mod-eq_of_lt, suc-mul, div-add-mod', zero-mul, arith}
use native.Mathlib.Nat.{mul-add-div_right, mul-add-mod_self_right, div-eq_of_lt}
use Rattle.std.proofs.lemmas.List.{get_or_past, get_or-set_same, get_or-set_other}
use Rattle.std.proofs.lemmas.Bool.{cases_eq, cases_lt, eq-eqb, ne_eqb}
use Rattle.plans.specs.Ranges.{upto}
use Rattle.theory.specs.Searches.{With, Same}
use Rattle.solving.specs.declared.mark.Mark.{Mark}
use Rattle.solving.specs.declared.mark.Mark.TheVariants.{Held, Free}
use Rattle.solving.specs.Marked.{mark_at, mark_of, marking}

-- ---- the resource and the place of a pair
pub resource_of : (last r place : ℕ) → place < last → (r * last + place) / last ≡ r
resource_of last r place h = let p : 0 < last = omega arith in mul-add-div_right p r place ∙ ap (λ n. r + n) (div-eq_of_lt h) ∙ add-zero r

pub place_of : (last r place : ℕ) → place < last → (r * last + place) % last ≡ place
place_of last r place h = mul-add-mod_self_right r last place ∙ mod-eq_of_lt h

-- ---- lists over the numbers below n
pub upto_same : {A : Type 0} (f g : ℕ → List A) (n : ℕ) → ((i : ℕ) → i < n → f i ≡ g i) → upto f n ≡ upto g n
upto_same f g zero h = refl
upto_same f g (suc n) h = ap (λ xs. xs ++ f n) (upto_same f g n (λ i l. h i (omega arith))) ∙ ap (λ xs. upto g n ++ xs) (h n (omega arith))

upto_join : {A : Type 0} (f : ℕ → List A) (n m : ℕ) → upto f (n + m) ≡ upto f n ++ upto (λ i. f (n + i)) m
upto_join f n zero = ap (upto f) (add-zero n) ∙ sym (append-nil (upto f n))
upto_join f n (suc m) = ap (upto f) (add-suc n m) ∙ ap (λ xs. xs ++ f (n + m)) (upto_join f n m) ∙ append_assoc (upto f n) (upto (λ i. f (n + i)) m) (f (n + m))

-- what stands by pair number stands by resource, and there by place
pub upto_rows : {A : Type 0} (f : ℕ → List A) (last n : ℕ) → upto f (n * last) ≡ upto (λ r. upto (λ place. f (r * last + place)) last) n
upto_rows f last zero = ap (upto f) (zero-mul last)
upto_rows f last (suc n) = ap (upto f) (suc-mul n last) ∙ upto_join f (n * last) last ∙ ap (λ xs. xs ++ upto (λ place. f (n * last + place)) last) (upto_rows f last n)

-- ---- one pair marked anew
-- a place that is free is one of the line's
free_in : (line : List Mark) (place : ℕ) → get_or line place Held ≡ Free → place < length line
free_in line place free = ⊎_elim (λ h. h) (λ h. absurd (let past = get_or_past line place Held h in let w : ◌≡◌ {A = ℕ} 0 1 = cc in omega arith)) (cases_lt place (length line))

free_among : (marks : List (List Mark)) (r place : ℕ) → mark_at marks r place ≡ Free → r < length marks
free_among marks r place free = ⊎_elim (λ h. h) (λ h. absurd (let past = free_in [] place (ap (λ line. get_or line place Held) (sym (get_or_past marks r [] h)) ∙ free) in omega arith)) (cases_lt r (length marks))

module _ (marks : List (List Mark)) (last r place : ℕ) (l : place < last) (free : mark_at marks r place ≡ Free) (m : Mark) where
  line_set : get_or (marking marks r place m) r [] ≡ set (get_or marks r []) place m
  line_set = get_or-set_same marks r (set (get_or marks r []) place m) [] (free_among marks r place free)

  -- the pair itself
  marked_here : mark_of (marking marks r place m) last (r * last + place) ≡ m
  marked_here =
      ap (λ i. get_or (get_or (marking marks r place m) i []) ((r * last + place) % last) Held) (resource_of last r place l)
      ∙ ap (λ i. get_or (get_or (marking marks r place m) r []) i Held) (place_of last r place l)
      ∙ ap (λ line. get_or line place Held) line_set
      ∙ get_or-set_same (get_or marks r []) place m Held (free_in (get_or marks r []) place free)

  was_free : mark_of marks last (r * last + place) ≡ Free
  was_free =
      ap (λ i. get_or (get_or marks i []) ((r * last + place) % last) Held) (resource_of last r place l)
      ∙ ap (λ i. get_or (get_or marks r []) i Held) (place_of last r place l)
      ∙ free

  -- any other pair
  marked_other : (i : ℕ) → (i ≡ r * last + place → ⊥) → mark_of (marking marks r place m) last i ≡ mark_of marks last i
  marked_other i differs = ⊎_elim
      (λ same.
      let apart : i % last ≡ place → ⊥ = λ e. differs (sym (div-add-mod' i last) ∙ ap (λ n. n * last + i % last) same ∙ ap (λ n. r * last + n) e) in
      ap (λ n. get_or (get_or (marking marks r place m) n []) (i % last) Held) same
      ∙ ap (λ line. get_or line (i % last) Held) line_set
      ∙ get_or-set_other (get_or marks r []) place (i % last) m Held apart
      ∙ ap (λ n. get_or (get_or marks n []) (i % last) Held) (sym same))
      (λ apart. ap (λ line. get_or line (i % last) Held) (get_or-set_other marks r (i / last) (set (get_or marks r []) place m) [] apart))
      (cases_eq (i / last) r)

  -- a test that the new mark passes: the pair passes now, and every other as before
  pub passes_with : (f : Mark → Bool) (n : ℕ) → f m ≡ true → With n (r * last + place) (λ i. f (mark_of marks last i)) (λ i. f (mark_of (marking marks r place m) last i))
  passes_with f n passes i h = ⊎_elim
      (λ e. ap (λ j. f (mark_of (marking marks r place m) last j)) e ∙ ap f marked_here ∙ passes ∙ sym (ap (λ t. t || f (mark_of marks last i)) (eq-eqb i (r * last + place) e)))
      (λ d. ap f (marked_other i d) ∙ sym (ap (λ t. t || f (mark_of marks last i)) (ne_eqb i (r * last + place) d)))
      (cases_eq i (r * last + place))

  -- a test that the new mark passes as a free one does: every pair passes as before
  pub passes_same : (f : Mark → Bool) (n : ℕ) → f m ≡ f Free → Same n (λ i. f (mark_of marks last i)) (λ i. f (mark_of (marking marks r place m) last i))
  passes_same f n alike i h = ⊎_elim
      (λ e. ap (λ j. f (mark_of (marking marks r place m) last j)) e ∙ ap f marked_here ∙ alike ∙ ap f (sym was_free) ∙ ap (λ j. f (mark_of marks last j)) (sym e))
      (λ d. ap f (marked_other i d))
      (cases_eq i (r * last + place))
