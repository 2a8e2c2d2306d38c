-- A list that is filled place by place.
use Rattle.std.proofs.Common.{◌≡◌, ℕ, ◌+◌, ◌<◌, ◌≢◌, List, length, get_or, set, Ok, Err, Result, ◌∙◌, arith, below_more, length-set}
use Rattle.std.proofs.lemmas.List.{get_or-set_same, get_or-set_other}
use Rattle.model.specs.declared.question.Question.{Question}
use Rattle.model.specs.declared.answer.Fault.{Fault}
use Rattle.model.specs.Books.{Book}
use Rattle.planning.specs.Asking.{Asked, Filled}

-- one row more
pub rows_more : {A : Type 0} (row : ℕ → A) (xs : List A) (i : ℕ) (x d : A) → i < length xs → ((k : ℕ) → k < i → get_or xs k d ≡ row k) → x ≡ row i → (k : ℕ) → k < i + 1 → get_or (set xs i x) k d ≡ row k
rows_more row xs i x d h below here =
    below_more _ _
    (λ k l. let ne : k ≢ i = omega arith in get_or-set_other xs i k x d ne ∙ below k l)
    (get_or-set_same xs i x d h ∙ here)

-- one place more
pub filled_more : {A : Type 0} (f : ℕ → A) (held xs : List A) (i : ℕ) (x : A) → i < length held → Filled f i held xs → x ≡ f i → Filled f (i + 1) held (set xs i x)
filled_more {A} f held xs i x l so_far here =
    let h : i < length xs = omega (arith, so_far.long) in
    record {
      long = length-set xs i x ∙ so_far.long;
      first = λ k d. rows_more f xs i x d h (λ j. so_far.first j d) here k;
      others = λ k d m. let ne : k ≢ i = omega arith in get_or-set_other xs i k x d ne ∙ so_far.others k d (omega arith);
    }

-- what was learned, said in other words
pub asked_as : {A : Type 0} (b : Book) (qs : List Question) (P Q : A → Type 0) → ((x : A) → P x → Q x) → (r : Result A Fault) → Asked b qs P r → Asked b qs Q r
asked_as b qs P Q same (Ok x) is = (is.0, same x is.1)
asked_as b qs P Q same (Err f) is = is
