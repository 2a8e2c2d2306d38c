-- The first fault where lists of questions are asked one after another.
use Rattle.std.proofs.Common.{◌≡◌, ℕ, zero, suc, ◌+◌, ◌<◌, ◌≤◌, Bool, cond, List, [], ◌∷◌, ◌++◌, Some, None, Option, Ok, Result, sym, refl, ap, ◌∙◌, subst, inl, inr, append_assoc, append-nil, add-one, arith}
use Rattle.std.proofs.lemmas.Bool.{cases_lt, le-leb, lt-leb}
use Rattle.model.specs.declared.question.Question.{Question}
use Rattle.model.specs.declared.answer.Fault.{Fault}
use Rattle.model.specs.Books.{Book}
use Rattle.plans.specs.Ranges.{upto, or_else}
use Rattle.plans.specs.Questions.{first_fault, fault_of}
use Rattle.planning.specs.Asking.{Asked}
use Rattle.planning.specs.Surveys.{until}

regroup : {A : Type 0} (x y z : Option A) → or_else x (or_else y z) ≡ or_else (or_else x y) z
regroup None y z = refl
regroup (Some a) y z = refl

-- the first list's fault, else the second's
faults_append : (b : Book) (xs ys : List Question) → first_fault b (xs ++ ys) ≡ or_else (first_fault b xs) (first_fault b ys)
faults_append b [] ys = refl
faults_append b (q ∷ xs) ys = ap (or_else (fault_of (b q))) (faults_append b xs ys) ∙ regroup (fault_of (b q)) (first_fault b xs) (first_fault b ys)

-- where the first list has no fault, the second decides
pub past : (b : Book) (xs ys : List Question) {o : Option Fault} → first_fault b xs ≡ None → first_fault b ys ≡ o → first_fault b (xs ++ ys) ≡ o
past b xs ys p q = faults_append b xs ys ∙ ap (λ x. or_else x (first_fault b ys)) p ∙ q

-- a fault of the first list is the fault of both
pub stops : (b : Book) (xs ys : List Question) {f : Fault} → first_fault b xs ≡ Some f → first_fault b (xs ++ ys) ≡ Some f
stops b xs ys p = faults_append b xs ys ∙ ap (λ x. or_else x (first_fault b ys)) p

-- one list more without a fault
pub upto_more : (b : Book) (f : ℕ → List Question) (i : ℕ) → first_fault b (upto f i) ≡ None → first_fault b (f i) ≡ None → first_fault b (upto f (i + 1)) ≡ None
upto_more b f i p q = rw add-one (past b (upto f i) (f i) p q)

-- the list at which a fault is met decides for all
pub upto_stops : (b : Book) (f : ℕ → List Question) (n i : ℕ) {x : Fault} → i < n → first_fault b (upto f i) ≡ None → first_fault b (f i) ≡ Some x → first_fault b (upto f n) ≡ Some x
upto_stops b f zero i h p q = absurd (omega arith)
upto_stops b f (suc n) i {x} h p q =
    elim (cases_lt i n) [
      | inl l ↦ stops b (upto f n) (f n) (upto_stops b f n i l p q)
      | inr g ↦
          let e : i ≡ n = omega arith in
          let p2 : first_fault b (upto f n) ≡ None = subst (λ k. first_fault b (upto f k) ≡ None) e p in
          let q2 : first_fault b (f n) ≡ Some x = subst (λ k. first_fault b (f k) ≡ Some x) e q in
          past b (upto f n) (f n) p2 q2
    ]

-- what is asked at the echelons up to the last is what is asked at the echelons 1 to 4, where those past the last have
-- nothing
four_echelons : (questions : ℕ → List Question) (last : ℕ) → last ≤ 4 → upto (λ k. questions (suc k)) last ≡ until last [] questions 1 ++ (until last [] questions 2 ++ (until last [] questions 3 ++ until last [] questions 4))
four_echelons questions zero h = refl
four_echelons questions (suc zero) h = sym (append-nil (questions 1))
four_echelons questions (suc (suc zero)) h = ap (λ t. questions 1 ++ t) (sym (append-nil (questions 2)))
four_echelons questions (suc (suc (suc zero))) h =
    append_assoc (questions 1) (questions 2) (questions 3) ∙ ap (λ t. questions 1 ++ (questions 2 ++ t)) (sym (append-nil (questions 3)))
four_echelons questions (suc (suc (suc (suc zero)))) h =
    append_assoc (questions 1 ++ questions 2) (questions 3) (questions 4) ∙ append_assoc (questions 1) (questions 2) (questions 3 ++ questions 4)
four_echelons questions (suc (suc (suc (suc (suc n))))) h = absurd (omega arith)

-- so the first fault is that of the first echelon that has one
pub echelon_faults : (b : Book) (questions : ℕ → List Question) (last : ℕ) → last ≤ 4 → first_fault b (upto (λ k. questions (suc k)) last) ≡ or_else (first_fault b (until last [] questions 1)) (or_else (first_fault b (until last [] questions 2)) (or_else (first_fault b (until last [] questions 3)) (first_fault b (until last [] questions 4))))
echelon_faults b questions last h =
    let w = until last [] questions 1 in
    let x = until last [] questions 2 in
    let y = until last [] questions 3 in
    let z = until last [] questions 4 in
    ap (first_fault b) (four_echelons questions last h)
    ∙ faults_append b w (x ++ (y ++ z))
    ∙ ap (or_else (first_fault b w)) (faults_append b x (y ++ z) ∙ ap (or_else (first_fault b x)) (faults_append b y z))

-- what is answered at one echelon, where nothing is asked past the last
pub until_asked : {A : Type 0} {Answers : ℕ → Result A Fault → Type 0} (b : Book) (questions : ℕ → List Question) (kept : ℕ → A) (last : ℕ) (none : A) → ((e : ℕ) (r : Result A Fault) → Answers e r → Asked b (questions e) (λ x. x ≡ kept e) r) → (e : ℕ) (r : Result A Fault) → (e ≤ last → Answers e r) × (last < e → r ≡ Ok none) → Asked b (until last [] questions e) (λ x. x ≡ until last none kept e) r
until_asked b questions kept last none asks e r is =
    let Is : Bool → Type 0 = λ t. Asked b (cond t (questions e) []) (λ x. x ≡ cond t (kept e) none) r in
    elim (cases_lt last e) [
      | inl l ↦ subst Is (sym (lt-leb e last l)) (subst (Asked b [] (λ x. x ≡ none)) (sym (is.1 l)) (refl, refl))
      | inr g ↦ subst Is (sym (le-leb e last g)) (asks e r (is.0 g))
    ]
