-- A plan has at most 256 postings: at each echelon a component uses at most one option.
use Rattle.std.proofs.Common.{◌≡◌, ℕ, zero, suc, ◌+◌, ◌*◌, ◌≤◌, Bool, true, false, cond, List, [], ◌∷◌, ◌++◌, length, Some, None, Option, ap, suc-mul, arith}
use Rattle.std.proofs.lemmas.Grind.{common_steps}
use Rattle.costs.specs.declared.posting.Posting.{Posting}
use Rattle.model.specs.declared.question.Question.{Question}
use Rattle.model.specs.declared.question.Question.TheVariants.{OfResource}
use Rattle.model.specs.Books.{Book}
use Rattle.model.specs.Studies.{Model, Limits}
use Rattle.plans.specs.Ranges.{those, upto}
use Rattle.plans.specs.Questions.{count, echelon_questions, component_questions, resource_questions, option_questions, pair_questions}
use Rattle.plans.specs.Postings.{posting, add_posting, postings_for}
use Rattle.plans.specs.Uses.{uses}
use Rattle.plans.specs.Plans.{used_questions}
use Rattle.plans.specs.Laws.{PostingsFit}
use Rattle.plans.proofs.Fitting.{postings_within}

-- how many of a list pass
abbrev passing : {A : Type 0} → (A → Bool) → List A → ℕ
passing f xs = length (those f xs)

passing_append : {A : Type 0} (f : A → Bool) (xs ys : List A) → passing f (xs ++ ys) ≡ passing f xs + passing f ys
passing_append f xs ys = grind (arith, common_steps)

-- where at most m of each part pass, at most n * m of n parts
passing_upto : {A : Type 0} (f : A → Bool) (g : ℕ → List A) (m : ℕ) → ((i : ℕ) → passing f (g i) ≤ m) → (n : ℕ) → passing f (upto g n) ≤ n * m
passing_upto f g m few zero = omega arith
passing_upto f g m few (suc n) = omega (arith, passing_append f (upto g n) (g n), passing_upto f g m few n, few n, suc-mul n m)

-- of the three options at one echelon at most one is used
echelon_passes : (s : Model) (plan : List ℕ) (i e : ℕ) → passing (uses s plan) (echelon_questions s.echelons i e) ≤ 1
echelon_passes s plan i e = grind arith

component_passes : (s : Model) (plan : List ℕ) → Limits s → (i : ℕ) → passing (uses s plan) (component_questions s.echelons i) ≤ 4
component_passes s plan l i = omega (arith, passing_upto (uses s plan) (λ k. echelon_questions s.echelons i (suc k)) 1 (λ k. echelon_passes s plan i (suc k)) s.echelons, l.few_echelons)

options_pass : (s : Model) (plan : List ℕ) → Limits s → passing (uses s plan) (option_questions s) ≤ 240
options_pass s plan l = omega (arith, passing_upto (uses s plan) (component_questions s.echelons) 4 (component_passes s plan l) (count s), l.few_components)

-- one question at most passes for each pair
pair_passes : (b : Bool) (q : Question) → length (cond b (q ∷ []) []) ≤ 1
pair_passes true q = omega arith
pair_passes false q = omega arith

pairs_pass : (s : Model) (plan : List ℕ) → Limits s → passing (uses s plan) (pair_questions s) ≤ 16
pairs_pass s plan l =
    let each : (r : ℕ) → passing (uses s plan) (resource_questions s.echelons r) ≤ s.echelons * 1 = λ r. passing_upto (uses s plan) (λ k. OfResource r (suc k) ∷ []) 1 (λ k. pair_passes (uses s plan (OfResource r (suc k))) (OfResource r (suc k))) s.echelons in
    let same : s.echelons * 1 ≡ s.echelons = omega arith in
    let all = passing_upto (uses s plan) (resource_questions s.echelons) (s.echelons * 1) each s.resources in
    omega (arith, all, ap (λ (e : ℕ). s.resources * e) same, l.few_pairs)

-- what is not open posts nothing
posted_more : (p : Option Posting) (ps : List Posting) → length (add_posting p ps) ≤ suc (length ps)
posted_more None ps = omega arith
posted_more (Some p) ps = omega arith

postings_few : (s : Model) (b : Book) (qs : List Question) → length (postings_for s b qs) ≤ length qs
postings_few s b [] = omega arith
postings_few s b (q ∷ qs) = omega (arith, posted_more (posting s b q) (postings_for s b qs), postings_few s b qs)

pub postings_fit : PostingsFit
postings_fit s b plan l k =
    let few = postings_few s b (used_questions s plan) in
    (postings_within s b l k (used_questions s plan), omega (arith, few, passing_append (uses s plan) (option_questions s) (pair_questions s), options_pass s plan l, pairs_pass s plan l))
