-- The sum over the components and over the resources, one after another, by their rows in the survey.
use Rattle.std.proofs.Common.{◌≡◌, ℕ, ◌+◌, ◌<◌, ◌≤◌, List, [], ◌∷◌, length, drop, get_or, None, Option, sym, refl, ap, ◌∙◌, subst, add-one, inl, inr, arith}
use Rattle.std.proofs.lemmas.List.{drop_more, get_or_past}
use Rattle.std.proofs.lemmas.Bool.{cases_lt}
use Rattle.costs.specs.declared.posting.Posting.{Posting}
use Rattle.costs.specs.Kinds.{Adding}
use Rattle.model.specs.declared.question.Question.{Question}
use Rattle.model.specs.declared.question.Question.TheVariants.{OfResource}
use Rattle.model.specs.Books.{Book, KeepsLimits}
use Rattle.model.specs.Studies.{Model, Limits}
use Rattle.plans.specs.Ranges.{upto}
use Rattle.plans.specs.Questions.{count, component_questions, resource_questions, option_questions, pair_questions}
use Rattle.plans.specs.Postings.{summed}
use Rattle.plans.specs.Plans.{postings}
use Rattle.plans.specs.Starts.{byte, start}
use Rattle.plans.specs.Uses.{uses}
use Rattle.plans.proofs.Counting.{postings_fit}
use Rattle.planning.specs.declared.table.Survey.{Survey}
use Rattle.planning.specs.Surveys.{no_options, no_resource, resource_row, Keeps}
use Rattle.planning.specs.Sums.{Adds, AddsUsed, of_component, of_resource, used_postings}
use Rattle.planning.proofs.Adding.{adds_none, adds_then}
use Rattle.planning.proofs.Kept.{used_append, component_used, resource_used}

module _ (s : Model) (plan : List ℕ) (t : Survey) (limits : Limits s) where
  -- what the row of a component adds, and of a resource
  pub component_kept : (i a c : ℕ) → i < count s → a ≡ start s plan i → c ≡ byte plan i → (b : Book) → Keeps s b t → of_component a c (get_or t.options i no_options) ≡ used_postings s b plan (component_questions s.echelons i)
  component_kept i a c h starts has b keeps =
      ap (λ n. of_component n c (get_or t.options i no_options)) starts
      ∙ ap (λ n. of_component (start s plan i) n (get_or t.options i no_options)) has
      ∙ ap (of_component (start s plan i) (byte plan i)) (keeps.options i h)
      ∙ component_used s b plan i limits

  pub resource_kept : (r q : ℕ) (row : List (Option Posting)) → r < s.resources → q ≡ r → row ≡ get_or t.resources r no_resource → (b : Book) → Keeps s b t → of_resource (λ e. uses s plan (OfResource q e)) row ≡ used_postings s b plan (resource_questions s.echelons r)
  resource_kept r q row h same read b keeps =
      ap (λ n. of_resource (λ e. uses s plan (OfResource n e)) row) same
      ∙ ap (of_resource (λ e. uses s plan (OfResource r e))) (read ∙ keeps.resources r h)
      ∙ resource_used s b plan r limits

-- a survey has a row for each resource of the study
row_there : (s : Model) (b : Book) (t : Survey) → Keeps s b t → (r : ℕ) → r < s.resources → r < length t.resources
row_there s b t kept r h =
    elim (cases_lt r (length t.resources)) [
      | inl l ↦ l
      | inr g ↦
          let none : no_resource ≡ resource_row s b r = sym (get_or_past t.resources r no_resource g) ∙ kept.resources r h in
          absurd (omega (arith, ap length none))
    ]

-- where the rows have come to their end, so have the resources
pub all_read : (s : Model) (b : Book) (t : Survey) → Keeps s b t → (r : ℕ) → r ≤ s.resources → length t.resources ≤ r → r ≡ s.resources
all_read s b t kept r h past =
    elim (cases_lt r s.resources) [ inl l ↦ absurd (omega (arith, row_there s b t kept r l)) | inr g ↦ omega arith ]

-- the next element of a list that is read from the front, and what is left
pub next_read : {A : Type 0} (xs : List A) (i j : ℕ) (none x : A) (rest ys : List A) → i < length xs → rest ≡ drop i xs → rest ≡ x ∷ ys → j ≡ i + 1 → (ys ≡ drop j xs) × (x ≡ get_or xs i none)
next_read xs i j none x rest ys h left takes next =
    let split : get_or xs i none ∷ drop (i + 1) xs ≡ x ∷ ys = sym (drop_more xs i none h) ∙ sym left ∙ takes in
    (cc, cc)

module _ {C : Type 0} (k : Adding C) (s : Model) (plan : List ℕ) (t : Survey) where
  -- before the first nothing is added
  pub used_none : (sum : Option C) → AddsUsed k s t plan sum [] sum
  used_none sum b keeps = adds_none k sum

  -- one part more
  pub used_more : (f : ℕ → List Question) (before sum after : Option C) (i : ℕ) (new : List Posting) → ((b : Book) → Keeps s b t → new ≡ used_postings s b plan (f i)) → AddsUsed k s t plan before (upto f i) sum → Adds k sum new after → AddsUsed k s t plan before (upto f (i + 1)) after
  used_more f before sum after i new is so_far adds b keeps =
      let next = subst (λ ps. Adds k sum ps after) (is b keeps) adds in
      let both = adds_then k before sum after (used_postings s b plan (upto f i)) (used_postings s b plan (f i)) (so_far b keeps) next in
      let joined = sym (used_append s b plan (upto f i) (f i)) ∙ ap (λ n. used_postings s b plan (upto f n)) (sym (add-one i)) in
      subst (λ ps. Adds k before ps after) joined both

  -- the options, and then the pairs
  pub plan_total : Limits s → (options r : Option C) → AddsUsed k s t plan None (option_questions s) options → AddsUsed k s t plan options (pair_questions s) r → (b : Book) → KeepsLimits b → Keeps s b t → r ≡ summed k (postings s b plan)
  plan_total limits options r first then' b limited keeps =
      let os = option_questions s in
      let qs = pair_questions s in
      let both = adds_then k None options r (used_postings s b plan os) (used_postings s b plan qs) (first b keeps) (then' b keeps) in
      let all = subst (λ ps. Adds k None ps r) (sym (used_append s b plan os qs)) both in
      all [] refl (postings_fit s b plan limits limited)
