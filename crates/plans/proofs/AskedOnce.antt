-- The survey asks no question twice.
use Rattle.std.proofs.Common.{◌≡◌, ℕ, suc, ltb, [], ◌∷◌, ap, arith}
use Rattle.std.proofs.lemmas.Bool.{cond_both}
use Rattle.model.specs.declared.question.Question.{Question}
use Rattle.model.specs.declared.question.Question.TheVariants.{OfOption, OfResource}
use Rattle.model.specs.declared.question.RepairOption.{RepairOption}
use Rattle.model.specs.declared.question.RepairOption.TheVariants.{Discard, Repair, Move}
use Rattle.model.specs.Letters.{letter}
use Rattle.model.specs.Studies.{Model}
use Rattle.plans.specs.Questions.{count, echelon_questions, component_questions, resource_questions, option_questions, pair_questions, questions}
use Rattle.plans.specs.Laws.{Distinct}
use Rattle.plans.proofs.Members.{among_none, among_neither, among_one}
use Rattle.plans.proofs.Apart.{Apart, distinct_append, distinct_upto}
use Rattle.plans.proofs.Surveyed.{asked_at, asked_of_component, asked_of_resource, asked_of_pairs, asked_of_options}

-- two options of a component at an echelon are two questions
unlike : (i e : ℕ) (o p : RepairOption) → (letter o ≡ letter p → ⊥) → OfOption i e o ≡ OfOption i e p → ⊥
unlike i e o p differ h = grind arith

distinct_at : (last i e : ℕ) → Distinct (echelon_questions last i e)
distinct_at last i e =
    let discard_repair = unlike i e Discard Repair (λ z. omega arith) in
    let discard_move = unlike i e Discard Move (λ z. omega arith) in
    let repair_move = unlike i e Repair Move (λ z. omega arith) in
    cond_both (ltb e last) (OfOption i e Move ∷ []) [] (λ moves. Distinct (OfOption i e Discard ∷ OfOption i e Repair ∷ moves))
    (λ _. (among_neither discard_repair (among_neither discard_move among_none), (among_neither repair_move among_none, (among_none, tt))))
    (λ _. (among_neither discard_repair among_none, (among_none, tt)))

-- the component or resource that a question is about, counted from 1 as the echelons are, and its echelon
abbrev subject : Question → ℕ
subject (OfOption i e o) = suc i
subject (OfResource r e) = suc r

abbrev echelon : Question → ℕ
echelon (OfOption i e o) = e
echelon (OfResource r e) = e

distinct_component : (last i : ℕ) → Distinct (component_questions last i)
distinct_component last i = distinct_upto _ echelon (λ k. distinct_at last i (suc k)) (λ k q m. ap echelon (asked_at last i (suc k) q m).1) last

distinct_options : (s : Model) → Distinct (option_questions s)
distinct_options s = distinct_upto _ subject (distinct_component s.echelons) (λ i q m. ap subject (asked_of_component s.echelons i q m).1.1) (count s)

distinct_resource : (last r : ℕ) → Distinct (resource_questions last r)
distinct_resource last r = distinct_upto _ echelon (λ k. (among_none, tt)) (λ k q m. ap echelon (among_one m)) last

distinct_pairs : (s : Model) → Distinct (pair_questions s)
distinct_pairs s = distinct_upto _ subject (distinct_resource s.echelons) (λ r q m. ap subject (asked_of_resource s.echelons r q m).1) s.resources

pub distinct_questions : (s : Model) → Distinct (questions s)
distinct_questions s = distinct_append (option_questions s) (pair_questions s) (distinct_options s) (distinct_pairs s) apart
  where
    apart : Apart (option_questions s) (pair_questions s)
    apart q m n =
        let one = asked_of_options s q m in
        let other = asked_of_pairs s q n in
        cc (one.2.1.1, other.1.1)
