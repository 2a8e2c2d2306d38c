-- Which questions the survey asks.
use Rattle.std.proofs.Common.{◌≡◌, ℕ, zero, suc, ◌<◌, ◌≤◌, ltb, [], ◌∷◌, sym, refl, subst, inl, inr, arith}
use Rattle.std.proofs.lemmas.Bool.{lt-ltb, cond-true, cond_both}
use Rattle.model.specs.declared.question.Question.{Question}
use Rattle.model.specs.declared.question.Question.TheVariants.{OfOption, OfResource}
use Rattle.model.specs.declared.question.RepairOption.{RepairOption}
use Rattle.model.specs.declared.question.RepairOption.TheVariants.{Discard, Repair, Move}
use Rattle.model.specs.Studies.{Model}
use Rattle.plans.specs.Questions.{count, echelon_questions, component_questions, resource_questions, option_questions, pair_questions, questions}
use Rattle.plans.specs.Laws.{Among, here, later}
use Rattle.plans.proofs.Members.{among_none, among_first, among_one, among_left, among_right, among_upto, upto_among}

-- an option stands at the echelons from 1 to the last, a move not at the last
abbrev pub Offered : ℕ → ℕ → RepairOption → Type 0
Offered last e o = (1 ≤ e) × (e ≤ last) × (o ≡ Move → e < last)

-- what is offered is asked
offered_at : (last i e : ℕ) (o : RepairOption) → (o ≡ Move → e < last) → Among (OfOption i e o) (echelon_questions last i e)
offered_at last i e Discard h = here _
offered_at last i e Repair h = later _ _ (here _)
offered_at last i e Move h =
    let offers = cond-true (ltb e last) (OfOption i e Move ∷ []) [] (lt-ltb e last (h refl)) in
    later _ _ (later _ _ (subst (λ l. Among (OfOption i e Move) l) (sym offers) (here [])))

pub offered_is_asked : (last i e : ℕ) (o : RepairOption) → Offered last e o → Among (OfOption i e o) (component_questions last i)
offered_is_asked last i zero o h = absurd (omega (arith, h.0))
offered_is_asked last i (suc k) o h = among_upto _ last k (omega (arith, h.1)) (offered_at last i (suc k) o h.2)

pub pair_is_asked : (s : Model) (r e : ℕ) → r < s.resources → 1 ≤ e → e ≤ s.echelons → Among (OfResource r e) (pair_questions s)
pair_is_asked s r zero l m n = absurd (omega arith)
pair_is_asked s r (suc k) l m n = among_upto _ s.resources r l (among_upto _ s.echelons k (omega arith) (here []))

-- what is asked of a component at an echelon is one of its options there
abbrev pub OptionAt : ℕ → ℕ → Question → Type 0
OptionAt i e q = (o : RepairOption) × (q ≡ OfOption i e o)

pub asked_at : (last i e : ℕ) (q : Question) → Among q (echelon_questions last i e) → OptionAt i e q
asked_at last i e q m =
    elim (among_first m) [
      | inl a ↦ (Discard, a)
      | inr l ↦ elim (among_first l) [
        | inl b ↦ (Repair, b)
        | inr k ↦
            cond_both (ltb e last) (OfOption i e Move ∷ []) [] (λ l. Among q l → OptionAt i e q)
            (λ _ n. (Move, among_one n)) (λ _ n. absurd (among_none n)) k
      ]
    ]

-- of a component, one of its options at some echelon
abbrev pub OptionOf : ℕ → Question → Type 0
OptionOf i q = (e : ℕ) × OptionAt i e q

pub asked_of_component : (last i : ℕ) (q : Question) → Among q (component_questions last i) → OptionOf i q
asked_of_component last i q m = let at = upto_among _ last m in (suc at.0, asked_at last i (suc at.0) q at.2)

-- of a resource, its pair with some echelon
abbrev pub PairOf : ℕ → Question → Type 0
PairOf r q = (e : ℕ) × (q ≡ OfResource r e)

pub asked_of_resource : (last r : ℕ) (q : Question) → Among q (resource_questions last r) → PairOf r q
asked_of_resource last r q m =
    let at = upto_among _ last m in
    (suc at.0, among_one at.2)

pub asked_of_pairs : (s : Model) (q : Question) → Among q (pair_questions s) → (r : ℕ) × PairOf r q
asked_of_pairs s q m = let of = upto_among _ s.resources m in (of.0, asked_of_resource s.echelons of.0 q of.2)

pub asked_of_options : (s : Model) (q : Question) → Among q (option_questions s) → (i : ℕ) × (i < count s) × OptionOf i q
asked_of_options s q m = let of = upto_among _ (count s) m in (of.0, of.1, asked_of_component s.echelons of.0 q of.2)

-- the survey asks about options and about pairs
pub option_is_surveyed : {q : Question} (s : Model) (i : ℕ) → i < count s → Among q (component_questions s.echelons i) → Among q (questions s)
option_is_surveyed s i l m = among_left (pair_questions s) (among_upto _ (count s) i l m)

pub pair_is_surveyed : {q : Question} (s : Model) → Among q (pair_questions s) → Among q (questions s)
pair_is_surveyed s m = among_right (option_questions s) m
