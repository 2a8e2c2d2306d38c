-- A plan and the selection that it describes have the same postings.
use Rattle.std.proofs.Common.{◌≡◌, ℕ, zero, suc, ◌<◌, Bool, List, [], ◌∷◌, sym, refl, subst, ⊎_elim, arith}
use Rattle.std.proofs.lemmas.Bool.Decides.{same_from_decides}
use Rattle.model.specs.declared.question.Question.{Question}
use Rattle.model.specs.declared.question.RepairOption.{RepairOption}
use Rattle.model.specs.declared.question.RepairOption.TheVariants.{Discard, Repair, Move}
use Rattle.model.specs.Books.{Book}
use Rattle.model.specs.Studies.{Model, Limits}
use Rattle.plans.specs.Ranges.{some_below, those}
use Rattle.plans.specs.Questions.{count, option_questions, pair_questions, questions}
use Rattle.plans.specs.Uses.{Uses, uses_option, needs_at, uses}
use Rattle.plans.specs.Plans.{IsPlan, used_questions}
use Rattle.plans.specs.Laws.{Among, here, later}
use Rattle.plans.proofs.Members.{among_either}
use Rattle.plans.proofs.Surveyed.{asked_of_pairs, asked_of_options}
use Rattle.plans.proofs.Using.{used_passes, passes_used}
use Rattle.plans.proofs.Accepted.{plan_reads}
use Rattle.selections.specs.Selections.{Selection}
use Rattle.selections.specs.Costs.{needs_of_component, selects, selected_questions}
use Rattle.selections.specs.Laws.{Describes}

-- tests that agree on a list pass the same, and tests that agree below n find the same
those_same : (f g : Question → Bool) (qs : List Question) → ((q : Question) → Among q qs → f q ≡ g q) → those f qs ≡ those g qs
those_same f g [] same = refl
those_same f g (q ∷ qs) same =
    let first = same q (here qs) in
    let rest = those_same f g qs (λ p m. same p (later q qs m)) in
    cc

some_below_same : (f g : ℕ → Bool) (n : ℕ) → ((k : ℕ) → k < n → f k ≡ g k) → some_below f n ≡ some_below g n
some_below_same f g zero same = refl
some_below_same f g (suc n) same =
    let below = some_below_same f g n (λ k l. same k (omega arith)) in
    let own = same n (omega arith) in
    cc

module _ (s : Model) (b : Book) (plan : List ℕ) (x : Selection) (limits : Limits s) (is_plan : IsPlan s b plan) (described : Describes s plan x) where
  same_option : (i e : ℕ) (o : RepairOption) → i < count s → uses_option s plan i e o ≡ x i e o
  same_option i e o l =
      same_from_decides {P = Uses s plan i e o} (uses_option s plan i e o) (x i e o)
      (passes_used s plan i (plan_reads s b plan limits is_plan i l) e o, used_passes)
      (described.selected_is_used i e o, described.used_is_selected i e o)

  same_needs : (r e i : ℕ) → i < count s → needs_at s plan r e i ≡ needs_of_component s x r e i
  same_needs r e i l =
      let discard = same_option i e Discard l in
      let repair = same_option i e Repair l in
      let move = same_option i e Move l in
      cc

  same_question : (q : Question) → Among q (questions s) → uses s plan q ≡ selects s x q
  same_question q m = ⊎_elim of_option of_pair (among_either (option_questions s) m)
    where
      of_option : Among q (option_questions s) → uses s plan q ≡ selects s x q
      of_option n =
          let of = asked_of_options s q n in
          let at = of.2 in
          subst (λ p. uses s plan p ≡ selects s x p) (sym at.1.1) (same_option of.0 at.0 at.1.0 of.1)

      of_pair : Among q (pair_questions s) → uses s plan q ≡ selects s x q
      of_pair n =
          let of = asked_of_pairs s q n in
          let at = of.1 in
          subst (λ p. uses s plan p ≡ selects s x p) (sym at.1)
          (some_below_same (needs_at s plan of.0 at.0) (needs_of_component s x of.0 at.0) (count s) (same_needs of.0 at.0))

  pub same_questions : used_questions s plan ≡ selected_questions s x
  same_questions = those_same (uses s plan) (selects s x) (questions s) same_question
