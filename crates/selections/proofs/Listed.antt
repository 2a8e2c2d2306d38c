-- A selection that is given by a list, and a plan that describes it.
use Rattle.std.proofs.Common.{◌≡◌, ℕ, Bool, true, not, ◌&&◌, ◌||◌, eqb, List, [], ◌∷◌, inl, inr, ⊎_elim, arith}
use Rattle.std.proofs.lemmas.Bool.{eqb-true, and_parts, or_cases, both_ways, not-true, false≢true}
use Rattle.model.specs.declared.question.Question.{Question}
use Rattle.model.specs.declared.question.Question.TheVariants.{OfOption}
use Rattle.model.specs.declared.question.RepairOption.{RepairOption}
use Rattle.model.specs.Books.{Book}
use Rattle.model.specs.Letters.{letter}
use Rattle.model.specs.Studies.{Model, Limits}
use Rattle.plans.specs.Ranges.{every}
use Rattle.plans.specs.Questions.{count, component_questions, option_questions}
use Rattle.plans.specs.Uses.{Uses, uses}
use Rattle.plans.specs.Plans.{IsPlan}
use Rattle.plans.proofs.Members.{among_upto, every_among}
use Rattle.plans.proofs.Using.{used_is_entered, used_passes}
use Rattle.plans.proofs.Asking.{used_is_asked}
use Rattle.plans.proofs.Accepted.{plan_fit}
use Rattle.selections.specs.Selections.{Selected}
use Rattle.selections.specs.Costs.{selects}
use Rattle.selections.specs.Laws.{Describes}
use Rattle.selections.specs.Examples.{Choice, selecting}
use Rattle.selections.proofs.Chosen.{chosen, chosen_described}

-- options with one letter are the same
one_letter : (o p : RepairOption) → letter o ≡ letter p → o ≡ p
one_letter o p h = grind arith

-- where every choice of a list passes a test, all that it selects does
listed_passes :
    (f : ℕ → ℕ → RepairOption → Bool) (cs : List Choice) → every (λ c. f c.0 c.1 c.2) cs ≡ true
    → (i e : ℕ) (o : RepairOption) → Selected (selecting cs) i e o → f i e o ≡ true
listed_passes f [] each i e o h = absurd (false≢true h)
listed_passes f (c ∷ cs) each i e o h =
    let both = and_parts (f c.0 c.1 c.2) (every (λ d. f d.0 d.1 d.2) cs) each in
    elim (or_cases (eqb i c.0 && (eqb e c.1 && eqb (letter o) (letter c.2))) (selecting cs i e o) h) [
      | inl own ↦
          let one = and_parts (eqb i c.0) _ own in
          let two = and_parts (eqb e c.1) _ one.1 in
          let component = eqb-true i c.0 one.0 in
          let echelon = eqb-true e c.1 two.0 in
          let option = one_letter o c.2 (eqb-true _ _ two.1) in
          let passes = both.0 in
          cc
      | inr rest ↦ listed_passes f cs both.1 i e o rest
    ]

-- what is used is listed
abbrev pub listed_if_used : Model → List ℕ → List Choice → Question → Bool
listed_if_used s plan cs q = not (uses s plan q) || selects s (selecting cs) q

-- so a plan describes the selection where every choice is used, and every option of the survey that is used is listed
module _ (s : Model) (b : Book) (plan : List ℕ) (cs : List Choice) (limits : Limits s) (is_plan : IsPlan s b plan) where
  pub listed_described :
      every (λ c. chosen s plan c.0 c.1 c.2) cs ≡ true → every (listed_if_used s plan cs) (option_questions s) ≡ true
      → Describes s plan (selecting cs)
  listed_described used listed = record {
    used_is_selected = used_is_listed;
    selected_is_used = λ i e o h. (chosen_described s b plan limits is_plan).selected_is_used i e o (listed_passes (chosen s plan) cs used i e o h);
  }
    where
      used_is_listed : (i e : ℕ) (o : RepairOption) → Uses s plan i e o → Selected (selecting cs) i e o
      used_is_listed i e o u =
          let asked = among_upto (component_questions s.echelons) (count s) i (used_is_entered u) (used_is_asked (plan_fit s b plan limits is_plan) u) in
          ⊎_elim (λ unused. absurd (both_ways _ (not-true _ unused) (used_passes u))) (λ h. h)
          (or_cases (not (uses s plan (OfOption i e o))) _ (every_among (listed_if_used s plan cs) listed asked))
