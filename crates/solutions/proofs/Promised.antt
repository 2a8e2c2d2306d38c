-- Solving answers the least plan, first in reading order, exactly where a plan exists.
use Rattle.std.proofs.Common.{◌≡◌, ℕ, ◌≤◌, Bool, false, cond, List, ◌++◌, take, drop, Some, None, Option, sym, refl, ◌∙◌, subst, subst₂, inl, inr, ⊎_elim}
use Rattle.std.proofs.lemmas.List.{take_at}
use Rattle.costs.specs.Kinds.{Adding, Laws}
use Rattle.model.specs.Books.{Book, KeepsLimits}
use Rattle.model.specs.Studies.{Model, Limits}
use Rattle.plans.specs.Questions.{count}
use Rattle.plans.specs.Plans.{IsPlan, Costs}
use Rattle.plans.specs.Orders.{rank, Before}
use Rattle.theory.specs.Answers.{Answer}
use Rattle.theory.specs.Answers as theory
use Rattle.theory.specs.Entries.{sum}
use Rattle.theory.specs.Problems.{Problem, costs}
use Rattle.theory.specs.ReadingOrder as reading
use Rattle.theory.specs.Tables.{top_byte}
use Rattle.theory.proofs.Answers.{solved_decides}
use Rattle.theory.proofs.Problems.{bytewise}
use Rattle.theory.proofs.Solves.{Settles}
use Rattle.solutions.specs.Problems.{problem}
use Rattle.solutions.specs.Promises.{SolvesLeast, SolvesLeastAndFirst}
use Rattle.solutions.specs.Solved.{bytes, least_plan, Outcome, answered}
use Rattle.solutions.proofs.Answering.{ready_answers}
use Rattle.solutions.proofs.Judging.{open_costs, open_is_plan, plan_is_open}
use Rattle.solutions.proofs.Bytes.{bytes_in_order}
use Rattle.solutions.proofs.Least.{plan_at, with_cost, least_is_named}
use Rattle.solutions.proofs.Proper.{problem_proper}

module _ {C : Type 0} {k : Adding C} {lower : C → C → Bool} (laws : Laws k lower) (s : Model) (b : Book) (limits : Limits s) (kept : KeepsLimits b) (some : 1 ≤ count s) (place : List ℕ) where
  abbrev y : Problem
  y = problem s b limits kept

  -- what a row of bytes sums to
  abbrev cost : List ℕ → C
  cost p = sum k (costs y p).row

  -- an outcome keeps the promise
  abbrev Keeps : Outcome C → Type 0
  Keeps o = SolvesLeast k lower s b o.place o.answer

  -- the cost of a plan is the sum of its row
  cost_is : (p : List ℕ) → IsPlan s b p → (d : C) → Costs k s b p d → d ≡ cost p
  cost_is p plan d h = let own = open_costs k s b limits kept some p (plan_is_open k s b limits kept some p plan) in cc

  -- the answer of the solver's argument, at its cost, keeps it
  named : (p : List ℕ) → Answer k lower rank (costs y) p → Keeps (answered s place (Some (record { plan = p; cost = cost p })))
  named p ok =
      let plan = open_is_plan k s b limits kept some p ok.plan in
      let front : p ≡ take (count s) (p ++ drop (count s) place) = sym (take_at p (drop (count s) place) (count s) plan.one_byte_each) in
      let opens : (q : List ℕ) → IsPlan s b q → theory.IsPlan (costs y) q = λ q. plan_is_open k s b limits kept some q in
      record {
        a_plan_if_one_exists = λ q _. (cost p, refl);
        refused_if_none_exists = λ none. absurd (none p plan);
        a_plan_at_its_cost = λ c e.
            let is : cost p ≡ c = cc in
            subst₂ (λ f d. IsPlan s b f × Costs k s b f d) front is (plan, open_costs k s b limits kept some p ok.plan);
        none_is_lower = λ c d q e is_plan costs-d.
            let is : cost p ≡ c = cc in
            subst₂ (λ x z. lower x z ≡ false) (sym (cost_is q is_plan d costs-d)) is (ok.least q (opens q is_plan));
        first_at_its_cost = λ c q e is_plan costs-c.
            let is : cost p ≡ c = cc in
            ⊎_elim
            (λ same. inl (sym same ∙ front))
            (λ before. inr (subst (λ f. Before f q) front before))
            (ok.first q (opens q is_plan) (sym (cost_is q is_plan c costs-c) ∙ sym is));
      }

  abbrev order : reading.ByteOrder y.table.rank (top_byte y.table) (bytes s.echelons)
  order = bytes_in_order s.echelons

  -- so does what the definition of the solver's argument names, or none where it names none
  settled : (t : Option (List ℕ)) → Settles laws y (problem_proper s b limits kept some) (bytes s.echelons) order t → Keeps (answered s place (with_cost k (costs y) t))
  settled None h = record {
    a_plan_if_one_exists = λ p plan. absurd (h p (plan_is_open k s b limits kept some p plan));
    refused_if_none_exists = λ _. refl;
    a_plan_at_its_cost = λ c e. absurd cc;
    none_is_lower = λ c d p e. absurd cc;
    first_at_its_cost = λ c p e. absurd cc;
  }
  settled (Some p) h =
      subst (λ t. Keeps (answered s place (plan_at (cond t (Some (cost p)) None) p))) (sym h.plan) (named p h)

  least_keeps : Keeps (answered s place (least_plan k lower s b))
  least_keeps =
      let ok = problem_proper s b limits kept some in
      subst (λ o. Keeps (answered s place o)) (sym (least_is_named k lower s b limits kept some))
      (settled (theory.solved k lower (costs y) (bytes s.echelons) (count s))
      (solved_decides laws y.table.rank (top_byte y.table) ok.sound.ranks (bytes s.echelons) order (count s) (costs y) (bytewise y ok)))

pub solves_least_and_first : (C : Type 0) → SolvesLeastAndFirst C
solves_least_and_first C k lower s b room place laws limits kept ready =
    subst (λ (o : Outcome C). SolvesLeast k lower s b o.place o.answer) (sym (ready_answers k lower s b room place ready))
    (least_keeps laws s b limits kept ready.some_component place)
