-- A solve that is ready answers by the least plan.
use Rattle.std.proofs.Common.{◌≡◌, ℕ, ◌*◌, Bool, leb, List, length, ap, ◌∙◌}
use Rattle.std.proofs.lemmas.Bool.{le-leb, cond-true}
use Rattle.costs.specs.Kinds.{Adding}
use Rattle.model.specs.Books.{Book}
use Rattle.model.specs.Studies.{Model}
use Rattle.plans.specs.Questions.{count}
use Rattle.solutions.specs.Promises.{Ready}
use Rattle.solutions.specs.Solved.{least_plan, answered, unless_fault, solved}

pub ready_answers : {C : Type 0} (k : Adding C) (lower : C → C → Bool) (s : Model) (b : Book) (room : ℕ) (place : List ℕ) → Ready s b room place → solved k lower s b room place ≡ answered s place (least_plan k lower s b)
ready_answers k lower s b room place ready =
    cond-true (leb 1 (count s)) _ _ (le-leb _ _ ready.some_component)
    ∙ cond-true (leb (count s) (length place)) _ _ (le-leb _ _ ready.enough_bytes)
    ∙ cond-true (leb (count s * s.echelons) room) _ _ (le-leb _ _ ready.enough_working)
    ∙ ap (λ f. unless_fault place f (answered s place (least_plan k lower s b))) ready.no_fault
