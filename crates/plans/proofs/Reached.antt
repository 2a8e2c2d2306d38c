-- Where no component before it meets an objection, the start of a component is read.
use Rattle.std.proofs.Common.{ℕ, zero, suc, ◌<◌, ◌≤◌, List, sym, subst, inl, inr, arith}
use Rattle.std.proofs.lemmas.Bool.{cases_eq}
use Rattle.model.specs.Books.{Book}
use Rattle.model.specs.Studies.{Model, Limits}
use Rattle.plans.specs.Questions.{count}
use Rattle.plans.specs.Starts.{start}
use Rattle.plans.specs.Laws.{StartIsRead}
use Rattle.plans.proofs.Reading.{DecidedBefore, reads_start}
use Rattle.plans.proofs.Objecting.{Passes, passes}

-- from each component to the next: the bytes before it are not 0 only for reached components, so its start is read, and
-- its own byte is not 0 only where it is reached
pub decided_before :
    (s : Model) (b : Book) (plan : List ℕ)
    → Limits s → (n : ℕ) → n ≤ count s → ((j : ℕ) → j < n → Passes s b plan j) → DecidedBefore s plan n
decided_before s b plan limits zero k pass j l h = absurd (omega arith)
decided_before s b plan limits (suc n) k pass j l h =
    let before = decided_before s b plan limits n (omega arith) (λ m o. pass m (omega arith)) in
    elim (cases_eq j n) [
      | inl e ↦
          let read = (pass j l).decided_is_read h in
          (start s plan j, (reads_start s plan j limits (omega arith) (subst (λ m. DecidedBefore s plan m) (sym e) before)).read_is_start read)
      | inr d ↦ before j (omega arith) h
    ]

pub start_is_read : StartIsRead
start_is_read s b plan i limits l none =
    reads_start s plan i limits l (decided_before s b plan limits i (omega arith) (λ j k. passes s b plan j (none j k)))
