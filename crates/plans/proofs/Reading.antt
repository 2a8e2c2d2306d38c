-- The start of a component is read off its parent's byte.
use Rattle.std.proofs.Common.{◌≡◌, ℕ, ◌*◌, ◌<◌, ◌≤◌, ◌+◌, ◌⊎◌, List, Some, None, Option, refl, ap, ◌∙◌, inl, inr, arith}
use Rattle.std.proofs.lemmas.Bool.{cases_eq}
use Rattle.std.proofs.lemmas.Bool.Decides.{nat_tests}
use Rattle.model.specs.Studies.{Model, Limits}
use Rattle.plans.specs.Questions.{count}
use Rattle.plans.specs.Starts.{byte, final, parent, Starts, top, under, repaired_at, start_under, start}
use Rattle.plans.specs.Laws.{ReadsStart}

-- twice e is a repair at e
repaired_twice : (b e : ℕ) → b ≡ 2 * e → repaired_at b ≡ e
repaired_twice b e h = grind (arith, nat_tests)

-- and an echelon that is read is half of the byte
twice_repaired : (b : ℕ) → 1 ≤ repaired_at b → b ≡ 2 * repaired_at b
twice_repaired b h = grind (arith, nat_tests)

-- a byte is odd or even: it discards or repairs at its final echelon
pub odd_or_even : (b : ℕ) → (b + 1 ≡ 2 * final b) ⊎ (b ≡ 2 * final b)
odd_or_even b = elim (cases_eq b (2 * final b)) [ inl h ↦ inr h | inr h ↦ inl (omega arith) ]

-- a component that starts is one of the study
pub started_is_entered : {s : Model} {plan : List ℕ} {i a : ℕ} → Starts s plan i a → i < count s
started_is_entered r = grind arith

-- the start is what is read, and not 0
pub start_read : {s : Model} {plan : List ℕ} {i a : ℕ} → Starts s plan i a → (start s plan i ≡ a) × (1 ≤ a)
start_read {s} {plan} (top i l h) = (ap (start_under plan) h, omega arith)
start_read {s} {plan} (under i p a e l h r t o) = (ap (start_under plan) h ∙ repaired_twice (byte plan p) e t, o)

-- every component before n whose byte is not 0 is reached
abbrev pub DecidedBefore : Model → List ℕ → ℕ → Type 0
DecidedBefore s plan n = (j : ℕ) → j < n → 1 ≤ byte plan j → (a : ℕ) × Starts s plan j a

-- a parent is entered before its component
pub parent_before : (s : Model) (i p : ℕ) → Limits s → i < count s → parent s i ≡ Some p → p < i
parent_before s i p limits l e = grind arith

read_under :
    (s : Model) (plan : List ℕ) (i : ℕ) (o : Option ℕ)
    → Limits s → i < count s → DecidedBefore s plan i → parent s i ≡ o → 1 ≤ start_under plan o → Starts s plan i (start_under plan o)
read_under s plan i None limits l decided e h = top i l e
read_under s plan i (Some p) limits l decided e h =
    let twice = twice_repaired (byte plan p) h in
    let reached = decided p (parent_before s i p limits l e) (omega arith) in
    under i p reached.0 (repaired_at (byte plan p)) l e reached.1 twice h

-- so the start of component i is read, where the bytes before it are not 0 only for reached components
pub reads_start : (s : Model) (plan : List ℕ) (i : ℕ) → Limits s → i < count s → DecidedBefore s plan i → ReadsStart s plan i
reads_start s plan i limits l decided = record {
  start_is_read = λ a r. start_read r;
  read_is_start = read_under s plan i (parent s i) limits l decided refl;
}
