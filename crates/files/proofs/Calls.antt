-- What open and enter leave where they accept, and what they accept.
use Rattle.std.proofs.Common.{◌+◌, ◌≡◌, ℕ, ◌*◌, ◌<◌, ◌≤◌, List, [], ◌∷◌, ◌++◌, length, Ok, arith}
use Rattle.std.proofs.lemmas.Bool.Decides.{nat_tests}
use Rattle.std.proofs.lemmas.List.{length_push}
use Rattle.model.specs.declared.component.Component.{Component}
use Rattle.model.specs.declared.component.Needs.{Needs}
use Rattle.model.specs.Components.{parent_of, Row}
use Rattle.model.specs.Studies.{Model, entered, on_open, on_enter}

abbrev pub study_of : ℕ → ℕ → List Component → Model
study_of e q cs = record { echelons = e; resources = q; components = cs }

-- echelons and resources within the limits are accepted
pub reopened : (s : Model) (e q : ℕ) → 1 ≤ e → e ≤ 4 → q ≤ 8 → q * e ≤ 16 → on_open s e q ≡ (Ok tt, study_of e q [])
reopened s e q some few-e few-q few = grind (arith, nat_tests)

-- a component that is sound after those entered is entered as it was
pub reentered : (s : Model) (c : Component) (p : ℕ) → parent_of p ≡ c.parent → length s.components < 60 → Row s.resources s.components (length s.components) c → on_enter s p c.needs c.rate ≡ (Ok (length s.components), study_of s.echelons s.resources (s.components ++ c ∷ []))
reentered s c p same few row = grind (arith, nat_tests, row.0, row.1, row.2, row.3, row.4)

-- what open and enter leave where they accept
pub opened_is : (s : Model) (e q : ℕ) (t : Model) → on_open s e q ≡ (Ok tt, t) → study_of e q [] ≡ t
opened_is s e q t h = grind arith

pub entered_is : (s : Model) (p : ℕ) (n : Needs) (f x : ℕ) (t : Model) → on_enter s p n f ≡ (Ok x, t) → study_of s.echelons s.resources (s.components ++ entered s p n f ∷ []) ≡ t
entered_is s p n f x t h = grind arith

-- open leaves no component
pub opened_empty : (s : Model) (e q : ℕ) (x : Unit) (t : Model) → on_open s e q ≡ (Ok x, t) → length t.components ≡ 0
opened_empty s e q x t h = grind arith

-- enter adds one
pub entered_one : (s : Model) (p : ℕ) (n : Needs) (f x : ℕ) (t : Model) → on_enter s p n f ≡ (Ok x, t) → length t.components ≡ length s.components + 1
entered_one s p n f x t h = grind (arith, length_push)
