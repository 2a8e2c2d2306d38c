-- A study as its caller knows it, its limits, and what each call answers and leaves.
use Rattle.std.specs.Prelude.{ℕ, ◌-◌, ◌*◌, ◌≤◌, Bool, cond, ◌&&◌, List, [], ◌∷◌, ◌++◌, length, take, Ok, Err, vec_items, Result, nat_le, nat_lt, slice_index_or, slice_set}
use Rattle.model.specs.declared.component.Component.{Component}
use Rattle.model.specs.declared.component.Needs.{Needs}
use Rattle.model.specs.declared.refusal.Refusal.{Refusal}
use Rattle.model.specs.declared.refusal.Refusal.TheVariants as no
use Rattle.model.specs.declared.study.Study.{Study}
use Rattle.model.specs.Components.{names_below, is_rate, parent_of, is_entered, level_under, no_component, with_needs, Rows}

-- echelons are numbered from 1 at the operating sites, resources and components from 0 in their order
pub record Model : Type 0 where
  pub echelons : ℕ
  pub resources : ℕ
  pub components : List Component

abbrev pub model : Study → Model
model s = record { echelons = s.echelons; resources = s.resources; components = vec_items s.table.rows }

-- the limits that every study keeps
pub record Limits (m : Model) : Type 0 where
  pub some_echelon : 1 ≤ m.echelons
  pub few_echelons : m.echelons ≤ 4
  pub few_resources : m.resources ≤ 8
  pub few_pairs : m.resources * m.echelons ≤ 16
  pub few_components : length m.components ≤ 60
  pub sound_rows : Rows m.resources m.components

abbrev pub blank_study : Model
blank_study = record { echelons = 1; resources = 0; components = [] }

-- what a call answers, and the study that it leaves
abbrev pub Outcome : Type 0 → Type 0
Outcome A = Result A Refusal × Model

-- a question: where it passes the call goes on, where it fails the call is refused and the study stays
abbrev pub ask : {A : Type 0} → Model → Bool → Refusal → Outcome A → Outcome A
ask s test why rest = cond test rest (Err why, s)

-- open: are there 1 to 4 echelons? at most 8 resources, and at most 16 pairs of a resource and an echelon?
abbrev pub on_open : Model → ℕ → ℕ → Outcome Unit
on_open s e q =
    ask s (nat_le 1 e && nat_le e 4) no.EchelonCount
    (ask s (nat_le q 8 && nat_le (q * e) 16) no.ResourceCount
    (Ok tt, record { echelons = e; resources = q; components = [] }))

-- the component that enter adds
abbrev pub entered : Model → ℕ → Needs → ℕ → Component
entered s p n f = record { parent = parent_of p; level = level_under s.components (parent_of p); needs = n; rate = f }

-- enter: are there fewer than 60 components? is the parent 255 or entered? is the level at most 5? do the needs name only
-- resources of the study? is the rate 1 to 1,000,000?
abbrev pub on_enter : Model → ℕ → Needs → ℕ → Outcome ℕ
on_enter s p n f =
    ask s (nat_lt (length s.components) 60) no.StudyFull
    (ask s (is_entered (length s.components) (parent_of p)) no.UnknownParent
    (ask s (nat_le (level_under s.components (parent_of p)) 5) no.TooDeep
    (ask s (names_below s.resources n) no.UnknownResource
    (ask s (is_rate f) no.RateOutOfRange
    (Ok (length s.components), record { echelons = s.echelons; resources = s.resources; components = s.components ++ entered s p n f ∷ [] })))))

-- require: is the component entered? do the needs name only resources of the study? Then that component has these needs,
-- and all else stays
abbrev pub on_require : Model → ℕ → Needs → Outcome Unit
on_require s i n =
    ask s (nat_lt i (length s.components)) no.UnknownComponent
    (ask s (names_below s.resources n) no.UnknownResource
    (Ok tt, record { echelons = s.echelons; resources = s.resources; components = slice_set s.components i (with_needs (slice_index_or s.components i no_component) n) }))

-- strike: is there a component?
abbrev pub on_strike : Model → Outcome Unit
on_strike s =
    ask s (nat_lt 0 (length s.components)) no.NoComponent
    (Ok tt, record { echelons = s.echelons; resources = s.resources; components = take (length s.components - 1) s.components })
