-- Every call keeps the limits of the study.
use Rattle.std.proofs.Common.{◌≡◌, ℕ, ◌-◌, ◌*◌, ◌≤◌, Bool, true, false, leb, List, [], ◌∷◌, ◌++◌, length, get_or, take, set, refl, arith}
use Rattle.std.proofs.lemmas.Bool.{and_parts, ltb-true, leb-true}
use Rattle.std.proofs.lemmas.List.{length_push, length-set, length-take}
use Rattle.model.specs.declared.component.Component.{Component}
use Rattle.model.specs.declared.component.Needs.{Needs}
use Rattle.model.specs.declared.refusal.Refusal.{Refusal}
use Rattle.model.specs.Components.{no_component, with_needs, Rows}
use Rattle.model.specs.Studies.{Model, Limits, Outcome, blank_study, ask, on_open, entered, on_enter, on_require, on_strike}
use Rattle.model.proofs.Rowwise.{rows_push, rows_take, rows_set}
use Rattle.runs.specs.declared.call.Call.{Call}
use Rattle.runs.specs.declared.call.Call.TheVariants.{Open, Enter, Require, Strike, Price, Solve}
use Rattle.runs.specs.Laws.{made_by, made_by_all}

-- what holds of the study holds after a question if it holds after the questions that follow once it is passed
ask_keeps : {A : Type 0} (s : Model) (test : Bool) (why : Refusal) (rest : Outcome A) → Limits s → (test ≡ true → Limits rest.1) → Limits (ask s test why rest).1
ask_keeps s true why rest kept passed = passed refl
ask_keeps s false why rest kept passed = kept

pub blank_limits : Limits blank_study
blank_limits = record {
  some_echelon = omega arith;
  few_echelons = omega arith;
  few_resources = omega arith;
  few_pairs = omega arith;
  few_components = omega arith;
  sound_rows = λ i l. absurd (omega arith);
}

-- a study of other components, soundly entered and few enough
with_components : (s : Model) (cs : List Component) → Limits s → length cs ≤ 60 → Rows s.resources cs → Limits (record { echelons = s.echelons; resources = s.resources; components = cs })
with_components s cs limits few sound = record {
  some_echelon = limits.some_echelon;
  few_echelons = limits.few_echelons;
  few_resources = limits.few_resources;
  few_pairs = limits.few_pairs;
  few_components = few;
  sound_rows = sound;
}

module _ (s : Model) (limits : Limits s) where
  open_keeps : (e q : ℕ) → Limits (on_open s e q).1
  open_keeps e q =
      ask_keeps s _ _ _ limits (λ echelons.
      ask_keeps s _ _ _ limits (λ resources.
      let bounds = and_parts (leb 1 e) (leb e 4) echelons in
      let few = and_parts (leb q 8) (leb (q * e) 16) resources in
      record {
        some_echelon = leb-true 1 e bounds.0;
        few_echelons = leb-true e 4 bounds.1;
        few_resources = leb-true q 8 few.0;
        few_pairs = leb-true (q * e) 16 few.1;
        few_components = omega arith;
        sound_rows = λ i l. absurd (omega arith);
      }))

  enter_keeps : (p : ℕ) (n : Needs) (f : ℕ) → Limits (on_enter s p n f).1
  enter_keeps p n f =
      ask_keeps s _ _ _ limits (λ room.
      ask_keeps s _ _ _ limits (λ parent.
      ask_keeps s _ _ _ limits (λ level.
      ask_keeps s _ _ _ limits (λ needs.
      ask_keeps s _ _ _ limits (λ rate.
      let few = ltb-true (length s.components) 60 room in
      let grown = length_push s.components (entered s p n f) in
      with_components s (s.components ++ entered s p n f ∷ []) limits (omega arith)
      (rows_push s.resources s.components (entered s p n f) limits.sound_rows (parent, refl, leb-true _ 5 level, needs, rate)))))))

  require_keeps : (i : ℕ) (n : Needs) → Limits (on_require s i n).1
  require_keeps i n =
      ask_keeps s _ _ _ limits (λ known.
      ask_keeps s _ _ _ limits (λ needs.
      let c = with_needs (get_or s.components i no_component) n in
      let few = limits.few_components in
      let kept = length-set s.components i c in
      with_components s (set s.components i c) limits (omega arith)
      (rows_set s.resources s.components i n (ltb-true i (length s.components) known) limits.sound_rows needs)))

  strike_keeps : Limits (on_strike s).1
  strike_keeps =
      ask_keeps s _ _ _ limits (λ some.
      let few = limits.few_components in
      let n = length s.components - 1 in
      let shrunk = length-take n s.components in
      with_components s (take n s.components) limits (omega arith) (rows_take s.resources s.components n limits.sound_rows))

module _ {B C : Type 0} where
  call_keeps : (s : Model) (c : Call B C) → Limits s → Limits (made_by s c)
  call_keeps s (Open e q _) limits = open_keeps s limits e q
  call_keeps s (Enter p n f _) limits = enter_keeps s limits p n f
  call_keeps s (Require i n _) limits = require_keeps s limits i n
  call_keeps s (Strike _) limits = strike_keeps s limits
  call_keeps s (Price b plan _) limits = limits
  call_keeps s (Solve b plan working _) limits = limits

  pub calls_keep : (s : Model) (calls : List (Call B C)) → Limits s → Limits (made_by_all s calls)
  calls_keep s [] limits = limits
  calls_keep s (c ∷ cs) limits = calls_keep (made_by s c) cs (call_keeps s c limits)
