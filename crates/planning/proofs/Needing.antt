-- Whether some component needs a resource: read off the components one after another.
use Rattle.std.proofs.Common.{◌≡◌, ℕ, zero, suc, ◌+◌, ◌<◌, Bool, ◌||◌, List, [], ◌∷◌, length, get_or, refl, sym, ap, ◌∙◌, arith}
use Rattle.std.proofs.Math.Bool.{or-false, or_assoc}
use Rattle.std.specs.List.{list_any, enumerate_from}
use Rattle.std.proofs.lemmas.List.{get_or_default}
use Rattle.model.specs.declared.component.Component.{Component}
use Rattle.model.specs.Components.{no_component}
use Rattle.model.specs.Studies.{Model}
use Rattle.plans.specs.Ranges.{some_below}
use Rattle.plans.specs.Postings.{component}
use Rattle.plans.specs.Starts.{byte, start_under, start}
use Rattle.plans.specs.Questions.{count}
use Rattle.plans.specs.Uses.{needs_at}
use Rattle.planning.specs.OpenRows.{needs_resource_on}

-- the component of that number, whatever stands past the last one
pub component_read : (s : Model) (xs : List Component) (i : ℕ) (none : Component) → xs ≡ s.components → i < length xs → get_or xs i none ≡ component s i
component_read s xs i none same h = get_or_default xs i none no_component h ∙ ap (λ ys. get_or ys i no_component) same

module _ (s : Model) (plan : List ℕ) (xs : List Component) (i : ℕ) (none : Component) (same : xs ≡ s.components) (h : i < length xs) where
  -- its start
  pub start_read : (a : ℕ) → a ≡ start_under plan (get_or xs i none).parent → a ≡ start s plan i
  start_read a is = is ∙ ap (λ (x : Component). start_under plan x.parent) (component_read s xs i none same h)

some_same : (f g : ℕ → Bool) (n : ℕ) → ((k : ℕ) → k < n → f k ≡ g k) → some_below f n ≡ some_below g n
some_same f g zero same = refl
some_same f g (suc n) same =
    let e = some_same f g n (λ k l. same k (omega arith)) in
    let h = same n (omega arith) in
    cc

-- the first of them stands before the others
some_first : (f : ℕ → Bool) (n : ℕ) → some_below f (suc n) ≡ f 0 || some_below (λ k. f (suc k)) n
some_first f zero = sym (or-false (f 0))
some_first f (suc n) = ap (λ b. b || f (suc n)) (some_first f n) ∙ or_assoc (f 0) (some_below (λ k. f (suc k)) n) (f (suc n))

-- a test of each element with its number
any_numbered : {A : Type 0} (f : ℕ → A → Bool) (a : ℕ) (xs : List A) (none : A) → list_any (λ p. f p.0 p.1) (enumerate_from a xs) ≡ some_below (λ k. f (a + k) (get_or xs k none)) (length xs)
any_numbered f a [] none = refl
any_numbered f a (x ∷ xs) none =
    let next : (k : ℕ) → k < length xs → f (a + 1 + k) (get_or xs k none) ≡ f (a + suc k) (get_or xs k none) = λ k l. let e : a + 1 + k ≡ a + suc k = omega arith in ap (λ j. f j (get_or xs k none)) e in
    let here : a ≡ a + 0 = omega arith in
    ap (λ b. f a x || b) (any_numbered f (a + 1) xs none ∙ some_same _ _ (length xs) next) ∙ ap (λ j. f j x || some_below (λ k. f (a + suc k) (get_or xs k none)) (length xs)) here
    ∙ sym (some_first (λ k. f (a + k) (get_or (x ∷ xs) k none)) (length xs))

-- that component of the study needs the resource, by what is read of it
abbrev pub needs_read : Model → List ℕ → ℕ → ℕ → ℕ → Component → Bool
needs_read s plan r e i x = needs_resource_on (record { start = start_under plan x.parent; byte = byte plan i; needs = x.needs }) r e

-- some component does
pub any_needs : (s : Model) (plan : List ℕ) (r e : ℕ) (xs : List Component) → xs ≡ s.components → list_any (λ p. needs_read s plan r e p.0 p.1) (enumerate_from 0 xs) ≡ some_below (needs_at s plan r e) (count s)
any_needs s plan r e xs same =
    let each : (k : ℕ) → k < length xs → needs_read s plan r e (0 + k) (get_or xs k no_component) ≡ needs_at s plan r e k = λ k l. let n : 0 + k ≡ k = omega arith in ap (λ j. needs_read s plan r e j (get_or xs k no_component)) n ∙ ap (needs_read s plan r e k) (component_read s xs k no_component same l) in
    any_numbered (needs_read s plan r e) 0 xs no_component ∙ some_same _ _ (length xs) each ∙ ap (some_below (needs_at s plan r e)) (ap length same)
