-- The byte of a component, read off a selection, and the plan that these bytes make.
use Rattle.std.proofs.Common.{◌≡◌, ℕ, zero, suc, ◌+◌, ◌*◌, ◌<◌, ◌≤◌, cond, ◌⊎◌, List, map, length, sym, subst, inl, inr, arith}
use Rattle.std.specs.List.{range_with_len}
use Rattle.std.proofs.lemmas.List.FromFn.{length-map-range_with_len, get_or-map-range_with_len}
use Rattle.std.proofs.lemmas.Bool.{cases_eq, cond_both, both_ways}
use Rattle.model.specs.declared.question.RepairOption.TheVariants.{Discard, Repair}
use Rattle.model.specs.Studies.{Model}
use Rattle.plans.specs.Questions.{count}
use Rattle.plans.specs.Starts.{byte}
use Rattle.selections.specs.Selections.{Selection, Selected}
use Rattle.selections.proofs.Routes.{Route, settled_at_end, settled}

-- of the echelons from 1 to n, the one at which component i is discarded or repaired: 2e - 1 for discarded at e, 2e for
-- repaired at e, 0 for neither
abbrev pub byte_upto : Selection → ℕ → ℕ → ℕ
byte_upto x i zero = 0
byte_upto x i (suc n) = cond (x i (suc n) Discard) (2 * n + 1) (cond (x i (suc n) Repair) (2 * n + 2) (byte_upto x i n))

-- one byte for each component
abbrev pub plan_of : Model → Selection → List ℕ
plan_of s x = map (λ i. byte_upto x i s.echelons) (range_with_len 0 (count s))

pub length_plan_of : (s : Model) (x : Selection) → length (plan_of s x) ≡ count s
length_plan_of s x = length-map-range_with_len _ 0 (count s)

byte_plan_of : (s : Model) (x : Selection) (i : ℕ) → i < count s → byte (plan_of s x) i ≡ byte_upto x i s.echelons
byte_plan_of s x i l = get_or-map-range_with_len _ 0 (count s) i i 0 l (omega arith)

-- byte b says that component i is discarded or repaired at echelon e, and that is selected
abbrev pub Says : Selection → ℕ → ℕ → ℕ → Type 0
Says x i b e = ((b + 1 ≡ 2 * e) × Selected x i e Discard) ⊎ ((b ≡ 2 * e) × Selected x i e Repair)

abbrev SaysSome : Selection → ℕ → ℕ → Type 0
SaysSome x i b = (e : ℕ) × Says x i b e

module _ (x : Selection) (i : ℕ) where
  -- a byte that is not 0 says what is selected
  says_some : (n : ℕ) → 1 ≤ byte_upto x i n → SaysSome x i (byte_upto x i n)
  says_some zero h = absurd (omega arith)
  says_some (suc n) h =
      cond_both (x i (suc n) Discard) _ _ (λ b. 1 ≤ b → SaysSome x i b)
      (λ d _. (suc n, inl (omega arith, d)))
      (λ _. cond_both (x i (suc n) Repair) _ _ (λ b. 1 ≤ b → SaysSome x i b) (λ r _. (suc n, inr (omega arith, r))) (λ _. says_some n)) h

  -- and it is not 0 where discard or repair is selected at one of the echelons
  not_zero : (n e : ℕ) → 1 ≤ e → e ≤ n → Selected x i e Discard ⊎ Selected x i e Repair → 1 ≤ byte_upto x i n
  not_zero zero e l m h = absurd (omega arith)
  not_zero (suc n) e l m h =
      cond_both (x i (suc n) Discard) _ _ (λ b. 1 ≤ b) (λ d. omega arith)
      (λ no-discard. cond_both (x i (suc n) Repair) _ _ (λ b. 1 ≤ b) (λ r. omega arith)
      (λ no-repair. elim (cases_eq e (suc n)) [
        | inl same ↦ elim h [
          | inl d ↦ absurd (both_ways _ no-discard (subst (λ j. Selected x i j Discard) same d))
          | inr r ↦ absurd (both_ways _ no-repair (subst (λ j. Selected x i j Repair) same r))
        ]
        | inr d ↦ not_zero n e l (omega arith) h
      ]))

-- so the bytes of the plan say what is selected at the end of each route
module _ (s : Model) (x : Selection) (i : ℕ) (l : i < count s) where
  pub decided_says : 1 ≤ byte (plan_of s x) i → SaysSome x i (byte (plan_of s x) i)
  decided_says h =
      let is = byte_plan_of s x i l in
      subst (λ b. SaysSome x i b) (sym is) (says_some x i s.echelons (omega arith))

  pub route_says : (a f : ℕ) → Route s x i a f → Says x i (byte (plan_of s x) i) f
  route_says a f route =
      let is = byte_plan_of s x i l in
      let first = route.first in
      let rising = route.climb.rising in
      let past = route.climb.not_past in
      let decided = not_zero x i s.echelons f (omega arith) past (settled route) in
      let found = decided_says (omega arith) in
      let at_end : found.0 ≡ f = elim found.1 [
        | inl d ↦ settled_at_end route found.0 Discard (λ z. omega arith) d.1
        | inr r ↦ settled_at_end route found.0 Repair (λ z. omega arith) r.1
      ] in
      subst (λ e. Says x i (byte (plan_of s x) i) e) at_end found.1
