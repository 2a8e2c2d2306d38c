-- What a component posts from its start with its byte is what its used questions post; and where it is open, the byte fits
-- the start and the echelons.
use Rattle.std.proofs.Common.{◌≡◌, ℕ, zero, suc, pred, ◌+◌, ◌-◌, ◌*◌, ◌<◌, ◌≤◌, true, cond, ◌&&◌, eqb, leb, List, sym, refl, ap, ◌∙◌, ap₂, ⊎_elim, arith}
use lib.Dec.{eqb-suc-zero}
use Rattle.std.proofs.lemmas.Bool.{le-leb, and_parts, and_from, cond-true, cond-false, cases_eq, eq-eqb, false≢true}
use Rattle.model.specs.declared.question.Question.{Question}
use Rattle.model.specs.declared.question.Question.TheVariants.{OfOption}
use Rattle.model.specs.declared.question.RepairOption.{RepairOption}
use Rattle.model.specs.declared.question.RepairOption.TheVariants.{Discard, Repair, Move}
use Rattle.model.specs.Books.{Book, KeepsLimits}
use Rattle.model.specs.Studies.{Model, Limits}
use Rattle.plans.specs.Ranges.{upto}
use Rattle.plans.specs.Questions.{echelon_questions, component_questions}
use Rattle.plans.specs.Starts.{byte, final, start}
use Rattle.plans.specs.Uses.{uses}
use Rattle.theory.specs.Amounts.{Amount, nothing, closed, both}
use Rattle.theory.specs.Options.{Options, posted, route}
use Rattle.theory.specs.Places.{echelons}
use Rattle.theory.specs.Tables.{own}
use Rattle.theory.proofs.Places.{echelons_rise}
use Rattle.theory.proofs.Routes.{both_nothing, route_ways, route_byte}
use Rattle.solutions.specs.Problems.{entry, entry_at, options_of, table}
use Rattle.solutions.proofs.Lists.{onward, upto_onward}
use Rattle.solutions.proofs.Amounts.{amount_of, amount_append, upto_nothing, onward_nothing}
use Rattle.solutions.proofs.Used.{unused, echelon_nothing, echelon_discard, echelon_repair, echelon_move}

-- the first three questions to a component that starts at a and has byte v: its byte is at most twice the echelons, it is not
-- 0 exactly where the component is reached, and its final echelon is not before the start
pub record Suits (last a v : ℕ) : Type 0 where
  pub byte_fits : v ≤ 2 * last
  pub decided_is_read : 1 ≤ v → 1 ≤ a
  pub read_is_decided : 1 ≤ a → 1 ≤ v
  pub from_the_start : a ≤ final v

-- an open route ends at a place not below the one where it begins
route_above : (o : Options) (left e v : ℕ) → (route suc o left e v).is_open ≡ true → 2 * e ≤ suc v
route_above o zero e v = λ h. absurd (false≢true h)
route_above o (suc left) e v =
    route_ways suc o left e v (λ a. a.is_open ≡ true → 2 * e ≤ suc v)
    (λ d _. omega arith)
    (λ r _. omega arith)
    (λ _ _ h. omega (arith, route_above o left (suc e) v (and_parts _ _ h).1))

module _ (s : Model) (b : Book) (limits : Limits s) (kept : KeepsLimits b) where
  -- what stands at the echelons
  entry_here : (last i : ℕ) (o : RepairOption) (e : ℕ) → 1 ≤ e → e ≤ last → entry_at s b limits kept last i o e ≡ entry s b limits kept (OfOption i e o)
  entry_here last i o e l m = cond-true (leb 1 e && leb e last) _ _ (and_from (leb 1 e) (leb e last) (le-leb 1 e l) (le-leb e last m))

  module _ (plan : List ℕ) (i : ℕ) where
    -- the questions about component i at the echelon after the k-th
    abbrev by_echelon : ℕ → List Question
    by_echelon k = echelon_questions s.echelons i (suc k)

    -- the amount of what the plan uses
    abbrev amount : List Question → Amount
    amount = amount_of s b limits kept (uses s plan)

    -- where component i starts, and its byte
    abbrev a : ℕ
    a = start s plan i

    abbrev v : ℕ
    v = byte plan i

    -- nothing is used before the start or past the final echelon
    before_start : a ≤ final v → (n : ℕ) → n < a → amount (upto by_echelon n) ≡ nothing
    before_start h n l =
        upto_nothing s b limits kept (uses s plan) by_echelon n
        (λ j m. echelon_nothing s b limits kept plan i (suc j) (unused a v (suc j) (λ _ e. omega arith) (λ _ k _. omega arith)))

    past_final : (left m : ℕ) → final v ≤ m → amount (onward by_echelon m left) ≡ nothing
    past_final left m l =
        onward_nothing s b limits kept (uses s plan) by_echelon left m
        (λ j h. echelon_nothing s b limits kept plan i (suc j) (unused a v (suc j) (λ _ e. omega arith) (λ _ k n. omega arith)))

    -- where the final echelon is this one, the questions from here on come to what is used here
    ends_here : (left m : ℕ) (x : Amount) → final v ≤ suc m → amount (by_echelon m) ≡ x → x ≡ amount (onward by_echelon m (suc left))
    ends_here left m x h e =
        let split = amount_append s b limits kept (uses s plan) (by_echelon m) (onward by_echelon (suc m) left) in
        sym (split ∙ ap₂ both e (past_final left (suc m) h) ∙ both_nothing x)

    -- from an echelon between the start and the final one: the moves, and then the discard or the repair
    route_is : 1 ≤ a → v ≤ 2 * s.echelons → (left m : ℕ) → m + left ≡ s.echelons → a ≤ suc m → suc m ≤ final v → route suc (options_of s b limits kept (suc i)) left (suc m) v ≡ amount (onward by_echelon m left)
    route_is reached fits zero m e l h = absurd (omega arith)
    route_is reached fits (suc left) m e l h =
        let here : (o : RepairOption) → posted (entry_at s b limits kept s.echelons i o (suc m)) ≡ posted (entry s b limits kept (OfOption i (suc m) o)) =
        λ o. ap posted (entry_here s.echelons i o (suc m) (omega arith) (omega arith)) in
        route_ways suc (options_of s b limits kept (suc i)) left (suc m) v (λ x. x ≡ amount (onward by_echelon m (suc left)))
        (λ d. here Discard ∙ ends_here left m _ (omega arith) (echelon_discard s b limits kept plan i (suc m) reached d))
        (λ r. here Repair ∙ ends_here left m _ (omega arith) (echelon_repair s b limits kept plan i (suc m) reached r))
        (λ nd nr.
        let more : suc m < final v = omega arith in
        let moved = ap posted (entry_here (pred s.echelons) i Move (suc m) (omega arith) (omega arith)) in
        let used = echelon_move s b limits kept plan i (suc m) reached l more (omega arith) in
        let rest = route_is reached fits left (suc m) (omega arith) (omega arith) more in
        ap₂ both (moved ∙ sym used) rest ∙ sym (amount_append s b limits kept (uses s plan) (by_echelon m) (onward by_echelon (suc m) left)))

    -- a component that is not reached uses nothing
    unreached_nothing : a ≡ 0 → amount (component_questions s.echelons i) ≡ nothing
    unreached_nothing z =
        upto_nothing s b limits kept (uses s plan) by_echelon s.echelons
        (λ j m. echelon_nothing s b limits kept plan i (suc j) (unused a v (suc j) (λ l _. omega arith) (λ l _ _. omega arith)))

    reached_route : (m : ℕ) → a ≡ suc m → Suits s.echelons a v → route suc (options_of s b limits kept (suc i)) (suc s.echelons - suc m) (suc m) v ≡ amount (component_questions s.echelons i)
    reached_route m e ok =
        let fits = ok.byte_fits in
        let from = ok.from_the_start in
        let left : ℕ = s.echelons - m in
        let all : m + left ≡ s.echelons = omega arith in
        ap (λ n. route suc (options_of s b limits kept (suc i)) n (suc m) v) (let same : suc s.echelons - suc m ≡ left = omega arith in same)
        ∙ route_is (omega arith) fits left m all (omega arith) (omega arith)
        ∙ sym (ap amount (upto_onward by_echelon left m s.echelons all) ∙ amount_append s b limits kept (uses s plan) (upto by_echelon m) (onward by_echelon m left)
        ∙ ap (λ x. both x (amount (onward by_echelon m left))) (before_start from m (omega arith)))

    -- what it posts from a start with its byte
    abbrev posts_own : ℕ → Amount
    posts_own e = own (table s b limits kept) (suc i) e v

    -- a reached component goes by its route
    places_left : (m : ℕ) → (echelons s.echelons).above (suc m) ≡ suc s.echelons - suc m
    places_left m = grind arith

    own_reached : (m : ℕ) → posts_own (suc m) ≡ route suc (options_of s b limits kept (suc i)) (suc s.echelons - suc m) (suc m) v
    own_reached m =
        cond-false (eqb (suc m) 0) (cond (eqb v 0) nothing closed) _ (eqb-suc-zero m)
        ∙ ap (λ n. route suc (options_of s b limits kept (suc i)) n (suc m) v) (places_left m)

    own_is : Suits s.echelons a v → (e : ℕ) → a ≡ e → posts_own e ≡ amount (component_questions s.echelons i)
    own_is ok zero z =
        let none : v ≡ 0 = ⊎_elim (λ e. e) (λ n. absurd (let read = ok.decided_is_read (omega arith) in omega arith)) (cases_eq v 0) in
        cond-true (eqb v 0) nothing closed (eq-eqb v 0 none) ∙ sym (unreached_nothing z)
    own_is ok (suc m) z = own_reached m ∙ reached_route m z ok

    -- a component whose byte suits its start posts what its used questions post
    pub own_posts : Suits s.echelons a v → posts_own a ≡ amount (component_questions s.echelons i)
    own_posts ok = own_is ok a refl

    own_suits : (e : ℕ) → (posts_own e).is_open ≡ true → Suits s.echelons e v
    own_suits zero h = grind arith
    own_suits (suc m) h =
        let o : Options = options_of s b limits kept (suc i) in
        let opens : (route suc o (suc s.echelons - suc m) (suc m) v).is_open ≡ true = sym (ap (λ (x : Amount). x.is_open) (own_reached m)) ∙ h in
        let above = route_above o (suc s.echelons - suc m) (suc m) v opens in
        record {
          byte_fits = route_byte (echelons s.echelons) (echelons_rise s.echelons limits.few_echelons) o (suc s.echelons - suc m) (suc m) v (places_left m) opens;
          decided_is_read = λ l. omega arith;
          read_is_decided = λ l. omega arith;
          from_the_start = omega arith;
        }

    -- and where it is open, its byte suits its start
    pub open_suits : (posts_own a).is_open ≡ true → Suits s.echelons a v
    open_suits h = own_suits a h
