-- Whatever a search of all plans finds is what the definition through every row of bytes answers.
use Rattle.std.proofs.Common.{◌≡◌, ℕ, Bool, false, List, Some, None, Option, sym, refl, ap, ◌∙◌, subst}
use Rattle.std.proofs.lemmas.Bool.{both_ways}
use Rattle.costs.specs.Kinds.{Adding, Laws}
use Rattle.theory.specs.Amounts.{value, precedes}
use Rattle.theory.specs.Tables.{top_byte}
use Rattle.theory.specs.Searches.{Best, IsClear, cost, Found}
use Rattle.theory.specs.ReadingOrder.{row_number, ByteOrder}
use Rattle.theory.specs.Answers.{IsPlan, costs_of, solved}
use Rattle.theory.specs.Laws.{Solves}
use Rattle.theory.specs.Problems.{Problem, Proper, plans, costs, no_plan, plan_if, plan_of}
use Rattle.theory.proofs.Precedence.{open_is_before_none}
use Rattle.theory.proofs.Searches.{found_all}
use Rattle.theory.proofs.Answers.{first_is_answer, Decides, same_decision, solved_decides}
use Rattle.theory.proofs.Problems.{clear_is_plan, plan_is_clear, plan_costs, countable, bytewise}

module _ {C : Type 0} {k : Adding C} {lower : C → C → Bool} (laws : Laws k lower) (y : Problem) (ok : Proper y) (bytes : List ℕ) (order : ByteOrder y.table.rank (top_byte y.table) bytes) where
  -- what the problem's plans decide
  abbrev pub Settles : Option (List ℕ) → Type 0
  Settles = Decides laws y.table.rank (top_byte y.table) ok.sound.ranks bytes order y.table.size (costs y) (bytewise y ok)

  module _ (r₀ : List ℕ) (r : Best (List ℕ) C) (found : Found k lower (plans y) y.is_closed (λ _. false) y.is_closed (no_plan r₀) r) where
    all_found : ((x : List ℕ) → IsClear (plans y) y.is_closed x → precedes lower (value k (cost (plans y) x)) (row_number y.table.rank 0 x) r.cost (row_number y.table.rank 0 r.plan) ≡ false) × ((c : C) → r.cost ≡ Some c → IsClear (plans y) y.is_closed r.plan × (r.cost ≡ value k (cost (plans y) r.plan)))
    all_found = found_all laws (plans y) (countable y ok) y.is_closed (no_plan r₀) r refl found

    -- no plan precedes what is found
    none_before : (x : List ℕ) → IsPlan (costs y) x → precedes lower (value k (costs y x)) (row_number y.table.rank 0 x) r.cost (row_number y.table.rank 0 r.plan) ≡ false
    none_before x p = subst (λ a. precedes lower (value k a) (row_number y.table.rank 0 x) r.cost (row_number y.table.rank 0 r.plan) ≡ false) (sym (plan_costs y ok x p)) (all_found.0 x (plan_is_clear y ok x p))

    -- a cost that is found is its plan's
    pub found_cost : (c : C) → r.cost ≡ Some c → IsPlan (costs y) r.plan × (r.cost ≡ value k (costs y r.plan))
    found_cost c e =
        let h = all_found.1 c e in
        let p = clear_is_plan y ok r.plan h.0 in
        (p, h.1 ∙ ap (value k) (sym (plan_costs y ok r.plan p)))

    pub found_settles : Settles (plan_of r)
    found_settles = go r.cost refl
      where
        go : (o : Option C) → r.cost ≡ o → Settles (plan_if o r.plan)
        go None e = λ x p.
            let h = subst (λ v. precedes lower (value k (costs y x)) (row_number y.table.rank 0 x) v (row_number y.table.rank 0 r.plan) ≡ false) e (none_before x p) in
            absurd (both_ways _ h (open_is_before_none k lower (costs y x) (row_number y.table.rank 0 x) (row_number y.table.rank 0 r.plan) p))
        go (Some c) e =
            let f = found_cost c e in
            first_is_answer laws y.table.rank (top_byte y.table) ok.sound.ranks bytes order y.table.size (costs y) (bytewise y ok) r.plan f.0
            (λ x p. subst (λ v. precedes lower (value k (costs y x)) (row_number y.table.rank 0 x) v (row_number y.table.rank 0 r.plan) ≡ false) f.1 (none_before x p))

    -- what is found is what the definition answers
    pub found_is_solved : plan_of r ≡ solved k lower (costs y) bytes y.table.size
    found_is_solved =
        same_decision laws y.table.rank (top_byte y.table) ok.sound.ranks bytes order y.table.size (costs y) (bytewise y ok) (plan_of r) (solved k lower (costs y) bytes y.table.size) found_settles
        (solved_decides laws y.table.rank (top_byte y.table) ok.sound.ranks bytes order y.table.size (costs y) (bytewise y ok))

    -- and at its cost
    pub found_solves : Solves k y r (solved k lower (costs y) bytes y.table.size)
    found_solves = record { plan = found_is_solved; cost = subst (λ o. r.cost ≡ value k (costs_of (costs y) o)) found_is_solved (go r.cost refl) }
      where
        go : (o : Option C) → r.cost ≡ o → r.cost ≡ value k (costs_of (costs y) (plan_if o r.plan))
        go None e = e
        go (Some c) e = (found_cost c e).1
