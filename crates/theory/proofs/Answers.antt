-- The definition that goes through every row of bytes decides: it meets the answer's relation, which one row meets.
use Rattle.std.proofs.Common.{◌≡◌, ℕ, ◌≤◌, Bool, false, List, length, Some, None, Option, sym, refl, ap, ◌∙◌, subst, ⊎_elim, arith}
use Rattle.std.specs.List.{ContainsAt as Has, AllByRecursion}
use Rattle.std.proofs.ByRecursion.{All-weaker}
use Rattle.std.proofs.lemmas.Bool.{both_ways}
use Rattle.std.proofs.lemmas.Option.{none-some}
use Rattle.costs.specs.Kinds.{Adding, Laws}
use Rattle.theory.specs.Entries.{sum}
use Rattle.theory.specs.Ranks.{Ranked}
use Rattle.theory.specs.Amounts.{Amount, value, precedes}
use Rattle.theory.specs.ReadingOrder.{row_number, ByteOrder}
use Rattle.theory.specs.Answers.{IsPlan, Answer, rows, solved, Bytewise, Decided}
use Rattle.theory.proofs.Sums.{sum_known}
use Rattle.theory.proofs.Precedence.{open_is_before_none, neither_is_same, between_open}
use Rattle.theory.proofs.ReadingOrder.{before_is_lower, first_of_two}
use Rattle.theory.proofs.Rows.{rows_in_order, all_rows}
use Rattle.theory.proofs.Folds.{after_none, KeptAll, keep_all}

-- a plan that no other precedes is the answer
module _ {C : Type 0} {k : Adding C} {lower : C → C → Bool} (laws : Laws k lower) (rank : ℕ → ℕ) (top : ℕ) (ranks : Ranked rank top) (bytes : List ℕ) (order : ByteOrder rank top bytes) (n : ℕ) (costs : List ℕ → Amount) (ok : Bytewise costs top n) where
  same_size : (r y : List ℕ) → IsPlan costs r → IsPlan costs y → length r ≡ length y
  same_size r y p q = ok.size r p ∙ sym (ok.size y q)

  pub first_is_answer : (r : List ℕ) → IsPlan costs r → ((y : List ℕ) → IsPlan costs y → precedes lower (value k (costs y)) (row_number rank 0 y) (value k (costs r)) (row_number rank 0 r) ≡ false) → Answer k lower rank costs r
  first_is_answer r plan none_before =
      let fact : (y : List ℕ) → IsPlan costs y → (lower (sum k (costs y).row) (sum k (costs r).row) ≡ false) × (sum k (costs y).row ≡ sum k (costs r).row → row_number rank 0 r ≤ row_number rank 0 y) =
      λ y e. between_open laws (costs y) (costs r) (row_number rank 0 y) (row_number rank 0 r) (ok.fits r) e plan (none_before y e) in
      record {
        plan = plan;
        least = λ y e. (fact y e).0;
        first = λ y e same. first_of_two rank top ranks r y (same_size r y plan e) (ok.bytes r plan) (ok.bytes y e) ((fact y e).1 same);
      }

  -- there is one answer
  pub one_answer : (r s : List ℕ) → Answer k lower rank costs r → Answer k lower rank costs s → r ≡ s
  one_answer r s p q =
      let sr = sum_known k (costs r).row (ok.fits r) in
      let ss = sum_known k (costs s).row (ok.fits s) in
      let tie = neither_is_same laws (sum k (costs s).row) (sum k (costs r).row) ss sr (p.least s q.plan) (q.least r p.plan) in
      ⊎_elim (λ e. e)
      (λ b. ⊎_elim sym
      (λ c. absurd (omega (arith, before_is_lower rank top ranks 0 r s (same_size r s p.plan q.plan) (ok.bytes r p.plan) b, before_is_lower rank top ranks 0 s r (same_size s r q.plan p.plan) (ok.bytes s q.plan) c)))
      (q.first r p.plan (sym tie)))
      (p.first s q.plan tie)

  -- what decides: an answer, or none where there is no plan
  abbrev pub Decides : Option (List ℕ) → Type 0
  Decides None = (y : List ℕ) → IsPlan costs y → ⊥
  Decides (Some r) = Answer k lower rank costs r

  pub decided : (o : Option (List ℕ)) → Decides o → Decided k lower rank costs o
  decided None h = record {
    is_answer = λ r e. absurd (none-some r e);
    answer_is = λ r a. absurd (h r a.plan);
    none_without_plan = λ _. h;
    one_with_plan = λ y p. absurd (h y p);
  }
  decided (Some r) h = record {
    is_answer = λ s e. let is : r ≡ s = cc in subst (Answer k lower rank costs) is h;
    answer_is = λ s a. ap Some (one_answer r s h a);
    none_without_plan = λ e. absurd (none-some r (sym e));
    one_with_plan = λ y p. (r, refl);
  }

  -- what decides is the same
  pub same_decision : (o p : Option (List ℕ)) → Decides o → Decides p → o ≡ p
  same_decision None None h i = refl
  same_decision None (Some s) h i = absurd (h s i.plan)
  same_decision (Some r) None h i = absurd (i r h.plan)
  same_decision (Some r) (Some s) h i = ap Some (one_answer r s h i)

  kept : KeptAll laws costs ok.fits (row_number rank 0) None (rows bytes n) (solved k lower costs bytes n)
  unfolding solved
  kept = keep_all laws costs ok.fits (row_number rank 0) None (rows bytes n) (rows_in_order rank top ranks bytes order.only_bytes order.in_order n 0) (after_none (row_number rank 0) (rows bytes n)) tt

  of_every_row : (Q : List ℕ → Type 0) → AllByRecursion Q (rows bytes n) → (y : List ℕ) → IsPlan costs y → Q y
  of_every_row Q h y p = all_rows bytes n Q h y (ok.size y p) (All-weaker (λ b. b ≤ top) (Has bytes) order.every_byte y (ok.bytes y p))

  kept_decides : (o : Option (List ℕ)) → KeptAll laws costs ok.fits (row_number rank 0) None (rows bytes n) o → Decides o
  kept_decides None h = λ y e. let b = of_every_row (λ y. precedes lower (value k (costs y)) (row_number rank 0 y) None 0 ≡ false) h.1 y e in
      absurd (both_ways _ b (open_is_before_none k lower (costs y) (row_number rank 0 y) 0 e))
  kept_decides (Some r) h = first_is_answer r h.2 (λ y e. of_every_row (λ y. precedes lower (value k (costs y)) (row_number rank 0 y) (value k (costs r)) (row_number rank 0 r) ≡ false) h.1 y e)

  -- the definition decides
  pub solved_decides : Decides (solved k lower costs bytes n)
  solved_decides = kept_decides (solved k lower costs bytes n) kept
