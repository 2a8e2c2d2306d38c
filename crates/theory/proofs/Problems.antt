-- The plans of a proper problem: the search may count them, the walk answers them, and they are rows of bytes.
use Rattle.std.proofs.Common.{◌≡◌, ℕ, ◌+◌, ◌≤◌, Bool, true, false, not, ◌&&◌, eqb, List, length, sym, refl, ap, ◌∙◌, subst, subst₂, arith}
use Rattle.std.proofs.lemmas.Bool.{eq-eqb, eqb-true, and_parts, and_from, not-true, not_from_false}
use Rattle.costs.specs.Postings.{most}
use Rattle.costs.specs.Kinds.{Adding, Laws}
use Rattle.theory.specs.Amounts.{Amount, value, precedes}
use Rattle.theory.specs.Breakdowns.{spent, number}
use Rattle.theory.specs.Tables.{Table, Sound, top_byte, breakdown, walked}
use Rattle.theory.specs.Marks.{blocked}
use Rattle.theory.specs.Searches.{Countable, IsClear, cost, Walked}
use Rattle.theory.specs.ReadingOrder.{row_number}
use Rattle.theory.specs.Answers.{IsPlan, Bytewise}
use Rattle.theory.specs.Problems.{Problem, Proper, bytes_of, row_of, options_of, needs_of, if_whole, plans, costs, under, walk}
use Rattle.theory.proofs.Routes.{amount}
use Rattle.theory.proofs.Tables.{spent_fits, open_bytes, open_posts}
use Rattle.theory.proofs.Walked.{walked_whole, walked_first}
use Rattle.theory.proofs.Marks.{clear_from, from_clear, allowed_spent, marked_sound}
use Rattle.theory.proofs.Pairs.{pairs_fit}
use Rattle.theory.proofs.RowsOfBytes.{row_length, row_bytes, number_of_row, number_of_bytes, spent_same, needed_same, bytes_up_to}

module _ (y : Problem) (ok : Proper y) where
  whole_row : (r : List ℕ) (a : Amount) → length r ≡ y.table.size → if_whole y r a ≡ a
  whole_row r a e = ap (λ t. amount (t && a.is_open) a.row) (eq-eqb (length r) y.table.size e)

  -- a plan that is clear: it has a byte for each component, and its options are open
  clear_parts : (shut : ℕ → Bool) (r : List ℕ) → IsClear (plans y) shut r → (length r ≡ y.table.size) × ((options_of y r).is_open ≡ true)
  clear_parts shut r c = let p = and_parts (eqb (length r) y.table.size) (options_of y r).is_open c.0 in (eqb-true (length r) y.table.size p.0, p.1)

  -- ---- a row of bytes is a plan exactly if the search finds it clear of the closed pairs
  pub clear_is_plan : (r : List ℕ) → IsClear (plans y) y.is_closed r → IsPlan (costs y) r
  clear_is_plan r c =
      let p = and_parts (eqb (length r) y.table.size) (options_of y r).is_open c.0 in
      and_from _ _ p.0 (and_from _ _ p.1 (not_from_false _ (from_clear y.is_closed (needs_of y r) y.pairs c.1)))

  pub plan_is_clear : (r : List ℕ) → IsPlan (costs y) r → IsClear (plans y) y.is_closed r
  plan_is_clear r e =
      let stop = blocked y.is_closed (needs_of y r) y.pairs in
      let p = and_parts (eqb (length r) y.table.size) ((options_of y r).is_open && not stop) e in
      let q = and_parts (options_of y r).is_open (not stop) p.1 in
      (and_from _ _ p.0 q.0, clear_from y.is_closed (needs_of y r) y.pairs (not-true stop q.1))

  -- and it costs the same
  pub plan_costs : (r : List ℕ) → IsPlan (costs y) r → costs y r ≡ cost (plans y) r
  plan_costs r e = ap (λ o. amount o (costs y r).row) (e ∙ sym (plan_is_clear r e).0)

  -- ---- what the search asks of plans
  options_fit : (r : List ℕ) → length (options_of y r).row + y.pairs ≤ most
  options_fit r = omega (arith, spent_fits y.table ok.sound (bytes_of r), ok.few_pairs)

  pub countable : Countable (plans y)
  countable = record {
    no_gain = ok.no_gain;
    posts = λ r e. open_posts y.table ok.sound (bytes_of r) y.table.size ok.some_component (and_parts (eqb (length r) y.table.size) (options_of y r).is_open e).1;
    room = options_fit;
  }

  -- ---- what the definition through every row asks of costs
  pub bytewise : Bytewise (costs y) (top_byte y.table) y.table.size
  bytewise = record {
    size = λ r e. (clear_parts y.is_closed r (plan_is_clear r e)).0;
    bytes = λ r e. let p = clear_parts y.is_closed r (plan_is_clear r e) in
        (bytes_up_to y.table ok.sound r y.table.size (top_byte y.table) p.0 (open_bytes y.table ok.sound (bytes_of r) y.table.size p.1)).1;
    fits = λ r. pairs_fit y.pair y.pairs (options_of y r) (needs_of y r) (options_fit r);
  }

  -- ---- the walk
  module _ {C : Type 0} {k : Adding C} {lower : C → C → Bool} (laws : Laws k lower) where
    -- the walk with some pairs shut answers the least and first plan clear of them
    pub walk_answers : (shut : ℕ → Bool) → Walked k lower (plans y) shut (walk k lower y shut)
    walk_answers shut = record {
      first = λ r clear.
          let p = clear_parts shut r clear in
          let in_bytes = (bytes_up_to y.table ok.sound r n (top_byte y.table) p.0 (open_bytes y.table ok.sound (bytes_of r) n p.1)).0 in
          let same = (allowed_spent shut y.pairs y.table y.needs (bytes_of r) n).into p.1 clear.1 in
          let h = walked_first k lower g sound laws (bytes_of r) in_bytes refl in
          let e1 : value k (spent (breakdown g) n (bytes_of r)) ≡ value k ((plans y).options r) = ap (value k) (same ∙ sym (whole_row r (options_of y r) p.0)) in
          let e2 = sym (number_of_bytes rank r n p.0) in
          let e3 = sym (number_of_row rank a n) in
          subst₂ (λ u x. precedes lower u x (value k (spent (breakdown g) n a)) (row_number rank 0 (row_of n a)) ≡ false) e1 e2
          (subst (λ x. precedes lower (value k (spent (breakdown g) n (bytes_of r))) (number rank n (bytes_of r)) (value k (spent (breakdown g) n a)) x ≡ false) e3 h);
      real = λ e.
          let out = (allowed_spent shut y.pairs y.table y.needs a n).out e in
          let agree = row_bytes a n (walked_whole k lower g sound) in (
            whole_row (row_of n a) (options_of y (row_of n a)) (row_length a n) ∙ spent_same y.table ok.sound (bytes_of (row_of n a)) a n agree ∙ sym out.0,
            λ j l m. out.1 j l (sym (needed_same y.table ok.sound y.needs (bytes_of (row_of n a)) a j n agree) ∙ m),
          );
      room = omega (arith, spent_fits g sound a, ok.few_pairs);
    }
      where
        g : Table
        g = under y shut

        sound : Sound g
        sound = marked_sound shut y.pairs y.table y.needs ok.sound

        n : ℕ
        n = y.table.size

        rank : ℕ → ℕ
        rank = y.table.rank

        a : ℕ → ℕ
        a = walked k lower (under y shut)
