-- What the code holds of amounts: the sum of two, and which of two choices comes first.
use Rattle.std.proofs.Common.{◌≡◌, ℕ, zero, suc, ◌+◌, ◌-◌, ◌*◌, ◌<◌, ◌≤◌, Bool, true, false, cond, not, ◌&&◌, ◌||◌, ltb, List, [], ◌∷◌, ◌++◌, length, Some, None, Option, sym, refl, ap, ◌∙◌, subst, arith, length-append}
use Rattle.std.proofs.lemmas.Bool.{and_from, and_parts, false≢true}
use Rattle.costs.specs.Postings.{most}
use Rattle.costs.specs.Kinds.{Adding, SumOf, Laws}
use Rattle.planning.specs.declared.table.Choices.{Choices}
use Rattle.plans.specs.Orders.{rank}
use Rattle.theory.specs.Entries.{Entry, sum}
use Rattle.theory.specs.Amounts.{Amount, both, Fits, value, precedes}
use Rattle.theory.specs.Options.{Options, posted}
use Rattle.theory.specs.Choices.{Choice as Chosen, better, discarded, repaired, moved, way_on, best}
use Rattle.theory.proofs.Sums.{sum_of, sum_append}
use Rattle.theory.proofs.Routes.{posted_length}
use Rattle.theory.proofs.Bests.{better_either}
use Rattle.solving.specs.declared.sum.Sum.{Sum}
use Rattle.solving.specs.declared.sum.Sum.TheVariants.{Cost, Closed}
use Rattle.solving.specs.declared.choice.Choice.{Choice}
use Rattle.solving.specs.Sums.{row_sum, held, held_choice, Posts, HoldsPosting, Joins, Precedes, Betters, Leads}

module _ {C : Type 0} (k : Adding C) where
  -- a cost is the sum of an open row that is not empty
  cost_parts : (o : Bool) (row : List Entry) (c : C) → Cost c ≡ cond o (row_sum k row) Closed → (o ≡ true) × (0 < length row) × (c ≡ sum k row)
  cost_parts true [] c e = absurd (let w : ◌≡◌ {A = ℕ} 0 1 = cc in omega arith)
  cost_parts true (p ∷ ps) c e = (refl, omega arith, cc)
  cost_parts false row c e = absurd (let w : ◌≡◌ {A = ℕ} 0 1 = cc in omega arith)

  cost_of_row : (o : Bool) (row : List Entry) → o ≡ true → 0 < length row → cond o (row_sum k row) Closed ≡ Cost (sum k row)
  cost_of_row o [] e h = absurd (omega arith)
  cost_of_row o (p ∷ ps) e h = ap (λ b. cond b (row_sum k (p ∷ ps)) Closed) e

  -- the sum of two costs
  pub join_costs : {lower : C → C → Bool} → Laws k lower → (a b : Sum C) (c d r : C) → a ≡ Cost c → b ≡ Cost d → ((m n : ℕ) → SumOf k m c → SumOf k n d → m + n ≤ most → r ≡ k.plus c d) → Joins k a b (Cost r)
  join_costs laws a b c d r ac bd adds x y ax by fits =
      let l = cost_parts x.is_open x.row c (sym ac ∙ ax) in
      let m = cost_parts y.is_open y.row d (sym bd ∙ by) in
      let of_c = subst (SumOf k (length x.row)) (sym l.2) (sum_of k x.row l.1) in
      let of-d = subst (SumOf k (length y.row)) (sym m.2) (sum_of k y.row m.1) in
      let is = adds (length x.row) (length y.row) of_c of-d fits in
      let some : 0 < length (x.row ++ y.row) = omega (arith, length-append x.row y.row, l.1) in
      let whole = sum_append laws x.row y.row l.1 m.1 fits in
      ap Cost (is ∙ ap (λ v. k.plus v d) l.2 ∙ ap (k.plus (sum k x.row)) m.2 ∙ sym whole)
      ∙ sym (cost_of_row (x.is_open && y.is_open) (x.row ++ y.row) (and_from _ _ l.0 m.0) some)

  cost_value : (x : Amount) (c : C) → Cost c ≡ held k x → value k x ≡ Some c
  cost_value x c e =
      let l = cost_parts x.is_open x.row c e in
      ap (λ b. cond b (Some (sum k x.row)) None) l.0 ∙ ap Some (sym l.2)

  -- the test of two choices that have a cost
  pub costs_precede : (lower : C → C → Bool) (a b : Choice C) (c d : C) (r : Bool) → a.sum ≡ Cost c → b.sum ≡ Cost d → ((m n : ℕ) → SumOf k m c → SumOf k n d → m ≤ most → n ≤ most → r ≡ lower c d || (not (lower d c) && ltb (rank a.byte) (rank b.byte))) → Precedes k lower a b r
  costs_precede lower a b c d r ac bd tells x y fx fy px py ax by =
      let ex : Cost c ≡ held k x.sum = sym ac ∙ ap (λ (v : Choice C). v.sum) ax in
      let ey : Cost d ≡ held k y.sum = sym bd ∙ ap (λ (v : Choice C). v.sum) by in
      let l = cost_parts x.sum.is_open x.sum.row c ex in
      let m = cost_parts y.sum.is_open y.sum.row d ey in
      let of_c = subst (SumOf k (length x.sum.row)) (sym l.2) (sum_of k x.sum.row l.1) in
      let of-d = subst (SumOf k (length y.sum.row)) (sym m.2) (sum_of k y.sum.row m.1) in
      let is = tells (length x.sum.row) (length y.sum.row) of_c of-d fx fy in
      let bx : a.byte ≡ x.byte = ap (λ (v : Choice C). v.byte) ax in
      let by2 : b.byte ≡ y.byte = ap (λ (v : Choice C). v.byte) by in
      is ∙ ap (λ v. lower c d || (not (lower d c) && ltb (rank v) (rank b.byte))) bx
      ∙ ap (λ v. lower c d || (not (lower d c) && ltb (rank x.byte) (rank v))) by2
      ∙ sym (ap (λ v. precedes lower v (rank x.byte) (value k y.sum) (rank y.byte)) (cost_value x.sum c ex)
      ∙ ap (λ v. precedes lower (Some c) (rank x.byte) v (rank y.byte)) (cost_value y.sum d ey))

-- ---- every choice posts something, if it is open
posted_posts : (o : Option Entry) → Posts (posted o)
posted_posts None h = absurd (false≢true h)
posted_posts (Some p) h = omega arith

both_posts : (a b : Amount) → Posts a → Posts (both a b)
both_posts a b h e = omega (arith, h (and_parts _ _ e).0, length-append a.row b.row)

module _ {C : Type 0} (k : Adding C) (lower : C → C → Bool) (rank : ℕ → ℕ) (o : Options) where
  pub way_posts : (under : ℕ → Amount) (e : ℕ) (on : Chosen) → Posts (way_on k lower rank o under e on).sum
  way_posts under e on =
      let Q : Chosen → Type 0 = λ c. Posts c.sum in
      let here = better_either k lower rank Q (discarded o e) (repaired o under e) (posted_posts (o.discard e)) (both_posts (posted (o.repair e)) (under e) (posted_posts (o.repair e))) in
      better_either k lower rank Q (better k lower rank (discarded o e) (repaired o under e)) (moved o e on) here (both_posts (posted (o.move e)) on.sum (posted_posts (o.move e)))

  pub best_posts : (up : ℕ → ℕ) (under : ℕ → Amount) (left e : ℕ) → Posts (best k lower rank up o under left e).sum
  best_posts up under zero e = λ h. absurd (false≢true h)
  best_posts up under (suc left) e = way_posts under e (best k lower rank up o under left (up e))

-- ---- the best way on
module _ {C : Type 0} (k : Adding C) (lower : C → C → Bool) where
  same_choice : (b : ℕ) (s : Sum C) (c : Chosen) → b ≡ c.byte → s ≡ held k c.sum → ◌≡◌ {A = Choice C} (record { byte = b; sum = s }) (held_choice k c)
  same_choice b s c p q = ap (λ v. record { byte = v; sum = s }) p ∙ ap (λ (v : Sum C). record { byte = c.byte; sum = v }) q

  -- the best way on, from what its parts are
  pub way_held : (p : Choices) (e : ℕ) (under : Sum C) (onward : Choice C) (d h r m v : Sum C) (mid z : Choice C)
      → HoldsPosting k p.discard d
      → HoldsPosting k p.repair h → Joins k h under r
      → HoldsPosting k p.moving m → Joins k m onward.sum v
      → Betters k lower (record { byte = 2 * e - 1; sum = d }) (record { byte = 2 * e; sum = r }) mid
      → Betters k lower mid (record { byte = onward.byte; sum = v }) z
      → Leads k lower p e under onward z
  way_held p e under onward d h r m v mid z fd fh fr fm fv fmid fz o below on offers eu eo posts room-under room-on =
      let D = discarded o e in
      let R = repaired o below e in
      let M = moved o e on in
      let ed = fd (o.discard e) offers.0 in
      let er = fr (posted (o.repair e)) (below e) (fh (o.repair e) offers.1) eu (omega (arith, posted_length (o.repair e))) in
      let em = fv (posted (o.move e)) on.sum (fm (o.move e) offers.2) (ap (λ (c : Choice C). c.sum) eo) (omega (arith, posted_length (o.move e))) in
      let sd : Fits D.sum = omega (arith, posted_length (o.discard e)) in
      let sr : Fits R.sum = omega (arith, posted_length (o.repair e), length-append (posted (o.repair e)).row (below e).row) in
      let sm : Fits M.sum = omega (arith, posted_length (o.move e), length-append (posted (o.move e)).row on.sum.row) in
      let pd = posted_posts (o.discard e) in
      let pr = both_posts (posted (o.repair e)) (below e) (posted_posts (o.repair e)) in
      let pm = both_posts (posted (o.move e)) on.sum (posted_posts (o.move e)) in
      let is-mid = fmid D R sd sr pd pr (same_choice (2 * e - 1) d D refl ed) (same_choice (2 * e) r R refl er) in
      let s-mid = better_either k lower rank (λ c. Fits c.sum) D R sd sr in
      let p-mid = better_either k lower rank (λ c. Posts c.sum) D R pd pr in
      fz (better k lower rank D R) M s-mid sm p-mid pm is-mid (same_choice onward.byte v M (ap (λ (c : Choice C). c.byte) eo) em)
