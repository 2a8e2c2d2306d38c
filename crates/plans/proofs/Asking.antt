-- What a plan uses is asked about, and what is asked about and passes the test is used.
use Rattle.std.proofs.Common.{◌≡◌, ℕ, ◌*◌, ◌/◌, ◌%◌, ◌^◌, ◌<◌, ◌≤◌, true, ltb, List, sym, ap, ◌∙◌, subst, inl, inr, arith, pow_mono}
use Rattle.std.proofs.lemmas.Bool.{cases_lt, eqb-true, and_parts}
use Rattle.std.proofs.lemmas.Nat.{pow_pos, div_below}
use Rattle.model.specs.declared.component.Needs.{Needs}
use Rattle.model.specs.declared.question.Question.{Question}
use Rattle.model.specs.declared.question.Question.TheVariants.{OfOption, OfResource}
use Rattle.model.specs.declared.question.RepairOption.{RepairOption}
use Rattle.model.specs.Components.{need, needs_resource, names_below}
use Rattle.model.specs.Letters.{letter}
use Rattle.model.specs.Studies.{Model, Limits}
use Rattle.plans.specs.Questions.{component_questions, pair_questions}
use Rattle.plans.specs.Postings.{component}
use Rattle.plans.specs.Starts.{byte, Starts}
use Rattle.plans.specs.Uses.{Uses, discards, repairs, moves, Needed, uses}
use Rattle.plans.specs.Prices.{needs_pair}
use Rattle.plans.specs.Laws.{ReadsStart, UsesIt, Among}
use Rattle.plans.proofs.Reading.{start_read}
use Rattle.plans.proofs.Surveyed.{Offered, offered_is_asked, pair_is_asked, asked_of_component, asked_of_pairs}
use Rattle.plans.proofs.Using.{used_is_entered, passes_used, passes_needed}

-- the byte of a reached component is not 0, and at most twice the echelons
abbrev pub BytesFit : Model → List ℕ → Type 0
BytesFit s plan = (i a : ℕ) → Starts s plan i a → (1 ≤ byte plan i) × (byte plan i ≤ 2 * s.echelons)

-- what is used is offered
used_is_offered : {s : Model} {plan : List ℕ} {i e : ℕ} {o : RepairOption} → BytesFit s plan → Uses s plan i e o → Offered s.echelons e o
used_is_offered fit (discards i a e r h) = let fits = fit i a r in (omega arith, omega arith, λ z. omega (arith, ap letter z))
used_is_offered fit (repairs i a e r h) = let fits = fit i a r in (omega arith, omega arith, λ z. omega (arith, ap letter z))
used_is_offered fit (moves i a e r l h) =
    let fits = fit i a r in
    let read = start_read r in
    (omega arith, omega arith, λ z. omega arith)

pub used_is_asked :
    {s : Model} {plan : List ℕ} {i e : ℕ} {o : RepairOption} → BytesFit s plan → Uses s plan i e o
    → Among (OfOption i e o) (component_questions s.echelons i)
used_is_asked {s} {plan} {i} {e} {o} fit u = offered_is_asked s.echelons i e o (used_is_offered fit u)

-- a mask below 2 ^ q has no bit from q on
bit_below : (m q r : ℕ) → m < 2 ^ q → m / 2 ^ r % 2 ≡ 1 → r < q
bit_below m q r l h =
    elim (cases_lt r q) [
      | inl k ↦ k
      | inr k ↦ let rises = pow_mono k in absurd (omega (arith, div_below m (2 ^ r) 1 (pow_pos r) (omega arith)))
    ]

-- needs that name only resources below q have such masks
mask_below : (q : ℕ) (n : Needs) → names_below q n ≡ true → (o : RepairOption) → need n o < 2 ^ q
mask_below q n h o = grind arith

-- so a resource that is needed is one of the study's
needed_is_known : (q : ℕ) (n : Needs) (o : RepairOption) (r : ℕ) → names_below q n ≡ true → needs_resource n o r ≡ true → r < q
needed_is_known q n o r h k = bit_below (need n o) q r (mask_below q n h o) (eqb-true _ _ (and_parts (ltb r 8) _ k).1)

pub needed_is_asked : (s : Model) (plan : List ℕ) (r e : ℕ) → Limits s → BytesFit s plan → Needed s plan r e → Among (OfResource r e) (pair_questions s)
needed_is_asked s plan r e limits fit n =
    let entered = used_is_entered n.used in
    let known = needed_is_known s.resources (component s n.by).needs n.option r (limits.sound_rows n.by entered).3 n.needs in
    let offered = used_is_offered fit n.used in
    pair_is_asked s r e known offered.0 offered.1

-- an option of component i that is asked about and passes is used, where the start is read
module _ (s : Model) (plan : List ℕ) (i : ℕ) (reads : ReadsStart s plan i) (q : Question) where
  pub asked_is_used : Among q (component_questions s.echelons i) → uses s plan q ≡ true → UsesIt s plan q
  asked_is_used m u =
      let of = asked_of_component s.echelons i q m in
      let is = of.1.1 in
      subst (λ p. UsesIt s plan p) (sym is) (passes_used s plan i reads of.0 of.1.0 (ap (uses s plan) (sym is) ∙ u))

  -- and a pair for which component i passes is needed
  pub asked_is_needed : Among q (pair_questions s) → needs_pair s plan i q ≡ true → UsesIt s plan q
  asked_is_needed m u =
      let of = asked_of_pairs s q m in
      let is = of.1.1 in
      subst (λ p. UsesIt s plan p) (sym is) (passes_needed s plan of.0 of.1.0 i reads (ap (needs_pair s plan i) (sym is) ∙ u))
