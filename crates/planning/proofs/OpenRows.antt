-- What the rows of the survey say of a component is what the book says.
use Rattle.std.proofs.Common.{◌≡◌, ℕ, suc, ◌*◌, ◌<◌, ◌≤◌, Bool, true, false, cond, not, ◌&&◌, ◌||◌, ltb, leb, List, [], ◌∷◌, get_or, is_some, None, Option, sym, refl, ap, ◌∙◌, arith}
use Rattle.std.proofs.Math.Bool.{and-true}
use Rattle.std.proofs.lemmas.Bool.{le-leb, lt-leb, le-ltb, ltb-false, ne_eqb, and_from, and_right, or_from, cond-true, cond-false}
use Rattle.costs.specs.declared.posting.Posting.{Posting}
use Rattle.model.specs.declared.answer.Answer.{Answer}
use Rattle.model.specs.declared.answer.Answer.TheVariants.{Charged, Barred, Faulty}
use Rattle.model.specs.declared.question.Question.{Question}
use Rattle.model.specs.declared.question.Question.TheVariants.{OfOption, OfResource}
use Rattle.model.specs.declared.question.RepairOption.{RepairOption}
use Rattle.model.specs.declared.question.RepairOption.TheVariants.{Discard, Repair, Move}
use Rattle.model.specs.Books.{Book}
use Rattle.model.specs.Components.{needs_resource}
use Rattle.model.specs.Studies.{Model}
use Rattle.plans.specs.Ranges.{every}
use Rattle.plans.specs.Questions.{is_charge, echelon_questions, component_questions, resource_questions, pair_questions}
use Rattle.plans.specs.Postings.{component, times, posting_of, posting}
use Rattle.plans.specs.Starts.{byte, final, start}
use Rattle.plans.specs.Uses.{uses}
use Rattle.plans.specs.Prices.{open_if, needs_pair}
use Rattle.planning.specs.declared.route.Route.{Route}
use Rattle.planning.specs.declared.table.Choices.{Choices}
use Rattle.planning.specs.declared.table.Survey.{Survey}
use Rattle.planning.specs.Surveys.{no_choices, no_resource, choices_of, option_row, pair_posting, resource_row, Keeps}
use Rattle.planning.specs.OpenRows.{posted_where, uses_on, needs_on, needs_resource_on, choices_open, options_open, resource_open, resources_open}
use Rattle.planning.proofs.Every.{and_same, every_upto, below_same, below_more}

-- what has a posting is open
posted_open : (n : ℕ) (a : Answer) → is_some (posting_of n a) ≡ is_charge a
posted_open n (Charged c) = refl
posted_open n Barred = refl
posted_open n (Faulty f) = refl

-- what is used has a posting exactly if it is open
posted_same : (s : Model) (b : Book) (used : Bool) (q : Question) → posted_where used (posting s b q) ≡ open_if b used q
posted_same s b used q = ap (λ x. not used || x) (posted_open (times s q) (b q))

posted_unused : (used : Bool) (p : Option Posting) → used ≡ false → posted_where used p ≡ true
posted_unused used p h = ap (λ u. posted_where u p) h

-- a byte of at most twice the echelons uses nothing past the last of them, and no move from the last
module _ (w : Route) (last e : ℕ) (few : w.byte ≤ 2 * last) where
  no_move : last ≤ e → uses_on w e Move ≡ false
  no_move past = and_right (leb 1 w.start) _ (and_right (leb w.start e) (ltb e (final w.byte)) (le-ltb e (final w.byte) (omega arith)))

  unused : (o : RepairOption) → last < e → uses_on w e o ≡ false
  unused Discard past = and_right (leb 1 w.start) _ (ne_eqb _ (2 * e) (λ h. omega arith))
  unused Repair past = and_right (leb 1 w.start) _ (ne_eqb w.byte (2 * e) (λ h. omega arith))
  unused Move past = no_move (omega arith)

  unneeded : (r : ℕ) → last < e → needs_resource_on w r e ≡ false
  unneeded r past =
      let by : (o : RepairOption) → needs_on w r e o ≡ false = λ o. ap (λ u. u && needs_resource w.needs o r) (unused o past) in
      or_from _ _ (by Discard) (or_from _ _ (by Repair) (by Move))

-- the way of component i in a plan
abbrev pub route_of : Model → List ℕ → ℕ → Route
route_of s plan i = record { start = start s plan i; byte = byte plan i; needs = (component s i).needs }

-- component i of a study whose echelons are few, in a plan that gives it a byte of at most twice the echelons
module _ (s : Model) (b : Book) (plan : List ℕ) (i : ℕ) (echelons : s.echelons ≤ 4) (few : byte plan i ≤ 2 * s.echelons) where
  abbrev w : Route
  w = route_of s plan i

  abbrev option_open : Question → Bool
  option_open q = open_if b (uses s plan q) q

  abbrev needed_open : Question → Bool
  needed_open q = open_if b (needs_pair s plan i q) q

  -- the choices at an echelon of the study, with a move unless it is the last
  abbrev choices : ℕ → Bool → Choices
  choices e moves = record {
    discard = posting s b (OfOption i e Discard);
    repair = posting s b (OfOption i e Repair);
    moving = cond moves (posting s b (OfOption i e Move)) None;
  }

  option_same : (e : ℕ) (o : RepairOption) → posted_where (uses_on w e o) (posting s b (OfOption i e o)) ≡ option_open (OfOption i e o)
  option_same e o = posted_same s b (uses_on w e o) (OfOption i e o)

  choices_asked : (e : ℕ) (moves : Bool) → (moves ≡ false → uses_on w e Move ≡ false) → choices_open w e (choices e moves) ≡ every option_open (OfOption i e Discard ∷ OfOption i e Repair ∷ cond moves (OfOption i e Move ∷ []) [])
  choices_asked e true none = and_same (option_same e Discard) (and_same (option_same e Repair) (option_same e Move ∙ sym (and-true _)))
  choices_asked e false none = and_same (option_same e Discard) (and_same (option_same e Repair) (posted_unused (uses_on w e Move) None (none refl)))

  choices_same : (k : ℕ) → k < s.echelons → choices_open w (suc k) (choices_of s b i (suc k)) ≡ every option_open (echelon_questions s.echelons i (suc k))
  choices_same k l =
      ap (choices_open w (suc k)) (cond-true (leb (suc k) s.echelons) (choices (suc k) (ltb (suc k) s.echelons)) no_choices (le-leb (suc k) s.echelons (omega arith)))
      ∙ choices_asked (suc k) (ltb (suc k) s.echelons) (λ h. no_move w s.echelons (suc k) few (ltb-false (suc k) s.echelons h))

  choices_past : (k : ℕ) → s.echelons ≤ k → choices_open w (suc k) (choices_of s b i (suc k)) ≡ true
  choices_past k l =
      let none : (o : RepairOption) → posted_where (uses_on w (suc k) o) None ≡ true = λ o. posted_unused (uses_on w (suc k) o) None (unused w s.echelons (suc k) few o (omega arith)) in
      ap (choices_open w (suc k)) (cond-false (leb (suc k) s.echelons) (choices (suc k) (ltb (suc k) s.echelons)) no_choices (lt-leb (suc k) s.echelons (omega arith)))
      ∙ and_from _ _ (none Discard) (and_from _ _ (none Repair) (none Move))

  -- every option that the component uses is open, by its row and by the book
  pub options_same : options_open w (option_row s b i) ≡ every option_open (component_questions s.echelons i)
  options_same =
      below_more (λ k. choices_open w (suc k) (choices_of s b i (suc k))) (λ k. every option_open (echelon_questions s.echelons i (suc k))) s.echelons 4 echelons choices_same choices_past
      ∙ sym (every_upto option_open (λ k. echelon_questions s.echelons i (suc k)) s.echelons)

  pair_same : (r k : ℕ) → k < s.echelons → posted_where (needs_resource_on w r (suc k)) (pair_posting s b r (suc k)) ≡ every needed_open (OfResource r (suc k) ∷ [])
  pair_same r k l =
      ap (posted_where (needs_resource_on w r (suc k))) (cond-true (leb (suc k) s.echelons) (posting s b (OfResource r (suc k))) None (le-leb (suc k) s.echelons (omega arith)))
      ∙ posted_same s b (needs_resource_on w r (suc k)) (OfResource r (suc k)) ∙ sym (and-true _)

  pair_past : (r k : ℕ) → s.echelons ≤ k → posted_where (needs_resource_on w r (suc k)) (pair_posting s b r (suc k)) ≡ true
  pair_past r k l = posted_unused (needs_resource_on w r (suc k)) (pair_posting s b r (suc k)) (unneeded w s.echelons (suc k) few r (omega arith))

  resource_same : (r : ℕ) → resource_open w r (resource_row s b r) ≡ every needed_open (resource_questions s.echelons r)
  resource_same r =
      below_more (λ k. posted_where (needs_resource_on w r (suc k)) (pair_posting s b r (suc k))) (λ k. every needed_open (OfResource r (suc k) ∷ [])) s.echelons 4 echelons (pair_same r) (pair_past r)
      ∙ sym (every_upto needed_open (λ k. OfResource r (suc k) ∷ []) s.echelons)

  -- every resource that the component needs is open, by the rows and by the book
  pub resources_same : (t : Survey) → Keeps s b t → resources_open w t.resources s.resources ≡ every needed_open (pair_questions s)
  resources_same t kept =
      below_same (λ r. resource_open w r (get_or t.resources r no_resource)) (λ r. every needed_open (resource_questions s.echelons r)) s.resources (λ r l. ap (resource_open w r) (kept.resources r l) ∙ resource_same r)
      ∙ sym (every_upto needed_open (resource_questions s.echelons) s.resources)
