-- The options that the survey keeps and the marks allow are those of the study with the book and the shut pairs.
use Rattle.std.proofs.Common.{◌≡◌, ℕ, zero, suc, pred, ◌+◌, ◌*◌, ◌/◌, ◌<◌, ◌≤◌, Bool, true, false, cond, ◌&&◌, ◌||◌, eqb, ltb, leb, List, [], get_or, Some, None, Option, sym, refl, ap, ◌∙◌, subst, ⊎_elim, suc-mul, arith}
use Rattle.std.proofs.lemmas.Nat.{div-mul-add, mod-mul-add}
use Rattle.std.proofs.lemmas.Bool.{cases_eq, cases_lt, eq-eqb, ne_eqb, lt-ltb, le-ltb, le-leb, lt-leb, cond-true}
use Rattle.costs.specs.declared.posting.Posting.{Posting}
use Rattle.model.specs.declared.component.Needs.{Needs}
use Rattle.model.specs.declared.question.Question.TheVariants.{OfOption}
use Rattle.model.specs.declared.question.RepairOption.{RepairOption}
use Rattle.model.specs.declared.question.RepairOption.TheVariants.{Discard, Repair, Move}
use Rattle.model.specs.Books.{Book, KeepsLimits}
use Rattle.model.specs.Components.{needs_resource}
use Rattle.model.specs.Studies.{Model, Limits}
use Rattle.plans.specs.Ranges.{some_below}
use Rattle.plans.specs.Questions.{count}
use Rattle.plans.specs.Postings.{component, posting}
use Rattle.plans.proofs.Fitting.{WithinIf}
use Rattle.planning.specs.declared.table.Choices.{Choices}
use Rattle.planning.specs.declared.table.Survey.{Survey}
use Rattle.planning.specs.Surveys.{no_choices, no_options, choices_of, Keeps}
use Rattle.theory.specs.Entries.{Entry}
use Rattle.theory.specs.Options.{Options}
use Rattle.theory.specs.Marks.{blocked, unless, allowed}
use Rattle.solutions.specs.Pairs.{pair_resource, pair_echelon}
use Rattle.solutions.specs.Problems.{with_proof, entry, entry_at, options_of, needs_of}
use Rattle.solving.specs.declared.mark.Mark.{Mark}
use Rattle.solving.specs.declared.mark.Mark.TheVariants.{Held}
use Rattle.solving.specs.Marked.{is_shut, shut_pairs}
use Rattle.solving.specs.Allowed.{shut_mask, shut_masks, is_barred}
use Rattle.solving.specs.Sums.{plain, Offers}
use Rattle.solving.proofs.Tabled.{at_echelon}
use Rattle.solving.proofs.Masks.{needs_shut, barred_is}
use Rattle.solving.specs.Steps.{allowed_at, OffersAll}

-- ---- pairs by number, and by resource
or_false : (x : Bool) → x || false ≡ x
or_false true = refl
or_false false = refl

module _ (marks : List (List Mark)) (n : Needs) (op : RepairOption) (last e : ℕ) (here : e < last) where
  -- the option at echelon e needs pair j, and it is shut
  abbrev needs : ℕ → Bool
  needs j = eqb (pair_echelon last j) (suc e) && needs_resource n op (pair_resource last j)

  abbrev shut : ℕ → Bool
  shut = shut_pairs marks last

  -- pair d of resource r
  pair_is : (r d : ℕ) → d < last → needs (r * last + d) && shut (r * last + d) ≡ (eqb (suc d) (suc e) && needs_resource n op r) && is_shut (get_or (get_or marks r []) d Held)
  pair_is r d l =
      let q = div-mul-add r last d l in
      let m = mod-mul-add r last d l in
      ap (λ v. (eqb (suc v) (suc e) && needs_resource n op ((r * last + d) / last)) && is_shut (get_or (get_or marks ((r * last + d) / last) []) v Held)) m
      ∙ ap (λ v. (eqb (suc d) (suc e) && needs_resource n op v) && is_shut (get_or (get_or marks v []) d Held)) q

  pair_here : (r : ℕ) → needs (r * last + e) && shut (r * last + e) ≡ needs_shut n op marks e r
  pair_here r = pair_is r e here ∙ ap (λ v. (v && needs_resource n op r) && is_shut (get_or (get_or marks r []) e Held)) (eq-eqb (suc e) (suc e) refl)

  pair_other : (r d : ℕ) → d < last → (d ≡ e → ⊥) → needs (r * last + d) && shut (r * last + d) ≡ false
  pair_other r d l ne = pair_is r d l ∙ ap (λ v. (v && needs_resource n op r) && is_shut (get_or (get_or marks r []) d Held)) (ne_eqb (suc d) (suc e) (λ z. ne (omega arith)))

  -- the first d pairs of resource r
  row_blocked : (r d : ℕ) → d ≤ last → blocked shut needs (r * last + d) ≡ blocked shut needs (r * last) || (ltb e d && needs_shut n op marks e r)
  row_blocked r zero l =
      let z : r * last + 0 ≡ r * last = omega arith in
      ap (blocked shut needs) z ∙ sym (or_false (blocked shut needs (r * last)))
      ∙ ap (λ v. blocked shut needs (r * last) || (v && needs_shut n op marks e r)) (sym (le-ltb e 0 (omega arith)))
  row_blocked r (suc d) l =
      let one : r * last + suc d ≡ suc (r * last + d) = omega arith in
      let before = blocked shut needs (r * last) in
      let hit = needs_shut n op marks e r in
      ap (blocked shut needs) one
      ∙ ap (λ v. v || (needs (r * last + d) && shut (r * last + d))) (row_blocked r d (omega arith))
      ∙ ⊎_elim
      (λ at. ap (λ v. (before || (v && hit)) || (needs (r * last + d) && shut (r * last + d))) (le-ltb e d (omega arith))
      ∙ ap (λ v. v || (needs (r * last + d) && shut (r * last + d))) (or_false before)
      ∙ ap (λ v. before || v) (subst (λ v. needs (r * last + v) && shut (r * last + v) ≡ hit) (sym at) (pair_here r))
      ∙ ap (λ v. before || (v && hit)) (sym (lt-ltb e (suc d) (omega arith))))
      (λ ne. ap (λ v. (before || (ltb e d && hit)) || v) (pair_other r d (omega arith) ne)
      ∙ or_false (before || (ltb e d && hit))
      ∙ ap (λ v. before || (v && hit)) (same_test d ne))
      (cases_eq d e)
    where
      same_test : (d : ℕ) → (d ≡ e → ⊥) → ltb e d ≡ ltb e (suc d)
      same_test d ne = ⊎_elim
          (λ h. lt-ltb e d h ∙ sym (lt-ltb e (suc d) (omega arith)))
          (λ h. le-ltb e d h ∙ sym (le-ltb e (suc d) (omega arith)))
          (cases_lt e d)

  blocked_some : (q : ℕ) → blocked shut needs (q * last) ≡ some_below (needs_shut n op marks e) q
  blocked_some zero = let none : zero * last ≡ 0 = omega arith in ap (blocked shut needs) none
  blocked_some (suc q) =
      let row : suc q * last ≡ q * last + last = suc-mul q last in
      ap (blocked shut needs) row ∙ row_blocked q last (omega arith)
      ∙ ap (λ v. blocked shut needs (q * last) || (v && needs_shut n op marks e q)) (lt-ltb e last here)
      ∙ ap (λ v. v || needs_shut n op marks e q) (blocked_some q)

  -- a shut pair is needed exactly if the mask bars the option
  pub blocked_is : (q : ℕ) → q ≤ 8 → blocked shut needs (q * last) ≡ is_barred n op (shut_mask marks e q)
  blocked_is q few = blocked_some q ∙ sym (barred_is n op marks e q few)

-- ---- postings with and without their proofs
plain_proof : (p : Option Posting) (h : WithinIf p) → plain (with_proof p h) ≡ p
plain_proof None h = refl
plain_proof (Some p) h = refl

plain_unless : (b : Bool) (x : Option Entry) → plain (unless b x) ≡ unless b (plain x)
plain_unless true x = refl
plain_unless false x = refl

plain_if : (b : Bool) (x : Option Entry) → plain (cond b x None) ≡ cond b (plain x) None
plain_if true x = refl
plain_if false x = refl

module _ (s : Model) (limits : Limits s) (b : Book) (kept : KeepsLimits b) (t : Survey) (marks : List (List Mark)) (keeps : Keeps s b t) where
  -- the options of the problem with the shut pairs
  abbrev pub open_options : ℕ → Options
  open_options i = allowed (shut_pairs marks s.echelons) (s.resources * s.echelons) (needs_of s b limits kept i) (options_of s b limits kept i)

  -- what is posted at the echelons up to one
  entry_is : (last i e : ℕ) (op : RepairOption) → plain (entry_at s b limits kept last i op (suc e)) ≡ cond (leb (suc e) last) (posting s b (OfOption i (suc e) op)) None
  entry_is last i e op =
      ap (λ v. plain (cond (v && leb (suc e) last) (entry s b limits kept (OfOption i (suc e) op)) None)) (le-leb 1 (suc e) (omega arith))
      ∙ plain_if (leb (suc e) last) (entry s b limits kept (OfOption i (suc e) op))
      ∙ ap (λ v. cond (leb (suc e) last) v None) (plain_proof (posting s b (OfOption i (suc e) op)) _)

  module _ (i e : ℕ) (entered : i < count s) (here : e < s.echelons) where
    abbrev row : Choices
    row = get_or (get_or t.options i no_options) e no_choices

    row_is : row ≡ choices_of s b i (suc e)
    row_is =
        let few = limits.few_echelons in
        ap (λ (r : List Choices). get_or r e no_choices) (keeps.options i entered) ∙ at_echelon (choices_of s b i) e no_choices (omega arith)

    asked : leb (suc e) s.echelons ≡ true
    asked = le-leb (suc e) s.echelons here

    choices_is : row ≡ record { discard = posting s b (OfOption i (suc e) Discard); repair = posting s b (OfOption i (suc e) Repair); moving = cond (ltb (suc e) s.echelons) (posting s b (OfOption i (suc e) Move)) None }
    choices_is = row_is ∙ cond-true (leb (suc e) s.echelons) _ no_choices asked

    same_last : leb (suc e) (pred s.echelons) ≡ ltb (suc e) s.echelons
    same_last = ⊎_elim
        (λ h. le-leb (suc e) (pred s.echelons) (omega arith) ∙ sym (lt-ltb (suc e) s.echelons h))
        (λ h. lt-leb (suc e) (pred s.echelons) (omega arith) ∙ sym (le-ltb (suc e) s.echelons h))
        (cases_lt (suc e) s.echelons)

    discard_is : row.discard ≡ plain ((options_of s b limits kept (suc i)).discard (suc e))
    discard_is =
        ap (λ (c : Choices). c.discard) choices_is
        ∙ sym (entry_is s.echelons i e Discard ∙ cond-true (leb (suc e) s.echelons) (posting s b (OfOption i (suc e) Discard)) None asked)

    repair_is : row.repair ≡ plain ((options_of s b limits kept (suc i)).repair (suc e))
    repair_is =
        ap (λ (c : Choices). c.repair) choices_is
        ∙ sym (entry_is s.echelons i e Repair ∙ cond-true (leb (suc e) s.echelons) (posting s b (OfOption i (suc e) Repair)) None asked)

    move_is : row.moving ≡ plain ((options_of s b limits kept (suc i)).move (suc e))
    move_is =
        ap (λ (c : Choices). c.moving) choices_is
        ∙ sym (entry_is (pred s.echelons) i e Move ∙ ap (λ v. cond v (posting s b (OfOption i (suc e) Move)) None) same_last)

    -- a posting that is allowed is that of an option without a shut pair
    unless_is : (op : RepairOption) (p : Option Posting) (x : Option Entry) (v : Bool) → v ≡ is_barred (component s i).needs op (get_or (shut_masks marks s.resources) e 0) → p ≡ plain x → unless (is_barred (component s i).needs op (get_or (shut_masks marks s.resources) e 0)) p ≡ plain (unless v x)
    unless_is op p x v is same = ap (λ u. unless u p) (sym is) ∙ ap (unless v) same ∙ sym (plain_unless v x)

    barred : (op : RepairOption) → blocked (shut_pairs marks s.echelons) (λ j. eqb (pair_echelon s.echelons j) (suc e) && needs_resource (component s i).needs op (pair_resource s.echelons j)) (s.resources * s.echelons) ≡ is_barred (component s i).needs op (get_or (shut_masks marks s.resources) e 0)
    barred op =
        let few = limits.few_echelons in
        blocked_is marks (component s i).needs op s.echelons e here s.resources limits.few_resources
        ∙ ap (is_barred (component s i).needs op) (sym (at_echelon (λ n. shut_mask marks (pred n) s.resources) e 0 (omega arith)))

    offered : Offers (allowed_at s t (shut_masks marks s.resources) i e) (open_options (suc i)) (suc e)
    offered = (
      unless_is Discard row.discard _ _ (barred Discard) discard_is,
      unless_is Repair row.repair _ _ (barred Repair) repair_is,
      unless_is Move row.moving _ _ (barred Move) move_is,
    )

  pub offers_all : OffersAll s t (shut_masks marks s.resources) open_options
  offers_all i e entered here = offered i e entered here
