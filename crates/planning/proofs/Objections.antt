-- The objection that the rows of the survey give is the objection that the book gives.
use Rattle.std.proofs.Common.{◌≡◌, ℕ, ◌*◌, ◌<◌, ◌≤◌, Bool, leb, List, get_or, Option, sym, ap, ◌∙◌, inl, inr}
use Rattle.std.proofs.lemmas.Bool.{leb-true, cases_Bool, cond-false}
use Rattle.model.specs.declared.component.Component.{Component}
use Rattle.model.specs.declared.component.Needs.{Needs}
use Rattle.model.specs.declared.refusal.Refusal.{Refusal}
use Rattle.model.specs.Books.{Book}
use Rattle.model.specs.Studies.{Model, Limits}
use Rattle.plans.specs.Questions.{count, component_questions, pair_questions}
use Rattle.plans.specs.Ranges.{every}
use Rattle.plans.specs.Postings.{component}
use Rattle.plans.specs.Starts.{byte, start_under, start}
use Rattle.plans.specs.Uses.{uses}
use Rattle.plans.specs.Prices.{open_if, needs_pair, objection}
use Rattle.planning.specs.declared.route.Route.{Route}
use Rattle.planning.specs.declared.table.Survey.{Survey}
use Rattle.planning.specs.Surveys.{no_options, Keeps}
use Rattle.planning.specs.OpenRows.{options_open, resources_open}
use Rattle.planning.specs.Objections.{first_failed}
use Rattle.planning.proofs.OpenRows.{route_of, options_same, resources_same}

abbrev route : ℕ → ℕ → Needs → Route
route a b n = record { start = a; byte = b; needs = n }

same_route : (w : Route) (a b : ℕ) (n : Needs) → w.start ≡ a → w.byte ≡ b → w.needs ≡ n → w ≡ route a b n
same_route w a b n p q r = ap (λ x. route x w.byte w.needs) p ∙ ap (λ y. route a y w.needs) q ∙ ap (route a b) r

-- the rows say the same of the options and of the resources, unless the byte is too large
failed_same : (i echelons : ℕ) (w : Route) (o p q r : Bool) → (w.byte ≤ 2 * echelons → (o ≡ p) × (q ≡ r)) → first_failed i echelons w o q ≡ first_failed i echelons w p r
failed_same i echelons w o p q r same =
    elim (cases_Bool (leb w.byte (2 * echelons))) [
      | inl h ↦
          let e = same (leb-true w.byte (2 * echelons) h) in
          ap (λ x. first_failed i echelons w x q) e.0 ∙ ap (first_failed i echelons w p) e.1
      | inr h ↦ cond-false (leb w.byte (2 * echelons)) _ _ h ∙ sym (cond-false (leb w.byte (2 * echelons)) _ _ h)
    ]

-- component i, in a survey that keeps the book's answers
module _ (s : Model) (b : Book) (t : Survey) (plan : List ℕ) (i : ℕ) (limits : Limits s) (kept : Keeps s b t) (l : i < count s) where
  -- what the rows say of the component's options, and of its resources
  abbrev row_options : Route → Bool
  row_options w = options_open w (get_or t.options i no_options)

  abbrev row_resources : Route → ℕ → Bool
  row_resources w n = resources_open w t.resources n

  abbrev failed : ℕ → Route → ℕ → Option Refusal
  failed e w n = first_failed i e w (row_options w) (row_resources w n)

  rows_same : failed s.echelons (route_of s plan i) s.resources ≡ objection s b plan i
  rows_same =
      let w : Route = route_of s plan i in
      failed_same i s.echelons w
      (row_options w)
      (every (λ q. open_if b (uses s plan q) q) (component_questions s.echelons i))
      (row_resources w s.resources)
      (every (λ q. open_if b (needs_pair s plan i q) q) (pair_questions s))
      (λ few. (
        ap (options_open w) (kept.options i l) ∙ options_same s b plan i limits.few_echelons few,
        resources_same s b plan i limits.few_echelons few t kept,
      ))

  -- the questions, put by the component's way and its rows, give its objection
  pub objection_same : (x : Component) (w : Route) (e n : ℕ) (o q : Bool) → x ≡ component s i → w.start ≡ start_under plan x.parent → w.byte ≡ byte plan i → w.needs ≡ x.needs → e ≡ s.echelons → n ≡ s.resources → o ≡ row_options w → q ≡ row_resources w n → first_failed i e w o q ≡ objection s b plan i
  objection_same x w e n o q same-x starts bytes needs same-e same-n options resources =
      let started = starts ∙ ap (λ (y : Component). start_under plan y.parent) same-x in
      let needed = needs ∙ ap (λ (y : Component). y.needs) same-x in
      let way = same_route w (start s plan i) (byte plan i) (component s i).needs started bytes needed in
      ap (λ u. first_failed i e w u q) options ∙ ap (first_failed i e w (row_options w)) resources
      ∙ ap (λ f. failed f w n) same-e ∙ ap (λ v. failed s.echelons v n) way
      ∙ ap (failed s.echelons (route_of s plan i)) same-n ∙ rows_same
