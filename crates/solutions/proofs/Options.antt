-- What bytes post for options and which pairs they need, for all components of a study.
use Rattle.std.proofs.Common.{◌≡◌, ℕ, zero, suc, ◌<◌, true, cond, ◌||◌, eqb, List, ◌∷◌, get_or, Option, sym, refl, ap, ◌∙◌, subst, ap₂, ⊎_elim, arith}
use Rattle.std.proofs.lemmas.Bool.{and_parts, cases_eq}
use Rattle.model.specs.Books.{Book, KeepsLimits}
use Rattle.model.specs.Studies.{Model, Limits}
use Rattle.plans.specs.Ranges.{upto, some_below}
use Rattle.plans.specs.Questions.{component_questions}
use Rattle.plans.specs.Starts.{byte, parent, repaired_at, start_under, start}
use Rattle.plans.specs.Uses.{needs_at, uses}
use Rattle.theory.specs.Amounts.{both}
use Rattle.theory.specs.Breakdowns.{spent}
use Rattle.theory.specs.Breakdowns as breakdowns
use Rattle.theory.specs.Needs.{needed, own_needs}
use Rattle.theory.specs.Problems.{bytes_of}
use Rattle.theory.specs.Tables.{breakdown, own}
use Rattle.solutions.specs.Pairs.{pair_resource, pair_echelon}
use Rattle.solutions.specs.Problems.{parent_number, needs_of, table}
use Rattle.solutions.proofs.Amounts.{amount_of, amount_append}
use Rattle.solutions.proofs.Routed.{Suits, own_posts, open_suits}
use Rattle.solutions.proofs.Needing.{own_needs_pair}

-- the byte of every component before n suits its start
abbrev pub AllSuit : Model → List ℕ → ℕ → Type 0
AllSuit s plan n = (i : ℕ) → i < n → Suits s.echelons (start s plan i) (byte plan i)

-- where a component starts, by the number of its parent
start_by_number : (plan : List ℕ) (o : Option ℕ) → cond (eqb (parent_number o) 0) 1 (repaired_at (get_or (0 ∷ plan) (parent_number o) 0)) ≡ start_under plan o
start_by_number plan o = grind arith

module _ (s : Model) (b : Book) (limits : Limits s) (kept : KeepsLimits b) (plan : List ℕ) where
  starts_alike : (i : ℕ) → breakdowns.start (breakdown (table s b limits kept)) (bytes_of plan) (suc i) ≡ start s plan i
  starts_alike i = start_by_number plan (parent s i)

  -- the options of the first n components
  pub spent_posts : (n : ℕ) → AllSuit s plan n → spent (breakdown (table s b limits kept)) n (bytes_of plan) ≡ amount_of s b limits kept (uses s plan) (upto (component_questions s.echelons) n)
  spent_posts zero ok = refl
  spent_posts (suc n) ok =
      ap₂ both (spent_posts n (λ i l. ok i (omega arith)))
      (ap (λ e. own (table s b limits kept) (suc n) e (byte plan n)) (starts_alike n) ∙ own_posts s b limits kept plan n (ok n (omega arith)))
      ∙ sym (amount_append s b limits kept (uses s plan) (upto (component_questions s.echelons) n) (component_questions s.echelons n))

  -- where they are open, each byte suits its start
  pub spent_suits : (n : ℕ) → (spent (breakdown (table s b limits kept)) n (bytes_of plan)).is_open ≡ true → AllSuit s plan n
  spent_suits zero h i l = absurd (omega arith)
  spent_suits (suc n) h i l =
      let two = and_parts _ _ h in
      let mine = open_suits s b limits kept plan n (subst (λ e. (own (table s b limits kept) (suc n) e (byte plan n)).is_open ≡ true) (starts_alike n) two.1) in
      ⊎_elim
      (λ e. subst (λ k. Suits s.echelons (start s plan k) (byte plan k)) (sym e) mine)
      (λ d. spent_suits n two.0 i (omega arith))
      (cases_eq i n)

  -- the pairs that they need
  pub needed_is_used : (j n : ℕ) → AllSuit s plan n → needed (table s b limits kept) (needs_of s b limits kept) n (bytes_of plan) j ≡ some_below (needs_at s plan (pair_resource s.echelons j) (pair_echelon s.echelons j)) n
  needed_is_used j zero ok = refl
  needed_is_used j (suc n) ok =
      ap₂ ◌||◌ (needed_is_used j n (λ i l. ok i (omega arith)))
      (ap (λ e. own_needs (table s b limits kept) (needs_of s b limits kept) (suc n) e (byte plan n) j) (starts_alike n) ∙ own_needs_pair s b limits kept plan n j (ok n (omega arith)))
