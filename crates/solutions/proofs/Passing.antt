-- A row of bytes is open in the solver's argument exactly where every component passes, and then it posts what the plan posts.
use Rattle.std.proofs.Common.{◌≡◌, ℕ, ◌<◌, true, not, ◌&&◌, eqb, List, ◌++◌, length, sym, ap, ◌∙◌, ap₂}
use Rattle.std.proofs.lemmas.List.{map-append}
use Rattle.std.proofs.lemmas.Bool.{and_parts, and_from, eq-eqb, eqb-true}
use Rattle.model.specs.declared.question.Question.{Question}
use Rattle.model.specs.Books.{Book, KeepsLimits}
use Rattle.model.specs.Studies.{Model, Limits}
use Rattle.plans.specs.Questions.{count, component_questions, option_questions, pair_questions}
use Rattle.plans.specs.Plans.{postings}
use Rattle.plans.specs.Uses.{uses}
use Rattle.plans.proofs.Joined.{posted_append}
use Rattle.plans.proofs.Members.{among_upto, upto_among}
use Rattle.plans.proofs.Objecting.{Passes}
use Rattle.plans.proofs.PostedOnce.{need_is_use, use_is_need}
use Rattle.theory.specs.Amounts.{Amount}
use Rattle.theory.specs.Marks.{blocked}
use Rattle.theory.specs.Problems.{Problem, costs}
use Rattle.theory.specs.Problems as theory
use Rattle.theory.specs.Searches.{pair_postings}
use Rattle.solutions.specs.Pairs.{pair_question}
use Rattle.solutions.specs.Problems.{problem}
use Rattle.solutions.proofs.Amounts.{plain, amount_of, amount_open, open_amount, amount_plain}
use Rattle.solutions.proofs.Options.{AllSuit, spent_posts, spent_suits, needed_is_used}
use Rattle.solutions.proofs.PairAmounts.{pairs_below, pairs_by_number, clear_is_open, pairs_post}

module _ (s : Model) (b : Book) (limits : Limits s) (kept : KeepsLimits b) (plan : List ℕ) where
  abbrev y : Problem
  y = problem s b limits kept

  -- the amount of what the plan uses
  abbrev used : List Question → Amount
  used = amount_of s b limits kept (uses s plan)

  -- every component passes
  abbrev pub AllPass : Type 0
  AllPass = (i : ℕ) → i < count s → Passes s b plan i

  module _ (suits : AllSuit s plan (count s)) where
    options_alike : theory.options_of y plan ≡ used (option_questions s)
    options_alike = spent_posts s b limits kept plan (count s) suits

    needs_alike : (j : ℕ) → j < y.pairs → theory.needs_of y plan j ≡ uses s plan (pair_question s.echelons j)
    needs_alike j l = needed_is_used s b limits kept plan j (count s) suits

    pairs_alike : used (pairs_below s y.pairs) ≡ used (pair_questions s)
    pairs_alike = ap used (sym (pairs_by_number s))

    clear_alike : not (blocked y.is_closed (theory.needs_of y plan) y.pairs) ≡ (used (pair_questions s)).is_open
    clear_alike = clear_is_open s b limits kept (uses s plan) (theory.needs_of y plan) y.pairs needs_alike ∙ ap (λ (x : Amount). x.is_open) pairs_alike

    row_alike : (used (pair_questions s)).is_open ≡ true → pair_postings y.pair (theory.needs_of y plan) y.pairs ≡ (used (pair_questions s)).row
    row_alike h =
        pairs_post s b limits kept (uses s plan) (theory.needs_of y plan) y.pairs needs_alike (ap (λ (x : Amount). x.is_open) pairs_alike ∙ h)
        ∙ ap (λ (x : Amount). x.row) pairs_alike

    -- the row of postings is the plan's
    plain_alike : (used (pair_questions s)).is_open ≡ true → plain (costs y plan).row ≡ postings s b plan
    plain_alike h =
        map-append _ (theory.options_of y plan).row (pair_postings y.pair (theory.needs_of y plan) y.pairs)
        ∙ ap₂ ◌++◌
        (ap (λ (x : Amount). plain x.row) options_alike ∙ amount_plain s b limits kept (uses s plan) (option_questions s))
        (ap plain (row_alike h) ∙ amount_plain s b limits kept (uses s plan) (pair_questions s))
        ∙ sym (posted_append s b (uses s plan) (option_questions s) (pair_questions s))

  -- ---- an open row
  -- what it says that a row is open: a byte for each component, each suits its start, and what is used is open
  pub record Opens : Type 0 where
    pub long : length plan ≡ count s
    pub suits : AllSuit s plan (count s)
    pub options_open : (used (option_questions s)).is_open ≡ true
    pub pairs_open : (used (pair_questions s)).is_open ≡ true

  pub opens : (costs y plan).is_open ≡ true → Opens
  opens h =
      let clear = not (blocked y.is_closed (theory.needs_of y plan) y.pairs) in
      let one = and_parts (eqb (length plan) (count s)) ((theory.options_of y plan).is_open && clear) h in
      let two = and_parts (theory.options_of y plan).is_open clear one.1 in
      let suits = spent_suits s b limits kept plan (count s) two.0 in
      record {
        long = eqb-true (length plan) (count s) one.0;
        suits = suits;
        options_open = sym (ap (λ (x : Amount). x.is_open) (options_alike suits)) ∙ two.0;
        pairs_open = sym (clear_alike suits) ∙ two.1;
      }

  from_opens : Opens → (costs y plan).is_open ≡ true
  from_opens h =
      and_from _ _ (eq-eqb (length plan) (count s) h.long)
      (and_from _ _ (ap (λ (x : Amount). x.is_open) (options_alike h.suits) ∙ h.options_open) (clear_alike h.suits ∙ h.pairs_open))

  pub open_posts_plan : (costs y plan).is_open ≡ true → plain (costs y plan).row ≡ postings s b plan
  open_posts_plan h = let o = opens h in plain_alike o.suits o.pairs_open

  -- every component passes
  pub open_passes : (costs y plan).is_open ≡ true → AllPass
  open_passes h i l =
      let o = opens h in
      let own = o.suits i l in
      record {
        byte_fits = own.byte_fits;
        decided_is_read = own.decided_is_read;
        read_is_decided = own.read_is_decided;
        from_the_start = own.from_the_start;
        options_open = λ q m u. amount_open s b limits kept (uses s plan) o.options_open (among_upto (component_questions s.echelons) (count s) i l m) u;
        resources_open = λ q m u. amount_open s b limits kept (uses s plan) o.pairs_open m (need_is_use s plan q m i l u);
      }

  -- and a row of which every component passes is open
  pub passes_open : length plan ≡ count s → AllPass → (costs y plan).is_open ≡ true
  passes_open long pass = from_opens (record {
    long = long;
    suits = λ i l. let own = pass i l in record {
      byte_fits = own.byte_fits;
      decided_is_read = own.decided_is_read;
      read_is_decided = own.read_is_decided;
      from_the_start = own.from_the_start;
    };
    options_open = open_amount s b limits kept (uses s plan) (option_questions s) (λ q m u.
        let of = upto_among (component_questions s.echelons) (count s) m in
        (pass of.0 of.1).options_open q of.2 u);
    pairs_open = open_amount s b limits kept (uses s plan) (pair_questions s) (λ q m u.
        let by = use_is_need s plan q m u in
        (pass by.0 by.1).resources_open q m by.2);
  })
