-- A plan posts what it uses, each once, and nothing else.
use Rattle.std.proofs.Common.{◌≡◌, ℕ, ◌<◌, true, List, sym, ap, ◌∙◌, ⊎_elim}
use Rattle.model.specs.declared.question.Question.{Question}
use Rattle.model.specs.declared.question.Question.TheVariants.{OfOption, OfResource}
use Rattle.model.specs.Books.{Book}
use Rattle.model.specs.Studies.{Model, Limits}
use Rattle.plans.specs.Questions.{count, component_questions, option_questions, pair_questions, questions}
use Rattle.plans.specs.Uses.{needs_at, uses}
use Rattle.plans.specs.Plans.{IsPlan, used_questions}
use Rattle.plans.specs.Prices.{needs_pair}
use Rattle.plans.specs.Laws.{UsesIt, Among, PlansPostEachOnce}
use Rattle.plans.proofs.Members.{among_either, upto_among, among_those, those_among}
use Rattle.plans.proofs.Below.{some_passes, which_passes}
use Rattle.plans.proofs.Apart.{distinct_those}
use Rattle.plans.proofs.Surveyed.{asked_of_pairs, option_is_surveyed, pair_is_surveyed}
use Rattle.plans.proofs.AskedOnce.{distinct_questions}
use Rattle.plans.proofs.Using.{used_is_entered, used_passes, needed_passes}
use Rattle.plans.proofs.Asking.{used_is_asked, needed_is_asked, asked_is_used, asked_is_needed}
use Rattle.plans.proofs.Accepted.{plan_fit, plan_reads}

-- a pair that some component needs is used, and one that is used some component needs
module _ (s : Model) (plan : List ℕ) (q : Question) (m : Among q (pair_questions s)) where
  pub need_is_use : (i : ℕ) → i < count s → needs_pair s plan i q ≡ true → uses s plan q ≡ true
  need_is_use i l u =
      let of = asked_of_pairs s q m in
      let is = of.1.1 in
      ap (uses s plan) is ∙ some_passes (needs_at s plan of.0 of.1.0) (count s) i l (sym (ap (needs_pair s plan i) is) ∙ u)

  pub use_is_need : uses s plan q ≡ true → (i : ℕ) × (i < count s) × (needs_pair s plan i q ≡ true)
  use_is_need u =
      let of = asked_of_pairs s q m in
      let is = of.1.1 in
      let found = which_passes (needs_at s plan of.0 of.1.0) (count s) (sym (ap (uses s plan) is) ∙ u) in
      (found.0, found.1, ap (needs_pair s plan found.0) is ∙ found.2)

module _ (s : Model) (b : Book) (plan : List ℕ) (limits : Limits s) (is_plan : IsPlan s b plan) where
  pub used_is_posted : (q : Question) → UsesIt s plan q → Among q (used_questions s plan)
  used_is_posted (OfOption i e o) u =
      among_those (uses s plan) (used_passes u) (option_is_surveyed s i (used_is_entered u) (used_is_asked (plan_fit s b plan limits is_plan) u))
  used_is_posted (OfResource r e) n =
      let passes = some_passes (needs_at s plan r e) (count s) n.by (used_is_entered n.used) (needed_passes s plan r e n) in
      among_those (uses s plan) passes (pair_is_surveyed s (needed_is_asked s plan r e limits (plan_fit s b plan limits is_plan) n))

  option_is_used : (q : Question) → uses s plan q ≡ true → Among q (option_questions s) → UsesIt s plan q
  option_is_used q u m =
      let of = upto_among (component_questions s.echelons) (count s) m in
      asked_is_used s plan of.0 (plan_reads s b plan limits is_plan of.0 of.1) q of.2 u

  pair_is_used : (q : Question) → uses s plan q ≡ true → Among q (pair_questions s) → UsesIt s plan q
  pair_is_used q u m =
      let by = use_is_need s plan q m u in
      asked_is_needed s plan by.0 (plan_reads s b plan limits is_plan by.0 by.1) q m by.2

  posted_is_used : (q : Question) → Among q (used_questions s plan) → UsesIt s plan q
  posted_is_used q m =
      let posted = those_among (uses s plan) (questions s) m in
      ⊎_elim (option_is_used q posted.1) (pair_is_used q posted.1) (among_either (option_questions s) posted.0)

pub posts_each_once : PlansPostEachOnce
posts_each_once s b plan limits is_plan = record {
  used_is_posted = used_is_posted s b plan limits is_plan;
  posted_is_used = posted_is_used s b plan limits is_plan;
  once = distinct_those (uses s plan) (questions s) (distinct_questions s);
}
