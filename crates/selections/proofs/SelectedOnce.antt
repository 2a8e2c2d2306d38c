-- A consistent selection posts what it selects and needs, each once, and nothing else.
use Rattle.std.proofs.Common.{ℕ, List, sym, subst}
use Rattle.model.specs.declared.question.Question.{Question}
use Rattle.model.specs.declared.question.Question.TheVariants.{OfOption, OfResource}
use Rattle.model.specs.Studies.{Model}
use Rattle.plans.specs.Laws.{UsesIt, Among, Distinct}
use Rattle.plans.proofs.PostedOnce.{posts_each_once}
use Rattle.selections.specs.Selections.{Selection}
use Rattle.selections.specs.Laws.{Describes, SelectsIt, SelectionsPostEachOnce}
use Rattle.selections.proofs.Bytes.{plan_of}
use Rattle.selections.proofs.Encoded.{plan_of_describes, plan_of_is_plan}
use Rattle.selections.proofs.SameCosts.{same_questions}

-- a plan uses what the selection that it describes selects or needs
module _ (s : Model) (plan : List ℕ) (x : Selection) (described : Describes s plan x) where
  selects_to_uses : (q : Question) → SelectsIt s x q → UsesIt s plan q
  selects_to_uses (OfOption i e o) h = described.selected_is_used i e o h
  selects_to_uses (OfResource r e) h =
      record { by = h.0; option = h.1; used = described.selected_is_used h.0 e h.1 h.2; needs = h.3 }

  uses_to_selects : (q : Question) → UsesIt s plan q → SelectsIt s x q
  uses_to_selects (OfOption i e o) u = described.used_is_selected i e o u
  uses_to_selects (OfResource r e) n = (n.by, n.option, described.used_is_selected n.by e n.option n.used, n.needs)

pub posts_selected_once : SelectionsPostEachOnce
posts_selected_once s b x limits consistent =
    let is_plan = plan_of_is_plan s b x limits consistent in
    let describes = plan_of_describes s b x limits consistent in
    let posts = posts_each_once s b (plan_of s x) limits is_plan in
    let same = same_questions s b (plan_of s x) x limits is_plan describes in
    record {
      selected_is_posted = λ q h. subst (λ qs. Among q qs) same (posts.used_is_posted q (selects_to_uses s (plan_of s x) x describes q h));
      posted_is_selected = λ q m. uses_to_selects s (plan_of s x) x describes q (posts.posted_is_used q (subst (λ qs. Among q qs) (sym same) m));
      once = subst Distinct same posts.once;
    }
