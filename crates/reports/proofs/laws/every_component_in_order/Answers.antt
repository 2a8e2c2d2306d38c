use Rattle.std.proofs.Common.{cond, eqb, sym, ◌∙◌}
use Rattle.plans.specs.Questions.{count}
use Rattle.reports.specs.LineOrder.{order}
use Rattle.reports.proofs.Following.{follows_parent, step_more, follows_lower}
use Rattle.reports.proofs.Totals.{length_sum, total_one, total_at, total_out}
use Rattle.reports.proofs.Weights.{order_weight}
use Rattle.reports.proofs.laws.every_component_in_order.Goals as goal

pub returns : goal.returns
returns c s limits =
    record {
      as_many = sym (length_sum (order s)) ∙ order_weight s limits (λ k. 1) ∙ total_one (count s);
      one_each = λ i h. order_weight s limits (λ k. cond (eqb i k) 1 0) ∙ total_at i 1 (count s) h;
      no_other = λ i h. order_weight s limits (λ k. cond (eqb i k) 1 0) ∙ total_out i 1 (count s) h;
      under_parent = follows_parent s limits;
      one_step_more = step_more s limits;
      by_number = follows_lower s limits;
    }
