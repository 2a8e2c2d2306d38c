use Rattle.std.proofs.Common.{set, sym, ap, ◌∙◌}
use Rattle.solving.specs.Working.{view}
use Rattle.solving.proofs.Views.{view_set, view_tag}
use Rattle.solving.proofs.working.put_sum.Goals as goal

pub returns-in-Nothing : goal.returns-in-Nothing
returns-in-Nothing g c = view_tag _ _ _ _ _ (λ w. sym c.in-Nothing.is) c.requires.tag c.requires.cost

pub returns-in-Cost : goal.returns-in-Cost
returns-in-Cost g c = view_set _ _ _ _ _ c.requires.tag c.requires.cost ∙ ap (set (view c.args.tags.now c.args.working.now) c.args.cell) (sym c.in-Cost.is)

pub returns-in-Closed : goal.returns-in-Closed
returns-in-Closed g c = view_tag _ _ _ _ _ (λ w. sym c.in-Closed.is) c.requires.tag c.requires.cost
