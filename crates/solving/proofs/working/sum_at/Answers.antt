use Rattle.std.proofs.Common.{get_or, sym, refl, ap, ◌∙◌}
use Rattle.solving.specs.Working.{sum_of}
use Rattle.solving.specs.declared.tag.Tag.TheVariants.{Nothing, Closed}
use Rattle.solving.specs.declared.sum.Sum.TheVariants.{Cost}
use Rattle.solving.proofs.Views.{view_at, view_none}
use Rattle.solving.proofs.working.sum_at.Goals as goal

pub returns-in-Nothing : goal.returns-in-Nothing
returns-in-Nothing g c = view_none _ _ _ Nothing Nothing _ (λ w. refl) c.in-Nothing.is c.requires.tag c.requires.cost

pub returns-in-Cost : goal.returns-in-Cost
returns-in-Cost g c =
    let w = c.index-working-cell.result in
    ap Cost c.index-working-cell.is ∙ sym (view_at _ _ _ Nothing w c.requires.tag c.requires.cost ∙ ap (λ t. sum_of t (get_or c.args.working.now c.args.cell w)) c.in-Cost.is)

pub returns-in-Closed : goal.returns-in-Closed
returns-in-Closed g c = view_none _ _ _ Closed Nothing _ (λ w. refl) c.in-Closed.is c.requires.tag c.requires.cost
