use Rattle.selections.proofs.SelectedOnce.{posts_selected_once}
use Rattle.selections.proofs.laws.selections_post_each_once.Goals as goal

pub returns : goal.returns
returns c = posts_selected_once
