-- A plan describes exactly one selection: the options that pass the test of use.
use Rattle.std.proofs.Common.{ℕ, ◌&&◌, ltb, List}
use Rattle.std.proofs.lemmas.Bool.{ltb-true, lt-ltb, and_parts, and_from}
use Rattle.std.proofs.lemmas.Bool.Decides.{same_from_decides}
use Rattle.model.specs.Books.{Book}
use Rattle.model.specs.Studies.{Model, Limits}
use Rattle.plans.specs.Questions.{count}
use Rattle.plans.specs.Uses.{Uses, uses_option}
use Rattle.plans.specs.Plans.{IsPlan}
use Rattle.plans.proofs.Using.{used_is_entered, used_passes, passes_used}
use Rattle.plans.proofs.Accepted.{plan_reads}
use Rattle.selections.specs.Selections.{Selection}
use Rattle.selections.specs.Laws.{Describes, Same}

-- the options of the study's components that pass the test
abbrev pub chosen : Model → List ℕ → Selection
chosen s plan i e o = ltb i (count s) && uses_option s plan i e o

pub chosen_described : (s : Model) (b : Book) (plan : List ℕ) → Limits s → IsPlan s b plan → Describes s plan (chosen s plan)
chosen_described s b plan limits is_plan = record {
  used_is_selected = λ i e o u. and_from (ltb i (count s)) (uses_option s plan i e o) (lt-ltb _ _ (used_is_entered u)) (used_passes u);
  selected_is_used = λ i e o h.
      let both = and_parts (ltb i (count s)) (uses_option s plan i e o) h in
      passes_used s plan i (plan_reads s b plan limits is_plan i (ltb-true _ _ both.0)) e o both.1;
}

-- two selections that one plan describes are the same
pub same_selection : (s : Model) (plan : List ℕ) (x y : Selection) → Describes s plan x → Describes s plan y → Same x y
same_selection s plan x y of_x of-y i e o =
    same_from_decides {P = Uses s plan i e o} (x i e o) (y i e o)
    (of_x.selected_is_used i e o, of_x.used_is_selected i e o) (of-y.selected_is_used i e o, of-y.used_is_selected i e o)
