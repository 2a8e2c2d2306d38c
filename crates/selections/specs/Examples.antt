-- Two worked examples on study X, and one selection that is none.
-- The plan 4, 4: component 0 is moved at echelon 1 and repaired at 2; component 1 comes out there and is repaired there.
-- The plan 2, 4: component 0 is repaired at echelon 1; component 1 comes out there, is moved on, and repaired at 2.
-- To the first, a discard of component 1 at echelon 1 is added that nothing asks for: the parent was not repaired there.
use Rattle.std.specs.Prelude.{ℕ, false, ◌&&◌, ◌||◌, List, [], ◌∷◌, ℤ, pos, ◌==◌}
use Rattle.std.specs.List.{AllByRecursion}
use Rattle.costs.specs.Amounts.{money}
use Rattle.model.specs.declared.question.RepairOption.{RepairOption}
use Rattle.model.specs.declared.question.RepairOption.TheVariants.{Discard, Repair, Move}
use Rattle.model.specs.Letters.{letter}
use Rattle.plans.specs.Plans.{IsPlan}
use Rattle.cases.specs.StudyX.{study_x, book_x}
use Rattle.selections.specs.Selections.{Selection, Consistent}
use Rattle.selections.specs.Costs.{SelectionCosts}
use Rattle.selections.specs.Laws.{Describes}

-- a component, an echelon and an option
abbrev pub Choice : Type 0
Choice = ℕ × ℕ × RepairOption

-- selected is what stands in the list; options are told apart by their letters
abbrev pub selecting : List Choice → Selection
selecting [] i e o = false
selecting (c ∷ cs) i e o = (i == c.0 && (e == c.1 && letter o == letter c.2)) || selecting cs i e o

-- a plan of study X, the options that it selects, and their cost in cents over a thousand years
pub record Example : Type 0 where
  pub plan : List ℕ
  pub options : List Choice
  pub cost : ℤ

abbrev pub moved_then_repaired : List Choice
moved_then_repaired = (0, 1, Move) ∷ (0, 2, Repair) ∷ (1, 2, Repair) ∷ []

abbrev pub examples : List Example
examples =
    record { plan = 4 ∷ 4 ∷ []; options = moved_then_repaired; cost = pos 300_000 }
    ∷ record { plan = 2 ∷ 4 ∷ []; options = (0, 1, Repair) ∷ (1, 1, Move) ∷ (1, 2, Repair) ∷ []; cost = pos 525_000 }
    ∷ []

-- the first with a discard that nothing asks for
abbrev pub with_superfluous : List Choice
with_superfluous = (1, 1, Discard) ∷ moved_then_repaired

-- the plan is one, it describes the selection, which is consistent, and the cost is the selection's
pub record Agrees (x : Example) : Type 0 where
  pub is_plan : IsPlan study_x book_x x.plan
  pub describes : Describes study_x x.plan (selecting x.options)
  pub consistent : Consistent study_x book_x (selecting x.options)
  pub costs : SelectionCosts money study_x book_x (selecting x.options) x.cost

pub record ExamplesAgree : Type 0 where
  pub each_agrees : AllByRecursion Agrees examples
  pub superfluous_is_not : Consistent study_x book_x (selecting with_superfluous) → ⊥
