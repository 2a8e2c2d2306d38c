-- The one charge among those that were found for a question, if any; or why it cannot be told.
use Rattle.std.specs.Prelude.{List, [], ◌∷◌, Some, None, Ok, Err, Option, Result}
use Rattle.model.specs.declared.answer.Cause.{Cause}
use Rattle.model.specs.declared.answer.Cause.TheVariants.{EnteredTwice}
use Rattle.model.specs.declared.answer.Charge.{Charge}

abbrev pub only : List Charge → Result (Option Charge) Cause
only [] = Ok None
only (c ∷ []) = Ok (Some c)
only (c ∷ d ∷ cs) = Err EnteredTwice
