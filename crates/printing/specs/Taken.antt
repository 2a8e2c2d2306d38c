-- What a call answers that may be refused and may want memory.
use Rattle.std.specs.Prelude.{◌≡◌, Ok, Err, Result}
use Rattle.model.specs.declared.refusal.Refusal.{Refusal}
use Rattle.files.specs.declared.intake.IntakeError.{IntakeError}
use Rattle.files.specs.declared.intake.IntakeError.TheVariants.{Refused, OutOfMemory}

-- it answers `wanted`, where its value is read as `view` and its refusal as `line`; where memory is wanting, nothing is said
abbrev pub Answers : {A B C : Type 0} → (A → B) → (Refusal → C) → Result A IntakeError → Result B C → Type 0
Answers view line (Ok x) wanted = Ok (view x) ≡ wanted
Answers view line (Err (Refused why)) wanted = Err (line why) ≡ wanted
Answers view line (Err OutOfMemory) wanted = Unit
