-- What each refusal says: the number of the question that failed, and what it carries, in the order of the refusal line.
use Rattle.std.specs.Prelude.{ℕ, List, [], ◌∷◌}
use Rattle.model.specs.Letters.{letter}
use Rattle.model.specs.declared.answer.Cause.{Cause}
use Rattle.model.specs.declared.answer.Cause.TheVariants.{BeyondLimits, EnteredTwice}
use Rattle.model.specs.declared.question.Question.{Question}
use Rattle.model.specs.declared.question.Question.TheVariants.{OfOption, OfResource}
use Rattle.model.specs.declared.refusal.Refusal.{Refusal}
use Rattle.model.specs.declared.refusal.Refusal.TheVariants.{EchelonCount, ResourceCount, StudyFull, UnknownParent, TooDeep, UnknownResource, RateOutOfRange, UnknownComponent, NoComponent, ShortPlan, ShortWorking, BookFault, NoPlan, ByteTooLarge, ReachMismatch, BeforeStart, OptionClosed, ResourceClosed, PriceRowsFull, UnknownPriceParent, PriceOutOfRange, PercentOutOfRange, YearlyOutOfRange, RulingOutOfRange, FileLength, RecordKind, RecordContent, ComponentNumber, RecordRefused, ShortPlace, NoChargeRecord, ShortReportPlace}

-- a number, or a character by its code
pub data Word : Type 0 where
  num : ℕ → Word
  sign : ℕ → Word

pub record Said : Type 0 where
  pub number : ℕ
  pub carried : List Word

-- 1: a charge beyond the limits; 2: entered twice
abbrev pub cause_number : Cause → ℕ
cause_number BeyondLimits = 1
cause_number EnteredTwice = 2

-- what a question asks about: the component or the resource, the echelon, and the option's letter or F
abbrev pub subject : Question → ℕ
subject (OfOption i e o) = i
subject (OfResource r e) = r

abbrev pub at_echelon : Question → ℕ
at_echelon (OfOption i e o) = e
at_echelon (OfResource r e) = e

abbrev pub option_letter : Question → ℕ
option_letter (OfOption i e o) = letter o
option_letter (OfResource r e) = 70

abbrev pub asked : Question → List Word
asked q = num (subject q) ∷ num (at_echelon q) ∷ sign (option_letter q) ∷ []

abbrev pub said : Refusal → Said
said EchelonCount = record { number = 1; carried = [] }
said ResourceCount = record { number = 2; carried = [] }
said StudyFull = record { number = 3; carried = [] }
said UnknownParent = record { number = 4; carried = [] }
said TooDeep = record { number = 5; carried = [] }
said UnknownResource = record { number = 6; carried = [] }
said RateOutOfRange = record { number = 7; carried = [] }
said UnknownComponent = record { number = 8; carried = [] }
said NoComponent = record { number = 9; carried = [] }
said ShortPlan = record { number = 10; carried = [] }
said ShortWorking = record { number = 11; carried = [] }
said (BookFault f) = record { number = 12; carried = num (cause_number f.cause) ∷ sign f.letter ∷ num f.height ∷ asked f.question }
said NoPlan = record { number = 13; carried = [] }
said (ByteTooLarge i) = record { number = 14; carried = num i ∷ [] }
said (ReachMismatch i) = record { number = 15; carried = num i ∷ [] }
said (BeforeStart i) = record { number = 16; carried = num i ∷ [] }
said (OptionClosed i) = record { number = 17; carried = num i ∷ [] }
said (ResourceClosed i) = record { number = 18; carried = num i ∷ [] }
said PriceRowsFull = record { number = 21; carried = [] }
said UnknownPriceParent = record { number = 22; carried = [] }
said PriceOutOfRange = record { number = 23; carried = [] }
said PercentOutOfRange = record { number = 24; carried = [] }
said YearlyOutOfRange = record { number = 25; carried = [] }
said RulingOutOfRange = record { number = 26; carried = [] }
said FileLength = record { number = 31; carried = [] }
said (RecordKind k) = record { number = 32; carried = num k ∷ [] }
said (RecordContent k) = record { number = 33; carried = num k ∷ [] }
said (ComponentNumber k) = record { number = 34; carried = num k ∷ [] }
said (RecordRefused k n) = record { number = 35; carried = num k ∷ num n ∷ [] }
said ShortPlace = record { number = 36; carried = [] }
said NoChargeRecord = record { number = 37; carried = [] }
said ShortReportPlace = record { number = 38; carried = [] }
