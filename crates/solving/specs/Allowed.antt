-- Which options are allowed at an echelon: those that need no resource that is shut there. Echelons count from 0 here.
use Rattle.std.specs.Prelude.{ℕ, zero, suc, ◌+◌, ◌^◌, Bool, not, List, [], ◌∷◌, ◌==◌, bit_and, slice_index_or}
use Rattle.model.specs.declared.component.Needs.{Needs}
use Rattle.model.specs.declared.question.RepairOption.{RepairOption}
use Rattle.model.specs.declared.question.RepairOption.TheVariants.{Discard, Repair, Move}
use Rattle.model.specs.Components.{need}
use Rattle.planning.specs.declared.table.Choices.{Choices}
use Rattle.theory.specs.Marks.{unless}
use Rattle.solving.specs.declared.mark.Mark.{Mark}
use Rattle.solving.specs.declared.mark.Mark.TheVariants.{Held, Free, Shut}

-- bit r, where a mark shuts
abbrev pub bit_of : Mark → ℕ → ℕ
bit_of Held r = 0
bit_of Free r = 0
bit_of Shut r = 2 ^ r

-- the mask of the first q resources that are shut at echelon e
unfoldable pub shut_mask : List (List Mark) → ℕ → ℕ → ℕ
shut_mask marks e zero = 0
shut_mask marks e (suc r) = shut_mask marks e r + bit_of (slice_index_or (slice_index_or marks r []) e Held) r

-- the same at each of the four echelons
abbrev pub shut_masks : List (List Mark) → ℕ → List ℕ
shut_masks marks q = shut_mask marks 0 q ∷ shut_mask marks 1 q ∷ shut_mask marks 2 q ∷ shut_mask marks 3 q ∷ []

-- the option needs a resource of the mask
abbrev pub is_barred : Needs → RepairOption → ℕ → Bool
is_barred n o mask = not (bit_and (need n o) mask == 0)

-- the postings of the options that need none
abbrev pub allowed_choices : Choices → Needs → ℕ → Choices
allowed_choices p n mask = record {
  discard = unless (is_barred n Discard mask) p.discard;
  repair = unless (is_barred n Repair mask) p.repair;
  moving = unless (is_barred n Move mask) p.moving;
}
