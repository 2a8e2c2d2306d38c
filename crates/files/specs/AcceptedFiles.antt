-- What an accepted file is, and the study that it makes.
use Rattle.std.specs.Prelude.{◌≡◌, ℕ, ◌%◌, ◌<◌, ◌≤◌, ◌⊎◌, List, [], ◌∷◌, ◌++◌, length, Ok, slice_index_or}
use Rattle.std.specs.List.{AllByRecursion}
use Rattle.model.specs.declared.question.RepairOption.{RepairOption}
use Rattle.model.specs.Letters.{letter}
use Rattle.model.specs.Studies.{Model, blank_study, on_open, on_enter}
use Rattle.files.specs.Records.{byte, kind, letter_n, letter_c, letter_t, letter_f, records, needs_of, rate_of}
use Rattle.files.specs.Intakes.{taken_in}

-- the bytes from `first` to `last` are 0
abbrev pub Zeros : List ℕ → ℕ → ℕ → Type 0
Zeros r first last = (k : ℕ) → first ≤ k → k ≤ last → byte r k ≡ 0

-- an N, whose bytes after the numbers of echelons and resources are 0
pub record IsN (r : List ℕ) : Type 0 where
  pub of_kind : kind r ≡ letter_n
  pub unused : Zeros r 3 23

-- a C, whose bytes before and after the rate are 0
pub record IsC (r : List ℕ) : Type 0 where
  pub of_kind : kind r ≡ letter_c
  pub unused_before : Zeros r 6 7
  pub unused_after : Zeros r 12 23

-- a T, with the letter of an option, whose bytes before the cents are 0
pub record IsT (r : List ℕ) : Type 0 where
  pub of_kind : kind r ≡ letter_t
  pub option : RepairOption
  pub letter_of_option : byte r 3 ≡ letter option
  pub unused : Zeros r 4 7

-- an F, whose bytes before the cents are 0
pub record IsF (r : List ℕ) : Type 0 where
  pub of_kind : kind r ≡ letter_f
  pub unused : Zeros r 3 7

-- components entered one after another, each by its record: the study before and the study after
pub data Entered : Model → List (List ℕ) → Model → Type 0 where
  none : (s : Model) → Entered s [] s
  next : (s t u : Model) (number : ℕ) (r : List ℕ) (rs : List (List ℕ)) → on_enter s (byte r 2) (needs_of r) (rate_of r) ≡ (Ok number, t) → Entered t rs u → Entered s (r ∷ rs) u

-- a file that makes the study
pub record Accepted (file : List ℕ) (study : Model) : Type 0 where
  -- its length is a multiple of 24, from 24 to 65,520
  pub whole : length file % 24 ≡ 0
  pub some : 24 ≤ length file
  pub few : length file ≤ 65_520
  -- its records are one N, then C, then T and F
  pub opening : List ℕ
  pub components : List (List ℕ)
  pub charges : List (List ℕ)
  pub in_order : records file ≡ opening ∷ (components ++ charges)
  pub first_n : IsN opening
  pub then_c : AllByRecursion IsC components
  pub then_t_and_f : AllByRecursion (λ r. IsT r ⊎ IsF r) charges
  -- the C are numbered 0, 1, 2, ..
  pub numbered : (i : ℕ) → i < length components → byte (slice_index_or components i []) 1 ≡ i
  -- open accepts the N on a blank study, enter accepts each C in its turn, and this makes the study
  pub opened : Model
  pub opens : on_open blank_study (byte opening 1) (byte opening 2) ≡ (Ok tt, opened)
  pub enters : Entered opened components study

-- the intake makes a study of a file exactly when the file is so
abbrev pub AcceptedExactly : Type 0
AcceptedExactly = (file : List ℕ) (study : Model) → (taken_in file ≡ Ok study → Accepted file study) × (Accepted file study → taken_in file ≡ Ok study)
