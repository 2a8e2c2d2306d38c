-- A text that is put into a place.
use Rattle.std.specs.Prelude.{◌≡◌, ℕ, ◌+◌, ◌≤◌, List, length}
use Rattle.std.proofs.Math.Seq.{paste}
use Rattle.reports.specs.declared.place.Writer.{Writer}

-- the writer has room for n more bytes
abbrev pub HasRoom : Writer → ℕ → Type 0
HasRoom w n = w.at + n ≤ length w.place.now

-- and for the text
abbrev pub Room : Writer → List ℕ → Type 0
Room w text = HasRoom w (length text)

-- the place with the text from byte `at` on, and all else as it was
abbrev pub put : List ℕ → ℕ → List ℕ → List ℕ
put place at text = paste place at text (length text)

-- the text was put into the writer's place: where it ends, and what the place, which is the same, holds then
pub record Puts (old : Writer) (text : List ℕ) (new : Writer) : Type 0 where
  pub ends : new.at ≡ old.at + length text
  pub holds : new.place.now ≡ put old.place.now old.at text
  pub same_place : new.place.ghost_name ≡ old.place.ghost_name
