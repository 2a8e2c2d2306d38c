-- Reading order of rows of bytes: the first component whose bytes differ decides, and there the byte of the lower rank.
use Rattle.std.specs.Prelude.{◌≡◌, ℕ, ◌+◌, ◌*◌, ◌<◌, ◌≤◌, ◌⊎◌, List, [], ◌∷◌}
use Rattle.std.specs.List.{ContainsAt as Has, AllByRecursion}
use Rattle.theory.specs.Ranks.{base}

-- the first row comes before the second
abbrev pub Before : (ℕ → ℕ) → List ℕ → List ℕ → Type 0
Before rank [] [] = ⊥
Before rank [] (y ∷ ys) = ⊥
Before rank (x ∷ xs) [] = ⊥
Before rank (x ∷ xs) (y ∷ ys) = (rank x < rank y) ⊎ ((x ≡ y) × Before rank xs ys)

-- the ranks of a row as one number, behind those already read
abbrev pub row_number : (ℕ → ℕ) → ℕ → List ℕ → ℕ
row_number rank a [] = a
row_number rank a (x ∷ xs) = row_number rank (a * base + rank x) xs

-- each has a lower number than all that follow it
abbrev pub InOrder : {X : Type 0} → (X → ℕ) → List X → Type 0
InOrder number [] = Unit {0}
InOrder number (x ∷ xs) = AllByRecursion (λ y. number x < number y) xs × InOrder number xs

-- the bytes from 0 to the greatest, in the order of their ranks
pub record ByteOrder (rank : ℕ → ℕ) (top : ℕ) (bytes : List ℕ) : Type 0 where
  pub only_bytes : AllByRecursion (λ b. b ≤ top) bytes
  pub in_order : InOrder rank bytes
  pub every_byte : (b : ℕ) → b ≤ top → Has bytes b
