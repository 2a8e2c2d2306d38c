-- Reading order: of two plans, the lowest component whose bytes differ decides, and there the byte of the lower rank.
use Rattle.std.specs.Prelude.{◌≡◌, ℕ, ◌<◌, ◌⊎◌, List, [], ◌∷◌, length}

-- where a byte stands among the bytes: the smaller byte comes first
abbrev pub rank : ℕ → ℕ
rank b = b

-- the first plan comes before the second
abbrev pub Before : List ℕ → List ℕ → Type 0
Before [] [] = ⊥
Before [] (y ∷ ys) = ⊥
Before (x ∷ xs) [] = ⊥
Before (x ∷ xs) (y ∷ ys) = (rank x < rank y) ⊎ ((x ≡ y) × Before xs ys)

-- no plan comes before itself; what comes before what comes before comes before; of two plans of one length, one comes
-- before the other or they are the same
pub record DecidesTies : Type 0 where
  pub not_of_itself : (x : List ℕ) → Before x x → ⊥
  pub transitive : (x y z : List ℕ) → Before x y → Before y z → Before x z
  pub total : (x y : List ℕ) → length x ≡ length y → Before x y ⊎ ((x ≡ y) ⊎ Before y x)
