-- Where a line ends.
use Rattle.std.specs.Prelude.{◌≡◌, ℕ, List, [], ◌∷◌, ◌++◌, ◌≢◌}
use Rattle.std.specs.List.{AllByRecursion}

-- byte 10 stands at the end of a line, and nowhere else
pub record EndsOnce (line : List ℕ) : Type 0 where
  pub before : List ℕ
  pub at_end : line ≡ before ++ 10 ∷ []
  pub only_there : AllByRecursion (λ b. b ≢ 10) before
