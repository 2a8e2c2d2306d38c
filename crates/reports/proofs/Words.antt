-- The words of a refusal line, and what follows them.
use Rattle.std.proofs.Common.{◌≡◌, ℕ, List, [], ◌∷◌, ◌++◌, refl, append_assoc}
use Rattle.model.specs.Refusals.{Word, num, sign}
use Rattle.reports.specs.Lines.{words}

module _ (rest : List ℕ) where
  pub words_then : (ws : List Word) → words ws rest ≡ words ws [] ++ rest
  words_then [] = refl
  words_then (num n ∷ ws) = simp (words_then ws, append_assoc)
  words_then (sign c ∷ ws) = simp (words_then ws, append_assoc)
