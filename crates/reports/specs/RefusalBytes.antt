-- The refusal line as 40 bytes: the line, and zeros after its end.
use Rattle.std.specs.Prelude.{ℕ, ◌-◌, List, ◌++◌, length, replicate}

abbrev pub in_40_bytes : List ℕ → List ℕ
in_40_bytes line = line ++ replicate (40 - length line) 0
