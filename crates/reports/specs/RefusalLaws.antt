-- What the lines of refusals come to: byte 10 stands once, at the end, and different refusals have different lines.
use Rattle.std.specs.Prelude.{◌≡◌, ◌<◌, ◌≤◌}
use Rattle.std.specs.List.{AllByRecursion}
use Rattle.model.specs.declared.refusal.Refusal.{Refusal}
use Rattle.model.specs.Refusals.{Word, num, sign, said}
use Rattle.reports.specs.LineEnds.{EndsOnce}
use Rattle.reports.specs.Lines.{refusal_line}
use Rattle.reports.specs.RefusalBytes.{in_40_bytes}

-- a number of at most 16 bits, which every number that a refusal carries is, or a letter from A to Z
abbrev pub Plain : Word → Type 0
Plain (num n) = n < 65_536
Plain (sign c) = (65 ≤ c) × (c ≤ 90)

-- what a refusal carries is plain: the letter of a fault's book is one from A to Z
abbrev pub IsPlain : Refusal → Type 0
IsPlain r = AllByRecursion Plain (said r).carried

pub record RefusalLinesApart : Type 0 where
  pub ends_once : (r : Refusal) → IsPlain r → EndsOnce (refusal_line r)
  pub differ : (r q : Refusal) → IsPlain r → IsPlain q → in_40_bytes (refusal_line r) ≡ in_40_bytes (refusal_line q) → r ≡ q
