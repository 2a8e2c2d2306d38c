-- Postings within their limits, and the sum of a row of them.
use Rattle.std.specs.Prelude.{List, [], ◌∷◌, pos}
use Rattle.std.proofs.Common.{arith}
use Rattle.std.proofs.lemmas.Int.{ints}
use Rattle.costs.specs.declared.posting.Posting.{Posting}
use Rattle.costs.specs.Postings.{Within}
use Rattle.costs.specs.Kinds.{Adding}

-- A posting with the proof that it is within its limits. The laws of a cost kind speak of sums of such postings only, so a
-- row of entries of at most 256 needs no further condition.
pub record Entry : Type 0 where
  pub posting : Posting
  pub within : Within posting

abbrev pub post : {C : Type 0} → Adding C → Entry → C
post k p = k.post p.posting

-- a sum so far, and more postings
abbrev pub adds : {C : Type 0} → Adding C → C → List Entry → C
adds k c [] = c
adds k c (p ∷ ps) = adds k (k.plus c (post k p)) ps

-- a posting of no money and no minutes
unfoldable pub blank : Entry
blank = record { posting = record { cents = pos 0; minutes = 0 }; within = (omega (arith, ints), omega (arith, ints), omega arith) }

-- The sum of a row, from its first posting to its last. A cost kind has no zero, so an empty row has no sum of its own; to
-- spare a case it is given the cost of a blank posting, and nothing is ever concluded from which cost that is.
abbrev pub sum : {C : Type 0} → Adding C → List Entry → C
sum k [] = post k blank
sum k (p ∷ ps) = adds k (post k p) ps
