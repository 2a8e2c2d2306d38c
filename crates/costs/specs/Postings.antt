-- The limits of a posting, and how many postings a sum may have.
use Rattle.std.specs.Prelude.{ℕ, ◌≤◌, pos, neg_ℤ, ◌≤ℤ◌}
use Rattle.costs.specs.declared.posting.Posting.{Posting}

-- the most cents that one posting has, above or below zero
abbrev pub most_cents : ℕ
most_cents = 1_000_000_000_000_000

-- the most minutes that one posting has
abbrev pub most_minutes : ℕ
most_minutes = 1_000_000_000_000

-- a posting within its limits
abbrev pub Within : Posting → Type 0
Within p = (neg_ℤ (pos most_cents) ≤ℤ p.cents) × (p.cents ≤ℤ pos most_cents) × (p.minutes ≤ most_minutes)

-- the most postings of one sum: 4 for each of 60 components, and 16 for pairs of a resource and an echelon
abbrev pub most : ℕ
most = 256
