-- What a kind of cost has to keep: four laws, for sums of at most 256 postings.
use Rattle.std.specs.Prelude.{◌≡◌, ℕ, ◌+◌, ◌≤◌, Bool, true, false, pos, ◌≤ℤ◌}
use Rattle.costs.specs.declared.posting.Posting.{Posting}
use Rattle.costs.specs.Postings.{Within, most}

-- how a kind turns a posting into a cost, and adds two costs
pub record Adding (C : Type 0) : Type 0 where
  pub post : Posting → C
  pub plus : C → C → C

-- `SumOf k n c`: the cost c is a sum of n postings, each within its limits
pub data SumOf {C : Type 0} (k : Adding C) : ℕ → C → Type 0 where
  one : (p : Posting) → Within p → SumOf k 1 (k.post p)
  join : (m n : ℕ) (a b : C) → SumOf k m a → SumOf k n b → SumOf k (m + n) (k.plus a b)

-- a cost that is a sum of few enough postings
abbrev pub Cost : {C : Type 0} → Adding C → C → Type 0
Cost k c = (n : ℕ) × (n ≤ most) × SumOf k n c

pub record Laws {C : Type 0} (k : Adding C) (lower : C → C → Bool) : Type 0 where
  -- 1. lower is transitive, no cost is lower than itself, and two costs of which neither is lower are the same
  pub transitive : (l m n : ℕ) (a b c : C) → SumOf k l a → SumOf k m b → SumOf k n c → l ≤ most → m ≤ most → n ≤ most → lower a b ≡ true → lower b c ≡ true → lower a c ≡ true
  pub not_of_itself : (n : ℕ) (a : C) → SumOf k n a → n ≤ most → lower a a ≡ false
  pub neither_is_same : (m n : ℕ) (a b : C) → SumOf k m a → SumOf k n b → m ≤ most → n ≤ most → lower a b ≡ false → lower b a ≡ false → a ≡ b
  -- 2. the order and the grouping of a sum do not matter
  pub any_order : (m n : ℕ) (a b : C) → SumOf k m a → SumOf k n b → m + n ≤ most → k.plus a b ≡ k.plus b a
  pub any_grouping : (l m n : ℕ) (a b c : C) → SumOf k l a → SumOf k m b → SumOf k n c → l + m + n ≤ most → k.plus (k.plus a b) c ≡ k.plus a (k.plus b c)
  -- 3. a lower cost stays lower when one cost is added to both
  pub stays_lower : (l m n : ℕ) (a b c : C) → SumOf k l a → SumOf k m b → SumOf k n c → l + n ≤ most → m + n ≤ most → lower a b ≡ true → lower (k.plus a c) (k.plus b c) ≡ true
  -- 4. adding a posting without negative money never gives a lower cost
  pub never_lowers : (n : ℕ) (a : C) (p : Posting) → SumOf k n a → n + 1 ≤ most → Within p → pos 0 ≤ℤ p.cents → lower (k.plus a (k.post p)) a ≡ false
