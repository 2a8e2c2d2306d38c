-- An option's charge within its limits, posted at a component's rate, is within the limits of a posting.
use Rattle.std.proofs.Common.{ℕ, suc, ◌*◌, ◌≤◌, ℤ, pos, negsuc, ◌*ℤ◌, neg_ℤ, ◌≤ℤ◌, arith}
use Rattle.std.proofs.lemmas.Nat.{mul-le}
use Rattle.std.proofs.lemmas.Int.{ints}
use Rattle.model.specs.declared.question.Question.TheVariants.{OfOption}
use Rattle.model.specs.declared.question.RepairOption.{RepairOption}
use Rattle.model.specs.declared.answer.Answer.{Answer}
use Rattle.model.specs.declared.answer.Answer.TheVariants.{Charged, Barred, Faulty}
use Rattle.model.specs.Books.{InLimits}
use Rattle.planning.specs.Asking.{Postable}

-- at most k times an amount of at most m, above or below zero, is at most k * m
product : (n k m : ℕ) (z : ℤ) → n ≤ k → neg_ℤ (pos m) ≤ℤ z → z ≤ℤ pos m → (neg_ℤ (pos (k * m)) ≤ℤ (pos n *ℤ z)) × ((pos n *ℤ z) ≤ℤ pos (k * m))
product n k m (pos a) h low high =
    let h2 : a ≤ m = omega (arith, ints) in
    let p = mul-le n a k m h h2 in
    (omega (arith, ints), omega (arith, ints))
product n k m (negsuc a) h low high =
    let h2 : suc a ≤ m = omega (arith, ints) in
    let p = mul-le n (suc a) k m h h2 in
    (omega (arith, ints), omega (arith, ints))

-- a rate is at most 1,000,000
pub option_posts : (n i e : ℕ) (o : RepairOption) (a : Answer) → n ≤ 1_000_000 → InLimits (OfOption i e o) a → Postable n a
option_posts n i e o (Charged c) h l =
    let p = product n 1_000_000 1_000_000_000 c.cents h l.0 l.1 in
    (p.0, p.1, mul-le n c.minutes 1_000_000 1_000_000 h l.2)
option_posts n i e o Barred h l = tt
option_posts n i e o (Faulty f) h l = tt
