-- The bytes of a study are all bytes up to the greatest, in the order of their ranks.
use Rattle.std.proofs.Common.{◌≡◌, ℕ, zero, suc, ◌+◌, ◌*◌, ◌<◌, ◌≤◌, ◌∙◌, subst, arith}
use Rattle.std.specs.List.{range_with_len, ContainsAt as Has, AllByRecursion}
use Rattle.std.proofs.lemmas.List.FromFn.{length-range_with_len, get_or-range_with_len}
use Rattle.std.proofs.ByRecursion.{has_get_or}
use Rattle.plans.specs.Orders.{rank}
use Rattle.theory.specs.ReadingOrder.{InOrder, ByteOrder}
use Rattle.solutions.specs.Solved.{bytes}

-- ---- bytes that are counted
all_counted : (P : ℕ → Type 0) (n a : ℕ) → ((j : ℕ) → a ≤ j → j < a + n → P j) → AllByRecursion P (range_with_len a n)
all_counted P zero a h = tt
all_counted P (suc n) a h = (h a (omega arith) (omega arith), all_counted P n (a + 1) (λ j l m. h j (omega arith) (omega arith)))

counted_in_order : (n a : ℕ) → InOrder rank (range_with_len a n)
counted_in_order zero a = tt
counted_in_order (suc n) a = (all_counted (λ j. rank a < rank j) n (a + 1) (λ j l m. omega arith), counted_in_order n (a + 1))

pub bytes_in_order : (last : ℕ) → ByteOrder rank (2 * last) (bytes last)
bytes_in_order last = record {
  only_bytes = all_counted (λ v. v ≤ 2 * last) (2 * last + 1) 0 (λ j l m. omega arith);
  in_order = counted_in_order (2 * last + 1) 0;
  every_byte = λ v l.
      subst (Has (bytes last)) (get_or-range_with_len 0 (2 * last + 1) v 0 (omega arith) ∙ (let e : 0 + v ≡ v = omega arith in e))
      (has_get_or (bytes last) v 0 (omega (arith, length-range_with_len 0 (2 * last + 1))));
}
