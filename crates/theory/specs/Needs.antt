-- Which pairs of a resource and a place the decisions need.
--
-- Pairs are numbered from 0 to the number of pairs, by resource and then by place; the argument knows their numbers only.
use Rattle.std.specs.Prelude.{ℕ, zero, suc, ◌*◌, Bool, false, cond, ◌||◌, ◌==◌}
use Rattle.theory.specs.Breakdowns.{start}
use Rattle.theory.specs.Tables.{Table, breakdown}

-- by place and pair: whether a component's option there needs the pair
pub record Needs : Type 0 where
  pub discard : ℕ → ℕ → Bool
  pub repair : ℕ → ℕ → Bool
  pub move : ℕ → ℕ → Bool

-- whether byte b needs pair j from place e, with so many places left on the way up; the cases are those of a route
abbrev pub route_needs : (ℕ → ℕ) → Needs → ℕ → ℕ → ℕ → ℕ → Bool
route_needs up u zero e b j = false
route_needs up u (suc left) e b j =
    cond (suc b == 2 * e) (u.discard e j)
    (cond (b == 2 * e) (u.repair e j)
    (u.move e j || route_needs up u left (up e) b j))

-- whether component i needs pair j from start s with byte b
abbrev pub own_needs : Table → (ℕ → Needs) → ℕ → ℕ → ℕ → ℕ → Bool
own_needs g u i s b j = cond (s == 0) false (route_needs g.places.up (u i) (g.places.above s) s b j)

-- whether one of components 1 to n needs pair j, for the bytes a
abbrev pub needed : Table → (ℕ → Needs) → ℕ → (ℕ → ℕ) → ℕ → Bool
needed g u zero a j = false
needed g u (suc n) a j = needed g u n a j || own_needs g u (suc n) (start (breakdown g) a (suc n)) (a (suc n)) j
