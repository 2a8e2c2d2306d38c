-- Shut pairs: the table in which every option that needs a shut pair is closed.
use Rattle.std.specs.Prelude.{◌≡◌, ℕ, zero, suc, ◌<◌, Bool, true, false, cond, ◌&&◌, ◌||◌, None, Option}
use Rattle.theory.specs.Options.{Options}
use Rattle.theory.specs.Tables.{Table}
use Rattle.theory.specs.Needs.{Needs}

-- whether one of the pairs below m that are needed is shut
abbrev pub blocked : (ℕ → Bool) → (ℕ → Bool) → ℕ → Bool
blocked shut needs zero = false
blocked shut needs (suc m) = blocked shut needs m || (needs m && shut m)

-- none of the pairs below m that are needed is shut
abbrev pub Clear : (ℕ → Bool) → ℕ → (ℕ → Bool) → Type 0
Clear shut m needs = (j : ℕ) → j < m → needs j ≡ true → shut j ≡ false

abbrev pub unless : {A : Type 0} → Bool → Option A → Option A
unless test x = cond test None x

-- a component's options without those that need a shut pair
abbrev pub allowed : (ℕ → Bool) → ℕ → Needs → Options → Options
allowed shut m u o = record {
  discard = λ e. unless (blocked shut (u.discard e) m) (o.discard e);
  repair = λ e. unless (blocked shut (u.repair e) m) (o.repair e);
  move = λ e. unless (blocked shut (u.move e) m) (o.move e);
}

abbrev pub marked : Table → (ℕ → Needs) → ℕ → (ℕ → Bool) → Table
marked g u m shut = record {
  size = g.size;
  places = g.places;
  options = λ i. allowed shut m (u i) (g.options i);
  parent = g.parent;
  first = g.first;
  rank = g.rank;
}
