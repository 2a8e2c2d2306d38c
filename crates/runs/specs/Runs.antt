-- Whole runs: calls made one after another on one study, each answered where it stands.
use Rattle.std.specs.Prelude.{◌≡◌, ℕ, Bool, List, [], ◌∷◌, Some, vec_items, vec_len, Result}
use Rattle.std.specs.Global.{Vec}
use Rattle.costs.specs.Kinds.{Adding}
use Rattle.model.specs.declared.refusal.Refusal.{Refusal}
use Rattle.model.specs.Books.{Book}
use Rattle.model.specs.Studies.{Model, on_open, on_enter, on_require, on_strike}
use Rattle.plans.specs.Prices.{priced}
use Rattle.solutions.specs.Solved.{solved}
use Rattle.runs.specs.declared.call.Call.{Call}
use Rattle.runs.specs.declared.call.Call.TheVariants.{Open, Enter, Require, Strike, Price, Solve}

-- what each book means, and how the cost kind adds and compares
module _ {B C : Type 0} (means : B → Book) (k : Adding C) (lower : C → C → Bool) where
  -- One call, from the study s to the study t. It is handed as the first of the two calls, and left as d, with its answer r;
  -- an answer that stood there before is not looked at. A book stays, and only a solve writes into its places: its plan
  -- place is as `solved` says, and its working list keeps its length, whatever costs it then holds.
  abbrev pub Step : Model → Call B C → Call B C → Model → Type 0
  Step s (Open e q _) d t = (r : Result Unit Refusal) × (d ≡ Open e q (Some r)) × ((r, t) ≡ on_open s e q)
  Step s (Enter p n f _) d t = (r : Result ℕ Refusal) × (d ≡ Enter p n f (Some r)) × ((r, t) ≡ on_enter s p n f)
  Step s (Require i n _) d t = (r : Result Unit Refusal) × (d ≡ Require i n (Some r)) × ((r, t) ≡ on_require s i n)
  Step s (Strike _) d t = (r : Result Unit Refusal) × (d ≡ Strike (Some r)) × ((r, t) ≡ on_strike s)
  Step s (Price b plan _) d t =
      (r : Result C Refusal) × (d ≡ Price b plan (Some r)) × (t ≡ s) × (r ≡ priced k s (means b) (vec_items plan))
  Step s (Solve b plan working _) d t =
      (r : Result C Refusal) × (written : Vec ℕ) × (used : Vec C) × (d ≡ Solve b written used (Some r)) × (t ≡ s)
      × (vec_len used ≡ vec_len working)
      × (r ≡ (solved k lower s (means b) (vec_len working) (vec_items plan)).answer)
      × (vec_items written ≡ (solved k lower s (means b) (vec_len working) (vec_items plan)).place)

  -- Calls one after another, from the study s to the study t: the calls as they are handed, and as they are left. Each
  -- starts from the study that the one before it left.
  abbrev pub Run : Model → List (Call B C) → List (Call B C) → Model → Type 0
  Run s [] [] t = t ≡ s
  Run s [] (d ∷ ds) t = ⊥
  Run s (c ∷ cs) [] t = ⊥
  Run s (c ∷ cs) (d ∷ ds) t = (m : Model) × Step s c d m × Run m cs ds t
