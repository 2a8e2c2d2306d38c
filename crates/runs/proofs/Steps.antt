-- Steps put together to runs.
use Rattle.std.proofs.Common.{◌≡◌, ℕ, ◌+◌, ◌<◌, Bool, List, [], ◌∷◌, ◌++◌, length, get_or, take, drop, set, Some, vec_items, vec_len, Option, Result, sym, refl, ap, ◌∙◌, subst, arith}
use Rattle.std.specs.Global.{Vec}
use Rattle.std.specs.Vec.{with_items}
use Rattle.std.proofs.lemmas.List.{with_items_is, take_more, take_more_set, drop_more, drop-set-lt}
use Rattle.costs.specs.Kinds.{Adding}
use Rattle.model.specs.declared.refusal.Refusal.{Refusal}
use Rattle.model.specs.Books.{Book}
use Rattle.model.specs.Studies.{Model}
use Rattle.plans.specs.Prices.{priced}
use Rattle.solutions.specs.Solved.{Outcome, solved}
use Rattle.runs.specs.declared.call.Call.{Call}
use Rattle.runs.specs.declared.call.Call.TheVariants.{Price, Solve}
use Rattle.runs.specs.Runs.{Step, Run}

module _ {B C : Type 0} (means : B → Book) (k : Adding C) (lower : C → C → Bool) where
  -- a price, of the bytes that the call's place lends
  pub priced_step : (s : Model) (b : B) (v : Vec ℕ) (old : Option (Result C Refusal)) (r : Result C Refusal) (bytes : List ℕ)
      → bytes ≡ vec_items v → r ≡ priced k s (means b) bytes → Step means k lower s (Price b v old) (Price b v (Some r)) s
  priced_step s b v old r bytes e h = (r, refl, refl, h ∙ ap (priced k s (means b)) e)

  -- a solve, into the bytes and with the costs that the call's places lend
  pub solved_step : (s : Model) (b : B) (v : Vec ℕ) (w : Vec C) (old : Option (Result C Refusal)) (r : Result C Refusal) (bytes after : List ℕ) (working used : List C)
      → bytes ≡ vec_items v → length working ≡ vec_len w → length after ≡ vec_len v
      → r ≡ (solved k lower s (means b) (length working) bytes).answer → after ≡ (solved k lower s (means b) (length working) bytes).place
      → Step means k lower s (Solve b v w old) (Solve b (with_items v after) (with_items w used) (Some r)) s
  solved_step s b v w old r bytes after working used e f g answer place =
      let same : solved k lower s (means b) (length working) bytes ≡ solved k lower s (means b) (vec_len w) (vec_items v) =
      ap (λ n. solved k lower s (means b) n bytes) f ∙ ap (solved k lower s (means b) (vec_len w)) e in
      (r, with_items v after, with_items w used, refl, refl, refl, answer ∙ ap (λ (o : Outcome C). o.answer) same, with_items_is v after g ∙ place ∙ ap (λ (o : Outcome C). o.place) same)

  -- a run with one call more at its end
  one_more : (s m t : Model) (cs ds : List (Call B C)) (c d : Call B C)
      → Run means k lower s cs ds m → Step means k lower m c d t → Run means k lower s (cs ++ c ∷ []) (ds ++ d ∷ []) t
  one_more s m t [] [] c d e p = (t, subst (λ x. Step means k lower x c d t) e p, refl)
  one_more s m t [] (d' ∷ ds) c d e p = absurd e
  one_more s m t (c' ∷ cs) [] c d e p = absurd e
  one_more s m t (c' ∷ cs) (d' ∷ ds) c d (n, q, rest) p = (n, q, one_more n m t cs ds c d rest p)

  -- the call at i is made: those up to it are a run, and those after it are as they were
  pub made_at : (s m t : Model) (cs ds : List (Call B C)) (i : ℕ) (x d : Call B C) → i < length cs → length ds ≡ length cs
      → Run means k lower s (take i cs) (take i ds) m → drop i ds ≡ drop i cs
      → Step means k lower m (get_or ds i x) d t
      → Run means k lower s (take (i + 1) cs) (take (i + 1) (set ds i d)) t × (drop (i + 1) (set ds i d) ≡ drop (i + 1) cs)
  made_at s m t cs ds i x d l e run rest step =
      let ld : i < length ds = omega arith in
      let both : get_or ds i x ∷ drop (i + 1) ds ≡ get_or cs i x ∷ drop (i + 1) cs = sym (drop_more ds i x ld) ∙ rest ∙ drop_more cs i x l in
      let same : get_or cs i x ≡ get_or ds i x = cc in
      let past : drop (i + 1) ds ≡ drop (i + 1) cs = cc in
      let one : take (i + 1) cs ≡ take i cs ++ get_or ds i x ∷ [] = take_more cs i x l ∙ ap (λ y. take i cs ++ y ∷ []) same in
      let lt : i < i + 1 = omega arith in
      (rw (one, take_more_set ds i d ld) (one_more s m t (take i cs) (take i ds) (get_or ds i x) d run step), drop-set-lt (i + 1) ds i d lt ∙ past)
