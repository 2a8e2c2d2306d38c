-- The study after a run, and the promise of every solve in it.
use Rattle.std.proofs.Common.{◌≡◌, ℕ, suc, Bool, List, [], ◌∷◌, ◌++◌, length, vec_items, vec_len, Option, Result, sym, refl, ap, ◌∙◌, subst, subst₂}
use Rattle.std.specs.Global.{Vec}
use Rattle.costs.specs.Kinds.{Adding, Laws}
use Rattle.model.specs.declared.refusal.Refusal.{Refusal}
use Rattle.model.specs.Books.{Book, KeepsLimits}
use Rattle.model.specs.Studies.{Model, Limits}
use Rattle.solutions.specs.Promises.{SolvesLeast}
use Rattle.solutions.proofs.Promised.{solves_least_and_first}
use Rattle.runs.specs.declared.call.Call.{Call}
use Rattle.runs.specs.declared.call.Call.TheVariants.{Open, Enter, Require, Strike, Price, Solve}
use Rattle.runs.specs.Runs.{Step, Run}
use Rattle.runs.specs.Laws.{made_by, made_by_all, KeepsPromise}
use Rattle.runs.proofs.Limited.{calls_keep}

module _ {B C : Type 0} (means : B → Book) (k : Adding C) (lower : C → C → Bool) where
  -- a step leaves the study that the rules make
  step_made : (s t : Model) (c d : Call B C) → Step means k lower s c d t → t ≡ made_by s c
  step_made s t (Open e q _) d h = ap (λ p. p.1) h.2
  step_made s t (Enter p n f _) d h = ap (λ p. p.1) h.2
  step_made s t (Require i n _) d h = ap (λ p. p.1) h.2
  step_made s t (Strike _) d h = ap (λ p. p.1) h.2
  step_made s t (Price b plan _) d h = h.2
  step_made s t (Solve b plan working _) d h = h.4

  pub run_made : (s t : Model) (cs ds : List (Call B C)) → Run means k lower s cs ds t → t ≡ made_by_all s cs
  run_made s t [] [] e = e
  run_made s t [] (d ∷ ds) e = absurd e
  run_made s t (c ∷ cs) [] e = absurd e
  run_made s t (c ∷ cs) (d ∷ ds) (m, step, rest) = run_made m t cs ds rest ∙ ap (λ x. made_by_all x cs) (step_made s m c d step)

  module _ (laws : Laws k lower) (b : B) (kept : KeepsLimits (means b)) (plan : Vec ℕ) (working : Vec C) (old : Option (Result C Refusal)) (later : List (Call B C)) where
    -- a solve at the front of a run
    first_keeps : (s m : Model) (d : Call B C) (ds : List (Call B C)) → Limits s → Step means k lower s (Solve b plan working old) d m → KeepsPromise means k lower s b plan working 0 (d ∷ ds)
    first_keeps s m d ds limits (r, written, used, is, same, len, answer, place) = record {
      limits = limits;
      before = [];
      answer = r;
      written = written;
      used = used;
      after = ds;
      in_place = refl;
      left_so = ap (λ x. x ∷ ds) is;
      least_and_first = λ ready.
          subst₂ (λ p a. SolvesLeast k lower s (means b) p a) (sym place) (sym answer)
          (solves_least_and_first C k lower s (means b) (vec_len working) (vec_items plan) laws limits kept ready);
    }

    -- the promise stays when one call more stands in front
    one_before : (m : Model) (n : ℕ) (d : Call B C) (ds : List (Call B C)) → KeepsPromise means k lower m b plan working n ds → KeepsPromise means k lower m b plan working (suc n) (d ∷ ds)
    one_before m n d ds p = record {
      limits = p.limits;
      before = d ∷ p.before;
      answer = p.answer;
      written = p.written;
      used = p.used;
      after = p.after;
      in_place = ap suc p.in_place;
      left_so = ap (λ x. d ∷ x) p.left_so;
      least_and_first = p.least_and_first;
    }

    pub solve_keeps : (s t : Model) (earlier left : List (Call B C)) → Limits s → Run means k lower s (earlier ++ Solve b plan working old ∷ later) left t → KeepsPromise means k lower (made_by_all s earlier) b plan working (length earlier) left
    solve_keeps s t [] [] limits e = absurd e
    solve_keeps s t [] (d ∷ ds) limits (m, step, rest) = first_keeps s m d ds limits step
    solve_keeps s t (c ∷ cs) [] limits e = absurd e
    solve_keeps s t (c ∷ cs) (d ∷ ds) limits (m, step, rest) =
        let next : m ≡ made_by s c = step_made s m c d step in
        let within : Limits m = subst Limits (sym next) (calls_keep s (c ∷ []) limits) in
        subst (λ x. KeepsPromise means k lower (made_by_all x cs) b plan working (suc (length cs)) (d ∷ ds)) next
        (one_before (made_by_all m cs) (length cs) d ds (solve_keeps m t cs ds within rest))
