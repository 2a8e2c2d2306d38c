-- The postings of the held pairs, resource by resource, are those that the argument adds pair by pair: a held pair is not
-- shut, so it is open, and has a posting.
use Rattle.std.proofs.Common.{◌≡◌, ℕ, zero, suc, ◌+◌, ◌*◌, ◌<◌, Bool, true, false, cond, not, leb, List, [], ◌∷◌, ◌++◌, map, get_or, None, Option, unwrap_or, sym, refl, ap, ◌∙◌, ap₂, mul-le-mul_right, suc-mul, arith}
use mathlib.Core.List.{map-append}
use Rattle.std.proofs.lemmas.Bool.{false≢true}
use Rattle.costs.specs.declared.posting.Posting.{Posting}
use Rattle.model.specs.declared.question.Question.TheVariants.{OfResource}
use Rattle.model.specs.declared.answer.Answer.{Answer}
use Rattle.model.specs.declared.answer.Answer.TheVariants.{Charged, Barred, Faulty}
use Rattle.model.specs.Books.{Book, KeepsLimits}
use Rattle.model.specs.Studies.{Model, Limits}
use Rattle.plans.specs.Ranges.{upto}
use Rattle.plans.specs.Questions.{is_charge, is_open}
use Rattle.plans.specs.Postings.{posting_of, posting, add_posting, times}
use Rattle.plans.proofs.Fitting.{WithinIf, posting_within}
use Rattle.planning.specs.Surveys.{resource_row, pair_posting}
use Rattle.planning.specs.Sums.{if_used, of_resource}
use Rattle.planning.proofs.Kept.{shown, upto_four, if_used_none}
use Rattle.theory.specs.Entries.{Entry, blank}
use Rattle.theory.specs.Searches.{pair_postings}
use Rattle.theory.specs.Problems.{Problem}
use Rattle.solutions.specs.Pairs.{pair_question}
use Rattle.solutions.specs.Problems.{with_proof, problem}
use Rattle.solving.specs.declared.mark.Mark.{Mark}
use Rattle.solving.specs.declared.mark.Mark.TheVariants.{Held, Free, Shut}
use Rattle.solving.specs.Marked.{is_held, is_shut, mark_of, held_pairs, shut_pairs, held_at}
use Rattle.solving.specs.Finds.{ShutsClosed}
use Rattle.solving.specs.Bounds.{held_postings}
use Rattle.solving.proofs.PairNumbers.{resource_of, place_of, upto_same, upto_rows}

-- the postings of entries
abbrev pub bare : List Entry → List Posting
bare es = map (λ (e : Entry). e.posting) es

bare_if : (t : Bool) (e : Entry) → bare (cond t (e ∷ []) []) ≡ cond t (e.posting ∷ []) []
bare_if true e = refl
bare_if false e = refl

bare_pairs : (q : ℕ → Entry) (f : ℕ → Bool) (n : ℕ) → bare (pair_postings q f n) ≡ upto (λ j. cond (f j) ((q j).posting ∷ []) []) n
bare_pairs q f zero = refl
bare_pairs q f (suc n) =
    map-append (λ (e : Entry). e.posting) (pair_postings q f n) (cond (f n) (q n ∷ []) [])
    ∙ ap₂ ◌++◌ (bare_pairs q f n) (bare_if (f n) (q n))

-- what is open has the posting of its answer
answered : (n : ℕ) (a : Answer) (h : WithinIf (posting_of n a)) → is_charge a ≡ true → (unwrap_or (with_proof (posting_of n a) h) blank).posting ∷ [] ≡ add_posting (posting_of n a) []
answered n (Charged c) h e = refl
answered n Barred h e = absurd (false≢true e)
answered n (Faulty f) h e = absurd (false≢true e)

-- nothing past the last echelon
shown_if : (t within : Bool) (p : Option Posting) → cond within (if_used t p) [] ≡ if_used t (cond within p None)
shown_if t true p = refl
shown_if t false p = sym (if_used_none t)

open_if : (t : Bool) → (not t ≡ true → true ≡ false) → t ≡ true
open_if true h = refl
open_if false h = sym (h refl)

module _ (s : Model) (b : Book) (limits : Limits s) (kept : KeepsLimits b) (marks : List (List Mark)) (closed_shut : ShutsClosed (problem s b limits kept) (shut_pairs marks s.echelons)) where
  abbrev y : Problem
  y = problem s b limits kept

  -- what a pair adds, by its number
  pair_adds : (j : ℕ) → j < s.resources * s.echelons → cond (held_pairs marks s.echelons j) ((y.pair j).posting ∷ []) [] ≡ if_used (held_pairs marks s.echelons j) (posting s b (pair_question s.echelons j))
  pair_adds j h = go (mark_of marks s.echelons j) refl
    where
      go : (m : Mark) → mark_of marks s.echelons j ≡ m → cond (is_held m) ((y.pair j).posting ∷ []) [] ≡ if_used (is_held m) (posting s b (pair_question s.echelons j))
      go Held e = answered (times s (pair_question s.echelons j)) (b (pair_question s.echelons j)) (posting_within s b limits kept (pair_question s.echelons j))
          (open_if (is_open b (pair_question s.echelons j)) (λ closed. sym (closed_shut j h closed) ∙ ap is_shut e))
      go Free e = refl
      go Shut e = refl

  -- and by its resource and place
  place_adds : (r place : ℕ) → r < s.resources → place < s.echelons → cond (held_pairs marks s.echelons (r * s.echelons + place)) ((y.pair (r * s.echelons + place)).posting ∷ []) [] ≡ if_used (held_at (get_or marks r []) (suc place)) (posting s b (OfResource r (suc place)))
  place_adds r place h l =
      let rows = mul-le-mul_right s.echelons h in
      pair_adds (r * s.echelons + place) (omega (arith, suc-mul r s.echelons))
      ∙ ap₂ (λ i n. if_used (is_held (get_or (get_or marks i []) n Held)) (posting s b (OfResource i (suc n)))) (resource_of s.echelons r place l) (place_of s.echelons r place l)

  -- what a resource adds
  row_adds : (r : ℕ) → r < s.resources → upto (λ place. cond (held_pairs marks s.echelons (r * s.echelons + place)) ((y.pair (r * s.echelons + place)).posting ∷ []) []) s.echelons ≡ of_resource (held_at (get_or marks r [])) (resource_row s b r)
  row_adds r h =
      let line = get_or marks r [] in
      let f : ℕ → List Posting = λ e. if_used (held_at line e) (posting s b (OfResource r e)) in
      let each : (e : ℕ) → shown s.echelons f e ≡ if_used (held_at line e) (pair_posting s b r e) = λ e. shown_if (held_at line e) (leb e s.echelons) (posting s b (OfResource r e)) in
      let one = each 1 in
      let two = each 2 in
      let three = each 3 in
      let four = each 4 in
      let all = upto_same (λ place. cond (held_pairs marks s.echelons (r * s.echelons + place)) ((y.pair (r * s.echelons + place)).posting ∷ []) []) (λ place. f (suc place)) s.echelons (λ place l. place_adds r place h l) in
      let spread = upto_four f s.echelons limits.few_echelons in
      all ∙ spread ∙ ap₂ ◌++◌ one (ap₂ ◌++◌ two (ap₂ ◌++◌ three four))

  pub held_are_pairs : held_postings s b marks s.resources ≡ bare (pair_postings y.pair (held_pairs marks s.echelons) y.pairs)
  held_are_pairs =
      sym (bare_pairs y.pair (held_pairs marks s.echelons) (s.resources * s.echelons)
      ∙ upto_rows (λ j. cond (held_pairs marks s.echelons j) ((y.pair j).posting ∷ []) []) s.echelons s.resources
      ∙ upto_same (λ r. upto (λ place. cond (held_pairs marks s.echelons (r * s.echelons + place)) ((y.pair (r * s.echelons + place)).posting ∷ []) []) s.echelons) (λ r. of_resource (held_at (get_or marks r [])) (resource_row s b r)) s.resources row_adds)
