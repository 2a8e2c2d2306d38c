-- A plan of at least one component has a cost, since it posts something.
use Rattle.std.proofs.Common.{◌≡◌, ℕ, ◌≤◌, true, List, [], ◌∷◌, Some, None, Option, refl, ap, ◌∙◌, inl, inr, arith}
use Rattle.std.proofs.lemmas.Bool.{false≢true}
use Rattle.costs.specs.declared.posting.Posting.{Posting}
use Rattle.costs.specs.Kinds.{Adding}
use Rattle.model.specs.declared.answer.Answer.{Answer}
use Rattle.model.specs.declared.answer.Answer.TheVariants.{Charged, Barred, Faulty}
use Rattle.model.specs.declared.question.Question.{Question}
use Rattle.model.specs.declared.question.Question.TheVariants.{OfOption}
use Rattle.model.specs.declared.question.RepairOption.{RepairOption}
use Rattle.model.specs.declared.question.RepairOption.TheVariants.{Discard, Repair}
use Rattle.model.specs.Books.{Book}
use Rattle.model.specs.Components.{is_entered}
use Rattle.model.specs.Studies.{Model, Limits}
use Rattle.plans.specs.Questions.{count, is_charge, is_open}
use Rattle.plans.specs.Postings.{times, posted, posting_of, posting, add_posting, postings_for, plus_postings, summed}
use Rattle.plans.specs.Starts.{byte, final, parent, Starts, top}
use Rattle.plans.specs.Uses.{Uses, discards, repairs}
use Rattle.plans.specs.Plans.{IsPlan, Costs}
use Rattle.plans.specs.Laws.{Among, here, later}
use Rattle.plans.proofs.Reading.{odd_or_even}
use Rattle.plans.proofs.PostedOnce.{used_is_posted}

-- what is open is posted
open_posts : (n : ℕ) (a : Answer) → is_charge a ≡ true → (p : Posting) × (posting_of n a ≡ Some p)
open_posts n (Charged c) h = (posted n c, refl)
open_posts n Barred h = absurd (false≢true h)
open_posts n (Faulty f) h = absurd (false≢true h)

module _ {C : Type 0} (k : Adding C) where
  -- a sum that has begun stays one
  sum_goes_on : (c : C) (ps : List Posting) → (d : C) × (plus_postings k (Some c) ps ≡ Some d)
  sum_goes_on c [] = (c, refl)
  sum_goes_on c (p ∷ ps) = sum_goes_on (k.plus c (k.post p)) ps

  sum_begins : (p : Posting) (ps : List Posting) → (d : C) × (summed k (p ∷ ps) ≡ Some d)
  sum_begins p ps = sum_goes_on (k.post p) ps

  sum_behind : (o : Option Posting) (ps : List Posting) → (c : C) × (summed k ps ≡ Some c) → (d : C) × (summed k (add_posting o ps) ≡ Some d)
  sum_behind None ps h = h
  sum_behind (Some p) ps h = sum_begins p ps

  -- questions of which one is open have a sum
  sum_of_open :
      {q : Question} {qs : List Question} (s : Model) (b : Book) → is_open b q ≡ true → Among q qs
      → (c : C) × (summed k (postings_for s b qs) ≡ Some c)
  sum_of_open {q} s b h (here qs) =
      let own = open_posts (times s q) (b q) h in
      let sum = sum_begins own.0 (postings_for s b qs) in
      (sum.0, ap (λ o. summed k (add_posting o (postings_for s b qs))) own.1 ∙ sum.1)
  sum_of_open s b h (later p qs m) = sum_behind (posting s b p) (postings_for s b qs) (sum_of_open s b h m)

-- component 0 is a top component
no_parent_at_first : (o : Option ℕ) → is_entered 0 o ≡ true → o ≡ None
no_parent_at_first o h = grind arith

-- a reached component is discarded or repaired
uses_something : {s : Model} {plan : List ℕ} {i a : ℕ} → Starts s plan i a → (e : ℕ) × (o : RepairOption) × Uses s plan i e o
uses_something {s} {plan} {i} {a} r =
    elim (odd_or_even (byte plan i)) [
      | inl h ↦ (final (byte plan i), Discard, discards i a _ r h)
      | inr h ↦ (final (byte plan i), Repair, repairs i a _ r h)
    ]

-- so component 0 posts something
pub plan_has_cost :
    {C : Type 0} (k : Adding C) (s : Model) (b : Book) (plan : List ℕ)
    → Limits s → 1 ≤ count s → IsPlan s b plan → (c : C) × Costs k s b plan c
plan_has_cost k s b plan limits some is_plan =
    let used = uses_something (top 0 some (no_parent_at_first (parent s 0) (limits.sound_rows 0 some).0)) in
    let posted = used_is_posted s b plan limits is_plan (OfOption 0 used.0 used.1) used.2 in
    sum_of_open k s b (is_plan.options_open 0 used.0 used.1 used.2) posted
