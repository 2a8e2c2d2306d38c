-- Bytes are a plan where every component passes, and every component of a plan passes.
use Rattle.std.proofs.Common.{◌≡◌, ℕ, ◌*◌, ◌<◌, ◌≤◌, true, List, length, inl, inr, arith}
use Rattle.std.proofs.lemmas.Bool.{cases_lt}
use Rattle.model.specs.declared.question.Question.{Question}
use Rattle.model.specs.declared.question.Question.TheVariants.{OfOption, OfResource}
use Rattle.model.specs.Books.{Book}
use Rattle.model.specs.Studies.{Model, Limits}
use Rattle.plans.specs.Questions.{count, is_open}
use Rattle.plans.specs.Starts.{byte, final, start}
use Rattle.plans.specs.Plans.{IsPlan}
use Rattle.plans.specs.Laws.{ReadsStart, UsesIt}
use Rattle.plans.proofs.Reading.{started_is_entered, start_read, reads_start}
use Rattle.plans.proofs.Objecting.{Passes}
use Rattle.plans.proofs.Using.{used_is_entered, used_passes, needed_passes}
use Rattle.plans.proofs.Asking.{BytesFit, used_is_asked, needed_is_asked, asked_is_used, asked_is_needed}
use Rattle.plans.proofs.Reached.{decided_before}

module _ (s : Model) (b : Book) (plan : List ℕ) (limits : Limits s) (pass : (i : ℕ) → i < count s → Passes s b plan i) where
  passed_fit : BytesFit s plan
  passed_fit i a r =
      let own = pass i (started_is_entered r) in
      let read = start_read r in
      (own.read_is_decided (omega arith), own.byte_fits)

  pub passed_is_plan : length plan ≡ count s → IsPlan s b plan
  passed_is_plan long = record {
    one_byte_each = long;
    reached_is_decided = λ i a r. (passed_fit i a r).0;
    decided_is_reached = decided_before s b plan limits (count s) (omega arith) pass;
    from_the_start = λ i a r. let read = start_read r in omega (arith, (pass i (started_is_entered r)).from_the_start);
    to_the_last = λ i a r. omega (arith, (passed_fit i a r).1);
    options_open = λ i e o u. (pass i (used_is_entered u)).options_open (OfOption i e o) (used_is_asked passed_fit u) (used_passes u);
    resources_open = λ r e n.
        (pass n.by (used_is_entered n.used)).resources_open (OfResource r e)
        (needed_is_asked s plan r e limits passed_fit n) (needed_passes s plan r e n);
  }

module _ (s : Model) (b : Book) (plan : List ℕ) (limits : Limits s) (is_plan : IsPlan s b plan) where
  pub plan_fit : BytesFit s plan
  plan_fit i a r = (is_plan.reached_is_decided i a r, omega (arith, is_plan.to_the_last i a r))

  pub plan_reads : (i : ℕ) → i < count s → ReadsStart s plan i
  plan_reads i l = reads_start s plan i limits l (λ j k. is_plan.decided_is_reached j (omega arith))

  used_is_open : (q : Question) → UsesIt s plan q → is_open b q ≡ true
  used_is_open (OfOption i e o) = is_plan.options_open i e o
  used_is_open (OfResource r e) = is_plan.resources_open r e

  module _ (i : ℕ) (l : i < count s) where
    byte_fits : byte plan i ≤ 2 * s.echelons
    byte_fits = grind arith

    from_the_start : start s plan i ≤ final (byte plan i)
    from_the_start =
        elim (cases_lt (start s plan i) 1) [
          | inl k ↦ omega arith
          | inr h ↦ is_plan.from_the_start i (start s plan i) ((plan_reads i l).read_is_start h)
        ]

    pub plan_passes : Passes s b plan i
    plan_passes = record {
      byte_fits = byte_fits;
      decided_is_read = λ h. let read = start_read (is_plan.decided_is_reached i l h).1 in omega arith;
      read_is_decided = λ h. is_plan.reached_is_decided i (start s plan i) ((plan_reads i l).read_is_start h);
      from_the_start = from_the_start;
      options_open = λ q m u. used_is_open q (asked_is_used s plan i (plan_reads i l) q m u);
      resources_open = λ q m u. used_is_open q (asked_is_needed s plan i (plan_reads i l) q m u);
    }
