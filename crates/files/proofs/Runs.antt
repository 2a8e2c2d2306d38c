-- The records that are still to come: one record on, and at the end.
use Rattle.std.proofs.Common.{◌≡◌, ℕ, ◌+◌, ◌/◌, ◌%◌, ◌<◌, ◌≤◌, true, List, [], length, get_or, drop, Ok, Err, Result, sym, ap, ◌∙◌, arith}
use Rattle.std.specs.Simd.{first_chunks}
use Rattle.std.proofs.lemmas.Bool.Decides.{nat_tests}
use Rattle.std.proofs.lemmas.Bool.{cond-true}
use Rattle.std.proofs.lemmas.List.{at_drop_more, at_drop_all}
use Rattle.model.specs.declared.refusal.Refusal.{Refusal}
use Rattle.model.specs.declared.refusal.Refusal.TheVariants as no
use Rattle.model.specs.Studies.{Model}
use Rattle.files.specs.Records.{records}
use Rattle.files.specs.Intakes.{State, on_record, and_then, run, start, is_length, taken_in}
use Rattle.files.proofs.RecordLists.{chunks_records}

-- o is what record k came to
pub run_more : (rs : List (List ℕ)) (k : ℕ) (t : State) (o : Result State Refusal) → k < length rs → o ≡ on_record t k (get_or rs k []) → run k t (drop k rs) ≡ and_then o (λ next. run (k + 1) next (drop (k + 1) rs))
run_more rs k t o l came =
    let later : State → Result Model Refusal = λ next. run (k + 1) next (drop (k + 1) rs) in
    at_drop_more (run k t) rs k [] l ∙ ap (λ p. and_then p later) (sym came)

pub run_all : (rs : List (List ℕ)) (k : ℕ) (t : State) → length rs ≤ k → run k t (drop k rs) ≡ Ok t.study
run_all rs k t h = at_drop_all (run k t) rs k h

-- a file of right length is read record by record
pub right_length : (n : ℕ) → n % 24 ≡ 0 → 24 ≤ n → n ≤ 65_520 → is_length n ≡ true
right_length n m l u = grind (arith, nat_tests)

pub taken_run : (file : List ℕ) → is_length (length file) ≡ true → taken_in file ≡ run 0 start (records file)
taken_run file h = cond-true (is_length (length file)) (run 0 start (records file)) (Err no.FileLength) h

pub taken_chunks : (file : List ℕ) (rs : List (List ℕ)) → rs ≡ first_chunks 24 (length file / 24) file → length file % 24 ≡ 0 → 1 ≤ length file / 24 → length file / 24 ≤ 2_730 → taken_in file ≡ run 0 start rs
taken_chunks file rs cut whole some few =
    taken_run file (right_length (length file) whole (omega arith) (omega arith)) ∙ ap (run 0 start) (sym (cut ∙ chunks_records file))
