-- A study that is written is accepted, and makes the same study.
use Rattle.std.proofs.Common.{◌≡◌, ℕ, suc, ◌+◌, ◌<◌, ◌≤◌, true, leb, List, [], ◌∷◌, ◌++◌, length, get_or, Some, None, Ok, Option, sym, refl, ap, ◌∙◌, subst, append_assoc, append-nil, arith, length-append}
use Rattle.std.specs.List.{AllByRecursion}
use Rattle.std.proofs.lemmas.List.{get_or_append_left, get_or_at, length_push}
use Rattle.std.proofs.lemmas.Bool.{ltb-true, leb-true, and_parts}
use Rattle.model.specs.declared.component.Component.{Component}
use Rattle.model.specs.Components.{is_entered, level_under, no_component, Row, Rows}
use Rattle.model.specs.Studies.{Model, Limits, blank_study, on_enter}
use Rattle.files.specs.Records.{byte, needs_of, rate_of}
use Rattle.files.specs.AcceptedFiles.{IsC, Entered, none, next, Accepted}
use Rattle.files.specs.Writes.{parent_number, opening_record, component_record, component_records, written_records, written}
use Rattle.files.specs.RoundTrips.{WrittenStudiesReadBack}
use Rattle.files.proofs.AcceptedRuns.{accepted_exactly}
use Rattle.files.proofs.Calls.{study_of, reopened, reentered}
use Rattle.files.proofs.Encodings.{opening_is_n, component_is_c, parent_again, rate_read}
use Rattle.files.proofs.RecordRows.{row_length, row_records}
use Rattle.files.proofs.WrittenRecords.{components_count, components_read, written_count, written_whole}

-- the level depends on the parent alone, which stands before
level_before : (done more : List Component) (o : Option ℕ) → is_entered (length done) o ≡ true → level_under (done ++ more) o ≡ level_under done o
level_before done more None h = refl
level_before done more (Some p) h = ap (λ (c : Component). suc c.level) (get_or_append_left done more no_component p (ltb-true p (length done) h))

-- component by component: those in `done` are entered, those in `todo` come after them
module _ (e q : ℕ) where
  -- the next component is sound after those entered
  row_after : (done todo : List Component) (c : Component) → Rows q (done ++ c ∷ todo) → Row q done (length done) c
  row_after done todo c sound =
      let size = length-append done (c ∷ todo) in
      let row = subst (Row q (done ++ c ∷ todo) (length done)) (get_or_at done c todo no_component (length done) refl) (sound (length done) (omega arith)) in
      (row.0, row.1 ∙ level_before done (c ∷ todo) c.parent row.0, row.2, row.3, row.4)

  -- its C enters it
  next_entered : (done todo : List Component) (c : Component) → length (done ++ c ∷ todo) ≤ 60 → Rows q (done ++ c ∷ todo) → (r : List ℕ) → r ≡ component_record (length done) c → on_enter (study_of e q done) (byte r 2) (needs_of r) (rate_of r) ≡ (Ok (length done), study_of e q (done ++ c ∷ []))
  next_entered done todo c few sound r is =
      let size = length-append done (c ∷ todo) in
      let row = row_after done todo c sound in
      let parent = parent_again (length done) c.parent (omega arith) row.0 in
      ap (λ x. on_enter (study_of e q done) (byte x 2) (needs_of x) (rate_of x)) is
      ∙ ap (on_enter (study_of e q done) (parent_number c.parent) c.needs) (rate_read (length done) c (leb-true c.rate 1_000_000 (and_parts (leb 1 c.rate) (leb c.rate 1_000_000) row.4).1))
      ∙ reentered (study_of e q done) c (parent_number c.parent) parent (omega arith) row

  -- the C of all others enter them
  all_entered : (done todo : List Component) (n : ℕ) → n ≡ length done → length (done ++ todo) ≤ 60 → Rows q (done ++ todo) → Entered (study_of e q done) (component_records n todo) (study_of e q (done ++ todo))
  all_entered done [] n at few sound = subst (λ cs. Entered (study_of e q done) [] (study_of e q cs)) (sym (append-nil done)) (none (study_of e q done))
  all_entered done (c ∷ todo) n at few sound =
      let all = append_assoc done (c ∷ []) todo in
      let count = length_push done c in
      let rest = all_entered (done ++ c ∷ []) todo (n + 1) (omega arith) (subst (λ cs. length cs ≤ 60) (sym all) few) (subst (Rows q) (sym all) sound) in
      next (study_of e q done) (study_of e q (done ++ c ∷ [])) (study_of e q (done ++ c ∷ todo)) (length done) (component_record n c) (component_records (n + 1) todo)
      (next_entered done todo c few sound (component_record n c) (ap (λ k. component_record k c) at))
      (subst (λ cs. Entered (study_of e q (done ++ c ∷ [])) (component_records (n + 1) todo) (study_of e q cs)) all rest)

-- all of them are C
components_are_c : (i : ℕ) (cs : List Component) → AllByRecursion IsC (component_records i cs)
components_are_c i [] = tt
components_are_c i (c ∷ cs) = (component_is_c i c, components_are_c (i + 1) cs)

-- the C are numbered from 0
numbered_from_0 : (cs : List Component) (i : ℕ) → i < length (component_records 0 cs) → byte (get_or (component_records 0 cs) i []) 1 ≡ i
numbered_from_0 cs i l = let n = components_count 0 cs in ap (λ r. byte r 1) (components_read 0 cs no_component i i (omega arith) (omega arith))

-- so the file is accepted
written_accepted : (s : Model) → Limits s → Accepted (written s) s
written_accepted s limits =
    let size = row_length (written_records s) (written_whole s) in
    let count = written_count s in
    let few = limits.few_components in
    let cs = component_records 0 s.components in
    record {
      whole = omega arith;
      some = omega arith;
      few = omega arith;
      opening = opening_record s;
      components = cs;
      charges = [];
      in_order = row_records (written_records s) (written_whole s) ∙ ap (λ rs. opening_record s ∷ rs) (sym (append-nil cs));
      first_n = opening_is_n s;
      then_c = components_are_c 0 s.components;
      then_t_and_f = tt;
      numbered = numbered_from_0 s.components;
      opened = study_of s.echelons s.resources [];
      opens = reopened blank_study s.echelons s.resources limits.some_echelon limits.few_echelons limits.few_resources limits.few_pairs;
      enters = all_entered s.echelons s.resources [] s.components 0 (omega arith) few limits.sound_rows;
    }

pub written_studies_read_back : WrittenStudiesReadBack
written_studies_read_back s limits = (accepted_exactly (written s) s).1 (written_accepted s limits)
