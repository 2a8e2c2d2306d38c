-- A file of N and C alone that is accepted is the file that write makes of its study.
use Rattle.std.proofs.Common.{◌≡◌, ℕ, ◌+◌, ◌⊎◌, List, [], ◌∷◌, ◌++◌, length, sym, refl, ap, ◌∙◌, subst, append_assoc, append-nil, arith}
use Rattle.std.specs.List.{AllByRecursion}
use Rattle.model.specs.declared.component.Component.{Component}
use Rattle.model.specs.Studies.{Model, entered, blank_study}
use Rattle.files.specs.Records.{byte, letter_c, records, needs_of, rate_of}
use Rattle.files.specs.AcceptedFiles.{IsC, IsT, IsF, Entered, none, next, Accepted}
use Rattle.files.specs.Writes.{encoded, component_record, component_records, written_records, in_a_row}
use Rattle.files.specs.RoundTrips.{Bytes, IsNOrC, NoCharges, AcceptedFilesWriteBack}
use Rattle.files.proofs.AcceptedRuns.{NumberedFrom, numbered_rest, accepted_exactly}
use Rattle.files.proofs.Calls.{study_of, opened_is, entered_is, entered_one}
use Rattle.files.proofs.Encodings.{number_again, n_again, c_again}
use Rattle.files.proofs.RecordRows.{Readable, row_of_records, records_readable}

-- the C of the component that a C enters
c_back : (s : Model) (r : List ℕ) → Readable r → IsC r → byte r 1 ≡ length s.components → component_record (length s.components) (entered s (byte r 2) (needs_of r) (rate_of r)) ≡ r
c_back s r readable is numbered =
    ap (λ i. component_record i (entered s (byte r 2) (needs_of r) (rate_of r))) (sym numbered)
    ∙ ap (λ p. encoded letter_c (byte r 1) p (needs_of r) (rate_of r)) (number_again (byte r 2))
    ∙ c_again r readable is

-- from study s to study t, components were entered by the records rs: these are their C
record Grown (s : Model) (rs : List (List ℕ)) (t : Model) : Type 0 where
  more : List Component
  grows : study_of s.echelons s.resources (s.components ++ more) ≡ t
  same : component_records (length s.components) more ≡ rs

all_back : {s t : Model} {rs : List (List ℕ)} → Entered s rs t → AllByRecursion Readable rs → AllByRecursion IsC rs → NumberedFrom (length s.components) rs → Grown s rs t
all_back (none s) readable are numbered = record { more = []; grows = ap (study_of s.echelons s.resources) (append-nil s.components); same = refl }
all_back (next s u t x r rs e later) readable are numbered =
    let n = length s.components in
    let c = entered s (byte r 2) (needs_of r) (rate_of r) in
    let one = entered_one s (byte r 2) (needs_of r) (rate_of r) x u e in
    let first : byte r 1 ≡ n = omega (arith, numbered 0 (omega arith)) in
    let rest = all_back later readable.1 are.1 (subst (λ k. NumberedFrom k rs) (sym one) (numbered_rest n r rs numbered)) in
    record {
      more = c ∷ rest.more;
      grows =
          ap (study_of s.echelons s.resources) (sym (append_assoc s.components (c ∷ []) rest.more))
          ∙ ap (λ (v : Model). study_of v.echelons v.resources (v.components ++ rest.more)) (entered_is s (byte r 2) (needs_of r) (rate_of r) x u e)
          ∙ rest.grows;
      same =
          ap (λ y. y ∷ component_records (n + 1) rest.more) (c_back s r readable.0 are.0 first)
          ∙ ap (λ k. r ∷ component_records k rest.more) (sym one)
          ∙ ap (λ ys. r ∷ ys) rest.same;
    }

-- no T and no F
uncharged : (r : List ℕ) → IsNOrC r → IsT r ⊎ IsF r → ⊥
uncharged r only is = grind arith

none_charged : (cs ts : List (List ℕ)) → AllByRecursion IsNOrC (cs ++ ts) → AllByRecursion (λ r. IsT r ⊎ IsF r) ts → cs ++ ts ≡ cs
none_charged cs [] only are = append-nil cs
none_charged [] (t ∷ ts) only are = absurd (uncharged t only.0 are.0)
none_charged (c ∷ cs) (t ∷ ts) only are = ap (λ rs. c ∷ rs) (none_charged cs (t ∷ ts) only.1 are)

-- the records of the file are those that write makes of the study
records_back : (file : List ℕ) (s : Model) → Bytes file → NoCharges file → Accepted file s → written_records s ≡ records file
records_back file s small only a =
    let e = byte a.opening 1 in
    let q = byte a.opening 2 in
    let left = none_charged a.components a.charges (subst (AllByRecursion IsNOrC) a.in_order only).1 a.then_t_and_f in
    let are : records file ≡ a.opening ∷ a.components = a.in_order ∙ ap (λ rs. a.opening ∷ rs) left in
    let readable = subst (AllByRecursion Readable) are (records_readable file small) in
    let enters = subst (λ u. Entered u a.components s) (sym (opened_is blank_study e q a.opened a.opens)) a.enters in
    let grown = all_back enters readable.1 a.then_c (λ i l. omega (arith, a.numbered i l)) in
    ap written_records (sym grown.grows)
    ∙ ap (λ r. r ∷ component_records 0 grown.more) (n_again a.opening readable.0.0 a.first_n)
    ∙ ap (λ rs. a.opening ∷ rs) grown.same
    ∙ sym are

pub accepted_files_write_back : AcceptedFilesWriteBack
accepted_files_write_back file s small only h =
    let a = (accepted_exactly file s).0 h in
    ap in_a_row (records_back file s small only a) ∙ row_of_records file a.whole
