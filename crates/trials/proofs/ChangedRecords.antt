-- A file with other cents in one record, record by record.
use Rattle.std.proofs.Common.{◌≡◌, ℕ, ◌+◌, ◌*◌, ◌/◌, ◌<◌, ◌≤◌, true, false, Bool, ◌&&◌, Some, None, Option, ltb, ◌⊎◌, List, map, length, get_or, drop, ℤ, sym, refl, ap, ◌∙◌, inl, inr, ⊎_elim, zero-add, arith, length-drop, length-take, w64, SFits, to_z, of_z}
use lib.Signed.{lt_z}
use mir.ValLaws.{of_z_fits}
use Rattle.std.specs.List.{range_with_len, between}
use Rattle.std.specs.Option.{is_some, IfSome}
use Rattle.std.specs.Prelude.{MatchOption}
use Rattle.std.specs.Simd.{first_chunks}
use Rattle.std.proofs.lemmas.List.FromFn.{length-map-range_with_len, get_or-map-range_with_len}
use Rattle.std.proofs.lemmas.List.Edits.{length-between, get_or-between}
use Rattle.std.proofs.lemmas.List.{ext_get_or, get_or-take, get_or-drop}
use Rattle.std.proofs.lemmas.Int.{to_z-of_z, of_z-to_z}
use Rattle.std.proofs.lemmas.Bool.{and_parts, ltb-true, cond-true, cases_lt}
use Rattle.costs.specs.Amounts.{money}
use Rattle.files.specs.Records.{byte, number_at, record_at, kind, charge_of}
use Rattle.files.specs.RoundTrips.{Bytes}
use Rattle.files.specs.Intakes.{is_charge}
use Rattle.files.specs.TableAnswers.{table_answers}
use Rattle.files.specs.Writes.{bytes_of}
use Rattle.files.proofs.Numbers.{bytes_again, number_again, number_same, number_small}
use Rattle.files.proofs.RecordLists.{chunks_records, records_length}
use Rattle.files.proofs.RecordRows.{record_readable}
use Rattle.solutions.specs.Solved.{solved}
use Rattle.trials.specs.Changes.{is_charge_record, cents_bytes, with_bytes, with_cents}
use Rattle.trials.specs.Laws.{ChangesOneAmount, TrialChangesOneAmount, StandingAmountIsNoChange}
use Rattle.trials.proofs.Changes.{as_long, byte_outside, byte_inside, own_bytes}

-- a record that can be tried is a whole one
pub whole : (file : List ℕ) (j : ℕ) → is_charge_record file j ≡ true → 24 * j + 24 ≤ length file
whole file j h = omega (arith, ltb-true j (length file / 24) (and_parts (ltb j (length file / 24)) (is_charge (kind (record_at file j))) h).0)

-- whether record j, as the code looks it up, can be tried
pub possible : {X : Type 0} (now : X → List ℕ) (file : List ℕ) (j : ℕ) (rs : List (List ℕ)) (r : Option X) (b : Bool) → rs ≡ first_chunks 24 (length file / 24) file → is_some r ≡ ltb j (length rs) → IfSome r (λ x. now x ≡ get_or rs j (now x)) → MatchOption r (b ≡ false) (λ x. b ≡ is_charge (kind (now x))) → b ≡ is_charge_record file j
possible now file j rs None b cut there same is =
    let n = ap length (cut ∙ chunks_records file) ∙ records_length file in
    is ∙ ap (λ t. t && is_charge (kind (record_at file j))) (there ∙ ap (ltb j) n)
possible now file j rs (Some x) b cut there same is =
    let n = ap length (cut ∙ chunks_records file) ∙ records_length file in
    let inside : j < length file / 24 = ltb-true j (length file / 24) (sym (there ∙ ap (ltb j) n)) in
    let read = same ∙ ap (λ l. get_or l j (now x)) (cut ∙ chunks_records file) ∙ get_or-map-range_with_len (record_at file) 0 (length file / 24) j j (now x) inside (omega arith) in
    is ∙ ap (λ l. is_charge (kind l)) read ∙ ap (λ t. t && is_charge (kind (record_at file j))) (there ∙ ap (ltb j) n)

-- byte k of record i
record_byte : (file : List ℕ) (i k : ℕ) → k < 24 → byte (record_at file i) k ≡ get_or file (24 * i + k) 0
record_byte file i k h = get_or-take 24 (drop (24 * i) file) k 0 h ∙ get_or-drop (24 * i) file k 0

module _ (file : List ℕ) (j : ℕ) (z : ℤ) (in-file : 24 * j + 24 ≤ length file) where
  abbrev changed : List ℕ
  changed = with_cents file j z

  inside : 24 * j + 8 + length (cents_bytes z) ≤ length file
  inside = omega arith

  same_byte : (i k : ℕ) → k < 24 → (24 * i + k < 24 * j + 8) ⊎ (24 * j + 8 + 8 ≤ 24 * i + k) → byte (record_at changed i) k ≡ byte (record_at file i) k
  same_byte i k h outside = record_byte changed i k h ∙ byte_outside file (cents_bytes z) (24 * j + 8) inside (24 * i + k) outside ∙ sym (record_byte file i k h)

  pub other_record : (i : ℕ) → (i ≡ j → ⊥) → record_at changed i ≡ record_at file i
  other_record i differs =
      let same = as_long file (cents_bytes z) (24 * j + 8) inside in
      ext_get_or 0 (record_at changed i) (record_at file i)
      (omega (arith, same, length-take 24 (drop (24 * i) changed), length-take 24 (drop (24 * i) file), length-drop (24 * i) changed, length-drop (24 * i) file))
      (λ k l. same_byte i k (omega (arith, l, length-take 24 (drop (24 * i) changed))) (⊎_elim (λ (h : i < j). inl (omega (arith, l, length-take 24 (drop (24 * i) changed)))) (λ h. inr (omega arith)) (cases_apart i j differs)))
    where
      cases_apart : (a b : ℕ) → (a ≡ b → ⊥) → (a < b) ⊎ (b < a)
      cases_apart a b d = ⊎_elim (λ h. inl h) (λ h. inr (let ne : (b ≡ a → ⊥) = λ e. d (sym e) in omega arith)) (cases_lt a b)

  cents_read : SFits w64 z → to_z w64 (number_at (record_at changed j) 8 8) ≡ z
  cents_read fits =
      let new = cents_bytes z in
      ap (to_z w64)
      (number_same (record_at changed j) new 8 0 8 (λ k h. record_byte changed j (8 + k) (omega arith) ∙ ap (λ n. get_or changed n 0) (let e : 24 * j + (8 + k) ≡ 24 * j + 8 + k = omega arith in e) ∙ byte_inside file new (24 * j + 8) inside k h ∙ ap (λ n. get_or new n 0) (sym (zero-add k)))
      ∙ number_again (of_z w64 z) (of_z_fits w64 z fits).fits)
      ∙ to_z-of_z w64 z fits

  pub changes : SFits w64 z → ChangesOneAmount file j z
  changes fits = record {
    as_long = as_long file (cents_bytes z) (24 * j + 8) inside;
    other_records = other_record;
    same_question = λ k h. same_byte j k (omega arith) (inl (omega arith));
    cents = cents_read fits;
    same_minutes = number_same (record_at changed j) (record_at file j) 16 16 8 (λ k h. same_byte j (16 + k) (omega arith) (inr (omega arith)));
  }

pub changes_one_amount : TrialChangesOneAmount
changes_one_amount file j z fits h = changes file j z (whole file j h) fits

-- the cents of a record are the eight bytes that stand there
standing : (file : List ℕ) (j : ℕ) → Bytes file → 24 * j + 24 ≤ length file → with_cents file j (charge_of (record_at file j)).cents ≡ file
standing file j small in-file =
    let r = record_at file j in
    let at = 24 * j + 8 in
    let small-record = (record_readable file small j (omega arith)).1 in
    let size = length-between file at (at + 8) (omega arith) in
    let same_bytes : map (byte r) (range_with_len 8 8) ≡ between at (at + 8) file =
    ext_get_or 0 (map (byte r) (range_with_len 8 8)) (between at (at + 8) file) (omega (arith, size, length-map-range_with_len (byte r) 8 8))
    (λ k l.
    let h : k < 8 = omega (arith, length-map-range_with_len (byte r) 8 8) in
    get_or-map-range_with_len (byte r) 8 8 k (8 + k) 0 h refl ∙ record_byte file j (8 + k) (omega arith) ∙ ap (λ n. get_or file n 0) (let e : 24 * j + (8 + k) ≡ at + k = omega arith in e) ∙ sym (get_or-between file at (at + 8) k 0 (omega arith))) in
    ap (with_bytes file at)
    (ap (bytes_of 8) (of_z-to_z w64 (number_at r 8 8) (number_small r small-record 8)) ∙ bytes_again r small-record 8 8 ∙ same_bytes)
    ∙ own_bytes file at 8 (omega arith)

pub standing_amount : StandingAmountIsNoChange
standing_amount s file j room place small h =
    cond-true (is_charge_record file j) _ _ h ∙ ap (λ f. solved money lt_z s (table_answers f) room place) (standing file j small (whole file j h))
