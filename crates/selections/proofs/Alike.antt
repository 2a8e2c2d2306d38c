-- Two plans that describe one selection are the same.
use Rattle.std.proofs.Common.{◌≡◌, ℕ, ◌<◌, ◌≤◌, List, length, sym, ◌∙◌, inl, inr, arith}
use Rattle.std.proofs.lemmas.List.{ext_get_or}
use Rattle.std.proofs.lemmas.Bool.{cases_lt}
use Rattle.model.specs.declared.question.RepairOption.{RepairOption}
use Rattle.model.specs.declared.question.RepairOption.TheVariants.{Discard, Repair}
use Rattle.model.specs.Books.{Book}
use Rattle.model.specs.Studies.{Model}
use Rattle.plans.specs.Questions.{count}
use Rattle.plans.specs.Starts.{byte, final}
use Rattle.plans.specs.Uses.{Uses, discards, repairs}
use Rattle.plans.specs.Plans.{IsPlan}
use Rattle.selections.specs.Selections.{Selection}
use Rattle.selections.specs.Laws.{Describes}
use Rattle.plans.proofs.Reading.{odd_or_even}
use Rattle.selections.proofs.Telling.{used_tells}

-- a byte of the one that is not 0 is the other's too, since both use the same option at the final echelon
same_where_decided :
    (s : Model) (b : Book) (x : Selection) (p q : List ℕ) → IsPlan s b p → Describes s p x → Describes s q x
    → (i : ℕ) → i < count s → 1 ≤ byte p i → byte q i ≡ byte p i
same_where_decided s b x p q is_plan of-p of-q i l h =
    let reached = is_plan.decided_is_reached i l h in
    let across : (e : ℕ) (o : RepairOption) → Uses s p i e o → Uses s q i e o = λ e o u. of-q.selected_is_used i e o (of-p.used_is_selected i e o u) in
    elim (odd_or_even (byte p i)) [
      | inl odd ↦
          let tells = used_tells (across (final (byte p i)) Discard (discards i reached.0 _ reached.1 odd)) in
          omega arith
      | inr even ↦
          let tells = used_tells (across (final (byte p i)) Repair (repairs i reached.0 _ reached.1 even)) in
          omega arith
    ]

pub same_plan :
    (s : Model) (b : Book) (x : Selection) (p q : List ℕ) → IsPlan s b p → Describes s p x → IsPlan s b q → Describes s q x → p ≡ q
same_plan s b x p q is-p of-p is-q of-q = ext_get_or 0 p q (is-p.one_byte_each ∙ sym is-q.one_byte_each) same_byte
  where
    same_byte : (i : ℕ) → i < length p → byte p i ≡ byte q i
    same_byte i l =
        let long = is-p.one_byte_each in
        elim (cases_lt (byte p i) 1) [
          | inl none ↦ elim (cases_lt (byte q i) 1) [
            | inl also ↦ omega arith
            | inr h ↦ same_where_decided s b x q p is-q of-q of-p i (omega arith) h
          ]
          | inr h ↦ sym (same_where_decided s b x p q is-p of-p of-q i (omega arith) h)
        ]
