-- What a C asks of the study, read from its first four bytes and the rest.
use Rattle.std.proofs.Common.{◌≡◌, ℕ, ◌+◌, ◌-◌, cond, List, length, get_or, take, drop, Err, sym, refl, ap, ap₂, ◌∙◌, arith}
use Rattle.std.proofs.lemmas.Bool.{eq-eqb}
use Rattle.std.proofs.lemmas.List.{take_rest, get_or-drop}
use Rattle.model.specs.declared.component.Needs.{Needs}
use Rattle.model.specs.declared.refusal.Refusal.TheVariants as no
use Rattle.model.specs.Studies.{Model, on_enter}
use Rattle.files.specs.Records.{byte, kind, letter_c, number_at, needs_of, rate_of}
use Rattle.files.specs.Intakes.{accepted, on_kind, on_study}
use Rattle.files.proofs.Numbers.{number_same}

-- the bytes after the first four
abbrev pub rest : List ℕ → List ℕ
rest r = take (length r - 4) (drop 4 r)

rest_byte : (r : List ℕ) (k j : ℕ) → 4 + k ≡ j → byte (rest r) k ≡ byte r j
rest_byte r k j e = ap (λ xs. get_or xs k 0) (take_rest r 4) ∙ get_or-drop 4 r k 0 ∙ ap (λ i. get_or r i 0) e

pub rest_needs : (r : List ℕ) → record { discard = byte r 3; repair = byte (rest r) 0; moving = byte (rest r) 1 } ≡ needs_of r
rest_needs r = ap₂ (λ x y. record { discard = byte r 3; repair = x; moving = y }) (rest_byte r 0 4 refl) (rest_byte r 1 5 refl)

rest_rate : (r : List ℕ) → number_at (rest r) 4 4 ≡ rate_of r
rest_rate r = number_same (rest r) r 4 8 4 (λ k l. rest_byte r (4 + k) (8 + k) (omega arith))

-- n and f are what was read as needs and rate
pub component_put : (s : Model) (at : ℕ) (r : List ℕ) (n : Needs) (f : ℕ) → kind r ≡ letter_c → byte r 1 ≡ length s.components → n ≡ needs_of r → f ≡ number_at (rest r) 4 4 → accepted at (on_enter s (byte r 2) n f) ≡ on_study s at r
component_put s at r n f e number needs rate =
    ap₂ (λ x y. accepted at (on_enter s (byte r 2) x y)) needs (rate ∙ rest_rate r)
    ∙ ap (λ b. cond b (accepted at (on_enter s (byte r 2) (needs_of r) (rate_of r))) (Err (no.ComponentNumber at))) (sym (eq-eqb (byte r 1) (length s.components) number))
    ∙ ap (λ k. on_kind k s at r) (sym e)
