-- Texts that are put into a place one after another.
use Rattle.std.proofs.Common.{◌≡◌, ℕ, List, [], ◌++◌, length, drop, sym, refl, ap, ◌∙◌, subst, append-nil, zero-add, arith, length-append}
use Rattle.std.proofs.lemmas.List.Edits.{paste-paste, paste_all, length-paste}
use Rattle.std.proofs.Math.Seq.{paste}
use Rattle.reports.specs.declared.place.Writer.{Writer}
use Rattle.reports.specs.Places.{Room, put, Puts}
use Rattle.reports.specs.Reports.{at_front}

-- two texts in a row are one text
pub puts_then : {a b c : Writer} {s t : List ℕ} → Puts a s b → Puts b t c → Puts a (s ++ t) c
puts_then {a} {b} {c} {s} {t} p q =
    record {
      ends = omega (arith, length-append s t, p.ends, q.ends);
      holds =
          q.holds ∙ ap (λ d. put d b.at t) p.holds ∙ ap (λ k. put (put a.place.now a.at s) k t) p.ends
          ∙ paste-paste a.place.now a.at s t (length s) (length t) refl refl a.within
          ∙ ap (λ n. paste a.place.now a.at (s ++ t) n) (sym (length-append s t));
      same_place = q.same_place ∙ p.same_place;
    }

-- the same text, written otherwise
pub puts_same : {a b : Writer} {s t : List ℕ} → s ≡ t → Puts a s b → Puts a t b
puts_same {a} {b} e p = subst (λ x. Puts a x b) e p

-- the last of several texts, with nothing after it
pub puts_last : {a b : Writer} {s : List ℕ} → Puts a s b → Puts a (s ++ []) b
puts_last {a} {b} {s} p = puts_same (sym (append-nil s)) p

-- a place keeps its length, so what there was room for after the text still has it
pub length_kept : {a b : Writer} {s : List ℕ} → Room a s → Puts a s b → length b.place.now ≡ length a.place.now
length_kept {a} {b} {s} room p = ap length p.holds ∙ length-paste a.place.now a.at s (length s) room (omega arith)

pub room_then : {a b : Writer} {s : List ℕ} (t : List ℕ) → Puts a s b → Room a (s ++ t) → Room b t
room_then {a} {b} {s} t p room =
    let first : Room a s = omega (arith, length-append s t) in
    omega (arith, length-append s t, p.ends, length_kept first p)

-- a text that was put at the front of a place: what the place holds, and where the text ends
pub front_is : {a b : Writer} {text : List ℕ} → a.at ≡ 0 → Puts a text b → b.place.now ≡ at_front text a.place.now
front_is {a} {b} {text} front p =
    p.holds ∙ ap (λ k. put a.place.now k text) front ∙ paste_all a.place.now 0 text (length text) refl
    ∙ ap (λ n. text ++ drop n a.place.now) (zero-add (length text))

pub front_end : {a b : Writer} {text : List ℕ} → a.at ≡ 0 → Puts a text b → b.at ≡ length text
front_end {a} {b} {text} front p = omega (arith, p.ends, front)
