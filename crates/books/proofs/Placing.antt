-- Two questions in range have two places.
use Rattle.std.proofs.Common.{◌≡◌, ℕ, ◌+◌, ◌-◌, ◌*◌, ◌<◌, ◌≤◌, cond, ◌&&◌, ltb, leb, Some, None, refl, arith}
use Rattle.std.proofs.lemmas.Bool.{and_parts, ltb-true, leb-true}
use Rattle.std.proofs.lemmas.Option.{cond_some}
use Rattle.model.specs.declared.question.Question.{Question}
use Rattle.model.specs.declared.question.Question.TheVariants.{OfOption, OfResource}
use Rattle.model.specs.declared.question.RepairOption.{RepairOption}
use Rattle.model.specs.declared.question.RepairOption.TheVariants.{Discard, Repair, Move}
use Rattle.books.specs.Echelons.{is_echelon}
use Rattle.books.specs.Marks.{option_number, place}

-- a number below m at an echelon, and the place that they have
record Placed (m k e x n : ℕ) : Type 0 where
  few : k < m
  first : 1 ≤ e
  last : e ≤ 4
  there : x ≡ n

placed : (m k e x n : ℕ) → cond (ltb k m && is_echelon e) (Some x) None ≡ Some n → Placed m k e x n
placed m k e x n h =
    let is = cond_some (ltb k m && is_echelon e) x n h in
    let parts = and_parts (ltb k m) (is_echelon e) is.0 in
    let echelon = and_parts (leb 1 e) (leb e 4) parts.1 in
    record { few = ltb-true k m parts.0; first = leb-true 1 e echelon.0; last = leb-true e 4 echelon.1; there = is.1 }

number_most : (o : RepairOption) → option_number o ≤ 2
number_most Discard = omega arith
number_most Repair = omega arith
number_most Move = omega arith

option_at : ℕ → RepairOption
option_at n = cond (ltb n 1) Discard (cond (ltb n 2) Repair Move)

number_read : (o : RepairOption) → option_at (option_number o) ≡ o
unfolding option_at
number_read Discard = refl
number_read Repair = refl
number_read Move = refl

same_option : (o p : RepairOption) → option_number o ≡ option_number p → o ≡ p
same_option o p e = let a = number_read o in let b = number_read p in cc

pub same_question : (p q : Question) (n : ℕ) → place p ≡ Some n → place q ≡ Some n → p ≡ q
same_question (OfOption i e o) (OfOption j f u) n h k =
    let a = placed 60 i e (12 * i + 3 * (e - 1) + option_number o) n h in
    let b = placed 60 j f (12 * j + 3 * (f - 1) + option_number u) n k in
    let mo = number_most o in
    let mu = number_most u in
    let same-component : i ≡ j = omega arith in
    let same-echelon : e ≡ f = omega arith in
    let same_number : option_number o ≡ option_number u = omega arith in
    let same = same_option o u same_number in
    cc
same_question (OfOption i e o) (OfResource r f) n h k =
    let a = placed 60 i e (12 * i + 3 * (e - 1) + option_number o) n h in
    let b = placed 8 r f (720 + 4 * r + (f - 1)) n k in
    absurd (omega (arith, number_most o))
same_question (OfResource r e) (OfOption j f u) n h k =
    let a = placed 8 r e (720 + 4 * r + (e - 1)) n h in
    let b = placed 60 j f (12 * j + 3 * (f - 1) + option_number u) n k in
    absurd (omega (arith, number_most u))
same_question (OfResource r e) (OfResource s f) n h k =
    let a = placed 8 r e (720 + 4 * r + (e - 1)) n h in
    let b = placed 8 s f (720 + 4 * s + (f - 1)) n k in
    let same-resource : r ≡ s = omega arith in
    let same-echelon : e ≡ f = omega arith in
    cc
