-- Lines that have byte 10 once, at their end.
use Rattle.std.proofs.Common.{◌≡◌, ℕ, ◌^◌, ◌<◌, ◌≤◌, Bool, true, not, ◌&&◌, eqb, List, [], ◌∷◌, ◌++◌, decimal, sym, refl, ap, ◌∙◌, append_assoc, arith}
use Rattle.std.specs.List.{AllByRecursion}
use Rattle.std.proofs.ByRecursion.{All-append, All-weaker}
use Rattle.reports.specs.LineEnds.{EndsOnce}
use Rattle.reports.proofs.Splits.{split_same, digits}

abbrev pub NotTen : ℕ → Type 0
NotTen b = b ≡ 10 → ⊥

-- no byte 10, as a test that computes on a text that is written out
abbrev pub none_ten : List ℕ → Bool
none_ten [] = true
none_ten (b ∷ bs) = not (eqb b 10) && none_ten bs

pub all_not_ten : (bs : List ℕ) → none_ten bs ≡ true → AllByRecursion NotTen bs
all_not_ten [] h = tt
all_not_ten (b ∷ bs) h = grind (arith, all_not_ten bs)

pub digits_not_ten : (n : ℕ) → n < 2 ^ 64 → AllByRecursion NotTen (decimal n)
digits_not_ten n fits = All-weaker (λ b. (48 ≤ b) × (b ≤ 57)) NotTen (λ b d e. let low = d.0 in omega arith) (decimal n) (digits n fits)

-- byte 10 alone, and what comes before a line's end
pub ends_ten : EndsOnce (10 ∷ [])
ends_ten = record { before = []; at_end = refl; only_there = tt }

pub ends_after : (bs : List ℕ) {rest : List ℕ} → AllByRecursion NotTen bs → EndsOnce rest → EndsOnce (bs ++ rest)
ends_after bs {rest} none ends =
    record {
      before = bs ++ ends.before;
      at_end = ap (λ l. bs ++ l) ends.at_end ∙ sym (append_assoc bs ends.before (10 ∷ []));
      only_there = All-append NotTen bs ends.before none ends.only_there;
    }

-- two lines are equal if they are with what follows them
pub line_cut : (a b y z : List ℕ) → EndsOnce a → EndsOnce b → a ++ y ≡ b ++ z → a ≡ b
line_cut a b y z p q e =
    let left = ap (λ l. l ++ y) p.at_end ∙ append_assoc p.before (10 ∷ []) y in
    let right = ap (λ l. l ++ z) q.at_end ∙ append_assoc q.before (10 ∷ []) z in
    let cut = split_same NotTen p.before q.before (10 ∷ y) (10 ∷ z) p.only_there q.only_there (λ no. no refl) (λ no. no refl) (sym left ∙ e ∙ right) in
    p.at_end ∙ ap (λ l. l ++ 10 ∷ []) cut.0 ∙ sym q.at_end
