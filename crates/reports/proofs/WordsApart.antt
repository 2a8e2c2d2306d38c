-- Different words make different texts, and byte 10 stands only after them.
use Rattle.std.proofs.Common.{◌≡◌, ℕ, ◌^◌, ◌<◌, ◌≤◌, List, [], ◌∷◌, ◌++◌, get_or, decimal, sym, refl, ap, ◌∙◌, subst, arith}
use Rattle.std.proofs.Math.Utf8.{encode}
use Rattle.std.specs.List.{AllByRecursion}
use Rattle.std.proofs.lemmas.Fmt.{decimal_nonempty}
use Rattle.std.proofs.ByRecursion.{All-get_or}
use Rattle.std.proofs.lemmas.List.{get_or_append_left}
use Rattle.std.proofs.lemmas.Str.{encode_ascii, encode_same}
use Rattle.model.specs.Refusals.{Word, num, sign}
use Rattle.reports.specs.LineEnds.{EndsOnce}
use Rattle.reports.specs.Lines.{words}
use Rattle.reports.specs.RefusalLaws.{Plain}
use Rattle.reports.proofs.Ends.{NotTen, all_not_ten, digits_not_ten, ends_ten, ends_after}
use Rattle.reports.proofs.Splits.{digits, number_same}

-- words begin with a blank, and what follows them with byte 10
pub first_byte : (ws : List Word) → get_or (words ws (10 ∷ [])) 0 0 < 48
first_byte [] = omega arith
first_byte (num n ∷ ws) = omega arith
first_byte (sign c ∷ ws) = omega arith

-- no number begins as a letter does
no_letter : (n c : ℕ) (a b : List ℕ) → n < 2 ^ 64 → 65 ≤ c → c < 128 → decimal n ++ a ≡ encode c ++ b → ⊥
no_letter n c a b fits low high e =
    let some = decimal_nonempty n fits in
    let first = (All-get_or (λ x. (48 ≤ x) × (x ≤ 57)) (decimal n) 0 0 some (digits n fits)).1 in
    let left = get_or_append_left (decimal n) a 0 0 some in
    let right : get_or (encode c ++ b) 0 0 ≡ c = ap (λ l. get_or (l ++ b) 0 0) (encode_ascii c high) in
    let both = ap (λ l. get_or l 0 0) e in
    omega arith

pub words_same : (ws vs : List Word) → AllByRecursion Plain ws → AllByRecursion Plain vs → words ws (10 ∷ []) ≡ words vs (10 ∷ []) → ws ≡ vs
words_same [] [] p q e = refl
words_same [] (num n ∷ vs) p q e = grind arith
words_same [] (sign c ∷ vs) p q e = grind arith
words_same (num n ∷ ws) [] p q e = grind arith
words_same (sign c ∷ ws) [] p q e = grind arith
words_same (num m ∷ ws) (num n ∷ vs) p q e =
    let small = p.0 in
    let little = q.0 in
    let tail : decimal m ++ words ws (10 ∷ []) ≡ decimal n ++ words vs (10 ∷ []) = cc in
    let r = number_same m n (words ws (10 ∷ [])) (words vs (10 ∷ [])) (omega arith) (omega arith) (first_byte ws) (first_byte vs) tail in
    ap (λ x. num x ∷ ws) r.0 ∙ ap (λ l. num n ∷ l) (words_same ws vs p.1 q.1 r.1)
words_same (num m ∷ ws) (sign c ∷ vs) p q e =
    let small = p.0 in
    let capital = q.0 in
    let tail : decimal m ++ words ws (10 ∷ []) ≡ encode c ++ words vs (10 ∷ []) = cc in
    absurd (no_letter m c (words ws (10 ∷ [])) (words vs (10 ∷ [])) (omega arith) (omega arith) (omega arith) tail)
words_same (sign c ∷ ws) (num n ∷ vs) p q e =
    let capital = p.0 in
    let little = q.0 in
    let tail : decimal n ++ words vs (10 ∷ []) ≡ encode c ++ words ws (10 ∷ []) = cc in
    absurd (no_letter n c (words vs (10 ∷ [])) (words ws (10 ∷ [])) (omega arith) (omega arith) (omega arith) tail)
words_same (sign c ∷ ws) (sign d ∷ vs) p q e =
    let tail : encode c ++ words ws (10 ∷ []) ≡ encode d ++ words vs (10 ∷ []) = cc in
    let r = encode_same c d (words ws (10 ∷ [])) (words vs (10 ∷ [])) tail in
    ap (λ x. sign x ∷ ws) r.0 ∙ ap (λ l. sign d ∷ l) (words_same ws vs p.1 q.1 r.1)

-- words have no byte 10
pub words_end : (ws : List Word) → AllByRecursion Plain ws → EndsOnce (words ws (10 ∷ []))
words_end [] p = ends_ten
words_end (num n ∷ ws) p =
    let small = p.0 in
    ends_after (32 ∷ []) (all_not_ten (32 ∷ []) refl) (ends_after (decimal n) (digits_not_ten n (omega arith)) (words_end ws p.1))
words_end (sign c ∷ ws) p =
    let capital = p.0 in
    let Letter : List ℕ → Type 0 = AllByRecursion NotTen in
    ends_after (32 ∷ []) (all_not_ten (32 ∷ []) refl)
    (ends_after (encode c) (subst Letter (sym (encode_ascii c (omega arith))) ((λ e. omega arith), tt)) (words_end ws p.1))
