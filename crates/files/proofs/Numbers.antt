-- Numbers in big-endian bytes: what was read, written again, gives the bytes, and what was written, read again, the number.
use Rattle.std.proofs.Common.{◌≡◌, ℕ, zero, suc, ◌+◌, ◌*◌, ◌/◌, ◌%◌, ◌^◌, ◌<◌, List, [], ◌∷◌, ◌++◌, map, get_or, take, drop, w64, sym, refl, ap, ◌∙◌, ap₂, add-one, zero-add, arith}
use native.Mathlib.Nat.{div-div-eq-div-mul, pow-succ'}
use Rattle.std.specs.List.{range_with_len}
use Rattle.std.specs.Int.{from_be_bytes}
use Rattle.std.proofs.lemmas.List.{get_or-take, get_or-drop}
use Rattle.std.proofs.lemmas.List.FromFn.{map-range_with_len_more}
use Rattle.files.specs.Records.{byte, number_at}
use Rattle.files.specs.Writes.{bytes_of}

-- a byte more at the end is the number times 256 and that byte
bytes_more : (width n b : ℕ) → b < 256 → bytes_of (suc width) (n * 256 + b) ≡ bytes_of width n ++ b ∷ []
bytes_more zero n b h = let e : (n * 256 + b) / 256 ^ 0 % 256 ≡ b = omega arith in ap (λ x. x ∷ []) e
bytes_more (suc width) n b h =
    let shifted : (n * 256 + b) / 256 ≡ n = omega arith in
    let first : (n * 256 + b) / 256 ^ suc width ≡ n / 256 ^ width =
    ap (λ d. (n * 256 + b) / d) (pow-succ' 256 width) ∙ sym (div-div-eq-div-mul (n * 256 + b) 256 (256 ^ width)) ∙ ap (λ m. m / 256 ^ width) shifted in
    ap₂ (λ x xs. x % 256 ∷ xs) first (bytes_more width n b h)

-- the bytes of the number in `width` bytes are those bytes
pub bytes_again : (r : List ℕ) → ((k : ℕ) → byte r k < 256) → (from width : ℕ) → bytes_of width (number_at r from width) ≡ map (byte r) (range_with_len from width)
bytes_again r small from zero = refl
bytes_again r small from (suc width) =
    bytes_more width (number_at r from width) (byte r (from + width)) (small (from + width))
    ∙ ap (λ xs. xs ++ byte r (from + width) ∷ []) (bytes_again r small from width)
    ∙ sym (map-range_with_len_more (byte r) from width (from + width) refl)
    ∙ ap (λ n. map (byte r) (range_with_len from n)) (add-one width)

-- a number is read from its bytes alone
pub number_same : (r q : List ℕ) (from at width : ℕ) → ((k : ℕ) → k < width → byte r (from + k) ≡ byte q (at + k)) → number_at r from width ≡ number_at q at width
number_same r q from at zero same = refl
number_same r q from at (suc width) same =
    ap₂ (λ n b. n * 256 + b) (number_same r q from at width (λ k h. same k (omega arith))) (same width (omega arith))

-- eight bytes hold a number below 2 ^ 64
pub number_again : (n : ℕ) → n < 2 ^ 64 → number_at (bytes_of 8 n) 0 8 ≡ n
number_again n h = omega arith

pub number_small : (r : List ℕ) → ((k : ℕ) → byte r k < 256) → (from : ℕ) → number_at r from 8 < 2 ^ 64
number_small r small from =
    omega (arith, small from, small (from + 0), small (from + 1), small (from + 2), small (from + 3), small (from + 4), small (from + 5), small (from + 6), small (from + 7))

-- eight bytes of a list, as the library reads them
pub eight_bytes : (b r : List ℕ) (from : ℕ) → b ≡ take 8 (drop from r) → from_be_bytes w64 b ≡ number_at r from 8
eight_bytes b r from e =
    let read : from_be_bytes w64 b ≡ number_at b 0 8 = omega arith in
    read ∙ number_same b r 0 from 8 (λ k l. rw zero-add (ap (λ x. get_or x k 0) e ∙ get_or-take 8 (drop from r) k 0 l ∙ get_or-drop from r k 0))
