-- Bytes that are 0: the test, and what it tells.
use Rattle.std.proofs.Common.{◌≡◌, ℕ, suc, ◌+◌, ◌-◌, ◌<◌, ◌≤◌, Bool, true, eqb, List, Decides, IsTrue, EachIndex, ◌↔◌, slice_index, length, take, drop, sym, refl, ◌∙◌, subst, arith}
use Rattle.std.proofs.lemmas.List.{length-take, length-drop, get_or-take, get_or-drop}
use Rattle.std.proofs.lemmas.Bool.Decides.{Decides-below_and, Decides-eqb, same_from_decides}
use Rattle.files.specs.Records.{byte, blank}
use Rattle.files.specs.AcceptedFiles.{Zeros}

-- the test passes exactly when each of the n bytes is 0
pub blank_decides : (r : List ℕ) (from n : ℕ) → Decides (blank r from n) ((k : ℕ) → k < n → byte r (from + k) ≡ 0)
unfolding blank
blank_decides r from n = Decides-below_and (λ k. eqb (byte r (from + k)) 0) (λ k. byte r (from + k) ≡ 0) (blank r from) (λ k. Decides-eqb (byte r (from + k)) 0) refl (λ _. refl) n

-- the same, from byte `from` to byte `last`
pub blank_zeros : (r : List ℕ) (from n last : ℕ) → from + n ≡ suc last → blank r from n ≡ true → Zeros r from last
blank_zeros r from n last e h k low high =
    let same : from + (k - from) ≡ k = omega arith in
    subst (λ i. byte r i ≡ 0) same ((blank_decides r from n).0 h (k - from) (omega arith))

pub zeros_blank : (r : List ℕ) (from n last : ℕ) → from + n ≡ suc last → Zeros r from last → blank r from n ≡ true
zeros_blank r from n last e z = (blank_decides r from n).1 (λ k l. z (from + k) (omega arith) (omega arith))

-- a test of the part of n bytes from byte `from` on is that test
pub blank_part : (r : List ℕ) (from n m : ℕ) (b : Bool) → from + n ≤ length r → m ≡ n → (IsTrue b ↔ EachIndex (take m (drop from r)) (λ k. slice_index (take m (drop from r)) k ≡ 0)) → b ≡ blank r from n
blank_part r from n m b fits same tested =
    let part = take m (drop from r) in
    let size : length part ≡ n = omega (arith, length-take m (drop from r), length-drop from r) in
    let here : (k : ℕ) → k < n → slice_index part k ≡ byte r (from + k) = λ k l. get_or-take m (drop from r) k 0 (omega arith) ∙ get_or-drop from r k 0 in
    same_from_decides b (blank r from n)
    (λ yes k l. sym (here k l) ∙ tested.0 yes k (omega arith), λ each. tested.1 (λ k l. let under : k < n = omega arith in here k under ∙ each k under))
    (blank_decides r from n)
