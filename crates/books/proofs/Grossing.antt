-- Gross prices, row by row: the sum over the rows from some number on, and the gross price as a net price with such a sum.
use Rattle.std.proofs.Common.{◌≡◌, ℕ, zero, suc, ◌+◌, ◌<◌, ◌≤◌, false, cond, List, [], ◌∷◌, length, get_or, drop, sym, refl, ap, ◌∙◌, add-zero, zero-add, arith}
use Rattle.std.proofs.lemmas.List.{drop_more, drop_all}
use Rattle.books.specs.declared.price_row.PriceRow.{PriceRow}
use Rattle.books.specs.PriceRows.{no_row}
use Rattle.books.specs.Gross.{is_under, sum_where, grosses, gross}

pub length_grosses : (i : ℕ) (rs : List PriceRow) → length (grosses i rs) ≡ length rs
length_grosses i [] = refl
length_grosses i (r ∷ rs) = ap suc (length_grosses (i + 1) rs)

drop_grosses : (n i : ℕ) (rs : List PriceRow) → drop n (grosses i rs) ≡ grosses (i + n) (drop n rs)
drop_grosses zero i rs = ap (λ k. grosses k rs) (sym (add-zero i))
drop_grosses (suc n) i [] = refl
drop_grosses (suc n) i (r ∷ rs) =
    let e : i + 1 + n ≡ i + suc n = omega arith in drop_grosses n (i + 1) rs ∙ ap (λ k. grosses k (drop n rs)) e

-- the gross prices of the rows under p among the rows from k on
abbrev pub under_from : ℕ → List PriceRow → ℕ → ℕ
under_from p rows k = sum_where (is_under p) (drop k rows) (drop k (grosses 0 rows))

-- the sum from k on, by one step
pub under_more : (p : ℕ) (rows : List PriceRow) (k : ℕ) → k < length rows → under_from p rows k ≡ cond (is_under p (get_or rows k no_row)) (gross rows k) 0 + under_from p rows (k + 1)
under_more p rows k h =
    let f = sum_where (is_under p) in
    let h' : k < length (grosses 0 rows) = omega (arith, length_grosses 0 rows) in
    ap (λ l. f l (drop k (grosses 0 rows))) (drop_more rows k no_row h)
    ∙ ap (f (get_or rows k no_row ∷ drop (k + 1) rows)) (drop_more (grosses 0 rows) k 0 h')

pub under_left : (p : ℕ) (rows : List PriceRow) (k : ℕ) → k < length rows → is_under p (get_or rows k no_row) ≡ false → under_from p rows k ≡ 0 + under_from p rows (k + 1)
under_left p rows k h e = under_more p rows k h ∙ ap (λ b. cond b (gross rows k) 0 + under_from p rows (k + 1)) e

pub under_all : (p : ℕ) (rows : List PriceRow) (k : ℕ) → length rows ≤ k → under_from p rows k ≡ 0
under_all p rows k h = ap (λ l. sum_where (is_under p) l (drop k (grosses 0 rows))) (drop_all k rows h)

-- the gross price of a row: its net price, and the gross prices of the later rows under it
pub gross_is : (rows : List PriceRow) (i : ℕ) → i < length rows → (get_or rows i no_row).net + under_from i rows (i + 1) ≡ gross rows i
gross_is rows i h =
    let h' : i < length (grosses 0 rows) = omega (arith, length_grosses 0 rows) in
    let a : gross rows i ∷ drop (i + 1) (grosses 0 rows) ≡ grosses i (get_or rows i no_row ∷ drop (i + 1) rows) =
    sym (drop_more (grosses 0 rows) i 0 h') ∙ drop_grosses i 0 rows ∙ ap (λ k. grosses k (drop i rows)) (zero-add i)
    ∙ ap (grosses i) (drop_more rows i no_row h) in
    cc
