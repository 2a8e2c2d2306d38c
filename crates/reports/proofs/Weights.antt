-- Every component stands once in the order of the lines: any weight over the order is the weight over the numbers below n.
use Rattle.std.proofs.Common.{◌≡◌, ℕ, ◌+◌, ◌<◌, true, cond, Some, None, sum_by, Option, sym, ap, ◌∙◌, arith}
use Rattle.std.proofs.lemmas.List.Sums.{sum_by-cons}
use Rattle.std.specs.Option.{option_eq}
use Rattle.std.specs.Prelude.{nat_eq}
use Rattle.model.specs.Components.{is_entered}
use Rattle.model.specs.Studies.{Model, Limits}
use Rattle.plans.specs.Questions.{count}
use Rattle.plans.specs.Starts.{parent}
use Rattle.reports.specs.LineOrder.{is_under, listed, entry_of, order}
use Rattle.reports.proofs.Entries.{entry_is, order_is}
use Rattle.reports.proofs.Totals.{total, total_same, total_zero, total_add, total_swap, total_at, weight_upto}

-- a component stands under one parent, which was entered before it, or it is a top component
one_parent : (q : Option ℕ) (k n x : ℕ) → k < n → is_entered k q ≡ true → x ≡ cond (option_eq nat_eq q None) x 0 + total (λ i. cond (option_eq nat_eq q (Some i)) x 0) n
one_parent None k n x l h = grind (arith, total_zero (λ i. 0) n)
one_parent (Some p) k n x l h = grind (arith, total_at p x n)

module _ (s : Model) (limits : Limits s) (w : ℕ → ℕ) where
  list_weight : (p : Option ℕ) → sum_by w (listed s (entry_of s) p) ≡ total (λ k. cond (is_under s p k) (sum_by w (entry_of s k)) 0) (count s)
  list_weight p = weight_upto w _ (count s) ∙ total_same _ _ (count s) (λ k h. grind arith)

  -- the entries of all components, list by list
  by_lists : total (λ k. sum_by w (entry_of s k)) (count s) ≡ sum_by w (listed s (entry_of s) None) + total (λ i. sum_by w (listed s (entry_of s) (Some i))) (count s)
  by_lists =
      let n = count s in
      let part : ℕ → ℕ → ℕ = λ i k. cond (is_under s (Some i) k) (sum_by w (entry_of s k)) 0 in
      let top : ℕ → ℕ = λ k. cond (is_under s None k) (sum_by w (entry_of s k)) 0 in
      let lists : total (λ i. sum_by w (listed s (entry_of s) (Some i))) n ≡ total (λ k. total (λ i. part i k) n) n =
      total_same _ (λ i. total (part i) n) n (λ i h. list_weight (Some i)) ∙ total_swap part n n in
      total_same _ (λ k. top k + total (λ i. part i k) n) n (λ k h. one_parent (parent s k) k n (sum_by w (entry_of s k)) h (limits.sound_rows k h).0)
      ∙ total_add top (λ k. total (λ i. part i k) n) n
      ∙ ap (λ x. x + total (λ k. total (λ i. part i k) n) n) (sym (list_weight None))
      ∙ ap (λ x. sum_by w (listed s (entry_of s) None) + x) (sym lists)

  -- the entries of all components, each as its component and the list under it
  by_entries : total (λ k. sum_by w (entry_of s k)) (count s) ≡ total w (count s) + total (λ i. sum_by w (listed s (entry_of s) (Some i))) (count s)
  by_entries =
      total_same _ (λ i. w i + sum_by w (listed s (entry_of s) (Some i))) (count s)
      (λ i h. ap (sum_by w) (entry_is s limits i h) ∙ sum_by-cons w i (listed s (entry_of s) (Some i)))
      ∙ total_add w (λ i. sum_by w (listed s (entry_of s) (Some i))) (count s)

  pub order_weight : sum_by w (order s) ≡ total w (count s)
  order_weight =
      let lists = by_lists in
      let entries = by_entries in
      let top : sum_by w (listed s (entry_of s) None) ≡ total w (count s) = omega arith in
      ap (sum_by w) (order_is s limits) ∙ top
