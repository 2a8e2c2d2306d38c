-- The cells of the walk's sums: one for each component and echelon.
use Rattle.std.proofs.Common.{◌≡◌, ℕ, ◌+◌, ◌*◌, ◌/◌, ◌%◌, ◌<◌, ◌≤◌, List, length, replicate, Some, None, Option, sym, ap, ◌∙◌, subst, arith}
use Rattle.std.proofs.lemmas.Nat.{mul-le, mul-add-lt, div-mul-add, mod-mul-add}
use Rattle.costs.specs.Kinds.{Adding}
use Rattle.model.specs.declared.component.Component.{Component}
use Rattle.model.specs.Studies.{Model, Limits}
use Rattle.plans.specs.Questions.{count}
use Rattle.plans.specs.Postings.{component}
use Rattle.plans.specs.Starts.{parent}
use Rattle.theory.specs.Amounts.{nothing}
use Rattle.solutions.specs.Problems.{parent_number}
use Rattle.solving.specs.declared.tag.Tag.TheVariants.{Nothing}
use Rattle.solving.specs.Working.{view, Room}
use Rattle.solving.specs.Steps.{Cells}
use Rattle.solving.proofs.Views.{view_blank}
use Rattle.solving.proofs.Tabled.{parent_before}

-- two cells are one only if they are of one component and one echelon
pub cells_apart : (last i j d e : ℕ) → d < last → e < last → ((i ≡ j) → (d ≡ e) → ⊥) → i * last + d ≡ j * last + e → ⊥
cells_apart last i j d e hd he ne is =
    ne (sym (div-mul-add i last d hd) ∙ ap (λ n. n / last) is ∙ div-mul-add j last e he)
    (sym (mod-mul-add i last d hd) ∙ ap (λ n. n % last) is ∙ mod-mul-add j last e he)

-- there is a cell for each component and echelon
pub cell_fits : (n last i e cells : ℕ) → i < n → e < last → n * last ≤ cells → i * last + e < cells
cell_fits n last i e cells hi he room = omega (arith, mul-add-lt i last e n hi he)

-- with a tag for each cell, none of which says more, every cell holds nothing
pub cells_blank : {C : Type 0} (k : Adding C) (s : Model) → Limits s → (ws : List C) → count s * s.echelons ≤ length ws → Cells k s.echelons (count s) (λ _ _. nothing) (view (replicate 240 Nothing) ws)
cells_blank k s limits ws room j e hj he =
    let tags = cell_fits (count s) s.echelons j e 240 hj he (mul-le (count s) s.echelons 60 4 limits.few_components limits.few_echelons) in
    view_blank 240 ws (j * s.echelons + e) tags (cell_fits (count s) s.echelons j e (length ws) hj he room)

parent_fits : (p : Option ℕ) (n last i e cells : ℕ) → parent_number p ≤ i → i < n → e < last → n * last ≤ cells → Room p last e cells
parent_fits None n last i e cells hp hi he room = tt
parent_fits (Some p) n last i e cells hp hi he room = cell_fits n last p e cells (omega arith) he room

-- there is a cell for the parent of component i, as it is read
pub parent_room : (s : Model) → Limits s → (c : Component) (i last e cells : ℕ) → c ≡ component s i → last ≡ s.echelons → i < count s → e < last → count s * s.echelons ≤ cells → Room c.parent last e cells
parent_room s limits c i last e cells is same hi he room =
    subst (λ (d : Component). Room d.parent last e cells) (sym is)
    (subst (λ n. Room (parent s i) n e cells) (sym same) (parent_fits (parent s i) (count s) s.echelons i e cells (parent_before s limits i) hi (subst (λ n. e < n) same he) room))
