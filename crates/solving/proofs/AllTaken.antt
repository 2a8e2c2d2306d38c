-- Taking the components one after another, from the last to the first.
use Rattle.std.proofs.Common.{◌≡◌, ℕ, suc, ◌+◌, ◌<◌, ◌≤◌, Bool, List, [], ◌∷◌, ◌++◌, length, get_or, set, Some, None, Option, sym, refl, ap, ◌∙◌, subst, ⊎_elim, append_assoc, length-append, arith}
use Rattle.std.proofs.Math.Seq.{get_or-append_seam}
use Rattle.std.proofs.lemmas.List.{get_or-set_same, get_or-set_other}
use Rattle.std.proofs.lemmas.Bool.{cases_eq}
use Rattle.costs.specs.Kinds.{Adding}
use Rattle.model.specs.declared.component.Component.{Component}
use Rattle.model.specs.Components.{no_component}
use Rattle.model.specs.Studies.{Model, Limits}
use Rattle.plans.specs.Questions.{count}
use Rattle.plans.specs.Postings.{component}
use Rattle.plans.specs.Starts.{parent}
use Rattle.planning.specs.declared.table.Survey.{Survey}
use Rattle.theory.specs.Amounts.{nothing}
use Rattle.theory.specs.Options.{Options}
use Rattle.theory.specs.Breakdowns.{Sums}
use Rattle.theory.specs.Tables.{notes, sums_at}
use Rattle.solving.specs.declared.sum.Sum.{Sum}
use Rattle.solving.specs.declared.sum.Sum.TheVariants.{Nothing}
use Rattle.solving.specs.declared.taking.Taken.{Taken}
use Rattle.solving.specs.Sums.{held}
use Rattle.solving.specs.Working.{AddsTop}
use Rattle.solving.specs.Steps.{tabled, OffersAll, Cells, Noted, best_on, TakesOne}
use Rattle.solving.proofs.Stepping.{whole_top, whole_under, whole_room}
use Rattle.solving.proofs.Whole.{sums_none}

-- the components that are left, counted from 0: they stand before those that are taken
pub record Left (s : Model) (first : ℕ) (left : List Component) : Type 0 where
  pub from_zero : first ≡ 0
  pub taken : List Component
  pub all : left ++ taken ≡ s.components

-- the last of them is the component of its number
pub last_left : (s : Model) (first first' number : ℕ) (left left' : List Component) (c : Component) → Left s first left → first' ≡ first → left ≡ left' ++ c ∷ [] → number ≡ first + length left' → Left s first' left' × (c ≡ component s number) × (number < count s) × (length left' ≡ number) × (length left ≡ suc number)
last_left s first first' number left left' c parts same is numbered =
    let zero = parts.from_zero in
    let whole : left' ++ c ∷ parts.taken ≡ s.components = sym (append_assoc left' (c ∷ []) parts.taken) ∙ ap (λ xs. xs ++ parts.taken) (sym is) ∙ parts.all in
    let n : length left' ≡ number = omega arith in
    let long = ap length whole in
    let more = ap length is in (
      record { from_zero = omega arith; taken = c ∷ parts.taken; all = whole },
      sym (ap (λ xs. get_or xs number no_component) (sym whole) ∙ ap (λ i. get_or (left' ++ c ∷ parts.taken) i no_component) (sym n) ∙ get_or-append_seam left' c parts.taken no_component),
      omega (arith, length-append left' (c ∷ parts.taken)),
      n,
      omega (arith, length-append left' (c ∷ [])),
    )

-- the components from n on are taken
pub record Done {C : Type 0} (k : Adding C) (lower : C → C → Bool) (s : Model) (o : ℕ → Options) (n : ℕ) (sum : Sum C) (noted : List (List ℕ)) (cells : List (Sum C)) : Type 0 where
  pub sum_is : sum ≡ held k (sums_at k lower (tabled s o) n 0 0)
  pub cells_are : Cells k s.echelons n (sums_at k lower (tabled s o) n) cells
  pub all_noted : (i : ℕ) → n ≤ i → i < count s → Noted s.echelons (notes k lower (tabled s o)) i (get_or noted i [])

module _ {C : Type 0} (k : Adding C) (lower : C → C → Bool) (s : Model) (limits : Limits s) (o : ℕ → Options) where
  -- none is
  pub none_taken : (n : ℕ) (noted : List (List ℕ)) (cells : List (Sum C)) → n ≡ count s → Cells k s.echelons (count s) (λ _ _. nothing) cells → Done k lower s o n Nothing noted cells
  none_taken n noted cells all blank = subst (λ m. Done k lower s o m Nothing noted cells) (sym all) (record {
    sum_is = ap (λ (ex : Sums). held k (ex 0 0)) (sym (sums_none k lower s limits o));
    cells_are = subst (λ (ex : Sums). Cells k s.echelons (count s) ex cells) (sym (sums_none k lower s limits o)) blank;
    all_noted = λ i h l. absurd (omega arith);
  })

  -- the total with component n, by its parent
  total_more : (n : ℕ) (p : Option ℕ) (first sum sum' : Sum C) → n < count s → parent s n ≡ p → sum ≡ held k (sums_at k lower (tabled s o) (suc n) 0 0) → first ≡ held k (best_on k lower s o n 0).sum → AddsTop k p first sum sum' → sum' ≡ held k (sums_at k lower (tabled s o) n 0 0)
  total_more n None first sum sum' h top is is-first adds =
      adds _ _ is is-first (whole_room k lower s limits o n h top) ∙ ap (held k) (sym (whole_top k lower s limits o n h top))
  total_more n (Some p) first sum sum' h top is is-first same = same ∙ is ∙ ap (held k) (sym (whole_under k lower s limits o n p h top))

  -- one component more is taken, as it is read
  pub one_taken : (t : Survey) (shut : List ℕ) (m n : ℕ) (c : Component) (sum sum' : Sum C) (r : Taken C) (noted : List (List ℕ)) (cells cells' : List (Sum C)) → m ≡ suc n → n < count s → n < length noted → c ≡ component s n → OffersAll s t shut o → Done k lower s o m sum noted cells → TakesOne k lower s t shut n cells cells' r → AddsTop k c.parent r.first sum sum' → Done k lower s o n sum' (set noted n r.bytes) cells'
  one_taken t shut m n c sum sum' r noted cells cells' one h long read offers done0 takes adds0 =
      let done = subst (λ i. Done k lower s o i sum noted cells) one done0 in
      let took = takes o offers done.cells_are in
      let adds = subst (λ (d : Component). AddsTop k d.parent r.first sum sum') read adds0 in
      record {
        sum_is = total_more n (parent s n) r.first sum sum' h refl done.sum_is took.1 adds;
        cells_are = took.0;
        all_noted = λ i low l. ⊎_elim
            (λ at. subst (λ j. Noted s.echelons (notes k lower (tabled s o)) j (get_or (set noted n r.bytes) j [])) (sym at)
            (subst (Noted s.echelons (notes k lower (tabled s o)) n) (sym (get_or-set_same noted n r.bytes [] long)) took.2))
            (λ ne. subst (Noted s.echelons (notes k lower (tabled s o)) i) (sym (get_or-set_other noted n i r.bytes [] ne)) (done.all_noted i (omega arith) l))
            (cases_eq i n);
      }
