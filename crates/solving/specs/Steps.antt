-- What the steps of a walk leave, against the table of the solver's argument. Components and echelons count from 1 there,
-- and from 0 here.
use Rattle.std.specs.Prelude.{◌≡◌, ℕ, suc, pred, ◌+◌, ◌-◌, ◌*◌, ◌<◌, ◌≤◌, Bool, cond, ◌&&◌, List, [], length, get_or, nat_le, slice_index, slice_index_or}
use Rattle.costs.specs.Kinds.{Adding}
use Rattle.costs.specs.Postings.{most}
use Rattle.model.specs.Studies.{Model}
use Rattle.plans.specs.Questions.{count}
use Rattle.plans.specs.Postings.{component}
use Rattle.plans.specs.Starts.{parent, start_under}
use Rattle.plans.specs.Orders.{rank}
use Rattle.planning.specs.declared.table.Choices.{Choices}
use Rattle.planning.specs.declared.table.Survey.{Survey}
use Rattle.planning.specs.Surveys.{no_choices, no_options}
use Rattle.theory.specs.Amounts.{Amount, nothing}
use Rattle.theory.specs.Options.{Options}
use Rattle.theory.specs.Places.{echelons}
use Rattle.theory.specs.Choices.{Choice as Chosen, best, way_on}
use Rattle.theory.specs.Breakdowns.{Sums}
use Rattle.theory.specs.Tables.{Table, sums_at, notes}
use Rattle.solutions.specs.Problems.{parent_number}
use Rattle.solving.specs.declared.sum.Sum.{Sum}
use Rattle.solving.specs.declared.sum.Sum.TheVariants.{Closed}
use Rattle.solving.specs.declared.choice.Choice.{Choice}
use Rattle.solving.specs.declared.taking.Taken.{Taken}
use Rattle.solving.specs.Allowed.{allowed_choices}
use Rattle.solving.specs.Sums.{held, held_choice, Posts, Offers}

-- the table of a study with those options
abbrev pub tabled : Model → (ℕ → Options) → Table
tabled s o = record {
  size = count s;
  places = echelons s.echelons;
  options = o;
  parent = λ i. parent_number (parent s (pred i));
  first = λ i. 1;
  rank = rank;
}

-- the postings that the survey keeps and the masks of shut resources allow for component i at echelon e
abbrev pub allowed_at : Model → Survey → List ℕ → ℕ → ℕ → Choices
allowed_at s t shut i e =
    allowed_choices (slice_index_or (get_or t.options i no_options) e no_choices) (component s i).needs (slice_index shut e)

-- the options are those
abbrev pub OffersAll : Model → Survey → List ℕ → (ℕ → Options) → Type 0
OffersAll s t shut o = (i e : ℕ) → i < count s → e < s.echelons → Offers (allowed_at s t shut i e) (o (suc i)) (suc e)

-- the cells of the first n components hold those sums
abbrev pub Cells : {C : Type 0} → Adding C → ℕ → ℕ → Sums → List (Sum C) → Type 0
Cells k last n sums cells = (j e : ℕ) → j < n → e < last → slice_index_or cells (j * last + e) Closed ≡ held k (sums (suc j) (suc e))

-- the bytes noted for component i
abbrev pub Noted : ℕ → (ℕ → ℕ → ℕ) → ℕ → List ℕ → Type 0
Noted last f i bytes = (e : ℕ) → e < last → slice_index bytes e ≡ f (suc i) (suc e)

-- the best way on of component i from echelon e, when the components after it are taken
abbrev pub best_on : {C : Type 0} → Adding C → (C → C → Bool) → Model → (ℕ → Options) → ℕ → ℕ → Chosen
best_on k lower s o i e =
    best k lower rank suc (o (suc i)) (sums_at k lower (tabled s o) (suc i) (suc i)) (s.echelons - e) (suc e)

-- `FindsWay`: r is the way on of component i at echelon e, by the sum in its cell and the way on from the next echelon
abbrev pub FindsWay : {C : Type 0} → Adding C → (C → C → Bool) → Model → Survey → List ℕ → ℕ → ℕ → List (Sum C) → Choice C → Choice C → Type 0
FindsWay k lower s t shut i e cells onward r =
    (o : ℕ → Options) (under : ℕ → Amount) (on : Chosen) → OffersAll s t shut o
    → slice_index_or cells (i * s.echelons + e) Closed ≡ held k (under (suc e)) → onward ≡ held_choice k on → Posts on.sum
    → length (under (suc e)).row + 1 ≤ most → length on.sum.row + 1 ≤ most
    → r ≡ held_choice k (way_on k lower rank (o (suc i)) under (suc e) on)

-- `TakesOne`: component i is taken, if those after it are
abbrev pub TakesOne : {C : Type 0} → Adding C → (C → C → Bool) → Model → Survey → List ℕ → ℕ → List (Sum C) → List (Sum C) → Taken C → Type 0
TakesOne k lower s t shut i before after r =
    (o : ℕ → Options) → OffersAll s t shut o → Cells k s.echelons (suc i) (sums_at k lower (tabled s o) (suc i)) before
    → Cells k s.echelons i (sums_at k lower (tabled s o) i) after
    × (r.first ≡ held k (best_on k lower s o i 0).sum)
    × Noted s.echelons (notes k lower (tabled s o)) i r.bytes

-- `TakesAll`: every component is taken, from cells that hold nothing; r is the total
abbrev pub TakesAll : {C : Type 0} → Adding C → (C → C → Bool) → Model → Survey → List ℕ → List (Sum C) → List (List ℕ) → Sum C → Type 0
TakesAll k lower s t shut before noted r =
    (o : ℕ → Options) → OffersAll s t shut o → Cells k s.echelons (count s) (λ _ _. nothing) before
    → (r ≡ held k (sums_at k lower (tabled s o) 0 0 0))
    × ((i : ℕ) → i < count s → Noted s.echelons (notes k lower (tabled s o)) i (slice_index_or noted i []))

-- the byte noted for a start, 0 where the component is not reached
abbrev pub noted_at : List ℕ → ℕ → ℕ
noted_at bytes start = cond (nat_le 1 start && nat_le start 4) (slice_index bytes (start - 1)) 0

-- each of the first n bytes of the plan is the one noted for the component's start
abbrev pub ReadsOff : Model → List (List ℕ) → ℕ → List ℕ → Type 0
ReadsOff s noted n plan = (i : ℕ) → i < n → slice_index plan i ≡ noted_at (slice_index_or noted i []) (start_under plan (parent s i))
