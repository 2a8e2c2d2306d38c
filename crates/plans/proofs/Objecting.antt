-- What it says of a component that it meets no objection.
use Rattle.std.proofs.Common.{◌≡◌, ℕ, ◌*◌, ◌≤◌, Bool, true, leb, List, None, Option, refl, arith}
use Rattle.std.proofs.lemmas.Bool.{leb-true, le-leb}
use Rattle.std.proofs.lemmas.Bool.Decides.{nat_tests}
use Rattle.model.specs.declared.question.Question.{Question}
use Rattle.model.specs.declared.refusal.Refusal.{Refusal}
use Rattle.model.specs.declared.refusal.Refusal.TheVariants.{ByteTooLarge, ReachMismatch, BeforeStart, OptionClosed, ResourceClosed}
use Rattle.model.specs.Books.{Book}
use Rattle.model.specs.Studies.{Model}
use Rattle.plans.specs.Ranges.{every}
use Rattle.plans.specs.Questions.{component_questions, pair_questions, is_open}
use Rattle.plans.specs.Starts.{byte, final, start}
use Rattle.plans.specs.Uses.{uses}
use Rattle.plans.specs.Prices.{object, agree, open_if, needs_pair, objection}
use Rattle.plans.specs.Laws.{Among}
use Rattle.plans.proofs.Members.{every_among, every_from}

-- the five questions to component i pass
pub record Passes (s : Model) (b : Book) (plan : List ℕ) (i : ℕ) : Type 0 where
  pub byte_fits : byte plan i ≤ 2 * s.echelons
  pub decided_is_read : 1 ≤ byte plan i → 1 ≤ start s plan i
  pub read_is_decided : 1 ≤ start s plan i → 1 ≤ byte plan i
  pub from_the_start : start s plan i ≤ final (byte plan i)
  pub options_open : (q : Question) → Among q (component_questions s.echelons i) → uses s plan q ≡ true → is_open b q ≡ true
  pub resources_open : (q : Question) → Among q (pair_questions s) → needs_pair s plan i q ≡ true → is_open b q ≡ true

-- there is no objection where the test passes and the rest has none
passed : (test : Bool) (why : Refusal) (rest : Option Refusal) → object test why rest ≡ None → (test ≡ true) × (rest ≡ None)
passed test why rest h = grind arith

unobjected : (test : Bool) (why : Refusal) (rest : Option Refusal) → test ≡ true → rest ≡ None → object test why rest ≡ None
unobjected test why rest t h = cc

-- two numbers are both 0 or both not
agreed : (m n : ℕ) → agree (leb 1 m) (leb 1 n) ≡ true → (1 ≤ m → 1 ≤ n) × (1 ≤ n → 1 ≤ m)
agreed m n h = (λ l. grind (arith, nat_tests), λ l. grind (arith, nat_tests))

agrees : (m n : ℕ) → (1 ≤ m → 1 ≤ n) → (1 ≤ n → 1 ≤ m) → agree (leb 1 m) (leb 1 n) ≡ true
agrees m n f g = grind (arith, nat_tests)

-- what is used is open, for one question and for a list of them
opened : (b : Book) (used : Bool) (q : Question) → open_if b used q ≡ true → used ≡ true → is_open b q ≡ true
opened b used q h u = cc

opens : (b : Book) (used : Bool) (q : Question) → (used ≡ true → is_open b q ≡ true) → open_if b used q ≡ true
opens b used q h = grind arith

module _ (b : Book) (used : Question → Bool) (qs : List Question) where
  all_opened : every (λ q. open_if b (used q) q) qs ≡ true → (q : Question) → Among q qs → used q ≡ true → is_open b q ≡ true
  all_opened h q m = opened b (used q) q (every_among (λ p. open_if b (used p) p) h m)

  all_open : ((q : Question) → Among q qs → used q ≡ true → is_open b q ≡ true) → every (λ q. open_if b (used q) q) qs ≡ true
  all_open h = every_from (λ p. open_if b (used p) p) qs (λ q m. opens b (used q) q (h q m))

-- so component i meets no objection exactly where the five questions pass
module _ (s : Model) (b : Book) (plan : List ℕ) (i : ℕ) where
  pub passes : objection s b plan i ≡ None → Passes s b plan i
  passes h =
      let one = passed (leb (byte plan i) (2 * s.echelons)) (ByteTooLarge i) _ h in
      let two = passed (agree (leb 1 (byte plan i)) (leb 1 (start s plan i))) (ReachMismatch i) _ one.1 in
      let three = passed (leb (start s plan i) (final (byte plan i))) (BeforeStart i) _ two.1 in
      let four = passed (every (λ q. open_if b (uses s plan q) q) (component_questions s.echelons i)) (OptionClosed i) _ three.1 in
      let five = passed (every (λ q. open_if b (needs_pair s plan i q) q) (pair_questions s)) (ResourceClosed i) _ four.1 in
      let same = agreed (byte plan i) (start s plan i) two.0 in
      record {
        byte_fits = leb-true _ _ one.0;
        decided_is_read = same.0;
        read_is_decided = same.1;
        from_the_start = leb-true _ _ three.0;
        options_open = all_opened b (uses s plan) _ four.0;
        resources_open = all_opened b (needs_pair s plan i) _ five.0;
      }

  pub no_objection : Passes s b plan i → objection s b plan i ≡ None
  no_objection h =
      unobjected _ (ByteTooLarge i) _ (le-leb _ _ h.byte_fits)
      (unobjected _ (ReachMismatch i) _ (agrees (byte plan i) (start s plan i) h.decided_is_read h.read_is_decided)
      (unobjected _ (BeforeStart i) _ (le-leb _ _ h.from_the_start)
      (unobjected _ (OptionClosed i) _ (all_open b (uses s plan) _ h.options_open)
      (unobjected _ (ResourceClosed i) _ (all_open b (needs_pair s plan i) _ h.resources_open) refl))))
