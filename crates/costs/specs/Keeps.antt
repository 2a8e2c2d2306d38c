-- The three kinds keep the four laws.
use Rattle.std.specs.Prelude.{int_lt}
use Rattle.std.proofs.Common.{arith}
use Rattle.std.proofs.lemmas.Int.{ints}
use Rattle.std.proofs.lemmas.Bool.Decides.{nat_tests}
use Rattle.costs.specs.Kinds.{Laws}
use Rattle.costs.specs.Amounts.{money, totals, cheaper, sooner}
use Rattle.costs.specs.Sizes.{same_total}

pub money_laws : Laws money int_lt
money_laws = record {
  transitive = λ l m n a b c _ _ _ _ _ _ p q. grind (arith, ints);
  not_of_itself = λ n a _ _. grind (arith, ints);
  neither_is_same = λ m n a b _ _ _ _ p q. grind (arith, ints);
  any_order = λ m n a b _ _ _. omega (arith, ints);
  any_grouping = λ l m n a b c _ _ _ _. omega (arith, ints);
  stays_lower = λ l m n a b c _ _ _ _ _ p. grind (arith, ints);
  never_lowers = λ n a p _ _ _ h. grind (arith, ints);
}

pub cheaper_laws : Laws totals cheaper
cheaper_laws = record {
  transitive = λ l m n a b c _ _ _ _ _ _ p q. grind (arith, ints, nat_tests);
  not_of_itself = λ n a _ _. grind (arith, ints, nat_tests);
  neither_is_same = λ m n a b _ _ _ _ p q. same_total a b (grind (arith, ints, nat_tests)) (grind (arith, ints, nat_tests));
  any_order = λ m n a b _ _ _. same_total _ _ (omega (arith, ints)) (omega arith);
  any_grouping = λ l m n a b c _ _ _ _. same_total _ _ (omega (arith, ints)) (omega arith);
  stays_lower = λ l m n a b c _ _ _ _ _ p. grind (arith, ints, nat_tests);
  never_lowers = λ n a p _ _ _ h. grind (arith, ints, nat_tests);
}

pub sooner_laws : Laws totals sooner
sooner_laws = record {
  transitive = λ l m n a b c _ _ _ _ _ _ p q. grind (arith, ints, nat_tests);
  not_of_itself = λ n a _ _. grind (arith, ints, nat_tests);
  neither_is_same = λ m n a b _ _ _ _ p q. same_total a b (grind (arith, ints, nat_tests)) (grind (arith, ints, nat_tests));
  any_order = cheaper_laws.any_order;
  any_grouping = cheaper_laws.any_grouping;
  stays_lower = λ l m n a b c _ _ _ _ _ p. grind (arith, ints, nat_tests);
  never_lowers = λ n a p _ _ _ h. grind (arith, ints, nat_tests);
}
