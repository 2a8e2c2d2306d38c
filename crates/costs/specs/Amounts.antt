-- The three kinds: money alone; money, then minutes; minutes, then money. Amounts add and compare as whole numbers.
use Rattle.std.specs.Prelude.{◌+◌, Bool, not, ◌&&◌, ◌||◌, ℤ, ◌+ℤ◌, ◌==◌, int_lt, nat_lt}
use Rattle.costs.specs.Kinds.{Adding}
use Rattle.costs.specs.declared.totals.Total.{Total}

-- money alone: a posting's cents; `int_lt` compares them
abbrev pub money : Adding ℤ
money = record { post = λ p. p.cents; plus = ◌+ℤ◌ }

-- money with money, and minutes with minutes
abbrev pub both : Total → Total → Total
both a b = record { cents = a.cents +ℤ b.cents; minutes = a.minutes + b.minutes }

abbrev pub totals : Adding Total
totals = record { post = λ p. record { cents = p.cents; minutes = p.minutes }; plus = both }

-- less money, or the same money and fewer minutes
abbrev pub cheaper : Total → Total → Bool
cheaper a b = int_lt a.cents b.cents || (not (int_lt b.cents a.cents) && nat_lt a.minutes b.minutes)

-- fewer minutes, or the same minutes and less money
abbrev pub sooner : Total → Total → Bool
sooner a b = nat_lt a.minutes b.minutes || (a.minutes == b.minutes && int_lt a.cents b.cents)
