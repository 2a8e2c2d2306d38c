-- The charges that a chain of records gives for a question: none, one, or more.
use Rattle.std.proofs.Common.{◌≡◌, List, [], ◌∷◌, take, Some, None, Ok, Err, Option, sym, refl, ap}
use Rattle.std.proofs.lemmas.Iterator.{YieldsList}
use Rattle.std.proofs.lemmas.Iterator.Consumers.{YieldsList-so_far, YieldsList-end}
use Rattle.model.specs.declared.answer.Cause.TheVariants.{EnteredTwice}
use Rattle.model.specs.declared.answer.Charge.{Charge}
use Rattle.files.specs.FoundCharges.{only}

at_least_two : (c d : Charge) (cs : List Charge) → c ∷ d ∷ [] ≡ take 2 cs → only cs ≡ Err EnteredTwice
at_least_two c d [] e = cc
at_least_two c d (x ∷ []) e = cc
at_least_two c d (x ∷ y ∷ cs) e = refl

-- the chain gives the charges cs, and was asked once or twice
pub none_comes : {S : Type 0} {steps : S → Option Charge → S → Type 0} {s : S} {cs : List Charge} (t : S) → steps s None t → YieldsList steps (λ c. c) s cs → only cs ≡ Ok None
none_comes {s = s} t end chain = ap only (sym (YieldsList-end chain [] s refl None t refl end).0)

pub one_comes : {S : Type 0} {steps : S → Option Charge → S → Type 0} {s : S} {cs : List Charge} (c : Charge) (t u : S) → steps s (Some c) t → steps t None u → YieldsList steps (λ c. c) s cs → only cs ≡ Ok (Some c)
one_comes c t u first end chain = ap only (sym (YieldsList-end chain (c ∷ []) t (t, first, refl) None u refl end).0)

pub two_come : {S : Type 0} {steps : S → Option Charge → S → Type 0} {s : S} {cs : List Charge} (c d : Charge) (t u : S) → steps s (Some c) t → steps t (Some d) u → YieldsList steps (λ c. c) s cs → only cs ≡ Err EnteredTwice
two_come {cs = cs} c d t u first second chain = at_least_two c d cs (YieldsList-so_far chain (c ∷ d ∷ []) u (t, first, (u, second, refl)))
