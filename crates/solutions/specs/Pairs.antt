-- Pairs of a resource and an echelon by number: by resource, and then by echelon.
use Rattle.std.specs.Prelude.{ℕ, suc, ◌/◌, ◌%◌}
use Rattle.model.specs.declared.question.Question.{Question}
use Rattle.model.specs.declared.question.Question.TheVariants.{OfResource}

-- the resource, and the echelon counted from 1, of pair j where there are so many echelons
abbrev pub pair_resource : ℕ → ℕ → ℕ
pair_resource last j = j / last

abbrev pub pair_echelon : ℕ → ℕ → ℕ
pair_echelon last j = suc (j % last)

abbrev pub pair_question : ℕ → ℕ → Question
pair_question last j = OfResource (pair_resource last j) (pair_echelon last j)
