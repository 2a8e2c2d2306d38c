-- Every study keeps its limits.
use Rattle.std.proofs.Common.{arith}
use Rattle.model.specs.declared.study.Study.{Study}
use Rattle.model.specs.Studies.{model, Limits}

pub limited : (s : Study) → Limits (model s)
limited s =
    let ok = s.table.rows.ok.0 in
    record {
      some_echelon = s.some_echelon;
      few_echelons = s.few_echelons;
      few_resources = s.few_resources;
      few_pairs = s.few_pairs;
      few_components = omega (arith, s.count);
      sound_rows = s.rows;
    }
