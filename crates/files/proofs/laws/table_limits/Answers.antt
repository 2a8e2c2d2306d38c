use Rattle.files.specs.TableLimits.{limits_exactly}
use Rattle.files.proofs.laws.table_limits.Goals as goal

pub returns : goal.returns
returns c = limits_exactly
