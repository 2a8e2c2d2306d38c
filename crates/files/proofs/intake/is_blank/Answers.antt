use Rattle.std.proofs.Common.{◌+◌, ◌-◌, rules, arith}
use Rattle.files.proofs.Blanks.{blank_part}
use Rattle.files.proofs.intake.is_blank.Goals as goal

pub returns : goal.returns
returns c =
    let from = c.args.from in
    blank_part c.args.record.now from c.args.count (from + c.args.count - from) c.all.result (omega arith) (omega arith) (search rules)
