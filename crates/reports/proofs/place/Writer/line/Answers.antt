use Rattle.std.proofs.Common.{◌≡◌, ℕ, ◌-◌, ◌*◌, ◌≤◌, take, replicate, arith}
use Rattle.std.proofs.lemmas.List.{take-replicate}
use Rattle.reports.proofs.Writing.{puts_then, puts_same}
use Rattle.reports.proofs.place.Writer.line.Goals as goal

-- the blanks as they are cut
indented : (level : ℕ) → level ≤ 5 → take {A = ℕ} (2 * (level - 1)) (replicate 8 32) ≡ replicate (2 * (level - 1)) 32
indented level h =
    let few : 2 * (level - 1) ≤ 8 = omega arith in
    take-replicate (2 * (level - 1)) 8 32 few

pub returns : goal.returns
returns c =
    let blanks = puts_same (indented c.args.level c.requires.level_to) c.bytes.ensures in
    puts_then blanks (puts_then c.number.ensures (puts_then c.bytes-2.ensures c.decision.ensures))
