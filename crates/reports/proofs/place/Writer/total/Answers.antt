use Rattle.std.proofs.Common.{ap, w64}
use Rattle.std.specs.Fmt.{signed_decimal}
use Rattle.std.proofs.lemmas.Int.{to_z-of_z}
use Rattle.reports.proofs.Writing.{puts_then, puts_same}
use Rattle.reports.proofs.place.Writer.total.Goals as goal

pub returns : goal.returns
returns c =
    let cents = puts_same (ap signed_decimal (to_z-of_z w64 c.args.cents c.ranges.cents)) c.signed.ensures in
    puts_then c.bytes.ensures (puts_then cents c.bytes-2.ensures)
