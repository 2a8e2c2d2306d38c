use Rattle.std.proofs.Common.{◌≡◌, ap, ◌∙◌, w64, to_z, rules}
use Rattle.files.specs.Records.{number_at}
use Rattle.files.proofs.Numbers.{eight_bytes}
use Rattle.files.proofs.record.charge.Goals as goal

pub returns : goal.returns
returns c =
    let rest = c.args.rest.now in
    let cents : c.from_be_bytes.result ≡ to_z w64 (number_at rest 4 8) = c.from_be_bytes.ensures ∙ ap (to_z w64) (eight_bytes c.bytes.result rest 4 c.bytes.ensures) in
    let minutes : c.from_be_bytes-2.result ≡ number_at rest 12 8 = c.from_be_bytes-2.ensures ∙ eight_bytes c.bytes-2.result rest 12 c.bytes-2.ensures in
    search rules
