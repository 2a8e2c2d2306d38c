use Rattle.std.proofs.Common.{◌≡◌, false, rules}
use Rattle.std.specs.Prelude.{MatchOption}
use Rattle.files.specs.Records.{kind}
use Rattle.files.specs.Intakes.{is_charge}
use Rattle.trials.proofs.ChangedRecords.{possible}
use Rattle.trials.proofs.change.Change.is_possible.Goals as goal

pub returns : goal.returns
returns c =
    let looked : MatchOption c.get.result (c.is_some_and.result ≡ false) (λ x. c.is_some_and.result ≡ is_charge (kind x.now)) = search (rules, c.is_some_and.ensures) in
    possible (λ x. x.now) c.args.file.now c.args.self.record c.as_chunks.result.0.now c.get.result c.is_some_and.result c.as_chunks.ensures.front c.get.ensures.lookup.0 c.get.ensures.lookup.1 looked
