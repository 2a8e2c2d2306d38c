use Rattle.std.proofs.Common.{◌≡◌, rules, sym, ap, ◌∙◌, length, arith}
use Rattle.std.proofs.lemmas.Grind.{common_steps}
use Rattle.trials.proofs.Changes.{restored}
use Rattle.trials.proofs.ChangedRecords.{whole}
use Rattle.trials.proofs.trial.trial.Goals as goal

-- the bytes that stood there are put back over those of the change
pub returns-clause-tries : goal.returns-clause-tries
returns-clause-tries c = record {
  answers = grind (arith, common_steps);
  writes = grind (arith, common_steps);
  file_is_back =
      let file = c.args.file.now in
      let inside = whole file c.args.change.record (sym c.is_possible.ensures ∙ c.if-not-is_possible.false) in
      let before = c.set-changed.result.before in
      let over = restored file c.bytes.result c.start.result (omega (arith, c.start.ensures)) (ap length c.bytes.ensures) before c.set-changed.ensures.kept in
      let back : c.drop-changed.new.self.0 ≡ file = cc in
      let lent = sym c.set-changed.ensures.lent in
      search rules;
}
