use Rattle.std.proofs.Common.{◌≡◌, length, ap, ◌∙◌, rules}
use Rattle.model.specs.Studies.{model}
use Rattle.files.specs.Records.{byte, number_at}
use Rattle.files.specs.Intakes.{accepted, on_study}
use Rattle.files.proofs.Puts.{rest, rest_needs, component_put}
use Rattle.files.proofs.intake.put.Goals as goal

pub returns-in-67-2 : goal.returns-in-67-2
returns-in-67-2 c =
    let s = model c.args.study.now in
    let r = c.as_slice.result.now in
    let whole : c.unwrap.result.now ≡ rest r = search rules in
    let number : byte r 1 ≡ length s.components = search rules in
    c.on_answer-in-67-2.ensures (model c.enter.new.self)
    ∙ ap (accepted c.args.at) c.enter.ensures
    ∙ component_put s c.args.at r _ _ c.in-67.is number (rest_needs r) (c.rate.ensures ∙ ap (λ xs. number_at xs 4 4) whole)
    ∙ ap (on_study s c.args.at) c.as_slice.ensures
