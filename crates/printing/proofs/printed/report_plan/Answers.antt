use Rattle.std.proofs.Common.{◌≡◌, ℕ, ◌+◌, ◌-◌, ◌*◌, ◌≤◌, List, length, take, replicate, Ok, Result, refl, ap, ◌∙◌, arith, w64}
use Rattle.std.proofs.lemmas.List.{take_at, length-replicate}
use Rattle.std.proofs.lemmas.Int.{to_z-of_z}
use Rattle.model.specs.Studies.{model}
use Rattle.model.proofs.Limited.{limited}
use Rattle.plans.specs.Questions.{count}
use Rattle.reports.specs.Reports.{report_text, at_front, reported}
use Rattle.reports.proofs.Accepted.{accepted}
use Rattle.printing.proofs.printed.report_plan.Goals as goal

same_value : {E : Type 0} (r : Result ℕ E) (m n : ℕ) → r ≡ Ok m → r ≡ Ok n → m ≡ n
same_value r m n d e = cc

-- the place is long enough for every study, so the call is accepted and the text stands at the front
pub returns : goal.returns
returns c =
    let s = model c.args.study.now in
    let z = c.args.cents in
    let plan = c.args.plan.now in
    let text = report_text s plan z in
    let place : List ℕ = replicate 992 0 in
    let limits = limited c.args.study.now in
    let room : 16 * count s + 32 ≤ length place = omega (arith, limits.few_components, length-replicate {A = ℕ} 992 0) in
    let all = c.report.ensures ∙ ap (λ x. reported s plan x place) (to_z-of_z w64 z c.ranges.cents) ∙ accepted s plan z place c.requires room in
    let answer : c.report.result ≡ Ok (length text) = ap (λ p. p.0) all in
    let size = same_value _ c.in_ok-length.length (length text) c.in_ok-length.was answer in
    let cut : c.in_ok-length.length - 0 ≡ length text = omega (arith, size) in
    ap Ok (c.in_ok-to_vec.ensures.items_if_clones_equal (λ x y e. e) ∙ ap (λ l. take (c.in_ok-length.length - 0) l) (ap (λ p. p.1) all) ∙ ap (λ k. take k (at_front text place)) cut ∙ take_at text _ (length text) refl)
