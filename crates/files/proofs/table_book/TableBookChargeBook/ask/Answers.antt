use Rattle.std.proofs.Common.{sym, ap, ◌∙◌, subst, arith}
use Rattle.std.proofs.lemmas.Grind.{common_steps}
use Rattle.model.specs.Books.{InLimits}
use Rattle.files.specs.TableAnswers.{charges, answer_from}
use Rattle.files.specs.TableLimits.{table_limited}
use Rattle.files.proofs.RecordLists.{chunks_records}
use Rattle.files.proofs.table_book.TableBookChargeBook.ask.Goals as goal

pub returns : goal.returns
returns c =
    let file = c.args.self.now.bytes.now in
    let q = c.args.question in
    -- the list that is handed on is not named here: grind finds that it is all of the file's records
    let e = c.answer.ensures _ c.only_charge.ensures ∙ ap (λ rs. answer_from q (charges q rs)) (grind (arith, common_steps, chunks_records file)) in
    record { value = e; limits = subst (InLimits q) (sym e) (table_limited file q) }
