use Rattle.std.proofs.Common.{subst}
use Rattle.ng_cli.specs.Ends.{NamesNone}
use Rattle.ng_cli.specs.Steps.{texts}
use Rattle.ng_cli.proofs.Finish.{ends_usage}
use Rattle.ng_cli.proofs.top.answer.Goals as goal

pub returns-in-Err-Words : goal.returns-in-Err-Words
returns-in-Err-Words g c =
    let told = g.H.Shelf.told c.args.shelf.now in
    let faults = g.H.Shelf.faults c.args.shelf.now in
    let words = texts c.args.words.now in
    ends_usage words told faults faults _ _ _ _ c.put_end.result (subst (NamesNone words) c.in-Err-Words.field-0-is c.in-Err-Words.ensures) (rw c.as_bytes.ensures.value at c.put_end.ensures)
