use Rattle.std.proofs.Common.{List, sym, ◌∙◌, subst}
use Rattle.ng_phrases.specs.Parser.{Outcome}
use Rattle.ng_declare.specs.declared.entries.Entry.{Entry}
use Rattle.ng_declare.specs.Readers.{Question}
use Rattle.ng_declare.specs.Gives.{read, Fails}
use Rattle.ng_declare.specs.Grammar.{file}
use Rattle.ng_declare.proofs.Whole.{file_found, file_goes_on, file_refused, no_rest, some_rest, from_first, left_over}
use Rattle.ng_declare.proofs.file.read_text.Goals as goal

pub returns-in-Err : goal.returns-in-Err
returns-in-Err c =
    let same = from_first (read file) c.args.text.now c.first_cursor-cursor.result.place c.first_cursor-cursor.result.rest.now c.first_cursor-cursor.ensures.place c.first_cursor-cursor.ensures.rest in
    file_refused c.args.text.now c.in-Err.halt _ _ c.refused.result c.utf8.text (subst (λ (o : Outcome Question (List Entry)). Fails o c.in-Err.halt c.file.new.cursor.place c.file.new.cursor.rest.now) (sym same) c.in-Err.ensures) c.refused.ensures

pub returns-then-is_empty : goal.returns-then-is_empty
returns-then-is_empty c =
    let same = from_first (read file) c.args.text.now c.first_cursor-cursor.result.place c.first_cursor-cursor.result.rest.now c.first_cursor-cursor.ensures.place c.first_cursor-cursor.ensures.rest in
    file_found c.args.text.now c.in-Ok.found c.file.new.cursor.place c.file.new.cursor.rest.now c.utf8.text (same ∙ c.in-Ok.ensures) (no_rest c.file.new.cursor.rest.now (sym c.is_empty.ensures ∙ c.if-is_empty.true))

pub returns-else-is_empty : goal.returns-else-is_empty
returns-else-is_empty c =
    let same = from_first (read file) c.args.text.now c.first_cursor-cursor.result.place c.first_cursor-cursor.result.rest.now c.first_cursor-cursor.ensures.place c.first_cursor-cursor.ensures.rest in
    left_over c.args.text.now c.file.new.cursor.place c.refused-else-is_empty.result c.utf8.text
    (file_goes_on c.args.text.now c.in-Ok.found c.file.new.cursor.place c.file.new.cursor.rest.now (same ∙ c.in-Ok.ensures) (some_rest c.file.new.cursor.rest.now (sym c.is_empty.ensures ∙ c.if-is_empty.false))) c.refused-else-is_empty.ensures
