use Rattle.std.proofs.Common.{◌≡◌, true, false, List, take, drop, Some, None, sym, ◌∙◌, ap, subst, arith, ◌-◌}
use Rattle.std.specs.Prelude.{Ok}
use Rattle.ng_ast.specs.declared.Place.{Place}
use Rattle.ng_tokens.specs.declared.kinds.Sign.TheVariants as s
use Rattle.ng_tokens.specs.Lexis.{Text}
use Rattle.ng_exprs.specs.Reading.{Refused}
use Rattle.ng_exprs.specs.Bodies.{ReadsBody, OverBody, NoBody}
use Rattle.ng_ast.specs.declared.Stmt.{Stmt}
use Rattle.ng_phrases.specs.Parser.{Outcome}
use Rattle.ng_declare.specs.Readers.{Question}
use Rattle.ng_declare.specs.Ends.{end_of}
use Rattle.ng_declare.proofs.Found.{body_stuck, body_taken, body_refused, brace_boundary}
use Rattle.ng_declare.proofs.parts.body.Goals as goal

pub returns-in_default : goal.returns-in_default
returns-in_default c =
    let e : end_of s.CloseBrace c.args.cursor.now.rest.now ≡ None = cc (c.in_ok-len.ensures, c.in_default.is) in
    body_stuck c.args.cursor.now.place c.args.cursor.now.rest.now e

pub range-requires-clause-end_boundary : goal.range-requires-clause-end_boundary
range-requires-clause-end_boundary c =
    let e : end_of s.CloseBrace c.args.cursor.now.rest.now ≡ Some c.in-Some.len = cc (c.in_ok-len.ensures, c.in-Some.is) in
    brace_boundary c.args.cursor.now.rest.now c.in-Some.len e

pub skip-requires : goal.skip-requires
skip-requires c =
    let e : end_of s.CloseBrace c.args.cursor.now.rest.now ≡ Some c.in-Some.len = cc (c.in_ok-len.ensures, c.in-Some.is) in
    brace_boundary c.args.cursor.now.rest.now c.in-Some.len e

pub returns-in-Ok : goal.returns-in-Ok
returns-in-Ok c =
    let e : end_of s.CloseBrace c.args.cursor.now.rest.now ≡ Some c.in-Some.len = cc (c.in_ok-len.ensures, c.in-Some.is) in
    let whole : c.in-Some.len - 0 ≡ c.in-Some.len = omega arith in
    let front : c.range.result.now ≡ take c.in-Some.len c.args.cursor.now.rest.now = c.range.ensures.value ∙ ap (λ n. take n c.args.cursor.now.rest.now) whole in
    let i : ReadsBody true c.args.cursor.now.place (take c.in-Some.len c.args.cursor.now.rest.now) c.in-Ok.found = subst (λ (y : Text). ReadsBody true c.args.cursor.now.place y c.in-Ok.found) front c.in-Ok.ensures.reads in
    body_taken c.args.cursor.now.place c.args.cursor.now.rest.now c.in-Some.len c.in-Ok.found e i
    ∙ ap (λ (q : Place). let v : Outcome Question (List Stmt) = Ok (c.in-Ok.found, q, drop c.in-Some.len c.args.cursor.now.rest.now) in v) (sym c.skip.ensures.place)
    ∙ ap (λ (z : Text). let v : Outcome Question (List Stmt) = Ok (c.in-Ok.found, c.skip.new.self.place, z) in v) (sym c.skip.ensures.rest)

pub returns-in-Err : goal.returns-in-Err
returns-in-Err c =
    let e : end_of s.CloseBrace c.args.cursor.now.rest.now ≡ Some c.in-Some.len = cc (c.in_ok-len.ensures, c.in-Some.is) in
    let whole : c.in-Some.len - 0 ≡ c.in-Some.len = omega arith in
    let front : c.range.result.now ≡ take c.in-Some.len c.args.cursor.now.rest.now = c.range.ensures.value ∙ ap (λ n. take n c.args.cursor.now.rest.now) whole in
    body_refused c.args.cursor.now.place c.args.cursor.now.rest.now c.in-Some.len c.in-Err.error c.refused.result e
    (subst (λ (y : Text). Refused (NoBody false c.args.cursor.now.place y) (OverBody c.args.cursor.now.place y × NoBody true c.args.cursor.now.place y) c.in-Err.error) front c.in-Err.ensures.refused) c.refused.ensures
