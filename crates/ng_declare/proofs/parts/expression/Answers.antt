use Rattle.std.proofs.Common.{◌≡◌, true, take, drop, Some, None, sym, ◌∙◌, ap, subst, arith, ◌-◌}
use Rattle.std.specs.Prelude.{Ok}
use Rattle.ng_ast.specs.declared.Place.{Place}
use Rattle.ng_tokens.specs.declared.kinds.Sign.TheVariants as s
use Rattle.ng_tokens.specs.Lexis.{Text}
use Rattle.ng_exprs.specs.Reading.{ReadsExpr, OverText, IsUnread, Refused}
use Rattle.ng_ast.specs.declared.Expr.{Expr}
use Rattle.ng_phrases.specs.Parser.{Outcome}
use Rattle.ng_declare.specs.Readers.{Question}
use Rattle.ng_declare.specs.Ends.{end_of}
use Rattle.ng_declare.proofs.Found.{expression_stuck, expression_taken, expression_refused, semicolon_boundary}
use Rattle.ng_declare.proofs.parts.expression.Goals as goal

pub returns-in_default : goal.returns-in_default
returns-in_default c =
    let e : end_of s.Semicolon c.args.cursor.now.rest.now ≡ None = cc (c.in_ok-len.ensures, c.in_default.is) in
    expression_stuck c.args.cursor.now.place c.args.cursor.now.rest.now e

pub range-requires-clause-end_boundary : goal.range-requires-clause-end_boundary
range-requires-clause-end_boundary c =
    let e : end_of s.Semicolon c.args.cursor.now.rest.now ≡ Some c.in-Some.len = cc (c.in_ok-len.ensures, c.in-Some.is) in
    semicolon_boundary c.args.cursor.now.rest.now c.in-Some.len e

pub skip-requires : goal.skip-requires
skip-requires c =
    let e : end_of s.Semicolon c.args.cursor.now.rest.now ≡ Some c.in-Some.len = cc (c.in_ok-len.ensures, c.in-Some.is) in
    semicolon_boundary c.args.cursor.now.rest.now c.in-Some.len e

pub returns-in-Ok : goal.returns-in-Ok
returns-in-Ok c =
    let e : end_of s.Semicolon c.args.cursor.now.rest.now ≡ Some c.in-Some.len = cc (c.in_ok-len.ensures, c.in-Some.is) in
    let whole : c.in-Some.len - 0 ≡ c.in-Some.len = omega arith in
    let front : c.range.result.now ≡ take c.in-Some.len c.args.cursor.now.rest.now = c.range.ensures.value ∙ ap (λ n. take n c.args.cursor.now.rest.now) whole in
    let i : ReadsExpr true c.args.cursor.now.place (take c.in-Some.len c.args.cursor.now.rest.now) c.in-Ok.found × (OverText true c.args.cursor.now.place (take c.in-Some.len c.args.cursor.now.rest.now) → ⊥) =
    subst (λ (y : Text). ReadsExpr true c.args.cursor.now.place y c.in-Ok.found × (OverText true c.args.cursor.now.place y → ⊥)) front c.in-Ok.ensures.reads in
    expression_taken c.args.cursor.now.place c.args.cursor.now.rest.now c.in-Some.len c.in-Ok.found e i.0 i.1
    ∙ ap (λ (q : Place). let v : Outcome Question Expr = Ok (c.in-Ok.found, q, drop c.in-Some.len c.args.cursor.now.rest.now) in v) (sym c.skip.ensures.place)
    ∙ ap (λ (z : Text). let v : Outcome Question Expr = Ok (c.in-Ok.found, c.skip.new.self.place, z) in v) (sym c.skip.ensures.rest)

pub returns-in-Err : goal.returns-in-Err
returns-in-Err c =
    let e : end_of s.Semicolon c.args.cursor.now.rest.now ≡ Some c.in-Some.len = cc (c.in_ok-len.ensures, c.in-Some.is) in
    let whole : c.in-Some.len - 0 ≡ c.in-Some.len = omega arith in
    let front : c.range.result.now ≡ take c.in-Some.len c.args.cursor.now.rest.now = c.range.ensures.value ∙ ap (λ n. take n c.args.cursor.now.rest.now) whole in
    expression_refused c.args.cursor.now.place c.args.cursor.now.rest.now c.in-Some.len c.in-Err.error c.refused.result e
    (subst (λ (y : Text). Refused (IsUnread true c.args.cursor.now.place y) (OverText true c.args.cursor.now.place y) c.in-Err.error) front c.in-Err.ensures.refused) c.refused.ensures
