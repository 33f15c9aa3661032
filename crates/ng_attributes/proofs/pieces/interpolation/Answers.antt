use Rattle.std.proofs.Common.{sym, subst}
use Rattle.std.specs.Prelude.{false}
use Rattle.ng_ast.specs.declared.Expr.{Expr}
use Rattle.ng_exprs.specs.Reading.{ReadsExpr, OverText}
use Rattle.ng_attributes.specs.Answers.{Halts}
use Rattle.ng_attributes.proofs.PieceSteps.{opened, open_boundary, close_boundary, unclosed_by, value_piece, value_halts}
use Rattle.ng_attributes.proofs.pieces.interpolation.Goals as goal

pub returns-in_default : goal.returns-in_default
returns-in_default c = unclosed_by c.args.value.letters.now c.args.value.text.now c.requires.spelled.says c.requires.opens c.in_default.ensures

pub split-requires-2-clause-boundary : goal.split-requires-2-clause-boundary
split-requires-2-clause-boundary c =
    open_boundary c.args.value c.split.result.0 c.in-Some.len (opened c.args.value c.split.result.0 c.split.result.1 c.in-Some.len c.in-Some.ensures.0 c.split.ensures) c.split.ensures.first_spelled.utf8

pub split-requires-3-clause-boundary : goal.split-requires-3-clause-boundary
split-requires-3-clause-boundary c =
    close_boundary c.args.value c.split.result.0 c.split-2.result.0 c.split-2.result.1 c.in-Some.len (opened c.args.value c.split.result.0 c.split.result.1 c.in-Some.len c.in-Some.ensures.0 c.split.ensures) c.split-2.ensures

pub returns-in-Ok : goal.returns-in-Ok
returns-in-Ok c =
    value_piece c.args.value c.split.result.0 c.split.result.1 c.split-2.result.0 c.split-2.result.1 c.split-3.result.0 c.split-3.result.1 c.in-Some.len c.in-Some.ensures.0 c.split.ensures c.split-2.ensures c.split-3.ensures c.in-Ok.found c.start_of-place.result c.start_of-place.ensures
    (subst (λ k. ReadsExpr false k c.split-3.result.0.text.now c.in-Ok.found) c.start_of.ensures c.in-Ok.ensures.0) (λ over. c.in-Ok.ensures.1 (subst (λ k. OverText false k c.split-3.result.0.text.now) (sym c.start_of.ensures) over))

pub returns-in-Err : goal.returns-in-Err
returns-in-Err c =
    value_halts c.args.value c.split.result.0 c.split.result.1 c.split-2.result.0 c.split-2.result.1 c.split-3.result.0 c.split-3.result.1 c.in-Some.len c.in-Some.ensures.0 c.split.ensures c.split-2.ensures c.split-3.ensures c.in-Err.stop
    (subst (λ k. Halts ((x : Expr) → ReadsExpr false k c.split-3.result.0.text.now x → ⊥) (OverText false k c.split-3.result.0.text.now) c.in-Err.stop) c.start_of.ensures c.in-Err.ensures)
