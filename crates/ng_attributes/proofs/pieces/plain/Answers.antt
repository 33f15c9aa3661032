use Rattle.std.proofs.Common.{List, length, sym, ◌∙◌, ap, subst}
use Rattle.std.specs.Prelude.{string_bytes}
use Rattle.ng_ast.specs.declared.Piece.{Piece}
use Rattle.ng_lex.specs.Values.{ReadsPieces, OverPieces}
use Rattle.ng_attributes.specs.Answers.{Halts}
use Rattle.ng_attributes.specs.Pieces.{text_len}
use Rattle.ng_attributes.proofs.PieceSteps.{static_ok, joined_ok, joined_halts}
use Rattle.ng_attributes.proofs.pieces.plain.Goals as goal

pub returns-then-text_len-len : goal.returns-then-text_len-len
returns-then-text_len-len c =
    static_ok c.args.value.letters.items (string_bytes c.args.value.text) _ c.requires.says
    (ap text_len (sym c.as_bytes.ensures.value) ∙ sym c.text_len.ensures.value ∙ c.if-text_len-len.true ∙ c.len.ensures ∙ sym c.as_bytes.ensures.len ∙ ap length c.as_bytes.ensures.value) c.in_ok-from_string.ensures

pub returns-in-Ok : goal.returns-in-Ok
returns-in-Ok c =
    joined_ok c.args.value.letters.items c.spelled.result.letters.now (string_bytes c.args.value.text) c.in-Ok.found c.requires.says
    (λ e. c.if-text_len-len.false (c.text_len.ensures.value ∙ ap text_len c.as_bytes.ensures.value ∙ e ∙ ap length (sym c.as_bytes.ensures.value) ∙ c.as_bytes.ensures.len ∙ sym c.len.ensures)) c.spelled.ensures.letters c.in-Ok.ensures

pub returns : goal.returns
returns c =
    joined_halts c.args.value.letters.items (string_bytes c.args.value.text) c.in-Err.stop c.requires.says
    (λ e. c.if-text_len-len.false (c.text_len.ensures.value ∙ ap text_len c.as_bytes.ensures.value ∙ e ∙ ap length (sym c.as_bytes.ensures.value) ∙ c.as_bytes.ensures.len ∙ sym c.len.ensures))
    (subst (λ k. Halts ((ps : List Piece) → ReadsPieces k ps → ⊥) (OverPieces k) c.in-Err.stop) c.spelled.ensures.letters c.in-Err.ensures)
