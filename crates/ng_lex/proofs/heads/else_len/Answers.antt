use Rattle.std.proofs.Common.{◌+◌, [], ◌∷◌, drop, sym, ◌∙◌, ap, subst}
use Rattle.std.specs.Str.{IsCharBoundary}
use Rattle.ng_tokens.specs.Lexis.{begins}
use Rattle.ng_exprs.specs.Ends.{later}
use Rattle.ng_lex.specs.Span.{blank_len, bracket_len}
use Rattle.ng_lex.proofs.Loops.{after_blanks, else_if_is}
use Rattle.ng_lex.proofs.heads.else_len.Goals as goal

pub after-requires : goal.after-requires
after-requires c = subst (λ n. IsCharBoundary c.args.text.now n) (sym (c.blank_len-blank.ensures.value ∙ ap blank_len c.as_bytes.ensures.value)) (after_blanks c.args.text.now c.utf8.text)

pub returns-in_err-bracket_len-clause-value : goal.returns-in_err-bracket_len-clause-value
returns-in_err-bracket_len-clause-value c =
    c.from_residual-in_err-bracket_len.ensures ∙ ap (later (c.blank_len-blank.result + 2)) (sym c.in_err-bracket_len.was)
    ∙ else_if_is c.args.text.now c.after.result.now c.blank_len-blank.result c.bracket_len.result (c.blank_len-blank.ensures.value ∙ ap blank_len c.as_bytes.ensures.value)
    (ap (λ z. begins (123 ∷ []) (drop c.blank_len-blank.result z)) (sym c.as_bytes-2.ensures.value) ∙ sym c.byte_at.ensures.value ∙ c.if-byte_at.false) c.if-blank-eq0.false c.after.ensures.value
    c.in_ok-rest.ensures.found.0 (c.bracket_len.ensures.value ∙ ap bracket_len c.in_ok-rest.ensures.found.1)

pub returns-clause-value : goal.returns-clause-value
returns-clause-value c =
    ap (later (c.blank_len-blank.result + 2)) (sym c.in_ok-bracket_len.was)
    ∙ else_if_is c.args.text.now c.after.result.now c.blank_len-blank.result c.bracket_len.result (c.blank_len-blank.ensures.value ∙ ap blank_len c.as_bytes.ensures.value)
    (ap (λ z. begins (123 ∷ []) (drop c.blank_len-blank.result z)) (sym c.as_bytes-2.ensures.value) ∙ sym c.byte_at.ensures.value ∙ c.if-byte_at.false) c.if-blank-eq0.false c.after.ensures.value
    c.in_ok-rest.ensures.found.0 (c.bracket_len.ensures.value ∙ ap bracket_len c.in_ok-rest.ensures.found.1)
