use Rattle.std.proofs.Common.{[], ◌∷◌, drop, sym, ◌∙◌, ap, arith}
use Rattle.ng_tokens.specs.Lexis.{begins}
use Rattle.ng_lex.proofs.Loops.{after_blank_byte}
use Rattle.ng_lex.proofs.heads.bracket_len.Goals as goal

pub after-inside-requires : goal.after-inside-requires
after-inside-requires c =
    after_blank_byte c.args.text.now c.blank_len-blank.result 40 (omega (arith, c.byte_at.ensures.within c.if-not-byte_at.false, c.as_bytes-2.ensures.len))
    (ap (λ z. begins (40 ∷ []) (drop c.blank_len-blank.result z)) (sym c.as_bytes-2.ensures.value) ∙ sym c.byte_at.ensures.value ∙ c.if-not-byte_at.false) (omega arith) c.utf8.text
