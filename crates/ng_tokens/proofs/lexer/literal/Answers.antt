use Rattle.ng_tokens.proofs.Scanning.{literal_front}
use Rattle.ng_tokens.proofs.lexer.literal.Goals as goal

pub text_of-requires : goal.text_of-requires
text_of-requires c = rw (c.as_slice.ensures.value, c.in_ok-value.ensures) (literal_front c.args.z.now c.in-len1-up.len_at_least c.requires.written c.requires.utf8)
