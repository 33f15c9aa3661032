use Rattle.std.proofs.Common.{sym, ◌∙◌, ap}
use Rattle.ng_lex.specs.Span.{front_len}
use Rattle.ng_lex.proofs.Boundaries.{front_boundary}
use Rattle.ng_lex.proofs.heads.let_len.Goals as goal

pub after-requires : goal.after-requires
after-requires c = front_boundary c.args.text.now c.in_ok-front.front (ap front_len (sym c.as_bytes.ensures.value) ∙ sym c.front_len.ensures.value ∙ c.in_ok-front.was) c.utf8.text
