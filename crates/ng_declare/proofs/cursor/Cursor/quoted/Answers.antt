use Rattle.std.proofs.Common.{◌≡◌, ◌+◌, Some, sym, subst}
use Rattle.std.specs.Str.{IsUtf8, IsCharBoundary}
use Rattle.ng_tokens.specs.Lexis.{Text}
use Rattle.ng_declare.specs.Quotes.{quote_at}
use Rattle.ng_declare.proofs.Ticks.{quoted_cuts}
use Rattle.ng_declare.proofs.cursor.Cursor.quoted.Goals as goal

pub skip-requires : goal.skip-requires
skip-requires c =
    let e : quote_at c.args.self.now.rest.now ≡ Some c.in-Some.len = cc (c.quote_at.ensures, c.in-Some.is, c.as_bytes.ensures.value) in
    (quoted_cuts _ _ e (subst IsUtf8 c.as_bytes.ensures.value c.as_bytes.ensures.utf8)).0

pub range-requires-clause-end_boundary : goal.range-requires-clause-end_boundary
range-requires-clause-end_boundary c =
    let e : quote_at c.args.self.now.rest.now ≡ Some c.in-Some.len = cc (c.quote_at.ensures, c.in-Some.is, c.as_bytes.ensures.value) in
    subst (λ (t : Text). IsCharBoundary t c.in-Some.len) (sym c.skip.ensures.rest) (quoted_cuts _ _ e (subst IsUtf8 c.as_bytes.ensures.value c.as_bytes.ensures.utf8)).1

pub skip-requires-2 : goal.skip-requires-2
skip-requires-2 c =
    let e : quote_at c.args.self.now.rest.now ≡ Some c.in-Some.len = cc (c.quote_at.ensures, c.in-Some.is, c.as_bytes.ensures.value) in
    subst (λ (t : Text). IsCharBoundary t (c.in-Some.len + 1)) (sym c.skip.ensures.rest) (quoted_cuts _ _ e (subst IsUtf8 c.as_bytes.ensures.value c.as_bytes.ensures.utf8)).2
