use Rattle.std.proofs.Common.{◌≡◌, Some, subst}
use Rattle.std.specs.Str.{IsUtf8}
use Rattle.ng_tokens.specs.Scan.{piece}
use Rattle.std.proofs.Common.{true}
use Rattle.ng_declare.proofs.Gaps.{boundary}
use Rattle.ng_declare.proofs.cursor.Cursor.token.Goals as goal

pub skip-requires : goal.skip-requires
skip-requires c =
    let e : piece true c.args.self.now.rest.now ≡ Some (c.in-Some.kind, c.in-Some.len) = cc (c.in_ok-kind.ensures.value, c.in-Some.is, c.as_bytes.ensures.value) in
    boundary _ _ e (subst IsUtf8 c.as_bytes.ensures.value c.as_bytes.ensures.utf8)
