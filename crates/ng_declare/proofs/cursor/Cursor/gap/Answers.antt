use Rattle.std.proofs.Common.{◌≡◌, ◌<◌, length, true, Some, None, arith, sym, ◌∙◌, ap, subst, drop, length-drop}
use Rattle.std.specs.Str.{IsUtf8}
use Rattle.ng_ast.specs.declared.Place.{Place}
use Rattle.ng_tokens.specs.Lexis.{Text}
use Rattle.ng_tokens.specs.Scan.{piece}
use Rattle.ng_tokens.proofs.Scanning.{within_piece}
use Rattle.ng_phrases.specs.Tokens.{parse_gap}
use Rattle.ng_declare.proofs.Gaps.{boundary, gap_on, gap_stop, gap_end}
use Rattle.ng_declare.proofs.cursor.Cursor.gap.Goals as goal

pub returns-in_default : goal.returns-in_default
returns-in_default c =
    let e : piece true c.loop-len.self.rest.now ≡ None = cc (c.in_ok-len.ensures.value, c.in_default.is, c.as_bytes.ensures.value) in
    c.loop-len.invariant ∙ gap_stop c.loop-len.self.place c.loop-len.self.rest.now (sym c.begins_gap.ensures ∙ c.loop-len-test.true) e

pub skip-requires : goal.skip-requires
skip-requires c =
    let e : piece true c.loop-len.self.rest.now ≡ Some (c.in-Some.field-0-0, c.in-Some.len) = cc (c.in_ok-len.ensures.value, c.in-Some.is, c.as_bytes.ensures.value) in
    boundary _ _ e (subst IsUtf8 c.as_bytes.ensures.value c.as_bytes.ensures.utf8)

pub loop-len-smaller : goal.loop-len-smaller
loop-len-smaller c =
    let e : piece true c.loop-len.self.rest.now ≡ Some (c.in-Some.field-0-0, c.in-Some.len) = cc (c.in_ok-len.ensures.value, c.in-Some.is, c.as_bytes.ensures.value) in
    let w = within_piece true c.loop-len.self.rest.now (c.in-Some.field-0-0, c.in-Some.len) e in
    let k : length c.skip.new.self.rest.now < length c.loop-len.self.rest.now = omega (arith, ap length c.skip.ensures.rest, length-drop c.in-Some.len c.loop-len.self.rest.now, w) in
    k

pub loop-len-preserved : goal.loop-len-preserved
loop-len-preserved c =
    let e : piece true c.loop-len.self.rest.now ≡ Some (c.in-Some.field-0-0, c.in-Some.len) = cc (c.in_ok-len.ensures.value, c.in-Some.is, c.as_bytes.ensures.value) in
    c.loop-len.invariant
    ∙ gap_on c.loop-len.self.place c.loop-len.self.rest.now c.in-Some.field-0-0 c.in-Some.len (sym c.begins_gap.ensures ∙ c.loop-len-test.true) e
    ∙ ap (λ (q : Place). parse_gap q (drop c.in-Some.len c.loop-len.self.rest.now)) (sym c.skip.ensures.place)
    ∙ ap (λ (t : Text). parse_gap c.skip.new.self.place t) (sym c.skip.ensures.rest)

pub returns : goal.returns
returns c = c.loop-len.invariant ∙ gap_end c.loop-len.self.place c.loop-len.self.rest.now (sym c.begins_gap.ensures ∙ c.loop-len-test.false)
