use Rattle.std.proofs.Common.{◌≡◌, true, Some, None, sym, ◌∙◌, subst}
use Rattle.std.specs.Str.{IsUtf8}
use Rattle.ng_tokens.specs.Scan.{piece}
use Rattle.ng_declare.proofs.EndSteps.{turn_stuck, turn_ended, turn_gap, turn_token}
use Rattle.ng_declare.proofs.ends.next_turn.Goals as goal

pub returns-in_default : goal.returns-in_default
returns-in_default c =
    let e : piece true c.args.rest.now ≡ None = cc (c.in_ok-kind.ensures.value, c.in_default.is, c.as_bytes.ensures.value) in
    turn_stuck c.args.ending c.args.depth c.args.rest.now e

pub returns-in_default-kind : goal.returns-in_default-kind
returns-in_default-kind c =
    let e : piece true c.args.rest.now ≡ Some (None, c.in-Some.len) = cc (c.in_ok-kind.ensures.value, c.in-Some.is, c.in_default-kind.is, c.as_bytes.ensures.value) in
    turn_gap c.args.ending c.args.depth c.args.rest.now c.in-Some.len e (subst IsUtf8 c.as_bytes.ensures.value c.as_bytes.ensures.utf8)

pub returns-then-is_end : goal.returns-then-is_end
returns-then-is_end c =
    let e : piece true c.args.rest.now ≡ Some (Some c.in-Some-kind.kind, c.in-Some.len) = cc (c.in_ok-kind.ensures.value, c.in-Some.is, c.in-Some-kind.is, c.as_bytes.ensures.value) in
    turn_ended c.args.ending c.args.depth c.args.rest.now c.in-Some-kind.kind c.in-Some.len e (sym c.is_end.ensures ∙ c.if-is_end.true)

pub returns : goal.returns
returns c =
    let e : piece true c.args.rest.now ≡ Some (Some c.in-Some-kind.kind, c.in-Some.len) = cc (c.in_ok-kind.ensures.value, c.in-Some.is, c.in-Some-kind.is, c.as_bytes.ensures.value) in
    turn_token c.args.ending c.args.depth c.args.rest.now c.in-Some-kind.kind c.in-Some.len c.opened.result e (sym c.is_end.ensures ∙ c.if-is_end.false) c.opened.ensures.value c.opened.ensures.bound
    (subst IsUtf8 c.as_bytes.ensures.value c.as_bytes.ensures.utf8)
