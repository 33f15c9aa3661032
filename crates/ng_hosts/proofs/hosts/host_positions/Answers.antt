use Rattle.std.proofs.Common.{◌≡◌, ◌∙◌, sym, subst}
use Rattle.std.specs.Prelude.{IfOk}
use Rattle.ng_hosts.proofs.Found.{positions_are}
use Rattle.ng_hosts.proofs.hosts.host_positions.Goals as goal

pub returns : goal.returns
returns c =
    subst (λ ps. IfOk c.rising.result (λ found. found.items ≡ ps))
    (positions_are _ c.args.tag.now c.args.attrs.now c.as_slice.result.now c.in_ok-found.found (sym c.is_reserved.ensures ∙ c.if-is_reserved.false) (c.as_slice.ensures.value ∙ c.in_ok-seen.ensures) c.rising.ensures.ordered c.in_ok-found.ensures)
    c.rising.ensures.items
