use Rattle.std.proofs.Common.{◌≡◌, take}
use Rattle.ng_hosts.specs.Hosts.{seen_attrs}
use Rattle.ng_hosts.proofs.hosts.seen_attrs.Given as goal

abbrev pub invariant-loop-attr : goal.invariant-loop-attr
invariant-loop-attr l = l.seen.items ≡ seen_attrs (take l.attr-index l.attrs)
