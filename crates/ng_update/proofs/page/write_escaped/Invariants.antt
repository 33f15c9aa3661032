use Rattle.std.proofs.Common.{◌≡◌, ◌++◌, take}
use Rattle.ng_semantics.specs.Html.{escaped}
use Rattle.ng_update.proofs.page.write_escaped.Given as goal

abbrev pub invariant-loop-byte : goal.invariant-loop-byte
invariant-loop-byte l = l.out.items ≡ l.initial.out.items ++ escaped (take l.byte-index l.text)
