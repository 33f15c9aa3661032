use Rattle.std.proofs.Common.{◌≡◌, drop}
use Rattle.std.specs.List.{list_all}
use Rattle.ng_semantics.specs.First.{is_tag_byte}
use Rattle.ng_unbuilt.proofs.tags.are_tag_bytes.Given as goal

abbrev pub invariant-loop-byte : goal.invariant-loop-byte
invariant-loop-byte l = list_all is_tag_byte (drop l.byte-index l.bytes) ≡ list_all is_tag_byte l.bytes
