-- Why a tag isn't read, as the readers of heads say it.
use Rattle.ng_heads.specs.declared.halt.Halt.{Halt}
use Rattle.ng_heads.specs.declared.halt.Halt.TheVariants as h
use Rattle.ng_tags.specs.declared.halt.Halt.{Halt as TagHalt}
use Rattle.ng_tags.specs.declared.halt.Halt.TheVariants as t

abbrev pub halt_of : TagHalt → Halt
halt_of (t.Syntax p) = h.Syntax p
halt_of t.Memory = h.Memory
