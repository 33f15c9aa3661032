-- The words of a call, and why they are refused.
use Rattle.std.specs.Prelude.{◌≡◌, List, map, None, String, string_bytes}
use Rattle.std.specs.declared.alloc.Global.{Global}
use Rattle.clap.specs.Words.{Text}
use Rattle.ng_words.specs.declared.reading.Refused.{Refused}
use Rattle.ng_words.specs.declared.reading.Refused.TheVariants as refused
use Rattle.ng_words.specs.Orders.{asked}

-- the words as texts
abbrev pub texts : List (String Global) → List Text
texts = map string_bytes

-- the words are refused, or memory ran out
abbrev pub IsRefusedOrMemory : List Text → Refused → Type 0
IsRefusedOrMemory words refused.Words = asked words ≡ None
IsRefusedOrMemory words refused.Memory = Unit {0}
