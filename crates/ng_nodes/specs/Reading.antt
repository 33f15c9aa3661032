-- What the reader of parts answers.
use Rattle.std.specs.Prelude.{◌≡◌, List, [], ◌∷◌, ◌++◌, Result, Ok, Err}
use Rattle.ng_ast.specs.declared.TNode.{TNode}
use Rattle.ng_lex.specs.declared.markup.Markup.{Markup}
use Rattle.ng_lex.specs.declared.markup.Part.{Part}
use Rattle.ng_nodes.specs.declared.halt.Halt.{Halt}
use Rattle.ng_nodes.specs.declared.halt.Halt.TheVariants as h
use Rattle.ng_nodes.specs.declared.builder.Builder.{Builder}
use Rattle.ng_nodes.specs.Texts.{Parts, part}
use Rattle.ng_nodes.specs.Machine.{Syntax, Limit, begin, after}
use Rattle.ng_nodes.specs.Limits.{ReadsNodes, MayBe, Over}

-- the builder has read these parts
abbrev pub HasRead : Parts → Builder → Type 0
HasRead front b = after 32 4096 begin front ≡ Ok b.state

-- some front of the parts is begun and passes a limit
abbrev pub OverParts : Parts → Type 0
OverParts ts = Over 32 4096 ts

-- parts that may be those: the same ones, but for heavy ones, in whose place stand parts of their shapes
abbrev pub MayBeParts : Parts → Parts → Type 0
MayBeParts [] [] = Unit {0}
MayBeParts (t ∷ ts) (u ∷ us) = MayBe t.markup u.markup × (u.place ≡ t.place) × MayBeParts ts us
MayBeParts _ _ = ⊥

-- the parts are no nodes, whatever stands in the place of heavy ones
abbrev pub AreNoNodes : Parts → Type 0
AreNoNodes ts = (us : Parts) → MayBeParts ts us → (ns : List TNode) → ReadsNodes us ns → ⊥

-- a part can't stand after these, whatever comes after it
abbrev pub CannotStand : Parts → Part → Type 0
CannotStand front t = (c : Markup) → MayBe t.markup c → (more : Parts) (ns : List TNode) → ReadsNodes (front ++ part c t.place ∷ more) ns → ⊥

-- why a reader stops: Syntax only where the first holds, Limit only where the second does
abbrev pub Halts : Type 0 → Type 0 → Halt → Type 0
Halts unread over (h.Syntax p) = unread
Halts unread over (h.Limit p) = over
Halts unread over h.Memory = Unit {0}

-- these nodes, unless memory ran out
abbrev pub IsOrMemory : List TNode → Result (List TNode) Halt → Type 0
IsOrMemory ns (Ok ms) = ms ≡ ns
IsOrMemory ns (Err h.Memory) = Unit {0}
IsOrMemory ns (Err _) = ⊥
