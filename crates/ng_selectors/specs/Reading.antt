-- What the reader of a text answers.
use Rattle.std.specs.Prelude.{◌≡◌, [], Result, Ok, Err}
use Rattle.ng_tokens.specs.Lexis.{Text}
use Rattle.ng_ast.specs.declared.Place.{Place}
use Rattle.ng_ast.specs.declared.Selector.{Selector}
use Rattle.ng_ast.specs.declared.refusals.Rule.TheVariants as rule
use Rattle.ng_ast.specs.declared.refusals.ReadError.{ReadError}
use Rattle.ng_ast.specs.declared.refusals.ReadError.TheVariants as error
use Rattle.ng_selectors.specs.Grammar.{ReadsSelector}

-- the text is no selector
abbrev pub IsUnread : Text → Type 0
IsUnread t = (s : Selector) → ReadsSelector t s → ⊥

-- a refusal of the grammar at this place comes only where the text is no selector
abbrev pub Refuses : Text → Place → ReadError → Type 0
Refuses t base (error.Syntax f) = (f.rule ≡ rule.Syntax) × (f.place ≡ base) × (f.name ≡ []) × IsUnread t
Refuses t base _ = Unit {0}

-- no limit is passed, and the text is UTF-8
abbrev pub IsUnlimited : ReadError → Type 0
IsUnlimited error.Utf8 = ⊥
IsUnlimited (error.Limit f) = ⊥
IsUnlimited _ = Unit {0}

-- this selector, unless memory ran out
abbrev pub IsOrMemory : Selector → Result Selector ReadError → Type 0
IsOrMemory s (Ok found) = found ≡ s
IsOrMemory s (Err error.Memory) = Unit {0}
IsOrMemory s (Err _) = ⊥
