use Rattle.std.proofs.Common.{sym, ◌∙◌, ap}
use Rattle.ng_lex.specs.Words.{is_name}
use Rattle.ng_attributes.proofs.Texts.{not_both}
use Rattle.ng_attributes.proofs.WordLaws.{empty_is, some_is}
use Rattle.ng_attributes.proofs.NameLaws.{name_some, name_none}
use Rattle.ng_attributes.proofs.expressions.one_name.Goals as goal

pub returns-then-not-is_empty : goal.returns-then-not-is_empty
returns-then-not-is_empty c = name_none _ _ _ _ _ _ _ c.split.ensures c.split-2.ensures c.split-3.ensures (λ e h. some_is _ (sym c.is_empty.ensures ∙ c.if-not-is_empty.true) e)

pub returns-then-is_name : goal.returns-then-is_name
returns-then-is_name c =
    name_some _ _ _ _ _ _ _ c.split.ensures c.split-2.ensures c.split-3.ensures (empty_is _ (sym c.is_empty.ensures ∙ c.if-not-is_empty.false)) (ap is_name (sym c.as_bytes.ensures.value) ∙ sym c.is_name.ensures ∙ c.if-is_name.true)

pub returns-else-is_name : goal.returns-else-is_name
returns-else-is_name c =
    name_none _ _ _ _ _ _ _ c.split.ensures c.split-2.ensures c.split-3.ensures (λ e h. not_both (is_name c.split-2.result.0.now) h (ap is_name (sym c.as_bytes.ensures.value) ∙ sym c.is_name.ensures ∙ c.if-is_name.false))
