use Rattle.std.proofs.Common.{refl, ◌∙◌, ap, subst, arith, reverse}
use Rattle.std.specs.List.{prefix_len}
use Rattle.std.specs.Str.{IsUtf8}
use Rattle.std.proofs.lemmas.Str.Pattern.{ends_char, strip_suffix_char}
use Rattle.ng_tokens.specs.Lexis.{is_blank}
use Rattle.ng_heads.proofs.Texts.{not_both}
use Rattle.ng_heads.proofs.Closing.{closes, closed_boundary, kept_boundary, no_brace, no_round}
use Rattle.ng_heads.proofs.ends.closed_len.Goals as goal

pub front-kept-requires : goal.front-kept-requires
front-kept-requires c =
    kept_boundary c.in_ok-inside.inside.now c.blank_end-blank.result (c.blank_end-blank.ensures.value ∙ ap (λ z. prefix_len is_blank (reverse z)) c.as_bytes.ensures.value) (subst IsUtf8 c.as_bytes.ensures.value c.as_bytes.ensures.utf8)

pub returns-in_err-inside-clause-found : goal.returns-in_err-inside-clause-found
returns-in_err-inside-clause-found c = rw c.from_residual.ensures (no_brace c.args.text.now (rw c.in_err-inside.was at (strip_suffix_char 123 c.args.text.now c.strip_suffix.result c.strip_suffix.ensures.cases (omega arith))))

pub returns-then-ends_with-clause-found : goal.returns-then-ends_with-clause-found
returns-then-ends_with-clause-found c =
    closes c.args.text.now c.in_ok-inside.inside.now c.front-kept.result.now c.blank_end-blank.result _ (rw c.in_ok-inside.was at (strip_suffix_char 123 c.args.text.now c.strip_suffix.result c.strip_suffix.ensures.cases (omega arith)))
    (c.blank_end-blank.ensures.value ∙ ap (λ z. prefix_len is_blank (reverse z)) c.as_bytes.ensures.value) refl c.front-kept.ensures ((ends_char 41 c.front-kept.result.now c.ends_with.result c.ends_with.ensures.cases (omega arith)).0 c.if-ends_with.true)

pub returns-then-ends_with-clause-boundary : goal.returns-then-ends_with-clause-boundary
returns-then-ends_with-clause-boundary c =
    closed_boundary c.args.text.now _ (closes c.args.text.now c.in_ok-inside.inside.now c.front-kept.result.now c.blank_end-blank.result _ (rw c.in_ok-inside.was at (strip_suffix_char 123 c.args.text.now c.strip_suffix.result c.strip_suffix.ensures.cases (omega arith)))
    (c.blank_end-blank.ensures.value ∙ ap (λ z. prefix_len is_blank (reverse z)) c.as_bytes.ensures.value) refl c.front-kept.ensures ((ends_char 41 c.front-kept.result.now c.ends_with.result c.ends_with.ensures.cases (omega arith)).0 c.if-ends_with.true)) c.utf8.text

pub returns-else-ends_with-clause-found : goal.returns-else-ends_with-clause-found
returns-else-ends_with-clause-found c =
    no_round c.args.text.now c.in_ok-inside.inside.now c.blank_end-blank.result _ c.front-kept.result.now (rw c.in_ok-inside.was at (strip_suffix_char 123 c.args.text.now c.strip_suffix.result c.strip_suffix.ensures.cases (omega arith)))
    (c.blank_end-blank.ensures.value ∙ ap (λ z. prefix_len is_blank (reverse z)) c.as_bytes.ensures.value) refl c.front-kept.ensures
    (λ x e. not_both c.ends_with.result ((ends_char 41 c.front-kept.result.now c.ends_with.result c.ends_with.ensures.cases (omega arith)).1 x e) c.if-ends_with.false)
