-- A text is one part at most.
use Rattle.std.proofs.Common.{◌≡◌, ℕ, [], refl, sym, ◌∙◌, ap, subst}
use Rattle.ng_ast.specs.declared.Place.{Place}
use Rattle.ng_tokens.specs.Lexis.{Text}
use Rattle.ng_lex.specs.declared.kinds.TokenKind.{TokenKind}
use Rattle.ng_lex.specs.declared.kinds.TokenKind.TheVariants as kind
use Rattle.ng_lex.specs.declared.markup.Markup.{Markup}
use Rattle.ng_lex.specs.declared.markup.Markup.TheVariants as m
use Rattle.ng_lex.specs.Lexis.{IsWritten}
use Rattle.ng_lex.specs.Spans.{IsSpan, kind_of}
use Rattle.ng_lex.proofs.Complete.{span_is}
use Rattle.ng_lex.proofs.Written.{written_span}
use Rattle.ng_tags.proofs.Tagging.{one_start, one_end}
use Rattle.ng_tags.proofs.TokenLaws.{tagged, ended, span_starts, span_ends}
use Rattle.ng_heads.proofs.Names.{some_one}
use Rattle.ng_heads.proofs.Public.{IsRead, one_part}

-- ---- kinds

-- a token has one kind
pub one_kind : (k l : TokenKind) (a z : Text) → IsSpan k a z → IsSpan l a z → k ≡ l
one_kind k l a z h i = ap (λ (q : TokenKind × ℕ). q.0) (some_one (sym (span_is k a z h) ∙ span_is l a z i))

-- literal text is no such part
pub no_literal : (p : Place) (a : Text) (c : Markup) → IsWritten p a c → kind_of c ≡ kind.Literal → ⊥
no_literal p a (m.Literal cs) h e = h
no_literal p a (m.Heavy shape) h e = h
no_literal p a _ h e = cc

comment_is : (p : Place) (a : Text) (c : Markup) → IsWritten p a c → kind_of c ≡ kind.Comment → c ≡ m.Comment
comment_is p a (m.Literal cs) h e = absurd h
comment_is p a (m.Heavy shape) h e = absurd h
comment_is p a m.Comment h e = refl
comment_is p a _ h e = absurd cc

close_is : (p : Place) (a : Text) (c : Markup) → IsWritten p a c → kind_of c ≡ kind.Close → c ≡ m.Close
close_is p a (m.Literal cs) h e = absurd h
close_is p a (m.Heavy shape) h e = absurd h
close_is p a m.Close h e = refl
close_is p a _ h e = absurd cc

-- ---- parts

module _ (p : Place) (a : Text) where
  -- the text is a token of the part's kind
  spans : (k : TokenKind) (c : Markup) → kind_of c ≡ k → IsWritten p a c → IsSpan k a []
  spans k c e h = subst (λ l. IsSpan l a []) e (written_span p a c h [])

  by_kind : (k : TokenKind) (c d : Markup) → kind_of c ≡ k → kind_of d ≡ k → IsWritten p a c → IsWritten p a d → c ≡ d
  by_kind kind.Literal c d e f h i = absurd (no_literal p a c h e)
  by_kind kind.Interpolation c d e f h i = one_part p a c d (subst IsRead (sym e) tt) h i
  by_kind kind.Start c d e f h i = let starts = span_starts a [] (spans kind.Start c e h) in one_start p a c d (tagged p a c starts h) (tagged p a d starts i)
  by_kind kind.End c d e f h i = let ends = span_ends a [] (spans kind.End c e h) in one_end a c d (ended p a c ends h) (ended p a d ends i)
  by_kind kind.Comment c d e f h i = comment_is p a c h e ∙ sym (comment_is p a d i f)
  by_kind kind.Head c d e f h i = one_part p a c d (subst IsRead (sym e) tt) h i
  by_kind kind.Close c d e f h i = close_is p a c h e ∙ sym (close_is p a d i f)
  by_kind kind.Let c d e f h i = one_part p a c d (subst IsRead (sym e) tt) h i

  -- A text is one part at most.
  pub one_written : (c d : Markup) → IsWritten p a c → IsWritten p a d → c ≡ d
  one_written c d h i =
      let same = one_kind (kind_of d) (kind_of c) a [] (written_span p a d i []) (written_span p a c h []) in
      by_kind (kind_of c) c d refl same h i
