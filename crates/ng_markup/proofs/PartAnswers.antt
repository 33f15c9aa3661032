-- What the reader of a token answers, from what the readers of its kinds do.
use Rattle.std.proofs.Common.{◌≡◌, [], refl, sym, ◌∙◌, ap, subst, inl, inr}
use Rattle.std.specs.Prelude.{Result, Ok, Err, IfOk, IfErr, MatchResult, IsErrAnd}
use Rattle.std.specs.declared.alloc.AllocError.{AllocError}
use Rattle.ng_ast.specs.declared.Place.{Place}
use Rattle.ng_tokens.specs.Lexis.{Text}
use Rattle.ng_lex.specs.declared.kinds.TokenKind.{TokenKind}
use Rattle.ng_lex.specs.declared.kinds.TokenKind.TheVariants as kind
use Rattle.ng_lex.specs.declared.markup.Markup.{Markup}
use Rattle.ng_lex.specs.declared.markup.Markup.TheVariants as m
use Rattle.ng_lex.specs.Letters.{Letters, letters, Decodes}
use Rattle.ng_lex.specs.Lexis.{IsWritten}
use Rattle.ng_lex.specs.Spans.{IsSpan, kind_of}
use Rattle.ng_lex.proofs.Written.{written_span}
use Rattle.ng_heads.specs.declared.halt.Halt.{Halt}
use Rattle.ng_heads.specs.declared.halt.Halt.TheVariants as h
use Rattle.ng_heads.specs.Answers as heads
use Rattle.ng_tags.specs.declared.halt.Halt.{Halt as TagHalt}
use Rattle.ng_tags.specs.declared.halt.Halt.TheVariants as t
use Rattle.ng_tags.specs.Tokens as tags
use Rattle.ng_markup.specs.Parts.{IsNoPart, Says, AnswersPart}
use Rattle.ng_markup.specs.Halts.{halt_of}
use Rattle.ng_markup.proofs.WrittenLaws.{one_kind, no_literal}
use Rattle.ng_markup.proofs.PartLaws.{written_calm}
use Rattle.ng_markup.proofs.Plain.{literal_calm}

-- ---- literal text

literal_says : (p : Place) (a z : Text) (ls : Letters) (c : Markup) → Decodes p a ls → c ≡ m.Literal (letters ls) → IsSpan kind.Literal a z → Says kind.Literal p a z c
literal_says p a z ls c decodes e span = inr (ap kind_of e, inl (ls, decodes, e), literal_calm p a z span)

pub literal_answers : (p : Place) (a : Text) (ls : Letters) (r : Result Markup AllocError) (o : Result Markup Halt) → Decodes p a ls → IfOk r (λ c. c ≡ m.Literal (letters ls)) → MatchResult r (λ c. o ≡ Ok c) (λ e. IsErrAnd o (λ d. d ≡ h.Memory)) → AnswersPart kind.Literal p a o
literal_answers p a ls (Ok c) o decodes says e = subst (AnswersPart kind.Literal p a) (sym e) (λ z span. literal_says p a z ls c decodes says span)
literal_answers p a ls (Err r) (Err d) decodes says e = subst (λ v. AnswersPart kind.Literal p a (Err v)) (sym e) tt
literal_answers p a ls (Err r) (Ok c) decodes says e = absurd e

pub literal_refused : (p : Place) (a : Text) → ((ls : Letters) → Decodes p a ls → ⊥) → IsNoPart kind.Literal p a
literal_refused p a none c e (inl (ls, decodes, is)) = none ls decodes
literal_refused p a none c e (inr w) = no_literal p a c w e

-- ---- other kinds

pub of_kind : (k l : TokenKind) (p : Place) (a : Text) (o : Result Markup Halt) → l ≡ k → AnswersPart k p a o → AnswersPart l p a o
of_kind k l p a o e answers = subst (λ v. AnswersPart v p a o) (sym e) answers

-- a token of this kind is no literal text
abbrev pub IsMarked : TokenKind → Type 0
IsMarked k = kind.Literal ≡ k → ⊥

unread : (k : TokenKind) (p : Place) (a : Text) → IsMarked k → ((c : Markup) → kind_of c ≡ k → IsWritten p a c → ⊥) → IsNoPart k p a
unread k p a marked none c e (inl (ls, decodes, is)) = marked (sym (ap kind_of is) ∙ e)
unread k p a marked none c e (inr w) = none c e w

head_says : (k : TokenKind) (p : Place) (a z : Text) (c : Markup) → heads.Says k p a c → Says k p a z c
head_says k p a z (m.Heavy shape) says = inl (shape, refl, says.1 z)
head_says k p a z _ says = inr (says.0, inr says.1, says.2 z)

-- heads, `@let` and interpolations
pub head_answers : (k : TokenKind) (p : Place) (a : Text) (r : Result Markup Halt) → IsMarked k → IfOk r (heads.Says k p a) → IfErr r (heads.Refuses k p a) → AnswersPart k p a r
head_answers k p a (Ok c) marked says none = λ z span. head_says k p a z c says
head_answers k p a (Err (h.Syntax q)) marked says none = unread k p a marked none
head_answers k p a (Err h.Memory) marked says none = tt

tag_says : (k : TokenKind) (p : Place) (a z : Text) (c : Markup) → IsSpan k a z → tags.ReadsToken p a c → Says k p a z c
tag_says k p a z (m.Heavy shape) span reads = inl (shape, refl, reads z)
tag_says k p a z c span reads = inr (one_kind (kind_of c) k a z (written_span p a c reads.0 z) span, inr reads.0, reads.1 z)

-- the answer for a tag, with its error as the readers of heads have it
abbrev pub IsTold : Result Markup TagHalt → Result Markup Halt → Type 0
IsTold r o = MatchResult r (λ c. o ≡ Ok c) (λ e. IsErrAnd o (λ d. d ≡ halt_of e))

tag_unread : (k : TokenKind) (p : Place) (a : Text) → IsMarked k → tags.IsNoPart k p a → IsNoPart k p a
tag_unread k p a marked none = unread k p a marked (λ c e w. none [] (subst (λ l. IsSpan l a []) e (written_span p a c w [])) c w)

-- tags
pub tag_answers : (k : TokenKind) (p : Place) (a : Text) (r : Result Markup TagHalt) (o : Result Markup Halt) → IsMarked k → IfOk r (tags.ReadsToken p a) → IfErr r (tags.RefusesToken k p a) → IsTold r o → AnswersPart k p a o
tag_answers k p a (Ok c) o marked reads none e = subst (AnswersPart k p a) (sym e) (λ z span. tag_says k p a z c span reads)
tag_answers k p a (Err (t.Syntax q)) (Err d) marked reads none e = subst (λ v. AnswersPart k p a (Err v)) (sym e) (tag_unread k p a marked none)
tag_answers k p a (Err t.Memory) (Err d) marked reads none e = subst (λ v. AnswersPart k p a (Err v)) (sym e) tt
tag_answers k p a (Err d) (Ok c) marked reads none e = absurd e

-- comments
pub comment_answers : (p : Place) (a : Text) → AnswersPart kind.Comment p a (Ok m.Comment)
comment_answers p a z span = inr (refl, inr span, written_calm p a z m.Comment span refl)

-- closing braces
pub close_answers : (p : Place) (a : Text) → AnswersPart kind.Close p a (Ok m.Close)
close_answers p a z span = inr (refl, inr span, written_calm p a z m.Close span refl)
