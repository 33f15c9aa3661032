-- How a part begins says in which shape one may be heavy there.
use Rattle.std.proofs.Common.{◌≡◌, [], ◌∷◌, ◌++◌, codes, refl, sym, ◌∙◌, ap, subst, append_assoc}
use Rattle.std.specs.Prelude.{if◌then◌else◌, Option, Some, None}
use Rattle.ng_ast.specs.declared.Place.{Place}
use Rattle.ng_tokens.specs.Lexis.{Text, all, begins}
use Rattle.ng_lex.specs.declared.markup.Markup.{Markup}
use Rattle.ng_lex.specs.declared.markup.Markup.TheVariants as m
use Rattle.ng_lex.specs.declared.markup.Shape.{Shape}
use Rattle.ng_lex.specs.declared.markup.Shape.TheVariants as s
use Rattle.ng_lex.specs.Words.{opening}
use Rattle.ng_lex.specs.Attributes.{is_lower, in_tag, IsTag}
use Rattle.ng_lex.specs.Heads.{Bracketed, IsElseIf}
use Rattle.ng_lex.specs.Lexis.{IsWritten}
use Rattle.ng_lex.specs.Heavy.{IsHeavy}
use Rattle.ng_heads.proofs.Texts.{both_true, no_true}
use Rattle.ng_heads.proofs.Names.{some_one}
use Rattle.ng_heads.proofs.PartFronts.{else_apart}
use Rattle.ng_tags.proofs.TokenLaws.{starts}
use Rattle.ng_nodes.specs.Limits.{HasShape}
use Rattle.ng_markup.specs.Parts.{IsCalm}

-- ---- how a part begins

-- the shape that may be heavy where a text begins so
abbrev pub front_of : Text → Option Shape
front_of t = if begins opening t then Some s.Interpolation else (if starts t then Some s.Tag else (if begins (codes "@if") t then Some s.If else (
    if begins (codes "@else") t then Some s.ElseIf else (if begins (codes "@for") t then Some s.For else (if begins (codes "@switch") t then Some s.Switch else (
    if begins (codes "@case") t then Some s.Case else (if begins (codes "@let") t then Some s.Let else None)))))))

-- the same of a part: an `@else` begins like an `@else if`
abbrev pub begun_shape : Markup → Option Shape
begun_shape (m.Interpolation e) = Some s.Interpolation
begun_shape (m.Single tag attrs) = Some s.Tag
begun_shape (m.Start tag attrs) = Some s.Tag
begun_shape (m.If e n) = Some s.If
begun_shape (m.ElseIf e n) = Some s.ElseIf
begun_shape m.Else = Some s.ElseIf
begun_shape (m.For head) = Some s.For
begun_shape (m.Switch e) = Some s.Switch
begun_shape (m.Case e) = Some s.Case
begun_shape (m.Let n e) = Some s.Let
begun_shape _ = None

lower_front : (tag x : Text) → IsTag tag → front_of (60 ∷ (tag ++ x)) ≡ Some s.Tag
lower_front [] x h = absurd (no_true h.0)
lower_front (b ∷ tag) x h = rw (both_true (is_lower b) (all in_tag tag) h.0).0 refl

else_front : (word y : Text) → IsElseIf word → front_of (word ++ y) ≡ Some s.ElseIf
else_front word y (w, gap, is) = ap (λ k. front_of (k ++ y)) is

pub heavy_front : (p : Place) (t : Text) (shape : Shape) → IsHeavy p t shape → front_of t ≡ Some shape
heavy_front p t s.Interpolation (x, r, is, first, over) = ap front_of is
heavy_front p t s.Tag (tag, x, is, h, over) = ap front_of is ∙ lower_front tag x h
heavy_front p t s.If (w, x, is, blank, over) = ap front_of is
heavy_front p t s.ElseIf (word, h, (w, x, is, blank, over)) = ap front_of is ∙ else_front word (w ++ (40 ∷ x)) h
heavy_front p t s.For (w, x, is, blank, over) = ap front_of is
heavy_front p t s.Switch (w, x, is, blank, over) = ap front_of is
heavy_front p t s.Case (w, x, is, blank, over) = ap front_of is
heavy_front p t s.Let (x, y, n, is, (w, v, same, gap, blank, name), over) = ap front_of is ∙ ap (λ k. front_of (k ++ y)) same

bracket_front : (shape : Shape) (word a : Text) (p q : Place) (x : Text) → Bracketed p word a q x → ((y : Text) → front_of (word ++ y) ≡ Some shape) → (z : Text) → front_of (a ++ z) ≡ Some shape
bracket_front shape word a p q x b h z = ap (λ k. front_of (k ++ z)) b.is ∙ ap front_of (append_assoc word _ z) ∙ h _

-- A part begins like its shape, whatever comes after it.
pub written_front : (p : Place) (a : Text) (c : Markup) → IsWritten p a c → (z : Text) → front_of (a ++ z) ≡ begun_shape c
written_front p a (m.Literal cs) h z = absurd h
written_front p a (m.Interpolation e) (t, is, first, reads) z = ap (λ k. front_of (k ++ z)) is
written_front p a m.Comment (t, is, first) z = ap (λ k. front_of (k ++ z)) is
written_front p a (m.Single tag attrs) (x, closed, is, single, reads) z = ap (λ k. front_of (k ++ z)) is ∙ ap (λ k. front_of (60 ∷ k)) (append_assoc tag x z) ∙ lower_front tag (x ++ z) single.0
written_front p a (m.Start tag attrs) (x, is, paired, reads) z = ap (λ k. front_of (k ++ z)) is ∙ ap (λ k. front_of (60 ∷ k)) (append_assoc tag x z) ∙ lower_front tag (x ++ z) paired.0
written_front p a (m.End tag) (w, is, paired, blank) z = ap (λ k. front_of (k ++ z)) is
written_front p a (m.If e n) (q, x, b, reads) z = bracket_front s.If (codes "@if") a p q x b (λ y. refl) z
written_front p a (m.ElseIf e n) (word, q, x, is, b, reads) z = bracket_front s.ElseIf word a p q x b (λ y. else_front word y is) z
written_front p a m.Else (w, blank, is) z = ap (λ k. front_of (k ++ z)) is
written_front p a (m.For head) (q, x, b, reads) z = bracket_front s.For (codes "@for") a p q x b (λ y. refl) z
written_front p a m.Empty (w, blank, is) z = ap (λ k. front_of (k ++ z)) is
written_front p a (m.Switch e) (q, x, b, reads) z = bracket_front s.Switch (codes "@switch") a p q x b (λ y. refl) z
written_front p a (m.Case e) (q, x, b, reads) z = bracket_front s.Case (codes "@case") a p q x b (λ y. refl) z
written_front p a m.Default (w, blank, is) z = ap (λ k. front_of (k ++ z)) is
written_front p a (m.Let n e) (x, t, is, (w, v, same, gap, blank, name), reads) z = ap (λ k. front_of (k ++ z)) (is ∙ ap (λ k. k ++ (t ++ (59 ∷ []))) same)
written_front p a m.Close h z = ap (λ k. front_of (k ++ z)) h
written_front p a (m.Heavy shape) h z = absurd h

-- ---- what is heavy there

shaped : (p : Place) (a z : Text) (shape : Shape) (c : Markup) → IsWritten p a c → IsHeavy p (a ++ z) shape → begun_shape c ≡ Some shape
shaped p a z shape c h i = sym (written_front p a c h z) ∙ heavy_front p (a ++ z) shape i

no_shape : {shape : Shape} → None ≡ Some shape → ⊥
no_shape e = cc

-- Nothing is heavy at a part that holds no expression, and is no `@else`.
pub written_calm : (p : Place) (a z : Text) (c : Markup) → IsWritten p a c → begun_shape c ≡ None → IsCalm p (a ++ z)
written_calm p a z c h none = λ shape i. no_shape (sym none ∙ shaped p a z shape c h i)

-- an `@else` is no `@else if`
else_calm : (p : Place) (a z : Text) (shape : Shape) → IsWritten p a m.Else → IsHeavy p (a ++ z) shape → s.ElseIf ≡ shape → ⊥
else_calm p a z s.ElseIf h (word, is, (w, x, same, blank, over)) e = else_apart a word (w ++ (40 ∷ x)) h is z same
else_calm p a z _ h i e = cc

-- What is heavy at a part that is read otherwise has its shape.
pub heavy_shape : (p : Place) (a z : Text) (shape : Shape) (c : Markup) → IsWritten p a c → IsHeavy p (a ++ z) shape → HasShape shape c
heavy_shape p a z shape c h i = by c h (shaped p a z shape c h i)
  where
    by : (c : Markup) → IsWritten p a c → begun_shape c ≡ Some shape → HasShape shape c
    by (m.Interpolation e) h f = subst (λ k. HasShape k (m.Interpolation e)) (some_one f) tt
    by (m.Single tag attrs) h f = subst (λ k. HasShape k (m.Single tag attrs)) (some_one f) tt
    by (m.Start tag attrs) h f = subst (λ k. HasShape k (m.Start tag attrs)) (some_one f) tt
    by (m.If e n) h f = subst (λ k. HasShape k (m.If e n)) (some_one f) tt
    by (m.ElseIf e n) h f = subst (λ k. HasShape k (m.ElseIf e n)) (some_one f) tt
    by (m.For head) h f = subst (λ k. HasShape k (m.For head)) (some_one f) tt
    by (m.Switch e) h f = subst (λ k. HasShape k (m.Switch e)) (some_one f) tt
    by (m.Case e) h f = subst (λ k. HasShape k (m.Case e)) (some_one f) tt
    by (m.Let n e) h f = subst (λ k. HasShape k (m.Let n e)) (some_one f) tt
    by m.Else h f = absurd (else_calm p a z shape h i (some_one f))
    by _ h f = absurd (no_shape f)
