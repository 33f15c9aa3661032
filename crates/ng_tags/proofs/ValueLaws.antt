-- Values: an attribute says one thing at most.
use Rattle.std.proofs.Common.{◌≡◌, sym, ◌∙◌, ap, subst}
use Rattle.std.specs.Prelude.{true, false}
use Rattle.ng_ast.specs.declared.Place.{Place}
use Rattle.ng_ast.specs.declared.Expr.{Expr}
use Rattle.ng_ast.specs.declared.AttrForm.{AttrForm}
use Rattle.ng_ast.specs.declared.AttrForm.TheVariants as form
use Rattle.ng_tokens.specs.Lexis.{Text}
use Rattle.ng_tokens.proofs.Tokens.{one_list}
use Rattle.ng_exprs.specs.Reading.{ReadsExpr}
use Rattle.ng_exprs.specs.Statements.{ReadsListener}
use Rattle.ng_exprs.specs.Grammar.{Tokens}
use Rattle.ng_exprs.specs.Phrases.{ReadsPhrase}
use Rattle.ng_exprs.proofs.Whole.{text_reads_one}
use Rattle.ng_exprs.proofs.LinesPublic.{listener_one}
use Rattle.ng_lex.specs.declared.attributes.NameForm.{NameForm}
use Rattle.ng_lex.specs.declared.attributes.NameForm.TheVariants as f
use Rattle.ng_lex.specs.Letters.{Letters, bytes}
use Rattle.ng_lex.specs.Words.{opening}
use Rattle.ng_lex.specs.Values.{ReadsOutlet, IsPlain, holds, Says}
use Rattle.ng_attributes.proofs.Texts.{not_both}
use Rattle.ng_attributes.proofs.NameLaws.{one_name}
use Rattle.ng_attributes.proofs.PieceLaws.{one_pieces}
use Rattle.ng_tags.proofs.OutletLaws.{one_outlet}

-- ---- plain values

holds_not : (t : Text) → holds opening t ≡ true → holds opening t ≡ false → ⊥
holds_not t e g = not_both (holds opening t) e g

plain_one : (ls : Letters) (a b : AttrForm) → IsPlain ls a → IsPlain ls b → a ≡ b
plain_one ls (form.Static t) (form.Static u) h i = ap form.Static (h.1 ∙ sym i.1)
plain_one ls (form.Static t) (form.Joined ps) h i = absurd (holds_not (bytes ls) i.0 h.0)
plain_one ls (form.Static t) _ h i = absurd i
plain_one ls (form.Joined ps) (form.Joined qs) h i = ap form.Joined (one_pieces h.1 qs i.1)
plain_one ls (form.Joined ps) (form.Static u) h i = absurd (holds_not (bytes ls) h.0 i.0)
plain_one ls (form.Joined ps) _ h i = absurd i
plain_one ls _ b h i = absurd h

-- ---- all values

expr_one : (make : Expr → AttrForm) (p : Place) (t : Text) (a b : AttrForm) → ((e : Expr) × ReadsExpr false p t e × (a ≡ make e)) → ((e : Expr) × ReadsExpr false p t e × (b ≡ make e)) → a ≡ b
expr_one make p t a b h i = h.2 ∙ ap make (text_reads_one false p t h.0 i.0 h.1 i.1) ∙ sym i.2

-- a text is one phrase at most, where tokens are
one_phrase : {A : Type 0} (R : Tokens → A → Type 0) → ((ts : Tokens) (a b : A) → R ts a → R ts b → a ≡ b) → (p : Place) (t : Text) (a b : A) → ReadsPhrase false R p t a → ReadsPhrase false R p t b → a ≡ b
one_phrase R one p t a b (ts, lx, i) (us, ly, j) = one ts a b i (subst (λ vs. R vs b) (sym (one_list false p t ts us lx ly)) j)

pub says_one : (n : NameForm) (p : Place) (ls : Letters) (a b : AttrForm) → Says n p ls a → Says n p ls b → a ≡ b
says_one (f.Plain n) p ls a b h i = plain_one ls a b h i
says_one (f.Property n) p ls a b h i = expr_one form.Property p (bytes ls) a b h i
says_one (f.Attribute n) p ls a b h i = expr_one form.Attribute p (bytes ls) a b h i
says_one (f.Class n) p ls a b h i = expr_one form.Class p (bytes ls) a b h i
says_one (f.Style n u) p ls a b h i = expr_one (form.Style u) p (bytes ls) a b h i
says_one (f.Event n) p ls a b h i = h.2 ∙ ap form.Listener (one_phrase (ReadsListener false) listener_one p (bytes ls) h.0 i.0 h.1 i.1) ∙ sym i.2
says_one (f.Both n) p ls a b h i = h.2 ∙ ap form.Both (one_name (bytes ls) h.0 i.0 h.1 i.1) ∙ sym i.2
says_one (f.Reference n) p ls a b h i = absurd h
says_one (f.Variable n) p ls a b h i = h ∙ sym i
says_one f.Outlet p ls a b h i = h.2 ∙ ap form.Outlet (one_phrase ReadsOutlet one_outlet p (bytes ls) h.0 i.0 h.1 i.1) ∙ sym i.2
says_one f.Context p ls a b h i = expr_one form.Context p (bytes ls) a b h i
