-- From the tokens to the text.
use Rattle.std.proofs.Common.{◌≡◌, List, [], sym, ◌∙◌, subst}
use Rattle.std.specs.Prelude.{Bool, Some, None, Result, Ok, Err, IfOk, IfErr}
use Rattle.ng_ast.specs.declared.Place.{Place}
use Rattle.ng_ast.specs.declared.Expr.{Expr}
use Rattle.ng_tokens.specs.declared.kinds.Token.{Token}
use Rattle.ng_tokens.specs.Lexis.{Text, Lexes}
use Rattle.ng_tokens.specs.Scan.{scan}
use Rattle.ng_tokens.proofs.Tokens as lex
use Rattle.ng_exprs.specs.declared.halt.Halt.{Halt}
use Rattle.ng_exprs.specs.declared.halt.Halt.TheVariants as h
use Rattle.ng_ast.specs.declared.refusals.ReadError.{ReadError}
use Rattle.ng_ast.specs.declared.refusals.ReadError.TheVariants as r
use Rattle.ng_exprs.specs.Gives.{Fails}
use Rattle.ng_exprs.specs.Parse.{whole, turns}
use Rattle.ng_exprs.specs.Grammar.{Tokens, ReadsPiped}
use Rattle.ng_exprs.specs.Limits.{Over}
use Rattle.ng_exprs.specs.Reading.{ReadsExpr, OverText, IsUnread, Refused, IsOrMemory, Halts, Answers, Tells, AnswersText}
use Rattle.ng_exprs.proofs.Public.{reads_one, no_reading, limit_over}

one_list : {a b : List Token} → Some a ≡ Some b → a ≡ b
one_list e = cc

pub fails : (ts : Tokens) (e : Halt) → Fails (whole turns 33 ts) e → Answers ts (Err e)
fails ts (h.Syntax p) f = no_reading ts f
fails ts (h.Limit p) f = limit_over ts f
fails ts h.Memory f = tt

-- a text without tokens is no expression
pub no_tokens : (c : Bool) (p : Place) (t : Text) → scan c 0 p t ≡ None → IsUnread c p t
no_tokens c p t e a (ts, lx, i) = absurd (differ (sym e ∙ lex.whole c p t ts lx))
  where
    differ : None ≡ Some ts → ⊥
    differ d = cc

pub same_tokens : (c : Bool) (p : Place) (t : Text) (ts us : List Token) → scan c 0 p t ≡ Some ts → Lexes c p t us [] → us ≡ ts
same_tokens c p t ts us e lx = one_list (sym (lex.whole c p t us lx) ∙ e)

pub text_not_over : (c : Bool) (p : Place) (t : Text) (ts : List Token) → scan c 0 p t ≡ Some ts → (Over ts → ⊥) → OverText c p t → ⊥
text_not_over c p t ts e n (us, rest, lx, begun, passes) =
    let g = lex.complete lx in
    let f = lex.prepended_front us (scan c 0 g.0 rest) ts (sym g.1 ∙ e) in
    n (us, f.0, f.1, begun, passes)

pub text_over : (c : Bool) (p : Place) (t : Text) (ts : List Token) → scan c 0 p t ≡ Some ts → Over ts → OverText c p t
text_over c p t ts e (front, more, all, begun, passes) = let g = lex.cut (lex.sound c p t ts e) front more all in (front, g.0, g.1, begun, passes)

pub text_reads : (c : Bool) (p : Place) (t : Text) (ts : List Token) → scan c 0 p t ≡ Some ts → (a : Expr) → ReadsPiped ts a → ReadsExpr c p t a
text_reads c p t ts e a i = (ts, lex.sound c p t ts e, i)

pub text_unread : (c : Bool) (p : Place) (t : Text) (ts : List Token) → scan c 0 p t ≡ Some ts → ((a : Expr) → ReadsPiped ts a → ⊥) → IsUnread c p t
text_unread c p t ts e n = λ a m. n a (subst (λ us. ReadsPiped us a) (same_tokens c p t ts m.0 e m.1) m.2)

pub text_reads_one : (c : Bool) (p : Place) (t : Text) (a b : Expr) → ReadsExpr c p t a → ReadsExpr c p t b → a ≡ b
text_reads_one c p t a b (ts, lx, i) (us, ly, j) =
    let e : us ≡ ts = one_list (sym (lex.whole c p t us ly) ∙ lex.whole c p t ts lx) in
    reads_one ts a b i (subst (λ vs. ReadsPiped vs b) e j)

-- a halt, as it is told
pub told : (N O : Type 0) (halt : Halt) (e : ReadError) → Halts N O halt → Tells halt e → Refused N O e
told N O (h.Syntax p) (r.Syntax f) k m = (m.0, m.1, k)
told N O (h.Syntax p) (r.Limit f) k m = absurd m
told N O (h.Syntax p) r.Utf8 k m = absurd m
told N O (h.Syntax p) r.Memory k m = tt
told N O (h.Limit p) (r.Limit f) k m = (m.0, m.1, k)
told N O (h.Limit p) (r.Syntax f) k m = absurd m
told N O (h.Limit p) r.Utf8 k m = absurd m
told N O (h.Limit p) r.Memory k m = tt
told N O h.Memory (r.Limit f) k m = absurd m
told N O h.Memory (r.Syntax f) k m = absurd m
told N O h.Memory r.Utf8 k m = absurd m
told N O h.Memory r.Memory k m = tt

pub refused_as : (N N' O O' : Type 0) (e : ReadError) → (N → N') → (O → O') → Refused N O e → Refused N' O' e
refused_as N N' O O' r.Utf8 f g k = k
refused_as N N' O O' (r.Syntax x) f g k = (k.0, k.1, f k.2)
refused_as N N' O O' (r.Limit x) f g k = (k.0, k.1, g k.2)
refused_as N N' O O' r.Memory f g k = tt

halted : (c : Bool) (p : Place) (t : Text) (ts : List Token) → scan c 0 p t ≡ Some ts → (halt : Halt) → Answers ts (Err halt) → Halts (IsUnread c p t) (OverText c p t) halt
halted c p t ts e (h.Syntax q) k = text_unread c p t ts e k
halted c p t ts e (h.Limit q) k = text_over c p t ts e k
halted c p t ts e h.Memory k = tt

pub answered_ok : (c : Bool) (p : Place) (t : Text) (ts : List Token) → scan c 0 p t ≡ Some ts → (a : Expr) → Answers ts (Ok a) → AnswersText c p t (Ok a)
answered_ok c p t ts e a k = (text_reads c p t ts e a k.0, text_not_over c p t ts e k.1)

pub answered_err : (c : Bool) (p : Place) (t : Text) (ts : List Token) → scan c 0 p t ≡ Some ts → (halt : Halt) (x : ReadError) → Answers ts (Err halt) → Tells halt x → AnswersText c p t (Err x)
answered_err c p t ts e halt x k m = told _ _ halt x (halted c p t ts e halt k) m

pub unscanned : (c : Bool) (p : Place) (t : Text) (x : ReadError) → Refused (scan c 0 p t ≡ None) ⊥ x → AnswersText c p t (Err x)
unscanned c p t x k = refused_as _ _ _ _ x (λ e. no_tokens c p t e) (λ f. absurd f) k

-- ---- the clauses

pub reads_clause : (c : Bool) (p : Place) (t : Text) (o : Result Expr ReadError) → AnswersText c p t o → IfOk o (λ a. ReadsExpr c p t a × (OverText c p t → ⊥))
reads_clause c p t (Ok a) k = k
reads_clause c p t (Err e) k = tt

pub refused_clause : (c : Bool) (p : Place) (t : Text) (o : Result Expr ReadError) → AnswersText c p t o → IfErr o (Refused (IsUnread c p t) (OverText c p t))
refused_clause c p t (Ok a) k = tt
refused_clause c p t (Err e) k = k

-- a text with a reading within the limits is read
pub exact_clause : (c : Bool) (p : Place) (t : Text) (o : Result Expr ReadError) → AnswersText c p t o → (a : Expr) → ReadsExpr c p t a → (OverText c p t → ⊥) → IsOrMemory a o
exact_clause c p t (Ok b) k a i n = text_reads_one c p t b a k.0 i
exact_clause c p t (Err r.Utf8) k a i n = k
exact_clause c p t (Err (r.Syntax f)) k a i n = k.2 a i
exact_clause c p t (Err (r.Limit f)) k a i n = n k.2
exact_clause c p t (Err r.Memory) k a i n = tt
