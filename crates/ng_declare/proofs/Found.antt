-- A part of a file, as the reader of its text finds it.
use Rattle.std.proofs.Common.{◌≡◌, ℕ, ◌<◌, ◌+◌, true, false, List, [], ◌∷◌, ◌++◌, length, take, drop, get_or, refl, sym, ◌∙◌, ap, subst, arith, length-drop}
use Rattle.std.specs.Prelude.{Option, Some, None, Ok, Err}
use Rattle.std.specs.Option.{option_and_then}
use Rattle.std.specs.Str.{IsCharBoundary}
use Rattle.std.proofs.lemmas.Str.{IsCharBoundary-before_ascii}
use Rattle.std.proofs.lemmas.List.{take-append-drop, append_cancel_right, append-nil, get_or-drop}
use Rattle.std.proofs.Math.Seq.{take-append_seam}
use Rattle.ng_ast.specs.declared.Place.{Place}
use Rattle.ng_ast.specs.declared.Expr.{Expr}
use Rattle.ng_ast.specs.declared.Stmt.{Stmt}
use Rattle.ng_ast.specs.declared.refusals.ReadError.{ReadError}
use Rattle.ng_ast.specs.declared.refusals.ReadError.TheVariants as r
use Rattle.ng_tokens.specs.declared.kinds.Sign.TheVariants as s
use Rattle.ng_tokens.specs.declared.kinds.Token.{Token}
use Rattle.ng_tokens.specs.Lexis.{Text, Lexes, kind_of, steps}
use Rattle.ng_tokens.specs.Scan.{scan}
use Rattle.ng_tokens.proofs.Pieces.{some_same}
use Rattle.ng_tokens.proofs.Tokens.{whole, complete, prepended_front}
use Rattle.ng_exprs.specs.Grammar.{ReadsPiped}
use Rattle.ng_exprs.specs.Reading.{ReadsExpr, OverText, IsUnread, Refused}
use Rattle.ng_exprs.specs.Bodies.{ReadsBody, OverBody, NoBody}
use Rattle.ng_exprs.proofs.Whole.{text_over}
use Rattle.ng_phrases.specs.Parser.{Stop, Outcome}
use Rattle.ng_phrases.specs.Parse.{parse}
use Rattle.ng_declare.specs.declared.halt.Halt.{Halt}
use Rattle.ng_declare.specs.declared.halt.Part.TheVariants as part_of
use Rattle.ng_declare.specs.Ends.{end_of}
use Rattle.ng_declare.specs.EndsLaws.{shorter, lexed}
use Rattle.ng_declare.specs.Parts.{NoPart, OverPart, found_at, part_by, parse_part}
use Rattle.ng_declare.specs.PartsLaws.{Part, alone, part_ends}
use Rattle.ng_declare.specs.ExpressionsLaws.{expression}
use Rattle.ng_declare.specs.BodiesLaws.{statements_part}
use Rattle.ng_declare.specs.Readers.{ask}
use Rattle.ng_declare.specs.Leaves.{expression_here, body_here}
use Rattle.ng_declare.specs.Gives.{read, Halts, Fails}

-- ---- where a part ends

ascii_boundary : (t : Text) (n b : ℕ) (w : Text) → drop n t ≡ b ∷ w → b < 128 → IsCharBoundary t n
ascii_boundary t n b w e small =
    let inside : n < length t = omega (arith, ap length e, length-drop n t) in
    let zero : n + 0 ≡ n = omega arith in
    let first : get_or t n 0 ≡ b = ap (λ k. get_or t k 0) (sym zero) ∙ sym (get_or-drop n t 0 0) ∙ ap (λ u. get_or u 0 0) e in
    IsCharBoundary-before_ascii t n inside (omega (arith, first, small))

-- the text may be cut before the `;`, and before the `}`
pub semicolon_boundary : (t : Text) (n : ℕ) → end_of s.Semicolon t ≡ Some n → IsCharBoundary t n
semicolon_boundary t n e = let c = (lexed s.Semicolon t n e).1 in ascii_boundary t n 59 c.0 c.1 (omega arith)

pub brace_boundary : (t : Text) (n : ℕ) → end_of s.CloseBrace t ≡ Some n → IsCharBoundary t n
brace_boundary t n e = let c = (lexed s.CloseBrace t n e).1 in ascii_boundary t n 125 c.0 c.1 (omega arith)

-- ---- tokens

alone_lexes : (p : Place) (y z : Text) (ts : List Token) → Lexes true p (y ++ z) ts z → Lexes true p y ts []
alone_lexes p y z ts l =
    let i = shorter l in
    let same : y ≡ i.0 = append_cancel_right y i.0 z i.1 in
    subst (λ (w : Text). Lexes true p w ts []) (append-nil i.0 ∙ sym same) (i.2 [] z refl)

-- what begins with some tokens
abbrev Begun : Place → Text → List Token → Type 0
Begun p t us = (w : Text) × Lexes true p t us w

no_tokens : (us more : List Token) → [] ≡ us ++ more → us ≡ []
no_tokens [] more e = refl
no_tokens (u ∷ us) more e = absurd (cc)

-- the first of some tokens
first_tokens : {p : Place} {t z : Text} {ts : List Token} → Lexes true p t ts z → (us more : List Token) → ts ≡ us ++ more → Begun p t us
first_tokens {p = p} {z = z} Lexes.here us more e = (z, subst (λ (v : List Token). Lexes true p z v z) (sym (no_tokens us more e)) Lexes.here)
first_tokens (Lexes.blank d l) us more e = let i = first_tokens l us more e in (i.0, Lexes.blank d i.1)
first_tokens (Lexes.comment a z o c l) us more e = let i = first_tokens l us more e in (i.0, Lexes.comment a z o c i.1)
first_tokens {p = p} (Lexes.next {ts = ts} a z form w small long o l) us more e = by (λ vs f. first_tokens l vs more f) us e
  where
    by : ((vs : List Token) → ts ≡ vs ++ more → Begun (steps p a) z vs) → (us : List Token) → record { kind = kind_of form a; place = p } ∷ ts ≡ us ++ more → Begun p (a ++ z) us
    by go [] e = (a ++ z, Lexes.here)
    by go (u ∷ us) e =
        let tail : ts ≡ us ++ more = cc in
        let head : record { kind = kind_of form a; place = p } ≡ u = cc in
        let i = go us tail in
        (i.0, subst (λ (k : Token). Lexes true p (a ++ z) (k ∷ us) i.0) head (Lexes.next a z form w small long o i.1))

module _ {A : Type 0} (part : Part A) (p : Place) (t : Text) (n : ℕ) (e : end_of part.ending t ≡ Some n) where
  abbrev Tokened : Type 0
  Tokened = (ts : List Token) × Lexes true p t ts (drop n t) × Lexes true p (take n t) ts [] × (scan true 0 p (take n t) ≡ Some ts)

  tokened : Tokened
  tokened =
      let l = lexed part.ending t n e in
      let us : (us : List Token) × Lexes true p t us (drop n t) = l.0 p in
      let both : Lexes true p (take n t ++ drop n t) us.0 (drop n t) = subst (λ (w : Text). Lexes true p w us.0 (drop n t)) (sym (take-append-drop n t)) us.1 in
      (us.0, us.1, alone_lexes p (take n t) (drop n t) us.0 both, alone p (take n t) (drop n t) us.0 both)

  module _ {Q : Type 0} (asked : Place → Text → Q) where
    finds : (o : Option A) → option_and_then part.find (scan true 0 p (take n t)) ≡ o → ◌≡◌ {A = Outcome Q A} (parse_part part.ending part.find asked p t) (found_at (asked p t) n o p t)
    unfolding parse_part
    finds o f = ap (λ m. part_by {Q = Q} part.find asked m p t) e ∙ ap (λ m. found_at (asked p t) n m p t) f

    pub part_taken : (ts : List Token) (a : A) → Lexes true p (take n t) ts [] → part.within ts a → ◌≡◌ {A = Outcome Q A} (parse_part part.ending part.find asked p t) (Ok (a, steps p (take n t), drop n t))
    part_taken ts a l w = finds (Some a) (ap (option_and_then part.find) (whole true p (take n t) ts l) ∙ part.finds ts a w)

    finds_none : (ts : List Token) → scan true 0 p (take n t) ≡ Some ts → ((a : A) → part.within ts a → ⊥) → ◌≡◌ {A = Outcome Q A} (parse_part part.ending part.find asked p t) (Err (Stop.Refused (asked p t)))
    finds_none ts f none = by (part.find ts) refl
      where
        by : (o : Option A) → part.find ts ≡ o → ◌≡◌ {A = Outcome Q A} (parse_part part.ending part.find asked p t) (Err (Stop.Refused (asked p t)))
        by None g = finds None (ap (option_and_then part.find) f ∙ g)
        by (Some a) g = absurd (none a (part.found ts a g))

    pub part_unread : ((ts : List Token) (a : A) → Lexes true p (take n t) ts [] → part.reads ts a → ⊥) → ◌≡◌ {A = Outcome Q A} (parse_part part.ending part.find asked p t) (Err (Stop.Refused (asked p t)))
    part_unread none = let k = tokened in finds_none k.0 k.3 (λ a w. none k.0 a k.2 (part.unlimited k.0 a w))

    pub part_passes : OverPart part.reads part.passes p (take n t) → ◌≡◌ {A = Outcome Q A} (parse_part part.ending part.find asked p t) (Err (Stop.Refused (asked p t)))
    part_passes (us, rest, l, begun, passes) =
        let k = tokened in
        let g = complete l in
        let f = prepended_front us (scan true 0 g.0 rest) k.0 (sym g.1 ∙ k.3) in
        finds_none k.0 k.3 (λ a w. part.calm k.0 a w us f.0 f.1 begun.0 begun.1 begun.2 passes)

  pub no_part : ((ts : List Token) (a : A) → Lexes true p (take n t) ts [] → part.reads ts a → ⊥) → NoPart part.ending part.reads p t
  no_part none y z a parts i =
      let len : n ≡ length y = some_same (sym e ∙ ap (end_of part.ending) parts ∙ part_ends part p y z a i) in
      let front : y ≡ take n t = sym (take-append_seam y z) ∙ ap (take (length y)) (sym parts) ∙ ap (λ m. take m t) (sym len) in
      none i.0 a (subst (λ (w : Text). Lexes true p w i.0 []) front (alone_lexes p y z i.0 i.1)) i.2

  pub over_part : OverPart part.reads part.passes p (take n t) → OverPart part.reads part.passes p t
  over_part (us, rest, l, begun, passes) =
      let k = tokened in
      let g = complete l in
      let f = prepended_front us (scan true 0 g.0 rest) k.0 (sym g.1 ∙ k.3) in
      let i = first_tokens k.1 us f.0 f.1 in
      (us, i.0, i.1, begun, passes)

-- ---- expressions

pub expression_stuck : (p : Place) (t : Text) → end_of s.Semicolon t ≡ None → read expression_here p t ≡ Err Stop.Syntax
unfolding parse expression_here parse_part
expression_stuck p t e = ap (λ m. part_by expression.find (ask part_of.Expression) m p t) e

pub expression_taken : (p : Place) (t : Text) (n : ℕ) (a : Expr) → end_of s.Semicolon t ≡ Some n → ReadsExpr true p (take n t) a → (OverText true p (take n t) → ⊥) → read expression_here p t ≡ Ok (a, steps p (take n t), drop n t)
unfolding parse expression_here
expression_taken p t n a e i few = part_taken expression p t n e (ask part_of.Expression) i.0 a i.1 (i.2, λ o. few (text_over true p (take n t) i.0 (whole true p (take n t) i.0 i.1) o))

pub expression_refused : (p : Place) (t : Text) (n : ℕ) (error : ReadError) (halt : Halt) → end_of s.Semicolon t ≡ Some n → Refused (IsUnread true p (take n t)) (OverText true p (take n t)) error → Halts part_of.Expression error halt
    → Fails (read expression_here p t) halt p t
unfolding parse expression_here
expression_refused p t n r.Utf8 halt e i k = absurd i
expression_refused p t n (r.Syntax f) halt e i k =
    let none : (ts : List Token) (a : Expr) → Lexes true p (take n t) ts [] → ReadsPiped ts a → ⊥ = λ ts a l w. i.2 a (ts, l, w) in
    subst (λ (x : Halt). Fails (read expression_here p t) x p t) (sym k) (part_unread expression p t n e (ask part_of.Expression) none, (i.0, i.1, no_part expression p t n e none))
expression_refused p t n (r.Limit f) halt e i k =
    subst (λ (x : Halt). Fails (read expression_here p t) x p t) (sym k) (part_passes expression p t n e (ask part_of.Expression) i.2, (i.0, i.1, over_part expression p t n e i.2))
expression_refused p t n r.Memory halt e i k = subst (λ (x : Halt). Fails (read expression_here p t) x p t) (sym k) tt

-- ---- bodies

pub body_stuck : (p : Place) (t : Text) → end_of s.CloseBrace t ≡ None → read body_here p t ≡ Err Stop.Syntax
unfolding parse body_here parse_part
body_stuck p t e = ap (λ m. part_by statements_part.find (ask part_of.Body) m p t) e

pub body_taken : (p : Place) (t : Text) (n : ℕ) (a : List Stmt) → end_of s.CloseBrace t ≡ Some n → ReadsBody true p (take n t) a → read body_here p t ≡ Ok (a, steps p (take n t), drop n t)
unfolding parse body_here
body_taken p t n a e i = part_taken statements_part p t n e (ask part_of.Body) i.0 a i.1 i.2

pub body_refused : (p : Place) (t : Text) (n : ℕ) (error : ReadError) (halt : Halt) → end_of s.CloseBrace t ≡ Some n → Refused (NoBody false p (take n t)) (OverBody p (take n t) × NoBody true p (take n t)) error → Halts part_of.Body error halt
    → Fails (read body_here p t) halt p t
unfolding parse body_here
body_refused p t n r.Utf8 halt e i k = absurd i
body_refused p t n (r.Syntax f) halt e i k =
    let none : (ts : List Token) (a : List Stmt) → Lexes true p (take n t) ts [] → statements_part.reads ts a → ⊥ = λ ts a l w. i.2 a (ts, l, w) in
    subst (λ (x : Halt). Fails (read body_here p t) x p t) (sym k) (part_unread statements_part p t n e (ask part_of.Body) none, (i.0, i.1, no_part statements_part p t n e none))
body_refused p t n (r.Limit f) halt e i k =
    subst (λ (x : Halt). Fails (read body_here p t) x p t) (sym k) (part_passes statements_part p t n e (ask part_of.Body) i.2.0, (i.0, i.1, over_part statements_part p t n e i.2.0))
body_refused p t n r.Memory halt e i k = subst (λ (x : Halt). Fails (read body_here p t) x p t) (sym k) tt
