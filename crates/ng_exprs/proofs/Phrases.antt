-- Phrases of a grammar: from the tokens to the text.
use Rattle.std.proofs.Common.{◌≡◌, ℕ, suc, ◌+◌, ◌<◌, ◌≤◌, List, [], ◌∷◌, ◌++◌, length, refl, sym, ◌∙◌, ap, subst, arith, length-append, inl, inr}
use Rattle.std.specs.Prelude.{Bool, true, false, Some, None, Result, Ok, Err, IfOk, IfErr, ◌⊎◌}
use Rattle.ng_ast.specs.declared.Place.{Place}
use Rattle.ng_ast.specs.declared.refusals.ReadError.{ReadError}
use Rattle.ng_ast.specs.declared.refusals.ReadError.TheVariants as r
use Rattle.ng_tokens.specs.declared.kinds.Token.{Token}
use Rattle.ng_tokens.specs.Lexis.{Text, Written, Lexes}
use Rattle.ng_tokens.specs.Scan.{scan}
use Rattle.ng_tokens.proofs.Pieces.{not_empty}
use Rattle.ng_tokens.proofs.Tokens as lex
use Rattle.ng_exprs.specs.declared.halt.Halt.{Halt}
use Rattle.ng_exprs.specs.declared.halt.Halt.TheVariants as h
use Rattle.ng_exprs.specs.Grammar.{Tokens}
use Rattle.ng_exprs.specs.Limits.{opens, Within}
use Rattle.ng_exprs.specs.Parse.{Syntax, Limit, Outcome}
use Rattle.ng_exprs.specs.Statements.{EndsLong, OverIn}
use Rattle.ng_exprs.specs.Reading.{Refused, IsOrMemory, Halts, Tells}
use Rattle.ng_exprs.specs.Phrases.{ReadsPhrase, OverPhrase, NoPhrase, AnswersTokens, AnswersPhrase}
use Rattle.ng_exprs.proofs.Whole.{told, refused_as, same_tokens}
use Rattle.ng_exprs.proofs.Public.{within_opens}
use Rattle.ng_exprs.proofs.LinesComplete.{GetsL}
use Rattle.ng_exprs.proofs.LinesSound.{Halted}

-- ---- an outcome of a function on tokens

pub exact_by : {A : Type 0} (a : A) (o : Outcome A) → GetsL ⊥ a [] o → o ≡ Ok (a, [])
exact_by a (Ok p) g = ap Ok g
exact_by a (Err Limit) g = absurd g
exact_by a (Err Syntax) g = absurd g

pub one_by : {A : Type 0} (a b : A) (o : Outcome A) → GetsL ⊥ a [] o → GetsL ⊥ b [] o → a ≡ b
one_by a b (Ok p) g i = ap (λ q. q.0) (sym g ∙ i)
one_by a b (Err Limit) g i = absurd g
one_by a b (Err Syntax) g i = absurd g

pub over_by : {A : Type 0} (R : Tokens → A → Type 0) (W : Tokens → Type 0) (ts : Tokens) → Halted R W 33 ts → OverIn R W ts
over_by R W ts st = (st.text, st.tail, st.all, (st.more, st.value, st.reads), by st.text st.passes)
  where
    by : (x : Tokens) → ((m : ℕ) → m + 33 ≤ opens m x) ⊎ EndsLong W x → (32 < opens 0 x) ⊎ EndsLong W x
    by x (inl deep) = inl (omega (arith, deep 0))
    by x (inr long) = inr long

limit_not : {A : Type 0} (q : A × Tokens) → ◌≡◌ {A = Outcome A} (Err Limit) (Ok q) → ⊥
limit_not q d = cc

pub within_not : {A : Type 0} (a : A) (o : Outcome A) → o ≡ Err Limit → GetsL ⊥ a [] o → ⊥
within_not a o e g = limit_not (a, []) (sym e ∙ exact_by a o g)

-- what is within the limits is over none, if its brackets are few and no expression in it is too long
pub not_over_by : {A : Type 0} (R : Tokens → A → Type 0) (W : Tokens → Type 0) (ts : Tokens) → Within 32 0 ts → ((front tail : Tokens) → ts ≡ front ++ tail → EndsLong W front → ⊥) → OverIn R W ts → ⊥
not_over_by R W ts few short (front, tail, all, begun, inl deep) = absurd (omega (arith, within_opens 32 0 front (omega arith) tail (subst (λ z. Within 32 0 z) all few), deep))
not_over_by R W ts few short (front, tail, all, begun, inr long) = short front tail all long

-- ---- tokens and bytes

-- a text has no more tokens than bytes
long_token : (a z : Text) (n : ℕ) → ([] ≡ a → ⊥) → n ≤ length z → suc n ≤ length (a ++ z)
long_token [] z n some le = absurd (some refl)
long_token (b ∷ a) z n some le = omega (arith, le, length-append a z)

count : {c : Bool} {p : Place} {t : Text} {ts : List Token} {r : Text} → Lexes c p t ts r → length ts ≤ length t
count Lexes.here = omega arith
count (Lexes.blank f i) = omega (arith, count i)
count (Lexes.comment a z o f i) = omega (arith, count i, length-append a z)
count (Lexes.next a z form w small long o i) = long_token a z _ (λ e. not_empty form (subst (λ v. Written v form) (sym e) w)) (count i)

pub few_tokens : (c : Bool) (p : Place) (t : Text) (ts : List Token) → scan c 0 p t ≡ Some ts → length t ≤ 1048576 → length ts < 1048577
few_tokens c p t ts e len = omega (arith, count (lex.sound c p t ts e), len)

no_scan : {ts : List Token} → None ≡ Some ts → ⊥
no_scan d = cc

-- ---- texts

module _ (c : Bool) (A : Type 0) (R : Bool → Tokens → A → Type 0) (W : Tokens → Type 0) where
  no_tokens : (l : Bool) (p : Place) (t : Text) → scan c 0 p t ≡ None → NoPhrase c (R l) p t
  no_tokens l p t e a (ts, lx, i) = absurd (no_scan (sym e ∙ lex.whole c p t ts lx))

  over_text : (p : Place) (t : Text) (ts : List Token) → scan c 0 p t ≡ Some ts → OverIn (R false) W ts → OverPhrase c (R false) W p t
  over_text p t ts e (front, more, all, begun, passes) = let g = lex.cut (lex.sound c p t ts e) front more all in (front, g.0, g.1, begun, passes)

  no_phrase : (l : Bool) (p : Place) (t : Text) (ts : List Token) → scan c 0 p t ≡ Some ts → ((a : A) → R l ts a → ⊥) → NoPhrase c (R l) p t
  no_phrase l p t ts e n = λ a m. n a (subst (λ us. R l us a) (same_tokens c p t ts m.0 e m.1) m.2)

  halted : (p : Place) (t : Text) (ts : List Token) → scan c 0 p t ≡ Some ts → (halt : Halt) → AnswersTokens R W ts (Err halt)
      → Halts (NoPhrase c (R false) p t) (OverPhrase c (R false) W p t × NoPhrase c (R true) p t) halt
  halted p t ts e (h.Syntax q) n = no_phrase false p t ts e n
  halted p t ts e (h.Limit q) n = (over_text p t ts e n.0, no_phrase true p t ts e n.1)
  halted p t ts e h.Memory n = tt

  pub phrase_ok : (p : Place) (t : Text) (ts : List Token) → scan c 0 p t ≡ Some ts → (a : A) → AnswersTokens R W ts (Ok a) → AnswersPhrase c R W p t (Ok a)
  phrase_ok p t ts e a i = (ts, lex.sound c p t ts e, i)

  pub phrase_err : (p : Place) (t : Text) (ts : List Token) → scan c 0 p t ≡ Some ts → (halt : Halt) (x : ReadError) → AnswersTokens R W ts (Err halt) → Tells halt x → AnswersPhrase c R W p t (Err x)
  phrase_err p t ts e halt x i m = told _ _ halt x (halted p t ts e halt i) m

  pub phrase_unscanned : (p : Place) (t : Text) (x : ReadError) → Refused (scan c 0 p t ≡ None) ⊥ x → AnswersPhrase c R W p t (Err x)
  phrase_unscanned p t x i = refused_as _ _ _ _ x (λ e. no_tokens false p t e) (λ f. absurd f) i

  -- ---- the clauses

  pub phrase_reads : (p : Place) (t : Text) (o : Result A ReadError) → AnswersPhrase c R W p t o → IfOk o (λ a. ReadsPhrase c (R true) p t a)
  phrase_reads p t (Ok a) i = i
  phrase_reads p t (Err e) i = tt

  pub phrase_refused : (p : Place) (t : Text) (o : Result A ReadError) → AnswersPhrase c R W p t o → IfErr o (Refused (NoPhrase c (R false) p t) (OverPhrase c (R false) W p t × NoPhrase c (R true) p t))
  phrase_refused p t (Ok a) i = tt
  phrase_refused p t (Err e) i = i

-- no reading within the limits is over one
module _ (c : Bool) (A : Type 0) (R : Bool → Tokens → A → Type 0) (W : Tokens → Type 0) (inside : (ts : Tokens) (a : A) → R true ts a → OverIn (R false) W ts → ⊥) where
  not_over : (p : Place) (t : Text) (a : A) → ReadsPhrase c (R true) p t a → OverPhrase c (R false) W p t → ⊥
  not_over p t a (ts, lx, i) (us, tail, ly, begun, passes) =
      let g = lex.complete ly in
      let f = lex.prepended_front us (scan c 0 g.0 tail) ts (sym g.1 ∙ lex.whole c p t ts lx) in
      inside ts a i (us, f.0, f.1, begun, passes)

  pub phrase_within : (p : Place) (t : Text) (o : Result A ReadError) → AnswersPhrase c R W p t o → IfOk o (λ a. OverPhrase c (R false) W p t → ⊥)
  phrase_within p t (Ok a) i = not_over p t a i
  phrase_within p t (Err e) i = tt

-- at most one reading
module _ (c : Bool) (A : Type 0) (R : Bool → Tokens → A → Type 0) (W : Tokens → Type 0) (one : (ts : Tokens) (a b : A) → R false ts a → R false ts b → a ≡ b) where
  pub one_phrase : (p : Place) (t : Text) (a b : A) → ReadsPhrase c (R false) p t a → ReadsPhrase c (R false) p t b → a ≡ b
  one_phrase p t a b (ts, lx, i) (us, ly, j) =
      let e : us ≡ ts = same_tokens c p t ts us (lex.whole c p t ts lx) ly in
      one ts a b i (subst (λ vs. R false vs b) e j)

  pub phrase_exact : ((ts : Tokens) (a : A) → R true ts a → R false ts a) → (p : Place) (t : Text) (o : Result A ReadError) → AnswersPhrase c R W p t o → (a : A) → ReadsPhrase c (R true) p t a → IsOrMemory a o
  phrase_exact free p t (Ok b) i a j = one_phrase p t b a (i.0, i.1, free i.0 b i.2) (j.0, j.1, free j.0 a j.2)
  phrase_exact free p t (Err r.Utf8) i a j = i
  phrase_exact free p t (Err (r.Syntax f)) i a j = i.2 a (j.0, j.1, free j.0 a j.2)
  phrase_exact free p t (Err (r.Limit f)) i a j = i.2.1 a j
  phrase_exact free p t (Err r.Memory) i a j = tt
