-- What the readers of the forms of outlets answer.
use Rattle.std.proofs.Common.{◌≡◌, ℕ, zero, suc, ◌+◌, ◌-◌, ◌<◌, ◌≤◌, List, [], ◌∷◌, ◌++◌, length, get_or, take, drop, refl, sym, ◌∙◌, ap, subst, append_assoc, arith, length-append, inl, inr}
use Rattle.std.proofs.lemmas.List.{append-nil}
use Rattle.std.proofs.Math.Seq.{drop-append_seam}
use Rattle.std.specs.Prelude.{Bool, true, false, cond, codes, ◌⊎◌, Some, None}
use Rattle.ng_ast.specs.declared.Place.{Place}
use Rattle.ng_ast.specs.declared.Expr.{Expr}
use Rattle.ng_ast.specs.declared.OutletForm.{OutletForm}
use Rattle.ng_ast.specs.declared.OutletForm.TheVariants as outlet
use Rattle.ng_tokens.specs.declared.kinds.Sign.{Sign}
use Rattle.ng_tokens.specs.declared.kinds.Sign.TheVariants as s
use Rattle.ng_tokens.specs.declared.kinds.Kind.{Kind}
use Rattle.ng_tokens.specs.declared.kinds.Kind.TheVariants as k
use Rattle.ng_tokens.specs.declared.kinds.Token.{Token}
use Rattle.ng_tokens.specs.Lexis.{Text, same_text, Lexes}
use Rattle.ng_tokens.proofs.Tokens as lex
use Rattle.ng_exprs.specs.Grammar.{Tokens, token, sign, start, Reads, ReadsAny, ReadsPiped}
use Rattle.ng_exprs.specs.Limits.{opens, Within}
use Rattle.ng_exprs.specs.Parse.{sign_of}
use Rattle.ng_exprs.specs.Reading.{ReadsExpr, OverText, IsUnread}
use Rattle.ng_exprs.proofs.Public.{within_opens}
use Rattle.ng_lex.specs.Values.{ReadsOutlet, IsOutlet, OverOutlet}
use Rattle.ng_tags.specs.Outlets.{is_top, top_len, sign_at, AtColon, leaf_by, leaf_of, OverForm, NoForm}
use Rattle.ng_attributes.proofs.Texts.{no_true}
use Rattle.ng_tags.proofs.OutletLaws.{NoTop, opens_append, both_reads, reads_some, one_form}
use Rattle.ng_tags.proofs.OutletSteps.{tokens_tail, top_taken, top_stops, Stops, reads_plain, begun_test, top_less, within_append, test_within, same_tokens, front_of, test_begins, left_begins, right_begins, none_begins, outlet_even, LeafAt, ChoiceAt, form_at, leaf_len, leaf_no, choice_sign, choice_test, choice_rest}

-- ---- the token that stands there

pub sign_within : (ts : Tokens) (n : ℕ) (x : Sign) → sign_at ts n ≡ Some x → n < length ts
sign_within [] n x e = let d : None ≡ Some x = e in cc
sign_within (t ∷ ts) zero x e = omega arith
sign_within (t ∷ ts) (suc n) x e = omega (arith, sign_within ts n x e)

pub sign_found : (ts : Tokens) (n : ℕ) (t : Token) → n < length ts → t ≡ get_or ts n t → sign_at ts n ≡ sign_of t.kind
sign_found [] n t h e = absurd (omega arith)
sign_found (u ∷ ts) zero t h e = ap (λ (v : Token). sign_of v.kind) (sym e)
sign_found (u ∷ ts) (suc n) t h e = sign_found ts n t (omega arith) e

pub sign_past : (ts : Tokens) (n : ℕ) → length ts ≤ n → sign_at ts n ≡ None
sign_past [] n h = refl
sign_past (t ∷ ts) zero h = absurd (omega arith)
sign_past (t ∷ ts) (suc n) h = sign_past ts n (omega arith)

pub no_sign : (j : Kind) → ((x : Sign) → j ≡ k.Sign x → ⊥) → sign_of j ≡ None
no_sign (k.Sign x) h = absurd (h x refl)
no_sign (k.Number v) h = refl
no_sign (k.Name v) h = refl
no_sign (k.Variable v) h = refl
no_sign (k.Text v) h = refl

-- a sign of this kind, and what comes after it
pub record SignAt (ts : Tokens) (n : ℕ) (x : Sign) : Type 0 where
  pub p : Place
  pub y : Tokens
  pub is : ts ≡ take n ts ++ (sign x p ∷ y)
  pub from : drop n ts ≡ sign x p ∷ y
  pub long : length (take n ts) ≡ n

kind_is : (t : Token) (x : Sign) → sign_of t.kind ≡ Some x → t ≡ sign x t.place
kind_is t x e = by t.kind refl e
  where
    by : (j : Kind) → t.kind ≡ j → sign_of j ≡ Some x → t ≡ sign x t.place
    by (k.Sign y) f g = let h : y ≡ x = cc in ap (λ i. token i t.place) (f ∙ ap k.Sign h)
    by (k.Number v) f g = let d : None ≡ Some x = g in cc
    by (k.Name v) f g = let d : None ≡ Some x = g in cc
    by (k.Variable v) f g = let d : None ≡ Some x = g in cc
    by (k.Text v) f g = let d : None ≡ Some x = g in cc

pub sign_split : (ts : Tokens) (n : ℕ) (x : Sign) → sign_at ts n ≡ Some x → SignAt ts n x
sign_split [] n x e = let d : None ≡ Some x = e in cc
sign_split (t ∷ ts) zero x e = let h = kind_is t x e in record { p = t.place; y = ts; is = ap (λ v. v ∷ ts) h; from = ap (λ v. v ∷ ts) h; long = refl }
sign_split (t ∷ ts) (suc n) x e =
    let h = sign_split ts n x e in
    record { p = h.p; y = h.y; is = ap (λ v. t ∷ v) h.is; from = h.from; long = ap suc h.long }

-- ---- tests

module _ (ts : Tokens) (n : ℕ) (top : n ≡ top_len 0 ts) (asks : sign_at ts n ≡ Some s.Question) (p : Place) (t : Text) (front : Lexes false p t (take n ts) []) where
  test_piped : (e : Expr) → ReadsExpr false p t e → ReadsPiped (take n ts) e
  test_piped e (us, lx, h) = subst (λ v. ReadsPiped v e) (same_tokens p t us (take n ts) lx front) h

  pub test_reads : (e : Expr) → ReadsExpr false p t e → Reads 8 (take n ts) e
  test_reads e h = reads_plain (test_piped e h) (top_taken ts n top)

  pub test_inside : (e : Expr) → ReadsExpr false p t e → (OverText false p t → ⊥) → Within 32 0 (take n ts)
  test_inside e h none = test_within p t (take n ts) e front (test_piped e h) none

  no_leaf : (r : Tokens) (a : OutletForm) → AtColon r → LeafAt ts r a → ⊥
  no_leaf r a h i = leaf_no s.Question (λ e. absurd (cc)) ts r a h i (sym (ap (sign_at ts) top) ∙ asks)

  pub test_unread : IsUnread false p t → NoForm ts
  test_unread none x r a e h i = by (form_at ts x r a e i)
    where
      by : LeafAt ts r a ⊎ ChoiceAt ts r → ⊥
      by (inl j) = no_leaf r a h j
      by (inr j) = none j.e (take n ts, front, subst (λ v. ReadsPiped v j.e) (sym (choice_test ts r j) ∙ sym (ap (λ m. take m ts) top)) (ReadsPiped.unpiped (ReadsAny.plain j.test)))

  pub test_over : (m : ℕ) → m ≤ 256 → OverText false p t → OverForm m ts
  test_over m most (f, rest, lx, (more, a, begun), passes) =
      let g = front_of p t (take n ts) f rest front lx in
      let i = sign_split ts n s.Question asks in (
        f,
        g.0 ++ (sign s.Question i.p ∷ i.y),
        i.is ∙ ap (λ v. v ++ (sign s.Question i.p ∷ i.y)) g.1 ∙ append_assoc f g.0 (sign s.Question i.p ∷ i.y),
        test_begins f (begun_test begun f more refl (top_less 0 f g.0 (subst (NoTop 0) g.1 (top_taken ts n top)))),
        by passes,
      )
    where
      by : (32 < opens 0 f) ⊎ (256 < length f) → (32 < opens 0 f) ⊎ (m < length f)
      by (inl h) = inl h
      by (inr h) = inr (omega arith)

  -- a test with its `?` has too many tokens
  pub test_long : (m : ℕ) → m ≤ n → (e : Expr) → ReadsExpr false p t e → OverForm m ts
  test_long m long e h =
      let i = sign_split ts n s.Question asks in (
        take n ts ++ (sign s.Question i.p ∷ []),
        i.y,
        i.is ∙ sym (append_assoc (take n ts) (sign s.Question i.p ∷ []) i.y),
        left_begins (take n ts) [] i.p e (test_reads e h) none_begins,
        inr (omega (arith, length-append (take n ts) (sign s.Question i.p ∷ []), i.long)),
      )

-- ---- forms without a test

leaf_kind : (t : Token) (a : OutletForm) → leaf_by t.place t.kind ≡ Some a → (n : List ℕ) × (t ≡ token (k.Name n) t.place)
leaf_kind t a e = by t.kind refl e
  where
    by : (j : Kind) → t.kind ≡ j → leaf_by t.place j ≡ Some a → (n : List ℕ) × (t ≡ token (k.Name n) t.place)
    by (k.Name n) f g = (n, ap (λ i. token i t.place) f)
    by (k.Sign y) f g = let d : None ≡ Some a = g in absurd (cc)
    by (k.Number v) f g = let d : None ≡ Some a = g in absurd (cc)
    by (k.Variable v) f g = let d : None ≡ Some a = g in absurd (cc)
    by (k.Text v) f g = let d : None ≡ Some a = g in absurd (cc)

name_reads : (n : List ℕ) (p : Place) (a : OutletForm) → Some (cond (same_text (codes "null") n) outlet.Null (outlet.Name p n)) ≡ Some a → ReadsOutlet (token (k.Name n) p ∷ []) a
name_reads n p a e = by (same_text (codes "null") n) refl e
  where
    by : (v : Bool) → same_text (codes "null") n ≡ v → Some (cond v outlet.Null (outlet.Name p n)) ≡ Some a → ReadsOutlet (token (k.Name n) p ∷ []) a
    by true f g = let h : outlet.Null ≡ a = cc in subst (ReadsOutlet (token (k.Name n) p ∷ [])) h (ReadsOutlet.nothing n p f)
    by false f g = let h : outlet.Name p n ≡ a = cc in subst (ReadsOutlet (token (k.Name n) p ∷ [])) h (ReadsOutlet.template n p f)

top_only : (j : Kind) (m : ℕ) → is_top j m ≡ true → (j ≡ k.Sign s.Question) ⊎ ((j ≡ k.Sign s.Colon) ⊎ (j ≡ k.Sign s.Bar))
top_only (k.Sign s.Question) m e = inl refl
top_only (k.Sign s.Colon) m e = inr (inl refl)
top_only (k.Sign s.Bar) m e = inr (inr refl)
top_only _ m e = absurd (no_true e)

-- one name
pub record IsLeaf (x : Tokens) (a : OutletForm) : Type 0 where
  pub reads : ReadsOutlet x a
  pub long : length x ≡ 1
  pub within : Within 32 0 x

pub leaf_is : (x : Tokens) (a : OutletForm) → leaf_of x ≡ Some a → IsLeaf x a
leaf_is [] a e = let d : None ≡ Some a = e in absurd (cc)
leaf_is (t ∷ u ∷ x) a e = let d : None ≡ Some a = e in absurd (cc)
leaf_is (t ∷ []) a e =
    let h = leaf_kind t a e in
    subst (λ v. IsLeaf (v ∷ []) a) (sym h.1)
    (record { reads = name_reads h.0 t.place a (subst (λ v. leaf_by v.place v.kind ≡ Some a) h.1 e); long = refl; within = (omega arith, tt) })

module _ (ts : Tokens) (n : ℕ) (top : n ≡ top_len 0 ts) (plain : sign_at ts n ≡ Some s.Question → ⊥) where
  no_choice : (r : Tokens) → ChoiceAt ts r → ⊥
  no_choice r h = plain (ap (sign_at ts) top ∙ choice_sign ts r h)

  pub bar_unread : sign_at ts n ≡ Some s.Bar → NoForm ts
  bar_unread bar x r a e h i = by (form_at ts x r a e i)
    where
      by : LeafAt ts r a ⊎ ChoiceAt ts r → ⊥
      by (inl j) = leaf_no s.Bar (λ d. absurd (cc)) ts r a h j (sym (ap (sign_at ts) top) ∙ bar)
      by (inr j) = no_choice r j

  pub leaf_unread : leaf_of (take n ts) ≡ None → NoForm ts
  leaf_unread none x r a e h i = by (form_at ts x r a e i)
    where
      by : LeafAt ts r a ⊎ ChoiceAt ts r → ⊥
      by (inl j) =
          let one : take n ts ≡ token (k.Name j.n) j.p ∷ [] = ap (λ m. take m ts) (top ∙ leaf_len ts r a h j) ∙ ap (take 1) j.is in
          let d : Some a ≡ None = sym j.leaf ∙ sym (ap leaf_of one) ∙ none in cc
      by (inr j) = no_choice r j

  pub leaf_over : (a : OutletForm) → leaf_of (take n ts) ≡ Some a → OverForm 0 ts
  leaf_over a e =
      let h = leaf_is (take n ts) a e in
      (take n ts, drop n ts, sym (whole n ts), ([], a, subst (λ v. ReadsOutlet v a) (sym (append-nil (take n ts))) h.reads), inr (omega (arith, h.long)))
    where
      whole : (n : ℕ) (ts : Tokens) → take n ts ++ drop n ts ≡ ts
      whole zero ts = refl
      whole (suc n) [] = refl
      whole (suc n) (t ∷ ts) = ap (λ v. t ∷ v) (whole n ts)

  -- what comes after a name alone
  pub leaf_ends : (sign_at ts n ≡ Some s.Bar → ⊥) → AtColon (drop n ts)
  leaf_ends bar = by (subst (Stops ts) (sym top) (top_stops 0 ts))
    where
      colon : (t : Token) (y : Tokens) → sign_at ts n ≡ sign_of t.kind → (t.kind ≡ k.Sign s.Question) ⊎ ((t.kind ≡ k.Sign s.Colon) ⊎ (t.kind ≡ k.Sign s.Bar)) → AtColon (t ∷ y)
      colon t y f (inl i) = absurd (plain (f ∙ ap sign_of i))
      colon t y f (inr (inl i)) = (t.place, ap (λ v. token v t.place) i)
      colon t y f (inr (inr i)) = absurd (bar (f ∙ ap sign_of i))

      by : Stops ts n → AtColon (drop n ts)
      by (inl h) = subst AtColon (sym h.0) tt
      by (inr (t, y, m, e, f, g)) = subst AtColon (sym e) (colon t y f (top_only t.kind m g))

-- ---- choices

-- a test with its `?`, and what comes after it
pub record Asked (ts : Tokens) (n : ℕ) (e : Expr) (more : Tokens) : Type 0 where
  pub p : Place
  pub is : ts ≡ take n ts ++ (sign s.Question p ∷ more)
  pub reads : Reads 8 (take n ts) e
  pub within : Within 32 0 (take n ts)
  pub long : length (take n ts) ≡ n
  pub top : n ≡ top_len 0 ts

-- a form behind it, and what comes after that
pub record Lefted (more rest : Tokens) (a : OutletForm) (m : ℕ) : Type 0 where
  pub x : Tokens
  pub is : more ≡ x ++ rest
  pub reads : ReadsOutlet x a
  pub ends : AtColon rest
  pub within : Within 32 0 x
  pub short : length x ≤ m

more_here : (ts : Tokens) (n : ℕ) (x more : Tokens) (t u : Token) → ts ≡ x ++ (t ∷ more) → length x ≡ n → (y : Tokens) → drop n ts ≡ u ∷ y → more ≡ y
more_here ts n x more t u e l y f = tokens_tail (sym (ap (λ m. drop m ts) (sym l) ∙ ap (drop (length x)) e ∙ drop-append_seam x (t ∷ more)) ∙ f)

-- what a choice has behind its `?`
behind : (ts more r : Tokens) (n : ℕ) (e : Expr) → Asked ts n e more → (h : ChoiceAt ts r) → more ≡ h.v ++ (sign s.Colon h.q ∷ (h.w ++ r))
behind ts more r n e a h = more_here ts n (take n ts) more (sign s.Question a.p) (sign s.Question h.p) a.is a.long (h.v ++ (sign s.Colon h.q ∷ (h.w ++ r))) (ap (λ m. drop m ts) a.top ∙ choice_rest ts r h)

asked_sign : (ts more : Tokens) (n : ℕ) (e : Expr) → Asked ts n e more → sign_at ts n ≡ Some s.Question
asked_sign ts more n e a = ap (sign_at ts) (sym a.long) ∙ ap (λ v. sign_at v (length (take n ts))) a.is ∙ here (take n ts)
  where
    here : (x : Tokens) → sign_at (x ++ (sign s.Question a.p ∷ more)) (length x) ≡ Some s.Question
    here [] = refl
    here (t ∷ x) = here x

asked_choice : (ts more : Tokens) (n : ℕ) (e : Expr) → Asked ts n e more → (x r : Tokens) (a : OutletForm) → ts ≡ x ++ r → AtColon r → ReadsOutlet x a → ChoiceAt ts r
asked_choice ts more n e a x r b f h i = by (form_at ts x r b f i)
  where
    by : LeafAt ts r b ⊎ ChoiceAt ts r → ChoiceAt ts r
    by (inl j) = absurd (leaf_no s.Question (λ d. absurd (cc)) ts r b h j (ap (sign_at ts) (sym a.top) ∙ asked_sign ts more n e a))
    by (inr j) = j

-- no form stands behind the `?`
pub left_unread : (ts more : Tokens) (n : ℕ) (e : Expr) → Asked ts n e more → NoForm more → NoForm ts
left_unread ts more n e a none x r b f h i = let c = asked_choice ts more n e a x r b f h i in none c.v (sign s.Colon c.q ∷ (c.w ++ r)) c.left (behind ts more r n e a c) (c.q, refl) c.yes

-- one passes a limit there
pub left_over : (ts more : Tokens) (n m l : ℕ) (e : Expr) → Asked ts n e more → m ≤ n + 1 + l → OverForm l more → OverForm m ts
left_over ts more n m l e a room (f, g, is, begins, passes) = (
  take n ts ++ (sign s.Question a.p ∷ f),
  g,
  a.is ∙ ap (λ v. take n ts ++ (sign s.Question a.p ∷ v)) is ∙ sym (append_assoc (take n ts) (sign s.Question a.p ∷ f) g),
  left_begins (take n ts) f a.p e a.reads begins,
  by passes,
)
  where
    open_ : opens 0 (take n ts ++ (sign s.Question a.p ∷ f)) ≡ opens 0 f
    open_ = opens_append 0 (take n ts) (sign s.Question a.p ∷ f) ∙ ap (λ k2. opens k2 f) ((both_reads a.reads).0 0)

    by : (32 < opens 0 f) ⊎ (l < length f) → (32 < opens 0 (take n ts ++ (sign s.Question a.p ∷ f))) ⊎ (m < length (take n ts ++ (sign s.Question a.p ∷ f)))
    by (inl h) = inl (subst (λ k2. 32 < k2) (sym open_) h)
    by (inr h) = inr (omega (arith, length-append (take n ts) (sign s.Question a.p ∷ f), a.long, room))

module _ (ts more rest : Tokens) (n l : ℕ) (e : Expr) (left : OutletForm) (a : Asked ts n e more) (b : Lefted more rest left l) where
  -- the form behind the `?` of a choice is the one that stands there
  same_left : (r : Tokens) → (c : ChoiceAt ts r) → rest ≡ sign s.Colon c.q ∷ (c.w ++ r)
  same_left r c = (one_form b.reads rest c.v c.left (sign s.Colon c.q ∷ (c.w ++ r)) c.yes b.ends (c.q, refl) (sym b.is ∙ behind ts more r n e a c)).2

  pub colon_unread : ((p : Place) (ys : Tokens) → rest ≡ sign s.Colon p ∷ ys → ⊥) → NoForm ts
  colon_unread none x r d f h i = let c = asked_choice ts more n e a x r d f h i in none c.q (c.w ++ r) (same_left r c)

  module _ (q : Place) (no : Tokens) (colon : rest ≡ sign s.Colon q ∷ no) where
    here : ts ≡ take n ts ++ (sign s.Question a.p ∷ (b.x ++ (sign s.Colon q ∷ no)))
    here = a.is ∙ ap (λ v. take n ts ++ (sign s.Question a.p ∷ v)) (b.is ∙ ap (λ v. b.x ++ v) colon)

    front : Tokens → Tokens
    front f = take n ts ++ (sign s.Question a.p ∷ (b.x ++ (sign s.Colon q ∷ f)))

    cut_front : (f g : Tokens) → take n ts ++ (sign s.Question a.p ∷ (b.x ++ (sign s.Colon q ∷ (f ++ g)))) ≡ (take n ts ++ (sign s.Question a.p ∷ (b.x ++ (sign s.Colon q ∷ f)))) ++ g
    cut_front f g = sym (append_assoc (take n ts) (sign s.Question a.p ∷ (b.x ++ (sign s.Colon q ∷ f))) g ∙ ap (λ v. take n ts ++ (sign s.Question a.p ∷ v)) (append_assoc b.x (sign s.Colon q ∷ f) g))

    long : (f : Tokens) → length (take n ts ++ (sign s.Question a.p ∷ (b.x ++ (sign s.Colon q ∷ f)))) ≡ n + 1 + (length b.x + 1) + length f
    long f = omega (arith, length-append (take n ts) (sign s.Question a.p ∷ (b.x ++ (sign s.Colon q ∷ f))), length-append b.x (sign s.Colon q ∷ f), a.long)

    used : length more ≡ length b.x + 1 + length no
    used = omega (arith, ap length (b.is ∙ ap (λ v. b.x ++ v) colon), length-append b.x (sign s.Colon q ∷ no))

    pub right_unread : NoForm no → NoForm ts
    right_unread none x r d f h i =
        let c = asked_choice ts more n e a x r d f h i in
        none c.w r c.right (tokens_tail (sym colon ∙ same_left r c)) h c.no

    -- the form with its `:` has too many tokens
    pub right_long : (m : ℕ) → m ≤ n + 1 + l → l < length more - length no → OverForm m ts
    right_long m room most = (
      take n ts ++ (sign s.Question a.p ∷ (b.x ++ (sign s.Colon q ∷ []))),
      no,
      here ∙ cut_front [] no,
      right_begins (take n ts) b.x [] a.p q e left a.reads b.reads none_begins,
      inr (omega (arith, long [], used, room, most)),
    )

    pub right_over : (m : ℕ) → m ≤ n + 1 + l → OverForm (l - (length more - length no)) no → OverForm m ts
    right_over m room (f, g, is, begins, passes) = (
      take n ts ++ (sign s.Question a.p ∷ (b.x ++ (sign s.Colon q ∷ f))),
      g,
      here ∙ ap (λ v. take n ts ++ (sign s.Question a.p ∷ (b.x ++ (sign s.Colon q ∷ v)))) is ∙ cut_front f g,
      right_begins (take n ts) b.x f a.p q e left a.reads b.reads begins,
      by passes,
    )
      where
        open_ : opens 0 (take n ts ++ (sign s.Question a.p ∷ (b.x ++ (sign s.Colon q ∷ f)))) ≡ opens 0 f
        open_ = opens_append 0 (take n ts) (sign s.Question a.p ∷ (b.x ++ (sign s.Colon q ∷ f))) ∙ ap (λ k2. opens k2 (b.x ++ (sign s.Colon q ∷ f))) ((both_reads a.reads).0 0) ∙ opens_append 0 b.x (sign s.Colon q ∷ f) ∙ ap (λ k2. opens k2 f) (outlet_even b.reads)

        by : (32 < opens 0 f) ⊎ (l - (length more - length no) < length f) → (32 < opens 0 (take n ts ++ (sign s.Question a.p ∷ (b.x ++ (sign s.Colon q ∷ f))))) ⊎ (m < length (take n ts ++ (sign s.Question a.p ∷ (b.x ++ (sign s.Colon q ∷ f)))))
        by (inl h) = inl (subst (λ k2. 32 < k2) (sym open_) h)
        by (inr h) = inr (omega (arith, long f, used, room))

    -- the whole choice
    pub choice_is : (z after_all : Tokens) → no ≡ z ++ after_all → ts ≡ (take n ts ++ (sign s.Question a.p ∷ (b.x ++ (sign s.Colon q ∷ z)))) ++ after_all
    choice_is z after_all f = here ∙ ap (λ v. take n ts ++ (sign s.Question a.p ∷ (b.x ++ (sign s.Colon q ∷ v)))) f ∙ cut_front z after_all

    pub choice_start : start (take n ts) ≡ start ts
    choice_start = by (reads_some a.reads)
      where
        by : ((t : Token) × (y : Tokens) × (take n ts ≡ t ∷ y)) → start (take n ts) ≡ start ts
        by (t, y, f) = ap start f ∙ sym (ap start (a.is ∙ ap (λ v. v ++ (sign s.Question a.p ∷ more)) f))

    pub choice_reads : (z : Tokens) (right : OutletForm) → ReadsOutlet z right → ReadsOutlet (take n ts ++ (sign s.Question a.p ∷ (b.x ++ (sign s.Colon q ∷ z)))) (outlet.Choose (start ts) e left right)
    choice_reads z right h = subst (λ v. ReadsOutlet (take n ts ++ (sign s.Question a.p ∷ (b.x ++ (sign s.Colon q ∷ z)))) (outlet.Choose v e left right)) choice_start (ReadsOutlet.choose (take n ts) b.x z a.p q a.reads b.reads h)

    pub choice_within : (z : Tokens) → Within 32 0 z → Within 32 0 (take n ts ++ (sign s.Question a.p ∷ (b.x ++ (sign s.Colon q ∷ z))))
    choice_within z h =
        within_append 0 (take n ts) (sign s.Question a.p ∷ (b.x ++ (sign s.Colon q ∷ z))) a.within
        (subst (λ k2. Within 32 k2 (sign s.Question a.p ∷ (b.x ++ (sign s.Colon q ∷ z)))) (sym ((both_reads a.reads).0 0))
        (omega arith, within_append 0 b.x (sign s.Colon q ∷ z) b.within (subst (λ k2. Within 32 k2 (sign s.Colon q ∷ z)) (sym (outlet_even b.reads)) (omega arith, h))))

    pub choice_short : (z : Tokens) (m : ℕ) → n + 1 + l ≤ m → length more - length no ≤ l → length z ≤ l - (length more - length no) → length (take n ts ++ (sign s.Question a.p ∷ (b.x ++ (sign s.Colon q ∷ z)))) ≤ m
    choice_short z m room fits short = omega (arith, long z, used, room, fits, short)

-- ---- whole texts

pub outlet_reads : (p : Place) (t : Text) (ts x rest : Tokens) (a : OutletForm) → Lexes false p t ts [] → ts ≡ x ++ rest → rest ≡ [] → ReadsOutlet x a → IsOutlet p t a
outlet_reads p t ts x rest a lx e f h = (ts, lx, subst (λ v. ReadsOutlet v a) (sym (e ∙ ap (λ v. x ++ v) f ∙ append-nil x)) h)

pub outlet_calm : (p : Place) (t : Text) (ts x rest : Tokens) → Lexes false p t ts [] → ts ≡ x ++ rest → rest ≡ [] → Within 32 0 x → length x ≤ 256 → OverOutlet p t → ⊥
outlet_calm p t ts x rest lx e f within short (g, r, front, begins, passes) =
    let m = front_of p t ts g r lx front in
    let whole : x ≡ g ++ m.0 = sym (e ∙ ap (λ v. x ++ v) f ∙ append-nil x) ∙ m.1 in
    by m.0 whole passes
  where
    by : (m : Tokens) → x ≡ g ++ m → (32 < opens 0 g) ⊎ (256 < length g) → ⊥
    by m w (inl h) = let below : opens 0 g ≤ 32 = within_opens 32 0 g (omega arith) m (subst (Within 32 0) w within) in omega arith
    by m w (inr h) = omega (arith, ap length w, length-append g m)

pub outlet_rest : (p : Place) (t : Text) (ts x rest : Tokens) (a b : OutletForm) → Lexes false p t ts [] → ts ≡ x ++ rest → (rest ≡ [] → ⊥) → ReadsOutlet x a → AtColon rest → IsOutlet p t b → ⊥
outlet_rest p t ts x rest a b lx e some h ends (us, ly, i) =
    let same : us ≡ ts = same_tokens p t us ts ly lx in
    some (one_form h rest us b [] i ends tt (sym e ∙ sym same ∙ sym (append-nil us))).2

pub outlet_unread : (p : Place) (t : Text) (ts : Tokens) → Lexes false p t ts [] → NoForm ts → (a : OutletForm) → IsOutlet p t a → ⊥
outlet_unread p t ts lx none a (us, ly, i) = none us [] a (same_tokens p t ts us lx ly ∙ sym (append-nil us)) tt i

pub outlet_over : (p : Place) (t : Text) (ts : Tokens) → Lexes false p t ts [] → OverForm 256 ts → OverOutlet p t
outlet_over p t ts lx (f, g, is, begins, passes) = let c = lex.cut lx f g is in (f, c.0, c.1, begins, passes)

pub outlet_unscanned : (p : Place) (t : Text) → ((ts : Tokens) → Lexes false p t ts [] → ⊥) → (a : OutletForm) → IsOutlet p t a → ⊥
outlet_unscanned p t none a (ts, lx, h) = none ts lx
