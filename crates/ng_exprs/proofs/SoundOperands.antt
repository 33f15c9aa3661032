-- Lists, operands and chains: what the function reads is in the grammar, and where it stops at a limit, a limit is passed.
use Rattle.std.proofs.Common.{◌≡◌, ℕ, zero, suc, ◌+◌, ◌<◌, ◌≤◌, List, [], ◌∷◌, ◌++◌, length, refl, sym, ◌∙◌, ap, subst, append_assoc, arith, length-append}
use Rattle.std.specs.Prelude.{Bool, true, false, Option, Some, None, Ok, Err, pos}
use Rattle.std.proofs.Common.{inl, inr}
use Rattle.ng_ast.specs.declared.Place.{Place}
use Rattle.ng_ast.specs.declared.Expr.{Expr}
use Rattle.ng_ast.specs.declared.Expr.TheVariants as e
use Rattle.ng_values.specs.declared.value.Value.{Value}
use Rattle.ng_values.specs.declared.value.Value.TheVariants as v
use Rattle.ng_tokens.specs.declared.kinds.Sign.{Sign}
use Rattle.ng_tokens.specs.declared.kinds.Sign.TheVariants as s
use Rattle.ng_tokens.specs.declared.kinds.Kind.{Kind}
use Rattle.ng_tokens.specs.declared.kinds.Kind.TheVariants as k
use Rattle.ng_tokens.specs.declared.kinds.Token.{Token}
use Rattle.ng_exprs.specs.Grammar.{Tokens, token, sign, start, origin, literal_of, key_of, Chain, ReadsPiped, ReadsAll, ReadsSome, ReadsPairs, ReadsSomePairs, ReadsPair}
use Rattle.ng_exprs.proofs.Complete.{starts_chain}
use Rattle.std.proofs.lemmas.List.{append-nil}
use Rattle.ng_exprs.specs.Limits.{after, opens}
use Rattle.ng_exprs.specs.Ends.{stops}
use Rattle.ng_exprs.specs.Parse.{Limit, Outcome, Parser, Brackets, and_then, sign_of, peek, rest, is_sign, expect, name, key, some_of, all_of, group, list, pair, rec, named, plain, atom, member, safe, index, call, followed, chain, follow, follow_by, atom_by}
use Rattle.ng_exprs.proofs.Outcomes.{Calm, Inside, InsideOf, Is, Sound, Stuck, Took, begun, calm_append, calm_brackets, calm_nothing, calm_one, calm_same, case_if, expect_is, explain, key_flat, key_is, key_on, name_is, seen, stuck_after, stuck_as, stuck_at, stuck_in, zero_piped, zero_tokens}

-- the kinds of list: one item, several, and none or several
pub record Lists {A : Type 0} (R : Tokens → A → Type 0) (S S' : Tokens → List A → Type 0) : Type 0 where
  pub sample : (y : Tokens) × (a : A) × R y a
  pub one : (x : Tokens) (a : A) → R x a → S x (a ∷ [])
  pub more : (x y : Tokens) (p : Place) (a : A) (es : List A) → R x a → S y es → S (x ++ sign s.Comma p ∷ y) (a ∷ es)
  pub nothing : S' [] []
  pub several : (x : Tokens) (es : List A) → S x es → S' x es

exprs : Lists ReadsPiped ReadsSome ReadsAll
exprs = record {
  sample = (zero_tokens, e.Literal origin (v.Int (pos 0)), zero_piped);
  one = λ x a r. ReadsSome.one r;
  more = λ x y p a es r r'. ReadsSome.more x y p r r';
  nothing = ReadsAll.nothing;
  several = λ x es r. ReadsAll.several r;
}

zero_pair : ReadsPair (token (k.Name []) origin ∷ sign s.Colon origin ∷ zero_tokens) ([], e.Literal origin (v.Int (pos 0)))
zero_pair = ReadsPair.pair (k.Name []) origin origin zero_tokens refl zero_piped

pairs : Lists ReadsPair ReadsSomePairs ReadsPairs
pairs = record {
  sample = (token (k.Name []) origin ∷ sign s.Colon origin ∷ zero_tokens, ([], e.Literal origin (v.Int (pos 0))), zero_pair);
  one = λ x a r. ReadsSomePairs.one_pair r;
  more = λ x y p a es r r'. ReadsSomePairs.more_pairs x y p r r';
  nothing = ReadsPairs.no_pair;
  several = λ x es r. ReadsPairs.some_pairs r;
}

-- what is known of the parser of an item
abbrev pub Items : {A : Type 0} → (Tokens → A → Type 0) → ℕ → ℕ → Parser A → Type 0
Items R d n item = (ts : Tokens) → Is (InsideOf R d ts) (Stuck R d n ts) (item ts)

took_more : {A : Type 0} (R : Tokens → A → Type 0) (S S' : Tokens → List A → Type 0) → Lists R S S' → (d : ℕ) (ts : Tokens) (a : A) (us : Tokens) → InsideOf R d ts a us → (vs : Tokens) → (q : Place) × (us ≡ sign s.Comma q ∷ vs)
    → (es : List A) (ws : Tokens) → InsideOf S d vs es ws → InsideOf S d ts (a ∷ es) ws
took_more R S S' forms d ts a us (c, ec, t) vs (q, eu) es ws (f, ef, m) = (
  c,
  ec,
  record {
    text = t.text ++ sign s.Comma q ∷ m.text;
    all = t.all ∙ ap (λ z. t.text ++ z) (eu ∙ ap (λ z. sign s.Comma q ∷ z) m.all) ∙ sym (append_assoc t.text (sign s.Comma q ∷ m.text) ws);
    reads = forms.more t.text m.text q a es t.reads m.reads;
    calm = calm_append c t.text _ t.calm (calm_append c (sign s.Comma q ∷ []) m.text (calm_one c _ (λ n. refl) (λ n. refl)) (calm_same d c f ec ef m.text m.calm));
  },
)

some_sound : {A : Type 0} (R : Tokens → A → Type 0) (S S' : Tokens → List A → Type 0) → Lists R S S' → (d n : ℕ) (item : Parser A) → Items R d n item → (m : ℕ) → m ≤ n → (ts : Tokens)
    → Is (InsideOf S d ts) (Stuck S d m ts) (some_of item m ts)
unfolding some_of
some_sound R S S' forms d n item h zero len ts = begun S d forms.sample.0 (forms.sample.1 ∷ []) (forms.one forms.sample.0 forms.sample.1 forms.sample.2) ts
some_sound {A = A} R S S' forms d n item h (suc m) len ts =
    let T : List A → Tokens → Type 0 = InsideOf S d ts in
    let Q : Type 0 = Stuck S d (suc m) ts in
    explain (InsideOf R d ts) (Stuck R d n ts) T Q (item ts) _ (h ts)
    (λ a us t. case_if T Q (is_sign s.Comma (peek us)) _ _
    (λ y. let c : (q : Place) × (us ≡ sign s.Comma q ∷ rest us) = seen s.Comma us y in
    explain (InsideOf S d (rest us)) (Stuck S d m (rest us)) T Q (some_of item m (rest us)) _ (some_sound R S S' forms d n item h m (omega arith) (rest us))
    (λ es ws w. took_more R S S' forms d ts a us t (rest us) c es ws w)
    (λ st. stuck_at S d (suc m) ts (t.2.text ++ (sign s.Comma c.0 ∷ rest us)) (ap (λ z. t.2.text ++ z) (sym c.1) ∙ sym t.2.all)
    (stuck_after S S t.2.text (sign s.Comma c.0) [] (λ es. a ∷ es)
    (λ y es r. subst (λ z. S (t.2.text ++ (sign s.Comma c.0 ∷ z)) (a ∷ es)) (sym (append-nil y)) (forms.more t.2.text y c.0 a es t.2.reads r))
    t.2.calm.even (λ m. m) (λ m. refl) d d m (suc m) (λ m. omega arith) (omega arith) (rest us) st)))
    (λ n. (t.0, t.1, record { text = t.2.text; all = t.2.all; reads = forms.one t.2.text a t.2.reads; calm = t.2.calm })))
    (stuck_as R S (λ a. a ∷ []) forms.one d n (suc m) len ts)

-- a list and the bracket that closes it
abbrev pub Closed : {A : Type 0} → (Tokens → List A → Type 0) → Sign → ℕ → Tokens → List A → Tokens → Type 0
Closed S' close d ts es us = (x : Tokens) × (q : Place) × (ts ≡ x ++ sign close q ∷ us) × S' x es × ((c : ℕ) × (d ≡ suc c) × Calm c x)

-- there is room for a bracket exactly where d isn't 0
abbrev pub Room : ℕ → Brackets → Type 0
Room d inner = (inner.room ≡ true → (c : ℕ) × (d ≡ suc c)) × (inner.room ≡ false → d ≡ 0)

pub all_sound : {A : Type 0} (R : Tokens → A → Type 0) (S S' : Tokens → List A → Type 0) → Lists R S S' → (inner : Brackets) (d : ℕ) → Room d inner → (item : Parser A) → Items R d inner.turns item → (close : Sign) (ts : Tokens)
    → Is (Closed S' close d ts) (Stuck S' d inner.turns ts) (all_of inner item close ts)
unfolding all_of
all_sound {A = A} R S S' forms inner d room item h close ts =
    let T : List A → Tokens → Type 0 = Closed S' close d ts in
    let Q : Type 0 = Stuck S' d inner.turns ts in
    case_if T Q inner.room _ (Err Limit)
    (λ y. case_if T Q (is_sign close (peek ts)) (Ok ([], rest ts)) _
    (λ y2. let c : (q : Place) × (ts ≡ sign close q ∷ rest ts) = seen close ts y2 in
    ([], c.0, c.1, forms.nothing, ((room.0 y).0, (room.0 y).1, calm_nothing (room.0 y).0)))
    (λ n. explain (InsideOf S d ts) (Stuck S d inner.turns ts) T Q (some_of item inner.turns ts) _ (some_sound R S S' forms d inner.turns item h inner.turns (omega arith) ts)
    (λ es us t. explain (λ _ vs. (q : Place) × (us ≡ sign close q ∷ vs)) ⊥ T Q (expect close us) _ (expect_is close us)
    (λ _ vs e. (t.2.text, e.0, t.2.all ∙ ap (λ z. t.2.text ++ z) e.1, forms.several t.2.text es t.2.reads, (t.0, t.1, t.2.calm)))
    (λ no. absurd no))
    (stuck_as S S' (λ es. es) forms.several d inner.turns inner.turns (omega arith) ts)))
    (λ n. record { text = []; tail = ts; more = []; value = []; all = refl; reads = forms.nothing; passes = inl (λ m. omega (arith, room.1 n)) })

pair_sound : (inner : Brackets) (d : ℕ) → Sound d inner → Items ReadsPair d inner.turns (pair inner)
unfolding pair
pair_sound inner d h = λ ts.
    let T : List ℕ × Expr → Tokens → Type 0 = InsideOf ReadsPair d ts in
    let Q : Type 0 = Stuck ReadsPair d inner.turns ts in
    explain (λ n us. (kind : Kind) × (p : Place) × (ts ≡ token kind p ∷ us) × (key_of kind ≡ Some n)) ⊥ T Q (key ts) _ (key_is ts)
    (λ n us f. explain (λ _ vs. (q : Place) × (us ≡ sign s.Colon q ∷ vs)) ⊥ T Q (expect s.Colon us) _ (expect_is s.Colon us)
    (λ _ vs g.
    let two : Tokens = token f.0 f.1 ∷ sign s.Colon g.0 ∷ [] in
    let whole_text : ts ≡ two ++ vs = f.2 ∙ ap (λ z. token f.0 f.1 ∷ z) g.1 in
    explain (Inside d vs) (Stuck ReadsPiped d inner.turns vs) T Q (inner.parse vs) _ (h vs)
    (λ a ws t. (
      t.0,
      t.1,
      record {
        text = two ++ t.2.text;
        all = whole_text ∙ ap (λ z. two ++ z) t.2.all;
        reads = ReadsPair.pair f.0 f.1 g.0 t.2.text f.3 t.2.reads;
        calm = calm_append t.0 (token f.0 f.1 ∷ []) _ (calm_one t.0 _ (key_flat f.0 n f.3) (key_on f.0 n f.3)) (calm_append t.0 (sign s.Colon g.0 ∷ []) t.2.text (calm_one t.0 _ (λ m. refl) (λ m. refl)) t.2.calm);
      },
    ))
    (λ st. stuck_at ReadsPair d inner.turns ts _ (sym whole_text)
    (stuck_in ReadsPiped ReadsPair two [] (λ a. (n, a)) (λ x a r. subst (λ z. ReadsPair (two ++ z) (n, a)) (sym (append-nil x)) (ReadsPair.pair f.0 f.1 g.0 x f.3 r))
    (λ m. m) (λ m r. ap (λ z. opens z r) (key_flat f.0 n f.3 m)) d d inner.turns inner.turns (λ m. omega arith) (omega arith) vs st)))
    (λ no. absurd no))
    (λ no. absurd no)

-- ---- operands

took_group : (d : ℕ) (p : Place) (ts : Tokens) (a : Expr) (us vs : Tokens) → Inside d ts a us → (q : Place) × (us ≡ sign s.CloseRound q ∷ vs)
    → Took (Chain false) d (sign s.OpenRound p ∷ ts) (e.Group p a) vs
took_group d p ts a us vs (c, ed, t) (q, eu) = record {
  text = sign s.OpenRound p ∷ t.text ++ sign s.CloseRound q ∷ [];
  all = rw append_assoc (ap (λ x. sign s.OpenRound p ∷ x) (t.all ∙ ap (λ x. t.text ++ x) eu));
  reads = Chain.group t.text p q t.reads;
  calm = subst (λ n. Calm n (sign s.OpenRound p ∷ t.text ++ sign s.CloseRound q ∷ [])) (sym ed) (calm_brackets c _ t.text _ (λ n. refl) (λ n. refl) (λ n. refl) (λ n. refl) t.calm);
}

abbrev pub Operand : ℕ → ℕ → Tokens → Outcome Expr → Type 0
Operand n d ts r = Is (Took (Chain false) d ts) (Stuck (Chain false) (suc d) n ts) r

group_sound : (inner : Brackets) (d : ℕ) → Sound d inner → (p : Place) (ts : Tokens) → Operand inner.turns d (sign s.OpenRound p ∷ ts) (group inner p ts)
unfolding group
group_sound inner d h p ts =
    let T : Expr → Tokens → Type 0 = Took (Chain false) d (sign s.OpenRound p ∷ ts) in
    let S : Type 0 = Stuck (Chain false) (suc d) inner.turns (sign s.OpenRound p ∷ ts) in
    explain (Inside d ts) (Stuck ReadsPiped d inner.turns ts) T S (inner.parse ts) _ (h ts)
    (λ a us t. explain (λ _ vs. (q : Place) × (us ≡ sign s.CloseRound q ∷ vs)) ⊥ T S (expect s.CloseRound us) _ (expect_is s.CloseRound us) (λ _ vs e. took_group d p ts a us vs t e) (λ no. absurd no))
    (stuck_in ReadsPiped (Chain false) (sign s.OpenRound p ∷ []) (sign s.CloseRound p ∷ []) (e.Group p) (λ x a r. Chain.group x p p r) suc (λ m r. refl) d (suc d) inner.turns inner.turns (λ m. omega arith) (omega arith) ts)

list_sound : (inner : Brackets) (d : ℕ) → Room d inner → Sound d inner → (p : Place) (ts : Tokens) → Operand inner.turns d (sign s.OpenSquare p ∷ ts) (list inner p ts)
unfolding list
list_sound inner d room h p ts =
    let T : Expr → Tokens → Type 0 = Took (Chain false) d (sign s.OpenSquare p ∷ ts) in
    let S : Type 0 = Stuck (Chain false) (suc d) inner.turns (sign s.OpenSquare p ∷ ts) in
    explain (Closed ReadsAll s.CloseSquare d ts) (Stuck ReadsAll d inner.turns ts) T S (all_of inner inner.parse s.CloseSquare ts) _ (all_sound ReadsPiped ReadsSome ReadsAll exprs inner d room inner.parse h s.CloseSquare ts)
    (λ es us t. record {
      text = sign s.OpenSquare p ∷ t.0 ++ sign s.CloseSquare t.1 ∷ [];
      all = rw append_assoc (ap (λ z. sign s.OpenSquare p ∷ z) t.2);
      reads = Chain.list t.0 p t.1 t.3;
      calm = subst (λ n. Calm n (sign s.OpenSquare p ∷ t.0 ++ sign s.CloseSquare t.1 ∷ [])) (sym t.4.1) (calm_brackets t.4.0 _ t.0 _ (λ n. refl) (λ n. refl) (λ n. refl) (λ n. refl) t.4.2);
    })
    (stuck_in ReadsAll (Chain false) (sign s.OpenSquare p ∷ []) (sign s.CloseSquare p ∷ []) (e.List p) (λ x es r. Chain.list x p p r) suc (λ m r. refl) d (suc d) inner.turns inner.turns (λ m. omega arith) (omega arith) ts)

rec_sound : (inner : Brackets) (d : ℕ) → Room d inner → Sound d inner → (p : Place) (ts : Tokens) → Operand inner.turns d (sign s.OpenBrace p ∷ ts) (rec inner p ts)
unfolding rec
rec_sound inner d room h p ts =
    let T : Expr → Tokens → Type 0 = Took (Chain false) d (sign s.OpenBrace p ∷ ts) in
    let S : Type 0 = Stuck (Chain false) (suc d) inner.turns (sign s.OpenBrace p ∷ ts) in
    explain (Closed ReadsPairs s.CloseBrace d ts) (Stuck ReadsPairs d inner.turns ts) T S (all_of inner (pair inner) s.CloseBrace ts) _
    (all_sound ReadsPair ReadsSomePairs ReadsPairs pairs inner d room (pair inner) (pair_sound inner d h) s.CloseBrace ts)
    (λ fs us t. record {
      text = sign s.OpenBrace p ∷ t.0 ++ sign s.CloseBrace t.1 ∷ [];
      all = rw append_assoc (ap (λ z. sign s.OpenBrace p ∷ z) t.2);
      reads = Chain.rec t.0 p t.1 t.3;
      calm = subst (λ n. Calm n (sign s.OpenBrace p ∷ t.0 ++ sign s.CloseBrace t.1 ∷ [])) (sym t.4.1) (calm_brackets t.4.0 _ t.0 _ (λ n. refl) (λ n. refl) (λ n. refl) (λ n. refl) t.4.2);
    })
    (stuck_in ReadsPairs (Chain false) (sign s.OpenBrace p ∷ []) (sign s.CloseBrace p ∷ []) (e.Rec p) (λ x fs r. Chain.rec x p p r) suc (λ m r. refl) d (suc d) inner.turns inner.turns (λ m. omega arith) (omega arith) ts)

-- an operand, and whether it is a name
abbrev pub ChainOf : Tokens → Bool × Expr → Type 0
ChainOf x q = Chain q.0 x q.1

abbrev pub Atom : ℕ → ℕ → Tokens → Outcome (Bool × Expr) → Type 0
Atom n d ts r = Is (Took ChainOf d ts) (Stuck ChainOf (suc d) n ts) r

atom_of : (n d : ℕ) (ts : Tokens) (p : Parser Expr) (us : Tokens) → Operand n d ts (p us) → Atom n d ts (plain p us)
atom_of n d ts p us h =
    explain (Took (Chain false) d ts) (Stuck (Chain false) (suc d) n ts) (Took ChainOf d ts) (Stuck ChainOf (suc d) n ts) (p us) _ h
    (λ a vs t. record { text = t.text; all = t.all; reads = t.reads; calm = t.calm })
    (stuck_as (Chain false) ChainOf (λ a. (false, a)) (λ x a r. r) (suc d) n n (omega arith) ts)

took_one : {A : Type 0} (R : Tokens → A → Type 0) (d : ℕ) (t : Token) (a : A) → ((n : ℕ) → after t.kind n ≡ n) → ((n : ℕ) → stops t.kind n ≡ false) → R (t ∷ []) a → (ts : Tokens) → Took R d (t ∷ ts) a ts
took_one R d t a flat on r ts = record { text = t ∷ []; all = refl; reads = r; calm = calm_one d t flat on }

named_reads : (p : Place) (n : List ℕ) (o : Option Value) → literal_of n ≡ o → ChainOf (token (k.Name n) p ∷ []) (named p n o)
named_reads p n None h = Chain.name n p h
named_reads p n (Some w) h = Chain.word n p h

atom_kind : (inner : Brackets) (d : ℕ) → Room d inner → Sound d inner → (kind : Kind) (p : Place) (ts : Tokens) → Atom inner.turns d (token kind p ∷ ts) (atom_by inner p kind ts)
atom_kind inner d room h (k.Number n) p ts = took_one ChainOf d _ _ (λ n. refl) (λ n. refl) (Chain.number n p) ts
atom_kind inner d room h (k.Text n) p ts = took_one ChainOf d _ _ (λ n. refl) (λ n. refl) (Chain.quoted n p) ts
atom_kind inner d room h (k.Name n) p ts = took_one ChainOf d _ _ (λ n. refl) (λ n. refl) (named_reads p n (literal_of n) refl) ts
atom_kind inner d room h (k.Variable n) p ts = took_one ChainOf d _ _ (λ n. refl) (λ n. refl) (Chain.variable n p) ts
atom_kind inner d room h (k.Sign s.OpenRound) p ts = atom_of inner.turns d _ (group inner p) ts (group_sound inner d h p ts)
atom_kind inner d room h (k.Sign s.OpenSquare) p ts = atom_of inner.turns d _ (list inner p) ts (list_sound inner d room h p ts)
atom_kind inner d room h (k.Sign s.OpenBrace) p ts = atom_of inner.turns d _ (rec inner p) ts (rec_sound inner d room h p ts)
atom_kind inner d room h (k.Sign _) p ts = tt

atom_sound : (inner : Brackets) (d : ℕ) → Room d inner → Sound d inner → (ts : Tokens) → Atom inner.turns d ts (atom inner ts)
unfolding atom
atom_sound inner d room h [] = tt
atom_sound inner d room h (t ∷ ts) = atom_kind inner d room h t.kind t.place ts

-- ---- chains

-- the tokens x went on with some more
pub record Grew {A : Type 0} (R : Tokens → A → Type 0) (d : ℕ) (x ts : Tokens) (a : A) (us : Tokens) : Type 0 where
  pub text : Tokens
  pub all : ts ≡ text ++ us
  pub reads : R (x ++ text) a
  pub calm : Calm d text
  pub long : 0 < length text

-- a chain of either kind
abbrev pub AnyChain : Tokens → Expr → Type 0
AnyChain x a = (c : Bool) × Chain c x a

grew_index : (d : ℕ) (c : Bool) (x : Tokens) (a : Expr) → Chain c x a → (p : Place) (ts : Tokens) (b : Expr) (us vs : Tokens) → Inside d ts b us → (q : Place) × (us ≡ sign s.CloseSquare q ∷ vs)
    → Grew (Chain false) d x (sign s.OpenSquare p ∷ ts) (e.Index (start x) a b) vs
grew_index d c x a ra p ts b us vs (f, ed, t) (q, eu) = record {
  text = sign s.OpenSquare p ∷ t.text ++ sign s.CloseSquare q ∷ [];
  all = rw append_assoc (ap (λ z. sign s.OpenSquare p ∷ z) (t.all ∙ ap (λ z. t.text ++ z) eu));
  reads = subst (λ z. Chain false z (e.Index (start x) a b)) (simp append_assoc) (Chain.index x t.text p q ra t.reads);
  calm = subst (λ n. Calm n (sign s.OpenSquare p ∷ t.text ++ sign s.CloseSquare q ∷ [])) (sym ed) (calm_brackets f _ t.text _ (λ n. refl) (λ n. refl) (λ n. refl) (λ n. refl) t.calm);
  long = omega arith;
}

-- what follows a chain
abbrev pub Follows : Bool → ℕ → ℕ → Tokens → Tokens → Outcome Expr → Type 0
Follows c n d x ts r = Is (Grew (Chain c) d x ts) (Stuck AnyChain (suc d) n (x ++ ts)) r

index_sound : (inner : Brackets) (d : ℕ) → Sound d inner → (c : Bool) (x : Tokens) (a : Expr) → Chain c x a → Calm d x → (p : Place) (ts : Tokens)
    → Follows false inner.turns d x (sign s.OpenSquare p ∷ ts) (index inner (start x) a ts)
unfolding index
index_sound inner d h c x a ra cx p ts =
    let T : Expr → Tokens → Type 0 = Grew (Chain false) d x (sign s.OpenSquare p ∷ ts) in
    let S : Type 0 = Stuck AnyChain (suc d) inner.turns (x ++ sign s.OpenSquare p ∷ ts) in
    explain (Inside d ts) (Stuck ReadsPiped d inner.turns ts) T S (inner.parse ts) _ (h ts)
    (λ b us t. explain (λ _ vs. (q : Place) × (us ≡ sign s.CloseSquare q ∷ vs)) ⊥ T S (expect s.CloseSquare us) _ (expect_is s.CloseSquare us)
    (λ _ vs e. grew_index d c x a ra p ts b us vs t e) (λ no. absurd no))
    (stuck_after ReadsPiped AnyChain x (sign s.OpenSquare p) (sign s.CloseSquare p ∷ []) (e.Index (start x) a)
    (λ y b r. (false, subst (λ z. Chain false z (e.Index (start x) a b)) (simp append_assoc) (Chain.index x y p p ra r))) cx.even suc (λ m. refl) d (suc d) inner.turns inner.turns (λ m. omega arith) (omega arith) ts)

call_sound : (inner : Brackets) (d : ℕ) → Room d inner → Sound d inner → (x : Tokens) (a : Expr) → Chain true x a → Calm d x → (p : Place) (ts : Tokens)
    → Follows false inner.turns d x (sign s.OpenRound p ∷ ts) (call inner (start x) a ts)
unfolding call
call_sound inner d room h x a ra cx p ts =
    let T : Expr → Tokens → Type 0 = Grew (Chain false) d x (sign s.OpenRound p ∷ ts) in
    let S : Type 0 = Stuck AnyChain (suc d) inner.turns (x ++ sign s.OpenRound p ∷ ts) in
    explain (Closed ReadsAll s.CloseRound d ts) (Stuck ReadsAll d inner.turns ts) T S (all_of inner inner.parse s.CloseRound ts) _ (all_sound ReadsPiped ReadsSome ReadsAll exprs inner d room inner.parse h s.CloseRound ts)
    (λ es us t. record {
      text = sign s.OpenRound p ∷ t.0 ++ sign s.CloseRound t.1 ∷ [];
      all = rw append_assoc (ap (λ z. sign s.OpenRound p ∷ z) t.2);
      reads = subst (λ z. Chain false z (e.Call (start x) a es)) (simp append_assoc) (Chain.call x t.0 p t.1 ra t.3);
      calm = subst (λ n. Calm n (sign s.OpenRound p ∷ t.0 ++ sign s.CloseRound t.1 ∷ [])) (sym t.4.1) (calm_brackets t.4.0 _ t.0 _ (λ n. refl) (λ n. refl) (λ n. refl) (λ n. refl) t.4.2);
      long = omega arith;
    })
    (stuck_after ReadsAll AnyChain x (sign s.OpenRound p) (sign s.CloseRound p ∷ []) (e.Call (start x) a)
    (λ y es r. (false, subst (λ z. Chain false z (e.Call (start x) a es)) (simp append_assoc) (Chain.call x y p p ra r))) cx.even suc (λ m. refl) d (suc d) inner.turns inner.turns (λ m. omega arith) (omega arith) ts)

member_sound : (inner : Brackets) (d : ℕ) (c : Bool) (x : Tokens) (a : Expr) → Chain c x a → (p : Place) (ts : Tokens) → Follows true inner.turns d x (sign s.Dot p ∷ ts) (member inner (start x) a ts)
unfolding member
member_sound inner d c x a ra p ts =
    explain (λ n us. (q : Place) × (ts ≡ token (k.Name n) q ∷ us)) ⊥ (Grew (Chain true) d x (sign s.Dot p ∷ ts)) (Stuck AnyChain (suc d) inner.turns (x ++ sign s.Dot p ∷ ts)) (name ts) _ (name_is ts)
    (λ n us e. record {
      text = sign s.Dot p ∷ token (k.Name n) e.0 ∷ [];
      all = ap (λ z. sign s.Dot p ∷ z) e.1;
      reads = Chain.member x p e.0 ra;
      calm = calm_append d (sign s.Dot p ∷ []) _ (calm_one d _ (λ n. refl) (λ n. refl)) (calm_one d _ (λ n. refl) (λ n. refl));
      long = omega arith;
    })
    (λ no. absurd no)

safe_sound : (inner : Brackets) (d : ℕ) (c : Bool) (x : Tokens) (a : Expr) → Chain c x a → (p : Place) (ts : Tokens) → Follows true inner.turns d x (sign s.SafeDot p ∷ ts) (safe inner (start x) a ts)
unfolding safe
safe_sound inner d c x a ra p ts =
    explain (λ n us. (q : Place) × (ts ≡ token (k.Name n) q ∷ us)) ⊥ (Grew (Chain true) d x (sign s.SafeDot p ∷ ts)) (Stuck AnyChain (suc d) inner.turns (x ++ sign s.SafeDot p ∷ ts)) (name ts) _ (name_is ts)
    (λ n us e. record {
      text = sign s.SafeDot p ∷ token (k.Name n) e.0 ∷ [];
      all = ap (λ z. sign s.SafeDot p ∷ z) e.1;
      reads = Chain.safe x p e.0 ra;
      calm = calm_append d (sign s.SafeDot p ∷ []) _ (calm_one d _ (λ n. refl) (λ n. refl)) (calm_one d _ (λ n. refl) (λ n. refl));
      long = omega arith;
    })
    (λ no. absurd no)

-- the loop stops where it is
pub stopped : {A : Type 0} (R : Tokens → A → Type 0) (d : ℕ) (x : Tokens) (a : A) → R x a → Calm d x → (ts : Tokens) → Took R d (x ++ ts) a ts
stopped R d x a ra cx ts = record { text = x; all = refl; reads = ra; calm = cx }

pub out_of_turns : {A : Type 0} (R : Tokens → A → Type 0) (d n : ℕ) (x : Tokens) (a : A) → R x a → n ≤ length x + 0 → (ts : Tokens) → Stuck R d n (x ++ ts)
out_of_turns R d n x a ra len ts = record { text = x; tail = ts; more = []; value = a; all = refl; reads = subst (λ z. R z a) (sym (append-nil x)) ra; passes = inr (omega arith) }

abbrev pub Chained : ℕ → ℕ → Tokens → Outcome Expr → Type 0
Chained n d ts r = Is (Took AnyChain d ts) (Stuck AnyChain (suc d) n ts) r

Loop : Brackets → ℕ → ℕ → Type 0
Loop inner d m = (c : Bool) (x : Tokens) (a : Expr) → Chain c x a → Calm d x → inner.turns ≤ length x + m → (ts : Tokens) → Chained inner.turns d (x ++ ts) (followed inner m c (start x) a ts)

follow_again : (inner : Brackets) (d m : ℕ) → Loop inner d m → (c : Bool) (x : Tokens) → Calm d x → inner.turns ≤ length x + suc m → (ts : Tokens) (b : Expr) (us : Tokens) → Grew (Chain c) d x ts b us
    → ((r : Tokens) → start (x ++ r) ≡ start x) → Chained inner.turns d (x ++ ts) (followed inner m c (start x) b us)
unfolding Loop
follow_again inner d m loop c x cx len ts b us g st =
    subst (λ z. Chained inner.turns d z (followed inner m c (start x) b us)) (append_assoc x g.text us ∙ ap (λ z. x ++ z) (sym g.all))
    (subst (λ z. Chained inner.turns d ((x ++ g.text) ++ us) (followed inner m c z b us)) (st g.text)
    (loop c (x ++ g.text) b g.reads (calm_append d x g.text cx g.calm) (omega (arith, length-append x g.text, g.long)) us))

follow_with : (inner : Brackets) (d m : ℕ) → Loop inner d m → (c : Bool) (x : Tokens) → Calm d x → inner.turns ≤ length x + suc m → ((r : Tokens) → start (x ++ r) ≡ start x) → (ts : Tokens) (r : Outcome Expr)
    → Follows c inner.turns d x ts r → Chained inner.turns d (x ++ ts) (and_then r (followed inner m c (start x)))
follow_with inner d m loop c x cx len st ts r h =
    explain (Grew (Chain c) d x ts) (Stuck AnyChain (suc d) inner.turns (x ++ ts)) (Took AnyChain d (x ++ ts)) (Stuck AnyChain (suc d) inner.turns (x ++ ts)) r (followed inner m c (start x)) h
    (λ b vs g. follow_again inner d m loop c x cx len ts b vs g st) (λ st. st)

follow_stops : (inner : Brackets) (d m : ℕ) (c : Bool) (x : Tokens) (a : Expr) → Chain c x a → Calm d x → (ts : Tokens) → follow_by inner (start x) c a (peek ts) ≡ None
    → Chained inner.turns d (x ++ ts) (follow inner (λ f. followed inner m f (start x)) a (follow_by inner (start x) c a (peek ts)) ts)
follow_stops inner d m c x a ra cx ts e = rw e (stopped AnyChain d x a (c, ra) cx ts)

follow_sound : (inner : Brackets) (d : ℕ) → Room d inner → Sound d inner → (m : ℕ) → Loop inner d m → (c : Bool) (x : Tokens) (a : Expr) → Chain c x a → Calm d x → inner.turns ≤ length x + suc m → (kind : Kind) (p : Place) (ts : Tokens)
    → Chained inner.turns d (x ++ token kind p ∷ ts) (follow inner (λ f. followed inner m f (start x)) a (follow_by inner (start x) c a (sign_of kind)) (token kind p ∷ ts))
follow_sound inner d room h m loop true x a ra cx len (k.Sign s.Dot) p ts = follow_with inner d m loop true x cx len (starts_chain ra) (sign s.Dot p ∷ ts) _ (member_sound inner d true x a ra p ts)
follow_sound inner d room h m loop true x a ra cx len (k.Sign s.SafeDot) p ts = follow_with inner d m loop true x cx len (starts_chain ra) (sign s.SafeDot p ∷ ts) _ (safe_sound inner d true x a ra p ts)
follow_sound inner d room h m loop true x a ra cx len (k.Sign s.OpenSquare) p ts = follow_with inner d m loop false x cx len (starts_chain ra) (sign s.OpenSquare p ∷ ts) _ (index_sound inner d h true x a ra cx p ts)
follow_sound inner d room h m loop true x a ra cx len (k.Sign s.OpenRound) p ts = follow_with inner d m loop false x cx len (starts_chain ra) (sign s.OpenRound p ∷ ts) _ (call_sound inner d room h x a ra cx p ts)
follow_sound inner d room h m loop true x a ra cx len (k.Sign y) p ts = stopped AnyChain d x a (true, ra) cx _
follow_sound inner d room h m loop true x a ra cx len (k.Number n) p ts = stopped AnyChain d x a (true, ra) cx _
follow_sound inner d room h m loop true x a ra cx len (k.Text n) p ts = stopped AnyChain d x a (true, ra) cx _
follow_sound inner d room h m loop true x a ra cx len (k.Name n) p ts = stopped AnyChain d x a (true, ra) cx _
follow_sound inner d room h m loop true x a ra cx len (k.Variable n) p ts = stopped AnyChain d x a (true, ra) cx _
follow_sound inner d room h m loop false x a ra cx len (k.Sign s.Dot) p ts = follow_with inner d m loop true x cx len (starts_chain ra) (sign s.Dot p ∷ ts) _ (member_sound inner d false x a ra p ts)
follow_sound inner d room h m loop false x a ra cx len (k.Sign s.SafeDot) p ts = follow_with inner d m loop true x cx len (starts_chain ra) (sign s.SafeDot p ∷ ts) _ (safe_sound inner d false x a ra p ts)
follow_sound inner d room h m loop false x a ra cx len (k.Sign s.OpenSquare) p ts = follow_with inner d m loop false x cx len (starts_chain ra) (sign s.OpenSquare p ∷ ts) _ (index_sound inner d h false x a ra cx p ts)
follow_sound inner d room h m loop false x a ra cx len (k.Sign y) p ts = stopped AnyChain d x a (false, ra) cx _
follow_sound inner d room h m loop false x a ra cx len (k.Number n) p ts = stopped AnyChain d x a (false, ra) cx _
follow_sound inner d room h m loop false x a ra cx len (k.Text n) p ts = stopped AnyChain d x a (false, ra) cx _
follow_sound inner d room h m loop false x a ra cx len (k.Name n) p ts = stopped AnyChain d x a (false, ra) cx _
follow_sound inner d room h m loop false x a ra cx len (k.Variable n) p ts = stopped AnyChain d x a (false, ra) cx _

no_tokens : (inner : Brackets) (c : Bool) (p : Place) (a : Expr) → follow_by inner p c a None ≡ None
no_tokens inner true p a = refl
no_tokens inner false p a = refl

followed_sound : (inner : Brackets) (d : ℕ) → Room d inner → Sound d inner → (m : ℕ) → Loop inner d m
unfolding followed Loop
followed_sound inner d room h zero = λ c x a ra cx len ts. out_of_turns AnyChain (suc d) inner.turns x a (c, ra) len ts
followed_sound inner d room h (suc m) = λ c x a ra cx len ts. elim ts as (λ z. Chained inner.turns d (x ++ z) (followed inner (suc m) c (start x) a z)) [
  | [] ↦ follow_stops inner d m c x a ra cx [] (no_tokens inner c (start x) a)
  | t ∷ us ↦ follow_sound inner d room h m (followed_sound inner d room h m) c x a ra cx len t.kind t.place us
]

pub chain_sound : (inner : Brackets) (d : ℕ) → Room d inner → Sound d inner → (ts : Tokens) → Chained inner.turns d ts (chain inner ts)
unfolding chain Loop
chain_sound inner d room h ts =
    let T : Bool × Expr → Tokens → Type 0 = Took ChainOf d ts in
    let S : Type 0 = Stuck ChainOf (suc d) inner.turns ts in
    explain T S (Took AnyChain d ts) (Stuck AnyChain (suc d) inner.turns ts) (atom inner ts) _ (atom_sound inner d room h ts)
    (λ q us t. subst (λ z. Chained inner.turns d z (followed inner inner.turns q.0 (start z) q.1 us)) (sym t.all)
    (subst (λ z. Chained inner.turns d (t.text ++ us) (followed inner inner.turns q.0 z q.1 us)) (sym (starts_chain t.reads us))
    (followed_sound inner d room h inner.turns q.0 t.text q.1 t.reads t.calm (omega arith) us)))
    (stuck_as ChainOf AnyChain (λ q. q.1) (λ x q r. (q.0, r)) (suc d) inner.turns inner.turns (omega arith) ts)
