-- The forms of outlets, over cursors.
use Rattle.std.proofs.Common.{◌≡◌, ℕ, suc, ◌-◌, ◌<◌, ◌≤◌, [], ◌∷◌, ◌++◌, length, take, drop, refl, sym, ◌∙◌, ap, subst, arith, length-append}
use Rattle.std.proofs.lemmas.List.{take-append-drop}
use Rattle.std.specs.Prelude.{true, false, ◌==◌, Option, Some, None, Result, Ok, Err}
use Rattle.ng_ast.specs.declared.Place.{Place}
use Rattle.ng_ast.specs.declared.Expr.{Expr}
use Rattle.ng_ast.specs.declared.OutletForm.{OutletForm}
use Rattle.ng_ast.specs.declared.OutletForm.TheVariants as outlet
use Rattle.ng_tokens.specs.declared.kinds.Sign.{Sign}
use Rattle.ng_tokens.specs.declared.kinds.Sign.TheVariants as s
use Rattle.ng_tokens.specs.Lexis.{Text, Lexes}
use Rattle.ng_tokens.specs.Scan.{scan}
use Rattle.ng_tokens.proofs.Tokens as lex
use Rattle.ng_exprs.specs.Grammar.{Tokens, sign, start}
use Rattle.ng_exprs.specs.Reading.{ReadsExpr, OverText}
use Rattle.ng_lex.specs.Values.{IsOutlet, OverOutlet}
use Rattle.ng_attributes.specs.declared.stop.Stop.{Stop}
use Rattle.ng_attributes.specs.declared.stop.Stop.TheVariants as halt
use Rattle.ng_attributes.specs.Answers.{Halts}
use Rattle.ng_attributes.proofs.Texts.{no_true, not_both, same_byte}
use Rattle.ng_attributes.proofs.Answering.{halts_as}
use Rattle.ng_tags.specs.declared.outlets.Cursor.{Cursor}
use Rattle.ng_tags.specs.Outlets.{top_len, sign_at, is_question, is_colon, is_bar, AtColon, leaf_of, Advances, Skips, AfterColon, OverForm, FormAt, NoForm, AnswersForm, TestAt, AnswersRight, AnswersBranches}
use Rattle.ng_tags.proofs.OutletForms.{sign_split, test_reads, test_inside, test_unread, test_over, test_long, leaf_is, bar_unread, leaf_unread, leaf_over, leaf_ends, Asked, Lefted, left_unread, left_over, colon_unread, right_unread, right_long, right_over, choice_is, choice_reads, choice_within, choice_short, outlet_reads, outlet_calm, outlet_rest, outlet_unread, outlet_over, outlet_unscanned}

-- ---- signs

pub question_is : (o : Option Sign) → is_question o ≡ true → o ≡ Some s.Question
question_is None e = absurd (no_true e)
question_is (Some s.Question) e = refl
question_is (Some _) e = absurd (no_true e)

pub colon_is : (o : Option Sign) → is_colon o ≡ true → o ≡ Some s.Colon
colon_is None e = absurd (no_true e)
colon_is (Some s.Colon) e = refl
colon_is (Some _) e = absurd (no_true e)

pub bar_is : (o : Option Sign) → is_bar o ≡ true → o ≡ Some s.Bar
bar_is None e = absurd (no_true e)
bar_is (Some s.Bar) e = refl
bar_is (Some _) e = absurd (no_true e)

no_question : (o : Option Sign) → is_question o ≡ false → o ≡ Some s.Question → ⊥
no_question o f e = not_both (is_question o) (ap is_question e) f

no_bar : (o : Option Sign) → is_bar o ≡ false → o ≡ Some s.Bar → ⊥
no_bar o f e = not_both (is_bar o) (ap is_bar e) f

-- ---- forms without a test

module _ (c : Cursor) (n : ℕ) (top : n ≡ top_len 0 c.tokens.now) (plain : is_question (sign_at c.tokens.now n) ≡ false) where
  pub leaf_bar : is_bar (sign_at c.tokens.now n) ≡ true → NoForm c.tokens.now
  leaf_bar bar = bar_unread c.tokens.now n top (no_question (sign_at c.tokens.now n) plain) (bar_is (sign_at c.tokens.now n) bar)

  pub leaf_none : leaf_of (take n c.tokens.now) ≡ None → NoForm c.tokens.now
  leaf_none none = leaf_unread c.tokens.now n top (no_question (sign_at c.tokens.now n) plain) none

  pub leaf_limit : (a : OutletForm) (m : ℕ) → leaf_of (take n c.tokens.now) ≡ Some a → m ≡ 0 → OverForm m c.tokens.now
  leaf_limit a m e z = subst (λ k. OverForm k c.tokens.now) (sym z) (leaf_over c.tokens.now n top (no_question (sign_at c.tokens.now n) plain) a e)

  pub leaf_form : (a : OutletForm) (m : ℕ) (rest : Cursor) → is_bar (sign_at c.tokens.now n) ≡ false → leaf_of (take n c.tokens.now) ≡ Some a → 0 < m → Skips c n rest → FormAt m c a rest
  leaf_form a m rest bar e some skips =
      let h = leaf_is (take n c.tokens.now) a e in
      record {
        x = take n c.tokens.now;
        is = sym (take-append-drop n c.tokens.now) ∙ ap (λ k. take n c.tokens.now ++ k) (sym skips.tokens);
        reads = h.reads;
        ends = subst AtColon (sym skips.tokens) (leaf_ends c.tokens.now n top (no_question (sign_at c.tokens.now n) plain) (no_bar (sign_at c.tokens.now n) bar));
        within = h.within;
        short = omega (arith, h.long);
        back = skips.back;
      }

-- ---- tests

module _ (c rest : Cursor) (n : ℕ) (a : Text) (top : n ≡ top_len 0 c.tokens.now) (asks : is_question (sign_at c.tokens.now n) ≡ true) (cut : Advances c n a rest) where
  asked : sign_at c.tokens.now n ≡ Some s.Question
  asked = question_is (sign_at c.tokens.now n) asks

  pub test_form : (e : Expr) (m : ℕ) (after : Cursor) → ReadsExpr false c.place a e → (OverText false c.place a → ⊥) → n < m → Skips rest 1 after → TestAt m n c e after
  test_form e m after reads calm less skips =
      let i = sign_split c.tokens.now n s.Question asked in
      record {
        p = i.p;
        is = i.is ∙ ap (λ k. take n c.tokens.now ++ (sign s.Question i.p ∷ k)) (sym (skips.tokens ∙ ap (drop 1) (cut.tokens ∙ i.from)));
        long = i.long;
        reads = test_reads c.tokens.now n top asked c.place a cut.front e reads;
        within = test_inside c.tokens.now n top asked c.place a cut.front e reads calm;
        short = less;
        back = skips.back;
      }

  pub test_limit : (e : Expr) (m : ℕ) → ReadsExpr false c.place a e → m ≤ n → OverForm m c.tokens.now
  test_limit e m reads long = test_long c.tokens.now n top asked c.place a cut.front m long e reads

  pub test_halts : (m : ℕ) (stop : Stop) → m ≤ 256 → Halts ((e : Expr) → ReadsExpr false c.place a e → ⊥) (OverText false c.place a) stop → Halts (NoForm c.tokens.now) (OverForm m c.tokens.now) stop
  test_halts m stop most h = halts_as _ _ _ _ stop (test_unread c.tokens.now n top asked c.place a cut.front) (test_over c.tokens.now n top asked c.place a cut.front m most) h

-- the `?` is left
pub question_left : (c rest : Cursor) (n : ℕ) → is_question (sign_at c.tokens.now n) ≡ true → rest.tokens.now ≡ drop n c.tokens.now → 1 ≤ length rest.tokens.now
question_left c rest n asks e = let i = sign_split c.tokens.now n s.Question (question_is (sign_at c.tokens.now n) asks) in subst (λ k. 1 ≤ length k) (sym (e ∙ i.from)) (omega arith)

-- ---- choices

pub colon_some : (c rest : Cursor) → is_colon (sign_at c.tokens.now 0) ≡ true → Skips c 1 rest → AfterColon c (Some rest)
colon_some c rest e skips =
    let i = sign_split c.tokens.now 0 s.Colon (colon_is (sign_at c.tokens.now 0) e) in
    (i.p, i.is ∙ ap (λ k. sign s.Colon i.p ∷ k) (sym (skips.tokens ∙ ap (drop 1) i.from)), skips.back)

pub colon_none : (c : Cursor) → is_colon (sign_at c.tokens.now 0) ≡ false → AfterColon c None
colon_none c f p ts e = not_both (is_colon (sign_at c.tokens.now 0)) (ap (λ k. is_colon (sign_at k 0)) e) f

module _ (m n : ℕ) (c yes : Cursor) (e : Expr) (top : n ≡ top_len 0 c.tokens.now) (test : TestAt m n c e yes) where
  asked_of : Asked c.tokens.now n e yes.tokens.now
  asked_of = record { p = test.p; is = test.is; reads = test.reads; within = test.within; long = test.long; top = top }

  pub left_halts : (stop : Stop) → Halts (NoForm yes.tokens.now) (OverForm (m - n - 1) yes.tokens.now) stop → Halts (NoForm c.tokens.now) (OverForm m c.tokens.now) stop
  left_halts stop h = halts_as _ _ _ _ stop (left_unread c.tokens.now yes.tokens.now n e asked_of) (left_over c.tokens.now yes.tokens.now n m (m - n - 1) e asked_of (omega (arith, test.short))) h

  module _ (rest : Cursor) (left : OutletForm) (form : FormAt (m - n - 1) yes left rest) where
    lefted_of : Lefted yes.tokens.now rest.tokens.now left (m - n - 1)
    lefted_of = record { x = form.x; is = form.is; reads = form.reads; ends = form.ends; within = form.within; short = form.short }

    pub no_right : AfterColon rest None → NoForm c.tokens.now
    no_right none = colon_unread c.tokens.now yes.tokens.now rest.tokens.now n (m - n - 1) e left asked_of lefted_of none

    module _ (no : Cursor) (colon : AfterColon rest (Some no)) where
      pub used_within : length no.tokens.now ≤ length yes.tokens.now
      used_within = omega (arith, ap length form.is, ap length colon.1, length-append form.x rest.tokens.now)

      pub right_limit : m - n - 1 < length yes.tokens.now - length no.tokens.now → OverForm m c.tokens.now
      right_limit long = right_long c.tokens.now yes.tokens.now rest.tokens.now n (m - n - 1) e left asked_of lefted_of colon.0 no.tokens.now colon.1 m (omega (arith, test.short)) long

      pub right_halts : (stop : Stop) → Halts (NoForm no.tokens.now) (OverForm (m - n - 1 - (length yes.tokens.now - length no.tokens.now)) no.tokens.now) stop → Halts (NoForm c.tokens.now) (OverForm m c.tokens.now) stop
      right_halts stop h =
          halts_as _ _ _ _ stop
          (right_unread c.tokens.now yes.tokens.now rest.tokens.now n (m - n - 1) e left asked_of lefted_of colon.0 no.tokens.now colon.1)
          (right_over c.tokens.now yes.tokens.now rest.tokens.now n (m - n - 1) e left asked_of lefted_of colon.0 no.tokens.now colon.1 m (omega (arith, test.short))) h

      pub choice_form : (after : Cursor) (right : OutletForm) → length yes.tokens.now - length no.tokens.now ≤ m - n - 1 → FormAt (m - n - 1 - (length yes.tokens.now - length no.tokens.now)) no right after
          → FormAt m c (outlet.Choose (start c.tokens.now) e left right) after
      unfolding asked_of lefted_of
      choice_form after right fits h = record {
        x = take n c.tokens.now ++ (sign s.Question test.p ∷ (form.x ++ (sign s.Colon colon.0 ∷ h.x)));
        is = choice_is c.tokens.now yes.tokens.now rest.tokens.now n (m - n - 1) e left asked_of lefted_of colon.0 no.tokens.now colon.1 h.x after.tokens.now h.is;
        reads = choice_reads c.tokens.now yes.tokens.now rest.tokens.now n (m - n - 1) e left asked_of lefted_of colon.0 no.tokens.now colon.1 h.x right h.reads;
        ends = h.ends;
        within = choice_within c.tokens.now yes.tokens.now rest.tokens.now n (m - n - 1) e left asked_of lefted_of colon.0 no.tokens.now colon.1 h.x h.within;
        short = choice_short c.tokens.now yes.tokens.now rest.tokens.now n (m - n - 1) e left asked_of lefted_of colon.0 no.tokens.now colon.1 h.x m (omega (arith, test.short)) fits h.short;
        back = h.back;
      }

-- ---- the parts of a choice

module _ (room : ℕ) (yes rest : Cursor) where
  pub right_none : (p : Place) → AfterColon rest None → AnswersRight room yes rest (Err (halt.Syntax p))
  right_none p none m n c e left top test same form = no_right m n c yes e top test rest left (subst (λ k. FormAt k yes left rest) same form) none

  module _ (no : Cursor) (colon : AfterColon rest (Some no)) (used : ℕ) (uses : used ≡ length yes.tokens.now - length no.tokens.now) where
    pub right_limited : room < used → AnswersRight room yes rest (Err halt.Limit)
    right_limited long m n c e left top test same form =
        right_limit m n c yes e top test rest left (subst (λ k. FormAt k yes left rest) same form) no colon (subst (λ k. m - n - 1 < k) uses (subst (λ k. k < used) same long))

    pub right_told : (r : Result (OutletForm × Cursor) Stop) → used ≤ room → AnswersForm (room - used) no r → AnswersRight room yes rest r
    right_told (Ok v) fits h m n c e left top test same form =
        choice_form m n c yes e top test rest left (subst (λ k. FormAt k yes left rest) same form) no colon v.1 v.0 (subst (λ k. k ≤ m - n - 1) uses (subst (λ k. used ≤ k) same fits))
        (subst (λ k. FormAt (m - n - 1 - k) no v.0 v.1) uses (subst (λ k. FormAt (k - used) no v.0 v.1) same h))
    right_told (Err why) fits h m n c e left top test same form =
        right_halts m n c yes e top test rest left (subst (λ k. FormAt k yes left rest) same form) no colon why
        (subst (λ k. Halts (NoForm no.tokens.now) (OverForm (m - n - 1 - k) no.tokens.now) why) uses (subst (λ k. Halts (NoForm no.tokens.now) (OverForm (k - used) no.tokens.now) why) same h))

  module _ (p : Place) (e : Expr) where
    pub left_told : (why : Stop) → Halts (NoForm yes.tokens.now) (OverForm room yes.tokens.now) why → AnswersBranches p e room yes (Err why)
    left_told why h m n c top test same here = left_halts m n c yes e top test why (subst (λ k. Halts (NoForm yes.tokens.now) (OverForm k yes.tokens.now) why) same h)

    module _ (left : OutletForm) (form : FormAt room yes left rest) where
      pub both_told : (why : Stop) → AnswersRight room yes rest (Err why) → AnswersBranches p e room yes (Err why)
      both_told why h m n c top test same here = h m n c e left top test same form

      pub chosen : (right k : OutletForm) (after : Cursor) → AnswersRight room yes rest (Ok (right, after)) → k ≡ outlet.Choose p e left right → AnswersBranches p e room yes (Ok (k, after))
      chosen right k after h made m n c top test same here =
          subst (λ j. FormAt m c j after) (sym (made ∙ ap (λ q. outlet.Choose q e left right) here)) (h m n c e left top test same form)

-- ---- whole texts

pub no_tokens : (ts : Tokens) → (length ts == 0) ≡ true → ts ≡ []
no_tokens [] e = refl
no_tokens (t ∷ ts) e = absurd (no (length ts) e)
  where
    no : (n : ℕ) → (suc n == 0) ≡ true → ⊥
    no n e = let h : suc n ≡ 0 = same_byte (suc n) 0 e in omega arith

pub some_tokens : (ts : Tokens) → (length ts == 0) ≡ false → ts ≡ [] → ⊥
some_tokens ts e f = no_true (sym e ∙ ap (λ k. length k == 0) f)

module _ (p : Place) (t : Text) (c : Cursor) (lx : Lexes false p t c.tokens.now []) where
  pub whole_form : (a : OutletForm) (rest : Cursor) → FormAt 256 c a rest → rest.tokens.now ≡ [] → IsOutlet p t a × (OverOutlet p t → ⊥)
  whole_form a rest h e = (outlet_reads p t c.tokens.now h.x rest.tokens.now a lx h.is e h.reads, outlet_calm p t c.tokens.now h.x rest.tokens.now lx h.is e h.within h.short)

  pub more_left : (a : OutletForm) (rest : Cursor) → FormAt 256 c a rest → (rest.tokens.now ≡ [] → ⊥) → (b : OutletForm) → IsOutlet p t b → ⊥
  more_left a rest h some b = outlet_rest p t c.tokens.now h.x rest.tokens.now a b lx h.is some h.reads h.ends

  pub whole_halts : (stop : Stop) → Halts (NoForm c.tokens.now) (OverForm 256 c.tokens.now) stop → Halts ((a : OutletForm) → IsOutlet p t a → ⊥) (OverOutlet p t) stop
  whole_halts stop h = halts_as _ _ _ _ stop (outlet_unread p t c.tokens.now lx) (outlet_over p t c.tokens.now lx) h

pub unscanned : (p : Place) (t : Text) → scan false 0 p t ≡ None → (ts : Tokens) → Lexes false p t ts [] → ⊥
unscanned p t none ts lx = differ (sym none ∙ lex.whole false p t ts lx)
  where
    differ : {A : Type 0} {a : A} → None ≡ Some a → ⊥
    differ e = cc

pub unscanned_halts : (p : Place) (t : Text) (stop : Stop) → Halts ((ts : Tokens) → Lexes false p t ts [] → ⊥) ⊥ stop → Halts ((a : OutletForm) → IsOutlet p t a → ⊥) (OverOutlet p t) stop
unscanned_halts p t stop h = halts_as _ _ _ _ stop (outlet_unscanned p t) (λ x. absurd x) h
