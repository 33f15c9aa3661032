-- One attribute, as the code reads it: its name, and what stands behind it.
use Rattle.std.proofs.Common.{◌≡◌, ◌<◌, [], ◌∷◌, ◌++◌, length, refl, sym, ◌∙◌, ap, subst, arith, length-append, inl, inr}
use Rattle.std.specs.Prelude.{true, Some, None}
use Rattle.ng_ast.specs.declared.Place.{Place}
use Rattle.ng_ast.specs.declared.TAttr.{TAttr}
use Rattle.ng_tokens.specs.Lexis.{Text, is_blank, all, steps}
use Rattle.ng_lex.specs.declared.attributes.NameForm.{NameForm}
use Rattle.ng_lex.specs.Letters.{Letters, Decodes}
use Rattle.ng_lex.specs.Words.{at_front}
use Rattle.ng_lex.specs.Names.{in_attribute, IsAttribute, form_of}
use Rattle.ng_lex.specs.Values.{Says, without_value, OverValue}
use Rattle.ng_lex.specs.Attributes.{attribute}
use Rattle.ng_attributes.specs.declared.stop.Stop.{Stop}
use Rattle.ng_attributes.specs.Answers.{Halts}
use Rattle.ng_attributes.specs.Runs.{Run}
use Rattle.ng_tags.specs.Tags.{ends_attribute, NoEquals, ValuedAt, AloneAt, SaysAt, AttributeAt, OverAttributeAt}
use Rattle.ng_tags.specs.Marks.{AssignedAt}
use Rattle.ng_tags.specs.Reads.{Lone, Said, OverSaid}
use Rattle.ng_attributes.proofs.Texts.{some_one, not_both, same_runs, steps_append}
use Rattle.ng_attributes.proofs.Answering.{halts_as}
use Rattle.ng_tags.proofs.TagLaws.{same_tail, attribute_all, equals_stops, alone_stops, marked_starts, one_marked, Starts, starts_attribute}

-- ---- behind the name

-- what two values that stand at one place have in common
pub record SameAssigned (s u : Place) (x y : Text) (q o : Place) (r z : Text) : Type 0 where
  pub insides : s ≡ u
  pub texts : x ≡ y
  pub places : q ≡ o
  pub rests : r ≡ z

pub one_assigned : (p : Place) (t : Text) (s u : Place) (x y : Text) (q o : Place) (r z : Text) → AssignedAt p t s x q r → AssignedAt p t u y o z → SameAssigned s u x y q o r z
one_assigned p t s u x y q o r z h i =
    let hv : Text = h.v ++ (h.m ++ (x ++ (h.m ++ r))) in
    let iv : Text = i.v ++ (i.m ++ (y ++ (i.m ++ z))) in
    let gaps = same_runs is_blank h.w i.w (61 ∷ hv) (61 ∷ iv) (sym h.is ∙ i.is) h.before i.before refl refl in
    let inner = same_runs is_blank h.v i.v (h.m ++ (x ++ (h.m ++ r))) (i.m ++ (y ++ (i.m ++ z))) (same_tail 61 gaps.1) h.behind i.behind (marked_starts h.marked) (marked_starts i.marked) in
    let marks = one_marked h.marked i.marked inner.1 in
    record {
      insides = h.inside ∙ ap (λ k. steps p (k ++ (61 ∷ (h.v ++ h.m)))) gaps.0 ∙ ap (λ k. steps p (i.w ++ (61 ∷ (k ++ h.m)))) inner.0 ∙ ap (λ k. steps p (i.w ++ (61 ∷ (i.v ++ k)))) marks.0 ∙ sym i.inside;
      texts = marks.1;
      places = h.at ∙ ap (λ k. steps p (k ++ (61 ∷ (h.v ++ (h.m ++ (x ++ h.m)))))) gaps.0 ∙ ap (λ k. steps p (i.w ++ (61 ∷ (k ++ (h.m ++ (x ++ h.m)))))) inner.0
          ∙ ap (λ k. steps p (i.w ++ (61 ∷ (i.v ++ (k ++ (x ++ k)))))) marks.0 ∙ ap (λ k. steps p (i.w ++ (61 ∷ (i.v ++ (i.m ++ (k ++ i.m)))))) marks.1 ∙ sym i.at;
      rests = marks.2;
    }

assigned_equals : (p : Place) (t : Text) (s : Place) (x : Text) (q : Place) (r : Text) → AssignedAt p t s x q r → NoEquals t → ⊥
assigned_equals p t s x q r h none = none h.w (h.v ++ (h.m ++ (x ++ (h.m ++ r)))) h.before h.is

pub is_attribute : (n : Text) → (n ≡ [] → ⊥) → all in_attribute n ≡ true → IsAttribute n
is_attribute [] some h = absurd (some refl)
is_attribute (b ∷ n) some h = h

pub shorter : (t n z : Text) → t ≡ n ++ z → (n ≡ [] → ⊥) → length z < length t
shorter t [] z e some = absurd (some refl)
shorter t (b ∷ n) z e some = omega (arith, ap length e, length-append (b ∷ n) z)

pub shorter_still : (p : Place) (t : Text) (s : Place) (x : Text) (q : Place) (r : Text) → AssignedAt p t s x q r → length r < length t
shorter_still p t s x q r h =
    omega (arith, ap length h.is, length-append h.w (61 ∷ (h.v ++ (h.m ++ (x ++ (h.m ++ r))))), length-append h.v (h.m ++ (x ++ (h.m ++ r))), length-append h.m (x ++ (h.m ++ r)), length-append x (h.m ++ r), length-append h.m r)

-- no name stands at the front
pub no_name : (p : Place) (t n z : Text) → Run in_attribute t n z → n ≡ [] → (one : TAttr) (q : Place) (r : Text) → AttributeAt p t one q r → ⊥
no_name p t n z run e one q r h = by (starts_attribute p t one q r h)
  where
    front : t ≡ z
    front = run.is ∙ ap (λ k. k ++ z) e

    by : Starts in_attribute t → ⊥
    by (b, y, is, passes) = not_both (in_attribute b) passes (sym (ap (at_front in_attribute) (sym front ∙ is)) ∙ run.stops)

module _ (p : Place) (t n z : Text) (run : Run in_attribute t n z) where
  alone_name : (one : TAttr) (q : Place) (r : Text) → (h : AloneAt p t one q r) → (h.n ≡ n) × (r ≡ z)
  alone_name one q r h = same_runs in_attribute h.n n r z (sym h.is ∙ run.is) (attribute_all h.n h.name) run.passes (alone_stops r h.ends) run.stops

  valued_name : (f : NameForm) (s : Place) (ls : Letters) (q : Place) (r : Text) → (h : ValuedAt p t f s ls q r) → (h.n ≡ n) × (h.w ++ (61 ∷ (h.v ++ (h.m ++ (h.x ++ (h.m ++ r))))) ≡ z)
  valued_name f s ls q r h =
      let rest : Text = h.v ++ (h.m ++ (h.x ++ (h.m ++ r))) in
      same_runs in_attribute h.n n (h.w ++ (61 ∷ rest)) z (sym h.is ∙ run.is) (attribute_all h.n h.name) run.passes (equals_stops h.w rest h.before) run.stops

  -- the name has no form
  pub no_form : form_of n ≡ None → (one : TAttr) (q : Place) (r : Text) → AttributeAt p t one q r → ⊥
  no_form e one q r (inl h) = differ (sym h.form ∙ ap form_of (alone_name one q r h).0 ∙ e)
    where
      differ : {A : Type 0} {a : A} → Some a ≡ None → ⊥
      differ d = cc
  no_form e one q r (inr h) = differ (sym h.valued.form ∙ ap form_of (valued_name h.f h.s h.ls q r h.valued).0 ∙ e)
    where
      differ : {A : Type 0} {a : A} → Some a ≡ None → ⊥
      differ d = cc

  module _ (f : NameForm) (form : form_of n ≡ Some f) where
    valued_assigned : (g : NameForm) (s : Place) (ls : Letters) (q : Place) (r : Text) → (h : ValuedAt p t g s ls q r) → (g ≡ f) × AssignedAt (steps p n) z s h.x q r × Decodes s h.x ls
    valued_assigned g s ls q r h =
        let e = valued_name g s ls q r h in
        let moved : (y : Text) → steps p (h.n ++ y) ≡ steps (steps p n) y = λ y. ap (λ k. steps p (k ++ y)) e.0 ∙ steps_append p n y in (
          some_one (sym h.form ∙ ap form_of e.0 ∙ form),
          record {
            w = h.w;
            v = h.v;
            m = h.m;
            before = h.before;
            behind = h.behind;
            marked = h.marked;
            is = sym e.1;
            inside = h.inside ∙ moved (h.w ++ (61 ∷ (h.v ++ h.m)));
            at = h.at ∙ moved (h.w ++ (61 ∷ (h.v ++ (h.m ++ (h.x ++ h.m)))));
          },
          h.decodes,
        )

    assigned_valued : IsAttribute n → (s : Place) (x : Text) (ls : Letters) (q : Place) (r : Text) → AssignedAt (steps p n) z s x q r → Decodes s x ls → ValuedAt p t f s ls q r
    assigned_valued name s x ls q r h decodes = record {
      n = n;
      w = h.w;
      v = h.v;
      m = h.m;
      x = x;
      name = name;
      form = form;
      before = h.before;
      behind = h.behind;
      marked = h.marked;
      is = run.is ∙ ap (λ k. n ++ k) h.is;
      inside = h.inside ∙ sym (steps_append p n (h.w ++ (61 ∷ (h.v ++ h.m))));
      at = h.at ∙ sym (steps_append p n (h.w ++ (61 ∷ (h.v ++ (h.m ++ (x ++ h.m))))));
      decodes = decodes;
    }

    lone_of : (one : TAttr) (q : Place) (r : Text) → AloneAt p t one q r → Lone p f z one
    lone_of one q r h =
        let e = alone_name one q r h in
        let same : h.f ≡ f = some_one (sym h.form ∙ ap form_of e.0 ∙ form) in
        record {
          form = h.says;
          without = ap without_value (sym same) ∙ h.without;
          all = h.all ∙ ap (λ k. attribute p k h.says) same;
          ends = subst (λ k. at_front ends_attribute k ≡ true) e.1 h.ends;
        }

    -- ---- without a value

    pub alone_reads : IsAttribute n → NoEquals z → (one : TAttr) → Lone p f z one → (q : Place) → q ≡ steps p n → AttributeAt p t one q z
    alone_reads name none one h q e =
        inl (record { n = n; f = f; says = h.form; name = name; form = form; without = h.without; is = run.is; at = e; all = h.all; unvalued = none; ends = h.ends })

    pub alone_calm : NoEquals z → OverAttributeAt p t → ⊥
    alone_calm none h = let a = valued_assigned h.f h.s h.ls h.q h.r h.valued in assigned_equals (steps p n) z h.s h.valued.x h.q h.r a.1 none

    pub alone_unread : NoEquals z → ((one : TAttr) → Lone p f z one → ⊥) → (one : TAttr) (q : Place) (r : Text) → AttributeAt p t one q r → ⊥
    alone_unread none lone one q r (inl h) = lone one (lone_of one q r h)
    alone_unread none lone one q r (inr h) = let a = valued_assigned h.f h.s h.ls q r h.valued in assigned_equals (steps p n) z h.s h.valued.x q r a.1 none

    pub alone_halts : NoEquals z → (e : Stop) → Halts ((one : TAttr) → Lone p f z one → ⊥) ⊥ e → Halts ((one : TAttr) (q : Place) (r : Text) → AttributeAt p t one q r → ⊥) (OverAttributeAt p t) e
    alone_halts none e k = halts_as _ _ _ _ e (alone_unread none) (λ x. absurd x) k

    pub broken_unread : (NoEquals z → ⊥) → ((s q : Place) (x r : Text) → AssignedAt (steps p n) z s x q r → ⊥) → (one : TAttr) (q : Place) (r : Text) → AttributeAt p t one q r → ⊥
    broken_unread some none one q r (inl h) = some (subst NoEquals (alone_name one q r h).1 h.unvalued)
    broken_unread some none one q r (inr h) = let a = valued_assigned h.f h.s h.ls q r h.valued in none h.s q h.valued.x r a.1

    -- ---- with a value

    module _ (s : Place) (x : Text) (q : Place) (r : Text) (at : AssignedAt (steps p n) z s x q r) where
      pub valued_reads : IsAttribute n → (one : TAttr) → Said p f s x r one → AttributeAt p t one q r
      valued_reads name one h = inr (record { f = f; s = s; ls = h.ls; form = h.form; valued = assigned_valued name s x h.ls q r at h.decodes; says = h.says; all = h.all; ends = h.ends })

      pub over_of : OverAttributeAt p t → OverSaid f s x
      over_of h =
          let a = valued_assigned h.f h.s h.ls h.q h.r h.valued in
          let same = one_assigned (steps p n) z h.s s h.valued.x x h.q q h.r r a.1 at in
          record {
            ls = h.ls;
            decodes = subst (λ k. Decodes k x h.ls) same.insides (subst (λ k. Decodes h.s k h.ls) same.texts a.2);
            over = subst (λ k. OverValue f k h.ls) same.insides (subst (λ k. OverValue k h.s h.ls) a.0 h.over);
          }

      pub of_over : IsAttribute n → OverSaid f s x → OverAttributeAt p t
      of_over name h = record { f = f; s = s; ls = h.ls; q = q; r = r; valued = assigned_valued name s x h.ls q r at h.decodes; over = h.over }

      said_of : (one : TAttr) (o : Place) (y : Text) → SaysAt p t one o y → Said p f s x r one
      said_of one o y h =
          let a = valued_assigned h.f h.s h.ls o y h.valued in
          let same = one_assigned (steps p n) z h.s s h.valued.x x o q y r a.1 at in
          record {
            ls = h.ls;
            form = h.form;
            decodes = subst (λ k. Decodes k x h.ls) same.insides (subst (λ k. Decodes h.s k h.ls) same.texts a.2);
            says = subst (λ k. Says f k h.ls h.form) same.insides (subst (λ k. Says k h.s h.ls h.form) a.0 h.says);
            all = h.all ∙ ap (λ k. attribute p k h.form) a.0;
            ends = subst (λ k. at_front ends_attribute k ≡ true) same.rests h.ends;
          }

      pub valued_unread : ((one : TAttr) → Said p f s x r one → ⊥) → (one : TAttr) (o : Place) (y : Text) → AttributeAt p t one o y → ⊥
      valued_unread said one o y (inl h) = assigned_equals (steps p n) z s x q r at (subst NoEquals (alone_name one o y h).1 h.unvalued)
      valued_unread said one o y (inr h) = said one (said_of one o y h)

      pub valued_halts : IsAttribute n → (e : Stop) → Halts ((one : TAttr) → Said p f s x r one → ⊥) (OverSaid f s x) e
          → Halts ((one : TAttr) (o : Place) (y : Text) → AttributeAt p t one o y → ⊥) (OverAttributeAt p t) e
      valued_halts name e k = halts_as _ _ _ _ e valued_unread (of_over name) k
