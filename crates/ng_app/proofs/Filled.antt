-- Entries and their declarations, one after another.
use Rattle.std.proofs.Common.{◌≡◌, List, [], ◌∷◌, ◌++◌, refl, sym, ◌∙◌, ap, subst, append_assoc, inl, inr}
use Rattle.std.specs.Prelude.{Err}
use Rattle.std.specs.List.{All}
use Rattle.std.proofs.lemmas.List.{append-nil}
use Rattle.std.proofs.lemmas.List.Elements.{All-nil, All-cons}
use Rattle.ng_ast.specs.declared.Component.{Component}
use Rattle.ng_ast.specs.declared.Decl.{Decl}
use Rattle.ng_ast.specs.declared.Decl.TheVariants as decl
use Rattle.ng_ast.specs.declared.refusals.ReadError.{ReadError}
use Rattle.ng_ast.specs.declared.refusals.ReadError.TheVariants as r
use Rattle.ng_exprs.specs.Reading.{Refused}
use Rattle.ng_declare.specs.declared.entries.Entry.{Entry}
use Rattle.ng_declare.specs.declared.entries.Entry.TheVariants as entry
use Rattle.ng_declare.specs.declared.entries.Outline.{Outline}
use Rattle.ng_templates.specs.Reading.{NoTemplate, OverTemplate}
use Rattle.ng_templates.proofs.Public.{one_tree}
use Rattle.ng_app.specs.Reading.{IsWhole, IsFilled, AreFilled, IsOver, HasOver, TemplateKeepsLimits}
use Rattle.ng_app.specs.Answers.{AnswersComponent, AnswersEntry, AnswersEntries, SoFar}

-- ---- an entry is one declaration at most

component_is : (c d : Component) → c.place ≡ d.place → c.name ≡ d.name → c.selector ≡ d.selector → c.onpush ≡ d.onpush → c.members ≡ d.members → c.template ≡ d.template → c ≡ d
component_is c d place name selector onpush members template =
    ap (λ x. record c { place = x }) place
    ∙ ap (λ x. record c { place = d.place; name = x }) name
    ∙ ap (λ x. record c { place = d.place; name = d.name; selector = x }) selector
    ∙ ap (λ x. record d { onpush = x; members = c.members; template = c.template }) onpush
    ∙ ap (λ x. record d { members = x; template = c.template }) members
    ∙ ap (λ x. record d { template = x }) template

one_component : (o : Outline) (c d : Component) → IsWhole o c → IsWhole o d → c ≡ d
one_component o c d h i =
    component_is c d (h.place ∙ sym i.place) (h.name ∙ sym i.name) (h.selector ∙ sym i.selector) (h.onpush ∙ sym i.onpush) (h.members ∙ sym i.members)
    (one_tree o.template.place o.template.text c.template d.template h.template i.template)

one_decl : (e : Entry) (a b : Decl) → IsFilled e a → IsFilled e b → a ≡ b
one_decl (entry.Component o) (decl.Component c) (decl.Component d) h i = ap decl.Component (one_component o c d h i)
one_decl (entry.Component o) (decl.Component c) _ h i = absurd i
one_decl (entry.Component o) _ b h i = absurd h
one_decl (entry.Service s) (decl.Service c) (decl.Service d) h i = ap decl.Service (h ∙ sym i)
one_decl (entry.Service s) (decl.Service c) _ h i = absurd i
one_decl (entry.Service s) _ b h i = absurd h
one_decl (entry.Pipe s) (decl.Pipe c) (decl.Pipe d) h i = ap decl.Pipe (h ∙ sym i)
one_decl (entry.Pipe s) (decl.Pipe c) _ h i = absurd i
one_decl (entry.Pipe s) _ b h i = absurd h
one_decl (entry.Environment s) (decl.Environment c) (decl.Environment d) h i = ap decl.Environment (h ∙ sym i)
one_decl (entry.Environment s) (decl.Environment c) _ h i = absurd i
one_decl (entry.Environment s) _ b h i = absurd h
one_decl (entry.Token p n) (decl.Token q m) (decl.Token z k) h i = ap (λ x. decl.Token x m) (h.0 ∙ sym i.0) ∙ ap (decl.Token z) (h.1 ∙ sym i.1)
one_decl (entry.Token p n) (decl.Token q m) _ h i = absurd i
one_decl (entry.Token p n) _ b h i = absurd h
one_decl (entry.Bootstrap p n o) (decl.Bootstrap q m v) (decl.Bootstrap z k w) h i =
    ap (λ x. decl.Bootstrap x m v) (h.0 ∙ sym i.0) ∙ ap (λ x. decl.Bootstrap z x v) (h.1 ∙ sym i.1) ∙ ap (decl.Bootstrap z k) (h.2 ∙ sym i.2)
one_decl (entry.Bootstrap p n o) (decl.Bootstrap q m v) _ h i = absurd i
one_decl (entry.Bootstrap p n o) _ b h i = absurd h

pub one_list : (es : List Entry) (ds fs : List Decl) → AreFilled es ds → AreFilled es fs → ds ≡ fs
one_list [] [] [] h i = refl
one_list [] [] (f ∷ fs) h i = absurd i
one_list [] (d ∷ ds) fs h i = absurd h
one_list (e ∷ es) [] fs h i = absurd h
one_list (e ∷ es) (d ∷ ds) [] h i = absurd i
one_list (e ∷ es) (d ∷ ds) (f ∷ fs) h i = ap (λ x. x ∷ ds) (one_decl e d f h.0 i.0) ∙ ap (λ xs. f ∷ xs) (one_list es ds fs h.1 i.1)

-- ---- one entry after another

filled_push : (es : List Entry) (ds : List Decl) (e : Entry) (d : Decl) → AreFilled es ds → IsFilled e d → AreFilled (es ++ e ∷ []) (ds ++ d ∷ [])
filled_push [] [] e d h i = (i, tt)
filled_push [] (a ∷ ds) e d h i = absurd h
filled_push (f ∷ es) [] e d h i = absurd h
filled_push (f ∷ es) (a ∷ ds) e d h i = (h.0, filled_push es ds e d h.1 i)

filled_at : (front : List Entry) (e : Entry) (rest : List Entry) (ds : List Decl) → AreFilled (front ++ e ∷ rest) ds → (d : Decl) × IsFilled e d
filled_at [] e rest [] h = absurd h
filled_at [] e rest (d ∷ ds) h = (d, h.0)
filled_at (f ∷ front) e rest [] h = absurd h
filled_at (f ∷ front) e rest (d ∷ ds) h = filled_at front e rest ds h.1

calm_push : (es : List Entry) (e : Entry) → (HasOver es → ⊥) → (IsOver e → ⊥) → HasOver (es ++ e ∷ []) → ⊥
calm_push [] e calm few (inl o) = few o
calm_push [] e calm few (inr o) = o
calm_push (f ∷ es) e calm few (inl o) = calm (inl o)
calm_push (f ∷ es) e calm few (inr o) = calm_push es e (λ k. calm (inr k)) few o

over_at : (front : List Entry) (e : Entry) (rest : List Entry) → IsOver e → HasOver (front ++ e ∷ rest)
over_at [] e rest o = inl o
over_at (f ∷ front) e rest o = inr (over_at front e rest o)

pub none_yet : (all : List Entry) → SoFar all [] all
none_yet all = record { front = []; parts = refl; filled = tt; calm = λ o. o }

pub one_more : (all : List Entry) (ds : List Decl) (e : Entry) (rest : List Entry) (d : Decl) → SoFar all ds (e ∷ rest) → IsFilled e d → (IsOver e → ⊥) → SoFar all (ds ++ d ∷ []) rest
one_more all ds e rest d s i few = record {
  front = s.front ++ e ∷ [];
  parts = s.parts ∙ sym (append_assoc s.front (e ∷ []) rest);
  filled = filled_push s.front ds e d s.filled i;
  calm = calm_push s.front e s.calm few;
}

pub no_more : (all : List Entry) (ds : List Decl) → SoFar all ds [] → AreFilled all ds × (HasOver all → ⊥)
no_more all ds s =
    let whole : all ≡ s.front = s.parts ∙ append-nil s.front in
    (subst (λ es. AreFilled es ds) (sym whole) s.filled, subst (λ es. HasOver es → ⊥) (sym whole) s.calm)

-- an entry without a declaration, and one that passes a limit
none_at : (all : List Entry) (ds : List Decl) (e : Entry) (rest : List Entry) → SoFar all ds (e ∷ rest) → ((d : Decl) → IsFilled e d → ⊥) → (fs : List Decl) → AreFilled all fs → ⊥
none_at all ds e rest s none fs h = let i = filled_at s.front e rest fs (subst (λ es. AreFilled es fs) s.parts h) in none i.0 i.1

over_all : (all : List Entry) (ds : List Decl) (e : Entry) (rest : List Entry) → SoFar all ds (e ∷ rest) → IsOver e → HasOver all
over_all all ds e rest s o = subst HasOver (sym s.parts) (over_at s.front e rest o)

-- ---- refusals

pub component_refused : (o : Outline) (e : ReadError) → Refused (NoTemplate o.template.place o.template.text) (OverTemplate o.template.place o.template.text) e → AnswersComponent o (Err e)
component_refused o r.Utf8 h = absurd h
component_refused o (r.Syntax f) h = (h.0, h.1, λ c i. h.2 c.template i.template)
component_refused o (r.Limit f) h = h
component_refused o r.Memory h = tt

pub entry_refused : (o : Outline) (e : ReadError) → AnswersComponent o (Err e) → AnswersEntry (entry.Component o) (Err e)
entry_refused o r.Utf8 h = absurd h
entry_refused o (r.Syntax f) h = (h.0, h.1, λ d i. by d i)
  where
    by : (d : Decl) → IsFilled (entry.Component o) d → ⊥
    by (decl.Component c) i = h.2 c i
    by _ i = i
entry_refused o (r.Limit f) h = h
entry_refused o r.Memory h = tt

pub entries_refused : (all : List Entry) (ds : List Decl) (e : Entry) (rest : List Entry) (why : ReadError) → SoFar all ds (e ∷ rest) → AnswersEntry e (Err why) → AnswersEntries all (Err why)
entries_refused all ds e rest r.Utf8 s h = absurd h
entries_refused all ds e rest (r.Syntax f) s h = (h.0, h.1, none_at all ds e rest s h.2)
entries_refused all ds e rest (r.Limit f) s h = (h.0, h.1, over_all all ds e rest s h.2)
entries_refused all ds e rest r.Memory s h = tt

-- ---- the limits

keeps_one : (e : Entry) (d : Decl) → IsFilled e d → (IsOver e → ⊥) → TemplateKeepsLimits d
keeps_one (entry.Component o) (decl.Component c) h calm =
    let t = o.template.text in
    (h.template.1.0, h.template.1.2, λ over. calm (h.template.1.0, t, [], sym (append-nil t), h.template.1.1, inl over))
keeps_one (entry.Service s) (decl.Component c) h calm = absurd h
keeps_one (entry.Pipe s) (decl.Component c) h calm = absurd h
keeps_one (entry.Environment s) (decl.Component c) h calm = absurd h
keeps_one (entry.Token p n) (decl.Component c) h calm = absurd h
keeps_one (entry.Bootstrap p n i) (decl.Component c) h calm = absurd h
keeps_one e (decl.Service d) h calm = tt
keeps_one e (decl.Pipe d) h calm = tt
keeps_one e (decl.Environment d) h calm = tt
keeps_one e (decl.Token p n) h calm = tt
keeps_one e (decl.Bootstrap p n i) h calm = tt

pub keep_limits : (es : List Entry) (ds : List Decl) → AreFilled es ds → (HasOver es → ⊥) → All TemplateKeepsLimits ds
keep_limits [] [] h calm = All-nil TemplateKeepsLimits
keep_limits [] (d ∷ ds) h calm = absurd h
keep_limits (e ∷ es) [] h calm = absurd h
keep_limits (e ∷ es) (d ∷ ds) h calm = All-cons TemplateKeepsLimits d ds (keeps_one e d h.0 (λ o. calm (inl o))) (keep_limits es ds h.1 (λ o. calm (inr o)))
