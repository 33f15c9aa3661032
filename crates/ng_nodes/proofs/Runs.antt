-- A text that is begun is the run of its parts.
use Rattle.std.proofs.Common.{◌≡◌, ◌+◌, List, [], ◌∷◌, ◌++◌, refl, sym, ◌∙◌, ap, subst, append_assoc}
use Rattle.std.proofs.lemmas.List.{append-nil}
use Rattle.std.specs.Prelude.{Bool, true, false, Option, Some, None, Ok, Err, if◌then◌else◌}
use Rattle.ng_ast.specs.declared.Place.{Place}
use Rattle.ng_ast.specs.declared.Piece.{Piece}
use Rattle.ng_ast.specs.declared.Piece.TheVariants as piece
use Rattle.ng_ast.specs.declared.TNode.{TNode}
use Rattle.ng_ast.specs.declared.TNode.TheVariants as node
use Rattle.ng_lex.specs.declared.markup.Letter.{Letter}
use Rattle.ng_lex.specs.declared.markup.Markup.{Markup}
use Rattle.ng_lex.specs.declared.markup.Markup.TheVariants as m
use Rattle.ng_lex.specs.declared.markup.Part.{Part}
use Rattle.ng_nodes.specs.declared.state.Run.{Run}
use Rattle.ng_nodes.specs.declared.state.State.{State}
use Rattle.ng_nodes.specs.Texts.{Parts, part, collapsed, text_of, is_piece, is_literal, goes_on, begins_with_text, AreMaximal, IsRun, piece_of, pieces, all_blank, is_blank, blank, texted}
use Rattle.ng_nodes.specs.Machine.{Syntax, and_then, is_after_literal, is_gap, joined, shown_run, literal, stands, is_switch}
use Rattle.ng_nodes.proofs.Free.{free, take}

-- the text with one more part
abbrev pub more_of : Bool → Option Run → Markup → Place → Option Run
more_of keep u (m.Literal cs) p = Some (joined u p (piece.Text (text_of keep cs)) true (all_blank cs))
more_of keep u (m.Interpolation a) p = Some (joined u p (piece.Value p a) false false)
more_of keep u _ p = u

abbrev pub gathered : Bool → Option Run → Parts → Option Run
gathered keep u [] = u
gathered keep u (t ∷ ts) = gathered keep (more_of keep u t.markup t.place) ts

pub gathered_append : (keep : Bool) (u : Option Run) (x : Parts) (t : Part) → gathered keep u (x ++ t ∷ []) ≡ more_of keep (gathered keep u x) t.markup t.place
gathered_append keep u [] t = refl
gathered_append keep u (v ∷ x) t = gathered_append keep (more_of keep u v.markup v.place) x t

literal_joined : (u : Option Run) (p : Place) (x : Piece) (l b : Bool) → (joined u p x l b).literal ≡ l
literal_joined None p x l b = refl
literal_joined (Some r) p x l b = refl

gap_joined : (u : Option Run) (p : Place) (x : Piece) (l b : Bool) → (joined u p x l b).blank ≡ (if is_gap u then b else false)
gap_joined None p x l b = refl
gap_joined (Some r) p x l b = refl

more_literal : (keep after : Bool) (u : Option Run) (c : Markup) (p : Place) → goes_on keep after c ≡ true → is_after_literal (more_of keep u c p) ≡ is_literal c
more_literal keep after u (m.Literal cs) p e = literal_joined u p (piece.Text (text_of keep cs)) true (all_blank cs)
more_literal keep after u (m.Interpolation a) p e = literal_joined u p (piece.Value p a) false false
more_literal keep after u _ p e = absurd cc

more_gap : (keep after : Bool) (u : Option Run) (c : Markup) (p : Place) → goes_on keep after c ≡ true → is_gap (more_of keep u c p) ≡ (if is_gap u then is_blank c else false)
more_gap keep after u (m.Literal cs) p e = gap_joined u p (piece.Text (text_of keep cs)) true (all_blank cs)
more_gap keep after u (m.Interpolation a) p e = gap_joined u p (piece.Value p a) false false
more_gap keep after u _ p e = absurd cc

-- whether a text goes on with a part is told by its last part
pub gathered_literal : (keep after : Bool) (u : Option Run) (x : Parts) (c : Markup) → IsRun keep after x → is_after_literal u ≡ after
    → goes_on keep (is_after_literal (gathered keep u x)) c ≡ true → (p : Place) → IsRun keep after (x ++ part c p ∷ [])
gathered_literal keep after u [] c h e f p = (subst (λ b. goes_on keep b c ≡ true) e f, tt)
gathered_literal keep after u (t ∷ x) c h e f p = (h.0, gathered_literal keep (is_literal t.markup) (more_of keep u t.markup t.place) x c h.1 (more_literal keep after u t.markup t.place h.0) f p)

pub gathered_gap : (keep after : Bool) (u : Option Run) (x : Parts) → IsRun keep after x → is_gap (gathered keep u x) ≡ (if is_gap u then blank x else false)
gathered_gap keep after u [] h = by_bool (is_gap u)
  where
    by_bool : (b : Bool) → b ≡ (if b then true else false)
    by_bool true = refl
    by_bool false = refl
gathered_gap keep after u (t ∷ x) h = gathered_gap keep (is_literal t.markup) (more_of keep u t.markup t.place) x h.1
    ∙ ap (λ b. if b then blank x else false) (more_gap keep after u t.markup t.place h.0) ∙ by_bool (is_gap u)
  where
    by_bool : (b : Bool) → (if (if b then is_blank t.markup else false) then blank x else false) ≡ (if b then (if is_blank t.markup then blank x else false) else false)
    by_bool true = refl
    by_bool false = refl

-- a text as a node
abbrev shown_as : Bool → Place → List Piece → Bool → List TNode
shown_as keep p xs b = if (if keep then false else b) then [] else node.Text p xs ∷ []

abbrev Shows : Bool → Parts → Type 0
Shows keep x = (l : Bool) (v : Run) → IsRun keep l x → shown_run keep (gathered keep (Some v) x) ≡ shown_as keep v.place (v.pieces ++ pieces keep x) (if v.blank then blank x else false)

shown_gathered : (keep after : Bool) (r : Run) (x : Parts) → IsRun keep after x
    → shown_run keep (gathered keep (Some r) x) ≡ shown_as keep r.place (r.pieces ++ pieces keep x) (if r.blank then blank x else false)
shown_gathered keep after r [] h = ap (λ b. shown_as keep r.place r.pieces b) (by_bool r.blank) ∙ ap (λ xs. shown_as keep r.place xs (if r.blank then true else false)) (sym (append-nil r.pieces))
  where
    by_bool : (b : Bool) → b ≡ (if b then true else false)
    by_bool true = refl
    by_bool false = refl
shown_gathered keep after r (t ∷ x) h = by_markup t.markup h.0 h.1 (λ l v i. shown_gathered keep l v x i)
  where
    by_bool : (a b : Bool) → (if (if a then b else false) then blank x else false) ≡ (if a then (if b then blank x else false) else false)
    by_bool true b = refl
    by_bool false b = refl

    by_piece : Shows keep x → (p : Place) (y : Piece) (l b : Bool) → IsRun keep l x → shown_run keep (gathered keep (Some (joined (Some r) p y l b)) x)
        ≡ shown_as keep r.place (r.pieces ++ (y ∷ pieces keep x)) (if r.blank then (if b then blank x else false) else false)
    by_piece go p y l b i = go l (joined (Some r) p y l b) i
        ∙ ap (λ xs. shown_as keep r.place xs (if (if r.blank then b else false) then blank x else false)) (append_assoc r.pieces (y ∷ []) (pieces keep x))
        ∙ ap (λ c. shown_as keep r.place (r.pieces ++ (y ∷ pieces keep x)) c) (by_bool r.blank b)

    by_markup : (c : Markup) → goes_on keep after c ≡ true → IsRun keep (is_literal c) x → Shows keep x → shown_run keep (gathered keep (more_of keep (Some r) c t.place) x)
        ≡ shown_as keep r.place (r.pieces ++ (piece_of keep t.place c ++ pieces keep x)) (if r.blank then (if is_blank c then blank x else false) else false)
    by_markup (m.Literal cs) e i go = by_piece go t.place (piece.Text (text_of keep cs)) true (all_blank cs) i
    by_markup (m.Interpolation a) e i go = by_piece go t.place (piece.Value t.place a) false false i
    by_markup _ e i go = absurd cc

-- the node of a text is that of its parts
pub shown_texted : (keep : Bool) (x : Parts) → IsRun keep false x → shown_run keep (gathered keep None x) ≡ texted keep x
shown_texted keep [] h = refl
shown_texted keep (t ∷ x) h = by_markup t.markup h.0 h.1
  where
    by_markup : (c : Markup) → goes_on keep false c ≡ true → IsRun keep (is_literal c) x → shown_run keep (gathered keep (more_of keep None c t.place) x)
        ≡ shown_as keep t.place (piece_of keep t.place c ++ pieces keep x) (if is_blank c then blank x else false)
    by_markup (m.Literal cs) e i = shown_gathered keep true (joined None t.place (piece.Text (text_of keep cs)) true (all_blank cs)) x i
    by_markup (m.Interpolation a) e i = shown_gathered keep false (joined None t.place (piece.Value t.place a) false false) x i
    by_markup _ e i = absurd cc

-- ---- the machine takes a text

abbrev with_run : State → Option Run → State
with_run st u = record st { run = u }

if_true : {A : Type 0} (b : Bool) (x y : A) → b ≡ true → (if b then x else y) ≡ x
if_true true x y e = refl
if_true false x y e = absurd cc

stands_text : (c : Markup) (q : Place) (st : State) → goes_on st.keep (is_after_literal st.run) c ≡ true → stands true c q st ≡ Ok (with_run st (more_of st.keep st.run c q))
stands_text (m.Literal cs) q st e = if_true (if is_after_literal st.run then false else is_piece st.keep cs) (Ok (with_run st (more_of st.keep st.run (m.Literal cs) q))) (Err Syntax) e
stands_text (m.Interpolation a) q st e = refl
stands_text _ q st e = absurd cc

pub free_run : (st : State) → is_switch st.opener ≡ false → (after : Bool) → is_after_literal st.run ≡ after → (x r : Parts) → IsRun st.keep after x
    → free st (x ++ r) ≡ free (with_run st (gathered st.keep st.run x)) r
free_run st h after e [] r run = refl
free_run st h after e (t ∷ x) r run =
    let f : goes_on st.keep (is_after_literal st.run) t.markup ≡ true = subst (λ b. goes_on st.keep b t.markup ≡ true) (sym e) run.0 in
    take st h t.markup t.place (x ++ r) ∙ ap (λ z. and_then z (λ next. free next (x ++ r))) (stands_text t.markup t.place st f)
    ∙ free_run (with_run st (more_of st.keep st.run t.markup t.place)) h (is_literal t.markup) (more_literal st.keep after st.run t.markup t.place run.0) x r run.1

-- ---- pieces are as long as they can be

text_not_empty : (keep : Bool) (cs : List Letter) → is_piece keep cs ≡ true → text_of keep cs ≡ [] → ⊥
unfolding is_piece
text_not_empty keep [] e f = cc
text_not_empty true (c ∷ cs) e f = cc
text_not_empty false (c ∷ cs) e f = by_bool c.blank f
  where
    by_bool : (v : Bool) → (if v then 32 ∷ collapsed true cs else c.byte ∷ collapsed false cs) ≡ [] → ⊥
    by_bool true f = cc
    by_bool false f = cc

no_text_first : (keep : Bool) (x : Parts) → IsRun keep true x → begins_with_text (pieces keep x) ≡ false
no_text_first keep [] h = refl
no_text_first keep (t ∷ x) h = by_markup t.markup h.0
  where
    by_markup : (c : Markup) → goes_on keep true c ≡ true → begins_with_text (piece_of keep t.place c ++ pieces keep x) ≡ false
    by_markup (m.Literal cs) e = absurd cc
    by_markup (m.Interpolation a) e = refl
    by_markup _ e = absurd cc

run_maximal_from : (keep after : Bool) (x : Parts) → IsRun keep after x → AreMaximal (pieces keep x)
run_maximal_from keep after [] h = tt
run_maximal_from keep after (t ∷ x) h = by_markup t.markup h.0 h.1 (run_maximal_from keep (is_literal t.markup) x h.1)
  where
    piece_is : (cs : List Letter) (v : Bool) → (if v then false else is_piece keep cs) ≡ true → is_piece keep cs ≡ true
    piece_is cs true e = absurd cc
    piece_is cs false e = e

    by_markup : (c : Markup) → goes_on keep after c ≡ true → IsRun keep (is_literal c) x → AreMaximal (pieces keep x) → AreMaximal (piece_of keep t.place c ++ pieces keep x)
    by_markup (m.Literal cs) e i go = (text_not_empty keep cs (piece_is cs after e), no_text_first keep x i, go)
    by_markup (m.Interpolation a) e i go = go
    by_markup _ e i go = absurd cc

pub run_maximal : (keep : Bool) (x : Parts) → IsRun keep false x → AreMaximal (pieces keep x)
run_maximal keep x h = run_maximal_from keep false x h
