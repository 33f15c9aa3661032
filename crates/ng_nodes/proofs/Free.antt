-- The machine without limits.
use Rattle.std.proofs.Common.{◌≡◌, ℕ, ◌+◌, List, [], ◌∷◌, refl, sym, ◌∙◌, ap, arith}
use Rattle.std.proofs.lemmas.List.{append-nil}
use Rattle.std.specs.Prelude.{Bool, true, false, None, Result, Ok, Err, if◌then◌else◌}
use Rattle.ng_ast.specs.declared.Place.{Place}
use Rattle.ng_ast.specs.declared.TNode.{TNode}
use Rattle.ng_lex.specs.declared.markup.Shape.TheVariants as shaped
use Rattle.ng_lex.specs.declared.markup.Markup.{Markup}
use Rattle.ng_lex.specs.declared.markup.Markup.TheVariants as m
use Rattle.ng_nodes.specs.declared.state.Opener.{Opener}
use Rattle.ng_nodes.specs.declared.state.Opener.TheVariants as op
use Rattle.ng_nodes.specs.declared.state.Waiting.TheVariants as wt
use Rattle.ng_nodes.specs.declared.state.Frame.{Frame}
use Rattle.ng_nodes.specs.declared.state.State.{State}
use Rattle.ng_nodes.specs.Texts.{Parts, part}
use Rattle.ng_nodes.specs.Machine.{Stop, Syntax, and_then, at, settled, settle, act, stands, is_switch, between, arrive}

-- the nodes and how many there are with those inside them, where the parts end
abbrev pub ended : List Frame → State → Result (List TNode × ℕ) Stop
ended [] st = Ok (st.nodes, st.made)
ended (f ∷ fs) st = Err Syntax

unfoldable pub free : State → Parts → Result (List TNode × ℕ) Stop
free st [] = ended st.outer (settle st)
free st (t ∷ ts) = and_then (arrive true t.markup t.place st) (λ next. free next ts)

-- what settles the text and the block before it
abbrev pub settles : Markup → Bool
settles (m.Literal cs) = false
settles (m.Interpolation a) = false
settles m.Else = false
settles (m.ElseIf a name) = false
settles m.Empty = false
settles (m.Heavy shape) = false
settles _ = true

pub settled_again : (keep : Bool) (ns : List TNode) → settled keep ns wt.Nobody None ≡ ns
settled_again keep ns = append-nil ns

pub settle_settled : (fs : List Frame) (o : Opener) (keep : Bool) (ns : List TNode) (n : ℕ) → settle (at fs o keep ns wt.Nobody None n) ≡ at fs o keep ns wt.Nobody None n
settle_settled fs o keep ns n =
    let few : n + 0 ≡ n = omega arith in
    ap (λ ms. at fs o keep ms wt.Nobody None (n + 0)) (settled_again keep ns) ∙ ap (λ k. at fs o keep ns wt.Nobody None k) few

pub settle_twice : (st : State) → settle (settle st) ≡ settle st
settle_twice st = settle_settled st.outer st.opener st.keep _ _

stands_act : (c : Markup) (q : Place) (st : State) → settles c ≡ true → stands true c q st ≡ act true c q (settle st)
stands_act (m.Literal cs) q st e = absurd cc
stands_act (m.Interpolation a) q st e = absurd cc
stands_act m.Else q st e = absurd cc
stands_act (m.ElseIf a name) q st e = absurd cc
stands_act m.Empty q st e = absurd cc
stands_act (m.Heavy shape) q st e = absurd cc
stands_act _ q st e = refl

if_false : {A : Type 0} (b : Bool) (x y : A) → b ≡ false → (if b then x else y) ≡ y
if_false true x y e = absurd cc
if_false false x y e = refl

-- a part where a node may stand
pub take : (st : State) → is_switch st.opener ≡ false → (c : Markup) (q : Place) (ts : Parts) → free st (part c q ∷ ts) ≡ and_then (stands true c q st) (λ next. free next ts)
unfolding free
take st h c q ts = ap (λ r. and_then r (λ next. free next ts)) (if_false (is_switch st.opener) (between c q st) (stands true c q st) h)

-- one that settles the text before it
pub take_act : (st : State) → is_switch st.opener ≡ false → (c : Markup) (q : Place) (ts : Parts) → settles c ≡ true
    → free st (part c q ∷ ts) ≡ and_then (act true c q (settle st)) (λ next. free next ts)
take_act st h c q ts e = take st h c q ts ∙ ap (λ r. and_then r (λ next. free next ts)) (stands_act c q st e)

-- the same where it is settled already
pub take_on : (fs : List Frame) (o : Opener) → is_switch o ≡ false → (keep : Bool) (ns : List TNode) (n : ℕ) (c : Markup) (q : Place) (ts : Parts) → settles c ≡ true
    → free (at fs o keep ns wt.Nobody None n) (part c q ∷ ts) ≡ and_then (act true c q (at fs o keep ns wt.Nobody None n)) (λ next. free next ts)
take_on fs o h keep ns n c q ts e = take_act (at fs o keep ns wt.Nobody None n) h c q ts e ∙ ap (λ st. and_then (act true c q st) (λ next. free next ts)) (settle_settled fs o keep ns n)

abbrev pub Settles : Parts → Type 0
Settles [] = Unit {0}
Settles (t ∷ ts) = settles t.markup ≡ true

-- what settles does so once and for all
pub free_settle : (st : State) → is_switch st.opener ≡ false → (r : Parts) → Settles r → free st r ≡ free (settle st) r
unfolding free
free_settle st h [] e = ap (ended st.outer) (sym (settle_twice st))
free_settle st h (t ∷ ts) e = take_act st h t.markup t.place ts e ∙ sym (take_act (settle st) h t.markup t.place ts e ∙ ap (λ u. and_then (act true t.markup t.place u) (λ next. free next ts)) (settle_twice st))
