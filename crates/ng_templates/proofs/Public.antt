-- The clauses of the reader of templates.
use Rattle.std.proofs.Common.{◌≡◌, refl, sym, ◌∙◌, ap, subst}
use Rattle.std.specs.Prelude.{Result, Ok, Err, IfOk, IfErr}
use Rattle.ng_ast.specs.declared.Place.{Place}
use Rattle.ng_ast.specs.declared.Template.{Template}
use Rattle.ng_ast.specs.declared.refusals.ReadError.{ReadError}
use Rattle.ng_ast.specs.declared.refusals.ReadError.TheVariants as r
use Rattle.ng_exprs.specs.Reading.{Refused, IsOrMemory}
use Rattle.ng_tokens.specs.Lexis.{Text}
use Rattle.ng_nodes.specs.declared.halt.Halt.{Halt}
use Rattle.ng_nodes.specs.declared.halt.Halt.TheVariants as h
use Rattle.ng_nodes.specs.Limits.{ReadsNodes}
use Rattle.ng_nodes.proofs.Public.{one_reading}
use Rattle.ng_templates.specs.Reading.{ReadsTemplate, NoTemplate, OverTemplate, AnswersNodes, Tells}
use Rattle.ng_templates.proofs.Firsts.{one_list}

-- ---- one reading

tree_is : (a b : Template) → a.place ≡ b.place → a.nodes ≡ b.nodes → a ≡ b
tree_is a b e f =
    let place : a ≡ record a { place = b.place } = ap (λ p. record a { place = p }) e in
    place ∙ ap (λ ns. record b { nodes = ns }) f

pub one_tree : (p : Place) (t : Text) (a b : Template) → ReadsTemplate p t a → ReadsTemplate p t b → a ≡ b
one_tree p t a b (at, (ts, reads, nodes)) (at', (ts', reads', nodes')) =
    let same : ts ≡ ts' = one_list reads refl ts' reads' in
    tree_is a b (at ∙ sym at') (one_reading ts' a.nodes b.nodes (subst (λ k. ReadsNodes k a.nodes) same nodes) nodes')

-- ---- what the caller learns

pub refused_as : (p : Place) (t : Text) (halt : Halt) (e : ReadError) → AnswersNodes p t (Err halt) → Tells halt e → Refused (NoTemplate p t) (OverTemplate p t) e
refused_as p t (h.Syntax q) (r.Syntax f) why told = (told.0, told.1, why)
refused_as p t (h.Syntax q) (r.Limit f) why told = absurd told
refused_as p t (h.Syntax q) r.Utf8 why told = absurd told
refused_as p t (h.Syntax q) r.Memory why told = tt
refused_as p t (h.Limit q) (r.Limit f) why told = (told.0, told.1, why)
refused_as p t (h.Limit q) (r.Syntax f) why told = absurd told
refused_as p t (h.Limit q) r.Utf8 why told = absurd told
refused_as p t (h.Limit q) r.Memory why told = tt
refused_as p t h.Memory (r.Syntax f) why told = absurd told
refused_as p t h.Memory (r.Limit f) why told = absurd told
refused_as p t h.Memory r.Utf8 why told = absurd told
refused_as p t h.Memory r.Memory why told = tt

pub exact : (p : Place) (t : Text) (o : Result Template ReadError) → IfOk o (λ tree. ReadsTemplate p t tree × (OverTemplate p t → ⊥)) → IfErr o (Refused (NoTemplate p t) (OverTemplate p t))
    → (tree : Template) → ReadsTemplate p t tree → (OverTemplate p t → ⊥) → IsOrMemory tree o
exact p t (Ok found) reads why tree is calm = one_tree p t found tree reads.0 is
exact p t (Err (r.Syntax f)) reads why tree is calm = absurd (why.2 tree is)
exact p t (Err (r.Limit f)) reads why tree is calm = absurd (calm why.2)
exact p t (Err r.Utf8) reads why tree is calm = absurd why
exact p t (Err r.Memory) reads why tree is calm = tt
