-- What is known of a whole text, from the parts at its front.
use Rattle.std.proofs.Common.{◌≡◌, ◌<◌, List, [], ◌∷◌, ◌++◌, length, codes, refl, sym, ◌∙◌, ap, subst, append_assoc, arith, length-append, inl, inr}
use Rattle.std.proofs.lemmas.List.{append-nil}
use Rattle.std.specs.Prelude.{false, ◌⊎◌}
use Rattle.ng_ast.specs.declared.Place.{Place}
use Rattle.ng_ast.specs.declared.TNode.{TNode}
use Rattle.ng_tokens.specs.Lexis.{Text, steps}
use Rattle.ng_lex.specs.declared.markup.Markup.{Markup}
use Rattle.ng_lex.specs.declared.markup.Markup.TheVariants as m
use Rattle.ng_lex.specs.declared.markup.Part.{Part}
use Rattle.ng_lex.specs.declared.markup.Shape.{Shape}
use Rattle.ng_lex.specs.declared.markup.Shape.TheVariants as s
use Rattle.ng_lex.specs.declared.kinds.TokenKind.TheVariants as kind
use Rattle.ng_lex.specs.Lexis.{part, IsWritten, Lexes}
use Rattle.ng_lex.specs.Heavy.{IsHeavy}
use Rattle.ng_lex.specs.Spans.{IsSpan, kind_of}
use Rattle.ng_lex.specs.Span.{starts_plain}
use Rattle.ng_nodes.specs.Texts.{Parts}
use Rattle.ng_nodes.specs.Limits.{ReadsNodes, HasShape, MayBe, is_heavy, Over}
use Rattle.ng_nodes.specs.Reading.{OverParts, CannotStand}
use Rattle.ng_markup.specs.Parts.{IsRead}
use Rattle.ng_templates.specs.Reading.{NoTemplate, OverNext, OverTemplate}
use Rattle.ng_templates.specs.Fronts.{One, IsNowhere, Within, Beyond, Goes}
use Rattle.ng_attributes.proofs.Texts.{not_both}
use Rattle.ng_markup.proofs.PartLaws.{heavy_shape}
use Rattle.ng_markup.proofs.Plain.{heavy_marked, literal_plain}
use Rattle.ng_templates.proofs.Firsts.{First, first, one_first, one_long, same_length, lexes_none}
use Rattle.ng_templates.proofs.Goes.{one_lexes}

-- ---- parts in which an expression passes a limit

bracket_long : (word w x a : Text) → a ≡ word ++ (w ++ (40 ∷ x)) → 0 < length a
bracket_long word w x a e = omega (arith, ap length e, length-append word (w ++ (40 ∷ x)), length-append w (40 ∷ x))

heavy_long : (p : Place) (z : Text) (shape : Shape) → IsHeavy p z shape → 0 < length z
heavy_long p z s.Interpolation (t, r, is, first, over) = omega (arith, ap length is)
heavy_long p z s.Tag (tag, x, is, h, over) = omega (arith, ap length is)
heavy_long p z s.If (w, x, is, blank, over) = bracket_long (codes "@if") w x z is
heavy_long p z s.ElseIf (word, h, (w, x, is, blank, over)) = bracket_long word w x z is
heavy_long p z s.For (w, x, is, blank, over) = bracket_long (codes "@for") w x z is
heavy_long p z s.Switch (w, x, is, blank, over) = bracket_long (codes "@switch") w x z is
heavy_long p z s.Case (w, x, is, blank, over) = bracket_long (codes "@case") w x z is
heavy_long p z s.Let (x, t, n, is, (w, v, same, gap, blank, name), over) =
    omega (arith, ap length is, length-append x t, ap length same, length-append (codes "@let") (w ++ (n ++ (v ++ (61 ∷ [])))), length-append w (n ++ (v ++ (61 ∷ []))), length-append n (v ++ (61 ∷ [])), length-append v (61 ∷ []))

-- what stands where a part passes a limit has its shape
shaped_by : (p : Place) (a z : Text) (u : Part) (shape : Shape) → One p a z u → IsHeavy p (a ++ z) shape → IsRead p a u.markup → HasShape shape u.markup
shaped_by p a z u shape h heavy (inl (ls, decodes, e)) =
    absurd (not_both (starts_plain (a ++ z)) (literal_plain a z (subst (λ c. IsSpan (kind_of c) a z) e h.spans)) (heavy_marked p (a ++ z) shape heavy))
shaped_by p a z u shape h heavy (inr w) = heavy_shape p a z shape u.markup w heavy

written_light : (p : Place) (a : Text) (c : Markup) → IsWritten p a c → is_heavy c ≡ false
written_light p a (m.Heavy shape) h = absurd h
written_light p a _ h = refl

read_light : (p : Place) (a : Text) (c : Markup) → IsRead p a c → is_heavy c ≡ false
read_light p a c (inl (ls, decodes, e)) = ap is_heavy e
read_light p a c (inr w) = written_light p a c w

may_be_self : (c : Markup) → is_heavy c ≡ false → MayBe c c
may_be_self (m.Heavy shape) e = absurd cc
may_be_self _ e = refl

-- ---- all parts

over_more : (front more : Parts) → OverParts front → OverParts (front ++ more)
over_more front more (Over.deep a t b is deep) = Over.deep a t (b ++ more) (ap (λ k. k ++ more) is ∙ append_assoc a (t ∷ b) more) deep
over_more front more (Over.heavy a t b is heavy) = Over.heavy a t (b ++ more) (ap (λ k. k ++ more) is ∙ append_assoc a (t ∷ b) more) heavy
over_more front more (Over.many a b is many) = Over.many a (b ++ more) (ap (λ k. k ++ more) is ∙ append_assoc a b more) many

nothing_first : (p : Place) (u : Part) (ps : Parts) (r : Text) → First p [] u ps r → ⊥
nothing_first p u ps r f = absurd (omega (arith, ap length f.is, length-append f.a f.z, one_long f.one))

module _ (p : Place) (t : Text) (front : Parts) (x : Text) (goes : Goes p t front x []) where
  calm_beyond : (ps : Parts) (a rest : Text) → (OverParts front → ⊥) → OverParts ps ⊎ OverNext p ps a rest → (more : Parts) → ps ≡ front ++ more → Lexes (steps p x) [] more rest → ⊥
  calm_beyond ps a rest calm (inl over) [] e h = calm (subst OverParts (e ∙ append-nil front) over)
  calm_beyond ps a rest calm (inr (shape, heavy, over)) [] e h = absurd (omega (arith, heavy_long (steps p a) rest shape heavy, ap length (lexes_none h refl)))
  calm_beyond ps a rest calm over (v ∷ more) e h = nothing_first (steps p x) v more rest (first h v more refl)

  calm_within : (ps : Parts) (a rest : Text) → t ≡ a ++ rest → (OverParts front → ⊥) → OverParts ps ⊎ OverNext p ps a rest → Within p t front ps rest → ⊥
  calm_within ps a rest is calm (inl over) w = calm (subst OverParts (sym w.parts) (over_more ps (w.u ∷ w.us) over))
  calm_within ps a rest is calm (inr (shape, heavy, over)) w =
      let same : a ≡ w.a = same_length a w.a rest rest (sym is ∙ w.is) refl in
      w.calm shape (subst (λ k. IsHeavy (steps p k) rest shape) same heavy)

  calm_by : (ps : Parts) (a rest : Text) → t ≡ a ++ rest → (OverParts front → ⊥) → OverParts ps ⊎ OverNext p ps a rest → Within p t front ps rest ⊎ Beyond p front x [] ps rest → ⊥
  calm_by ps a rest is calm over (inl w) = calm_within ps a rest is calm over w
  calm_by ps a rest is calm over (inr b) = calm_beyond ps a rest calm over b.more b.parts b.reads

  pub all_calm : (OverParts front → ⊥) → OverTemplate p t → ⊥
  all_calm calm (ps, a, rest, is, reads, over) = calm_by ps a rest is calm over (goes.back ps rest reads)

  pub all_lexed : Lexes p t front []
  all_lexed = subst (λ k. Lexes p t k []) (append-nil front) (goes.ahead [] [] Lexes.here)

  pub all_over : OverParts front → OverTemplate p t
  all_over over = (front, x, [], goes.is, all_lexed, inl over)

  unread_beyond : (ts : Parts) (ns : List TNode) → ReadsNodes ts ns → ((ms : List TNode) → ReadsNodes front ms → ⊥) → (more : Parts) → ts ≡ front ++ more → Lexes (steps p x) [] more [] → ⊥
  unread_beyond ts ns nodes unread [] e h = unread ns (subst (λ k. ReadsNodes k ns) (e ∙ append-nil front) nodes)
  unread_beyond ts ns nodes unread (v ∷ more) e h = nothing_first (steps p x) v more [] (first h v more refl)

  unread_by : (ts : Parts) (ns : List TNode) → ReadsNodes ts ns → ((ms : List TNode) → ReadsNodes front ms → ⊥) → Within p t front ts [] ⊎ Beyond p front x [] ts [] → ⊥
  unread_by ts ns nodes unread (inl w) = absurd (omega (arith, w.some))
  unread_by ts ns nodes unread (inr b) = unread_beyond ts ns nodes unread b.more b.parts b.reads

  pub all_unread : ((ns : List TNode) → ReadsNodes front ns → ⊥) → NoTemplate p t
  all_unread unread tree (at, (ts, reads, nodes)) = unread_by ts tree.nodes nodes unread (goes.back ts [] reads)

-- ---- where a part can't be read, or can't stand

module _ (p : Place) (t : Text) (front : Parts) (x z : Text) (goes : Goes p t front x z) where
  -- in each reading a part comes next, and it isn't one that may come
  refused_beyond : 0 < length z → ((v : Part) (more : Parts) (ns : List TNode) → First (steps p x) z v more [] → ReadsNodes (front ++ v ∷ more) ns → ⊥)
      → (ts : Parts) (ns : List TNode) → ReadsNodes ts ns → (more : Parts) → ts ≡ front ++ more → Lexes (steps p x) z more [] → ⊥
  refused_beyond some bad ts ns nodes [] e h = absurd (omega (arith, some, ap length (lexes_none h refl)))
  refused_beyond some bad ts ns nodes (v ∷ more) e h = bad v more ns (first h v more refl) (subst (λ k. ReadsNodes k ns) e nodes)

  refused_by : 0 < length z → ((v : Part) (more : Parts) (ns : List TNode) → First (steps p x) z v more [] → ReadsNodes (front ++ v ∷ more) ns → ⊥)
      → (ts : Parts) (ns : List TNode) → ReadsNodes ts ns → Within p t front ts [] ⊎ Beyond p front x z ts [] → ⊥
  refused_by some bad ts ns nodes (inl w) = absurd (omega (arith, w.some))
  refused_by some bad ts ns nodes (inr b) = refused_beyond some bad ts ns nodes b.more b.parts b.reads

  refused : 0 < length z → ((v : Part) (more : Parts) (ns : List TNode) → First (steps p x) z v more [] → ReadsNodes (front ++ v ∷ more) ns → ⊥) → NoTemplate p t
  refused some bad tree (at, (ts, reads, nodes)) = refused_by some bad ts tree.nodes nodes (goes.back ts [] reads)

  -- no part stands there
  pub unread : 0 < length z → IsNowhere (steps p x) z → NoTemplate p t
  unread some none = refused some (λ v more ns f nodes. none f.a f.z v f.is f.one)

  -- a part stands there which can't
  pub misplaced : (a y : Text) (u : Part) → z ≡ a ++ y → One (steps p x) a y u → CannotStand front u → NoTemplate p t
  misplaced a y u is here cannot = refused (omega (arith, ap length is, length-append a y, one_long here)) (λ v more ns f nodes.
      let g = one_first (steps p x) a y f.a f.z u v here f.one (sym is ∙ f.is) in
      cannot u.markup (may_be_self u.markup (read_light (steps p x) a u.markup here.reads)) more ns (subst (λ k. ReadsNodes (front ++ k ∷ more) ns) (sym g.2) nodes))

  -- a part that passes a limit is begun there, and none of its shape can stand
  pub heavy_misplaced : (shape : Shape) → IsHeavy (steps p x) z shape → CannotStand front (part (m.Heavy shape) (steps p x)) → NoTemplate p t
  heavy_misplaced shape heavy cannot = refused (heavy_long (steps p x) z shape heavy) (λ v more ns f nodes.
      let shaped : HasShape shape v.markup = shaped_by (steps p x) f.a f.z v shape f.one (subst (λ k. IsHeavy (steps p x) k shape) f.is heavy) f.one.reads in
      let whole : part v.markup (steps p x) ≡ v = ap (λ q. part v.markup q) (sym f.one.at) in
      cannot v.markup shaped more ns (subst (λ k. ReadsNodes (front ++ k ∷ more) ns) (sym whole) nodes))

  here_lexed : Lexes p t front z
  here_lexed = subst (λ k. Lexes p t k z) (append-nil front) (goes.ahead [] z Lexes.here)

  pub heavy_over : (shape : Shape) → IsHeavy (steps p x) z shape → OverParts (front ++ part (m.Heavy shape) (steps p x) ∷ []) → OverTemplate p t
  heavy_over shape heavy over = (front, x, z, goes.is, here_lexed, inr (shape, heavy, over))

  pub part_over : (a y : Text) (u : Part) → z ≡ a ++ y → One (steps p x) a y u → OverParts (front ++ u ∷ []) → OverTemplate p t
  part_over a y u is here over =
      let reads : Lexes (steps p x) z (u ∷ []) y = subst (λ k. Lexes (steps p x) k (u ∷ []) y) (sym is) (one_lexes (steps p x) a y u [] y here Lexes.here) in
      (front ++ u ∷ [], x ++ a, y, goes.is ∙ ap (λ k. x ++ k) is ∙ sym (append_assoc x a y), goes.ahead (u ∷ []) y reads, inl over)
