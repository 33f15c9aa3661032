-- No two rows of a `@for` have one track value and one occurrence, so no view shows two views by one step.
use Rattle.std.specs.Prelude.{◌≡◌, ℕ, ◌+◌, ◌<◌, Bool, true, false, cond, List, [], ◌∷◌, ◌++◌, map, length, filter, nat_eq, Option, Some, None, Result, Ok, refl}
use Rattle.std.specs.List.{filter_map}
use Rattle.std.specs.Map.{lookup}
use Rattle.std.proofs.Common.{inl, inr, ap, sym, ◌∙◌, subst, arith}
use Rattle.std.proofs.lemmas.List.{map-append}
use Rattle.ng_values.specs.declared.plain.Plain.{Plain}
use Rattle.ng_values.specs.declared.value.Value.{Value}
use Rattle.ng_values.specs.declared.value.Value.TheVariants as val
use Rattle.ng_values.specs.View.{value_of as item_value}
use Rattle.ng_ast.specs.declared.App.{App}
use Rattle.ng_ast.specs.declared.Place.{Place}
use Rattle.ng_ast.specs.declared.ForHead.{ForHead}
use Rattle.ng_ast.specs.declared.TAttr.{TAttr}
use Rattle.ng_meaning.specs.Steps.{◌>>=◌, pure, all}
use Rattle.ng_tree.specs.declared.Item.{Item}
use Rattle.ng_meaning.specs.Lists.{Text}
use Rattle.ng_meaning.specs.Same.{same_value}
use Rattle.ng_meaning.specs.Expressions.{interpolated, mean_value, most_calls}
use Rattle.ng_meaning.specs.Template.{Form, Element, Host, NgContent, NgContainer, NgTemplate, TextNode, If, For, Switch, Let, Node}
use Rattle.ng_meaning.specs.Tree.{Row, NodeValue, BoundValues, TextValue, RowList, Choice, LetValue, OutletValue, NoValue, View, value_of, or_no_value}
use Rattle.ng_turns.specs.declared.PassFault.{PassFault}
use Rattle.ng_meaning.specs.Bindings.{Pass, Passing, Visit, binding, bound_to, first_place, bound_value, bound_values, if_head, default_branch, switch_head, items_of, having, track_value, rows_from, outlet_part, outlet_value, evaluated, with_node, evaluate}
use Rattle.ng_meaning.specs.Laws.Apart.{In, Apart, In-append, Apart-append, In-map}
use Rattle.ng_meaning.specs.Laws.Sameness.{same_value_decides}
use Rattle.ng_meaning.specs.Laws.Steps.{bind_ok, map_ok}

-- by what a row is told apart from others of its list
abbrev pub identity : Row → Value × ℕ
identity r = (r.key, r.nth)

having-append : (k : Value) (rows more : List Row) → having k (rows ++ more) ≡ having k rows + having k more
having-append k [] more = omega arith
having-append k (r ∷ rows) more = counted (same_value k r.key) (having-append k rows more)
  where
    counted : (b : Bool) → having k (rows ++ more) ≡ having k rows + having k more
        → length (cond b (r ∷ filter (λ q. same_value k q.key) (rows ++ more)) (filter (λ q. same_value k q.key) (rows ++ more))) ≡ length (cond b (r ∷ filter (λ q. same_value k q.key) rows) (filter (λ q. same_value k q.key) rows)) + having k more
    counted true h = omega (arith, h)
    counted false h = h

one_of : (b : Bool) (r : Row) → b ≡ true → length (cond b (r ∷ []) []) ≡ 1
one_of true r e = refl
one_of false r e = cc

having-itself : (r : Row) → having r.key (r ∷ []) ≡ 1
having-itself r = one_of (same_value r.key r.key) r ((same_value_decides r.key r.key).1 refl)

-- each row has a lower occurrence than there are rows of its track value, and no two have the same of both
pub record AreCounted (rows : List Row) : Type 0 where
  pub below : (r : Row) → In r rows → r.nth < having r.key rows
  pub apart : Apart (map identity rows)

no_rows : AreCounted []
no_rows = record { below = λ r i. absurd i; apart = tt }

-- a row that is there has a lower occurrence than a further one of its track value
clash : (rows : List Row) (k : Value) → AreCounted rows → (x : Value × ℕ) → ((r : Row) × In r rows × (x ≡ identity r)) → x ≡ (k, having k rows) → ⊥
clash rows k h x there e =
    let r = there.0 in
    let keys : r.key ≡ k = ap (λ (y : Value × ℕ). y.0) (sym there.2 ∙ e) in
    let counts : r.nth ≡ having k rows = ap (λ (y : Value × ℕ). y.1) (sym there.2 ∙ e) in
    let less : r.nth < having k rows = subst (λ (y : Value). r.nth < having y rows) keys (h.below r there.1) in
    omega arith

one_more : (rows : List Row) (k w : Value) → AreCounted rows → AreCounted (rows ++ record { key = k; nth = having k rows; item = w } ∷ [])
one_more rows k w h =
    let new : Row = record { key = k; nth = having k rows; item = w } in
    record {
      below = λ r i. elim (In-append rows (new ∷ []) r i) [
        | inl j ↦ omega (arith, having-append r.key rows (new ∷ []), h.below r j)
        | inr (inl e) ↦ subst (λ (q : Row). q.nth < having q.key (rows ++ new ∷ [])) (sym e) (omega (arith, having-append k rows (new ∷ []), having-itself new))
        | inr (inr j) ↦ absurd j
      ];
      apart =
          rw map-append
          (Apart-append (map identity rows) (identity new ∷ []) h.apart (λ i. i, tt)
          (λ x i j. clash rows k h x (In-map identity rows x i) (elim j [ inl e ↦ e | inr none ↦ absurd none ])));
    }

rows_counted : (app : App) (v : Visit) (p : Place) (head : ForHead) (ds : List Plain) (rows : List Row) (s : Pass) (all : List Row) → AreCounted rows → (rows_from app v p head rows ds s).0 ≡ Ok all → AreCounted all
rows_counted app v p head [] rows s all h e = subst AreCounted (cc) h
rows_counted app v p head (d ∷ ds) rows s all h e =
    let r = bind_ok (track_value app v p head (length rows) (item_value d)) (λ k. rows_from app v p head (rows ++ record { key = k; nth = having k rows; item = item_value d } ∷ []) ds) s all e in
    rows_counted app v p head ds (rows ++ record { key = r.0; nth = having r.0 rows; item = item_value d } ∷ []) _ all (one_more rows r.0 (item_value d) h) r.2

-- ---- the values of a view

-- the rows of a value, if it has any, are counted
abbrev pub IsCounted : NodeValue → Type 0
IsCounted (RowList rows) = AreCounted rows
IsCounted value = Unit {0}

-- so are those of all nodes
abbrev pub AllCounted : List (ℕ × NodeValue) → Type 0
AllCounted [] = Unit {0}
AllCounted (v ∷ values) = IsCounted v.1 × AllCounted values

AllCounted-append : (xs ys : List (ℕ × NodeValue)) → AllCounted xs → AllCounted ys → AllCounted (xs ++ ys)
AllCounted-append [] ys h k = k
AllCounted-append (x ∷ xs) ys h k = (h.0, AllCounted-append xs ys h.1 k)

looked_up : (n : ℕ) (values : List (ℕ × NodeValue)) → AllCounted values → IsCounted (or_no_value (lookup (nat_eq n) values))
looked_up n [] h = tt
looked_up n (v ∷ values) h = here (nat_eq n v.0) (looked_up n values h.1)
  where
    here : (b : Bool) → IsCounted (or_no_value (lookup (nat_eq n) values)) → IsCounted (or_no_value (cond b (Some v.1) (lookup (nat_eq n) values)))
    here true rest = h.0
    here false rest = rest

-- The value of each node of such a view is counted.
pub value_of-IsCounted : (w : View) (n : ℕ) → AllCounted w.values → IsCounted (value_of (Some w) n)
value_of-IsCounted w n h = looked_up n w.values h

-- a value that is made of an answer
mapped_counted : {A : Type 0} (m : Passing A) (g : A → NodeValue) → ((x : A) → IsCounted (g x)) → (s : Pass) (value : NodeValue) → ((m >>= (λ x. pure (g x))) s).0 ≡ Ok value → IsCounted value
mapped_counted m g h s value e = let r = map_ok m g s value e in subst IsCounted (sym r.2) (h r.0)

module _ (app : App) (v : Visit) (names : List (Text × Item)) where
  bound_counted : (attrs : List TAttr) (s : Pass) (value : NodeValue) → (bound_values app v names attrs s).0 ≡ Ok value → IsCounted value
  bound_counted attrs s value e = mapped_counted (all (λ a. bound_value app v names a a.form) attrs) (λ bs. BoundValues (filter_map (λ b. b) bs)) (λ bs. tt) s value e

  outlet_counted : (attrs : List TAttr) (t : Option ℕ) (w : Value) (s : Pass) (value : NodeValue) → (outlet_value app v names attrs t w s).0 ≡ Ok value → IsCounted value
  outlet_counted [] t w s value e = subst IsCounted (let h : OutletValue t w ≡ value = cc in h) tt
  outlet_counted (a ∷ attrs) t w s value e =
      let r = bind_ok (outlet_part app v names a a.form t w) (λ q. outlet_value app v names attrs q.0 q.1) s value e in outlet_counted attrs r.0.0 r.0.1 _ value r.2

  no_value_counted : (s : Pass) (value : NodeValue) → ◌≡◌ {A = Result NodeValue PassFault} (Ok NoValue) (Ok value) → IsCounted value
  no_value_counted s value e = subst IsCounted (let h : NoValue ≡ value = cc in h) tt

  -- What a node evaluates is counted.
  evaluated_counted : (p : Place) (f : Form) (s : Pass) (value : NodeValue) → (evaluated app v names p f s).0 ≡ Ok value → IsCounted value
  evaluated_counted p (TextNode ps) s value e = mapped_counted (binding app v names (first_place p ps) (λ c. interpolated c ps)) TextValue (λ t. tt) s value e
  evaluated_counted p (Element tag attrs nodes) s value e = bound_counted attrs s value e
  evaluated_counted p (Host c tag attrs nodes) s value e = bound_counted attrs s value e
  evaluated_counted p (If bs) s value e = mapped_counted (binding app v names p (if_head 0 bs)) Choice (λ c. tt) s value e
  evaluated_counted p (Switch x bs) s value e = mapped_counted (binding app v names p (switch_head x (default_branch 0 bs) 0 bs)) Choice (λ c. tt) s value e
  evaluated_counted p (For head nodes empty) s value e =
      let list = bind_ok (binding app v names p (λ c. mean_value most_calls c head.list >>= items_of)) (λ ds. rows_from app v p head [] ds >>= (λ rows. pure (RowList rows))) s value e in
      let made = map_ok (rows_from app v p head [] list.0) RowList _ value list.2 in
      subst IsCounted (sym made.2) (rows_counted app v p head list.0 [] _ made.0 no_rows made.1)
  evaluated_counted p (Let name x) s value e = mapped_counted (bound_to app v names p x) LetValue (λ w. tt) s value e
  evaluated_counted p (NgContainer attrs nodes) s value e = outlet_counted attrs None val.Null s value e
  evaluated_counted p (NgContent attrs nodes) s value e = no_value_counted s value e
  evaluated_counted p (NgTemplate attrs nodes) s value e = no_value_counted s value e

-- What a view evaluates is counted, if what it has by then is.
pub evaluate-AllCounted : (app : App) (v : Visit) (outer : List (Text × Item)) (qs : List Node) (sofar : View) (s : Pass) (w : View) → AllCounted sofar.values → (evaluate app v outer sofar qs s).0 ≡ Ok w → AllCounted w.values
evaluate-AllCounted app v outer [] sofar s w h e = subst (λ (u : View). AllCounted u.values) (let k : sofar ≡ w = cc in k) h
evaluate-AllCounted app v outer (q ∷ qs) sofar s w h e =
    let r = bind_ok (evaluated app v (sofar.names ++ outer) q.place q.form) (λ value. evaluate app v outer (with_node v.at.path q value sofar) qs) s w e in
    evaluate-AllCounted app v outer qs (with_node v.at.path q r.0 sofar) _ w
    (AllCounted-append sofar.values ((q.number, r.0) ∷ []) h (evaluated_counted app v (sofar.names ++ outer) q.place q.form s r.0 r.1, tt)) r.2
