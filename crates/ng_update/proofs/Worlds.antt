-- Fields that are looked up and written one by one.
use Rattle.std.proofs.Common.{◌≡◌, ℕ, zero, suc, ◌+◌, ◌<◌, ℤ, List, [], ◌∷◌, ◌++◌, length, get_or, set, take, drop, true, false, inl, inr, Option, Some, None, refl, sym, ap, ◌∙◌, arith}
use Rattle.std.specs.Str.{bytes_eq}
use Rattle.std.proofs.lemmas.Bool.{cases_Bool}
use Rattle.std.proofs.lemmas.List.{map_more}
use Rattle.ng_values.specs.declared.fault.Fault.{Fault}
use Rattle.ng_values.specs.declared.value.Value.{Value}
use Rattle.ng_values.specs.declared.value.Value.TheVariants as value
use Rattle.ng_ast.specs.declared.Stmt.{Stmt, out-Stmt}
use Rattle.ng_semantics.specs.Text.{Text, look, put_at}
use Rattle.ng_semantics.specs.Meaning.{World}
use Rattle.ng_semantics.specs.Events.{statement, statements, go_on}
use Rattle.ng_update.specs.declared.fields.Field.{Field}
use Rattle.ng_update.specs.Fields.{entry, world_of, names_in}
use Rattle.ng_update.proofs.Lists.{drop_at}

look_yes : (name : Text) (e : Text × Value) (es : World) → bytes_eq name e.0 ≡ true → look name (e ∷ es) ≡ Some e.1
look_yes name e es t = ap (λ b. elim b as (λ _. Option Value) [ true ↦ Some e.1 | false ↦ look name es ]) t

look_no : (name : Text) (e : Text × Value) (es : World) → bytes_eq name e.0 ≡ false → look name (e ∷ es) ≡ look name es
look_no name e es t = ap (λ b. elim b as (λ _. Option Value) [ true ↦ Some e.1 | false ↦ look name es ]) t

put_yes : (name : Text) (v : Value) (e : Text × Value) (es : World) → bytes_eq name e.0 ≡ true → put_at name v (e ∷ es) ≡ (e.0, v) ∷ es
put_yes name v e es t = ap (λ b. elim b as (λ _. World) [ true ↦ (e.0, v) ∷ es | false ↦ e ∷ put_at name v es ]) t

put_no : (name : Text) (v : Value) (e : Text × Value) (es : World) → bytes_eq name e.0 ≡ false → put_at name v (e ∷ es) ≡ e ∷ put_at name v es
put_no name v e es t = ap (λ b. elim b as (λ _. World) [ true ↦ (e.0, v) ∷ es | false ↦ e ∷ put_at name v es ]) t

look_after : (name : Text) (es : World) (e : Text × Value) → look name es ≡ None → bytes_eq name e.0 ≡ false → look name (es ++ e ∷ []) ≡ None
look_after name [] e none differs = look_no name e [] differs
look_after name (d ∷ es) e none differs =
    elim (cases_Bool (bytes_eq name d.0)) [
      | inl t ↦ (let found = look_yes name d es t in cc)
      | inr t ↦ look_no name d (es ++ e ∷ []) t ∙ look_after name es e (sym (look_no name d es t) ∙ none) differs
    ]

pub none_more : (name : Text) (fs : List Field) (i : ℕ) (d : Field) → look name (world_of (take i fs)) ≡ None → i < length fs
    → bytes_eq name (get_or fs i d).name ≡ false → look name (world_of (take (i + 1) fs)) ≡ None
none_more name fs i d none h e = ap (look name) (map_more entry fs i d h) ∙ look_after name (world_of (take i fs)) (entry (get_or fs i d)) none e

pub put_absent : (name : Text) (v : Value) (es : World) → look name es ≡ None → put_at name v es ≡ es
put_absent name v [] none = refl
put_absent name v (e ∷ es) none =
    elim (cases_Bool (bytes_eq name e.0)) [
      | inl t ↦ (let found = look_yes name e es t in cc)
      | inr t ↦ put_no name v e es t ∙ ap (λ ds. e ∷ ds) (put_absent name v es (sym (look_no name e es t) ∙ none))
    ]

pub put_here : (name : Text) (v : ℤ) (fs : List Field) (i : ℕ) (d e : Field) → look name (world_of (take i fs)) ≡ None → i < length fs
    → bytes_eq name (get_or fs i d).name ≡ true → world_of (set fs i (record { name = (get_or fs i e).name; value = v })) ≡ put_at name (value.Int v) (world_of fs)
put_here name v [] i d e none h is = absurd (omega arith)
put_here name v (g ∷ fs) zero d e none h is = sym (put_yes name (value.Int v) (entry g) (world_of fs) is)
put_here name v (g ∷ fs) (suc i) d e none h is =
    elim (cases_Bool (bytes_eq name g.name)) [
      | inl t ↦ (let found = look_yes name (entry g) (world_of (take i fs)) t in cc)
      | inr t ↦ ap (λ es. entry g ∷ es) (put_here name v fs i d e (sym (look_no name (entry g) (world_of (take i fs)) t) ∙ none) (omega arith) is)
          ∙ sym (put_no name (value.Int v) (entry g) (world_of fs) t)
    ]

pub names_kept : (v : ℤ) (fs : List Field) (i : ℕ) (d : Field) → i < length fs
    → names_in (set fs i (record { name = (get_or fs i d).name; value = v })) ≡ names_in fs
names_kept v [] i d h = absurd (omega arith)
names_kept v (g ∷ fs) zero d h = refl
names_kept v (g ∷ fs) (suc i) d h = ap (λ ns. g.name ∷ ns) (names_kept v fs i d (omega arith))

-- one statement of several
pub acts_more : (ss : List Stmt) (i : ℕ) (s : Stmt) (w : World) (r : Option Fault × World) → i < length ss → s ≡ get_or ss i s → r ≡ statement w (out-Stmt s)
    → statements (drop i ss) w ≡ go_on r (statements (drop (i + 1) ss))
acts_more ss i s w r h is e = ap (λ ts. statements ts w) (drop_at ss i s h is) ∙ ap (λ q. go_on q (statements (drop (i + 1) ss))) (sym e)
