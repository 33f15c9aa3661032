-- One level of a scope of the code, and a list of names with one more.
use Rattle.std.proofs.Common.{◌≡◌, refl, ℕ, ◌+◌, List, [], ◌∷◌, ◌++◌, length, take, get_or, ◌<◌, ap, ◌∙◌, sym, arith, bytes_eq, Option, Some, None, Bor}
use Rattle.std.proofs.lemmas.List.{take_more}
use Rattle.std.specs.HashMap.{HashMap, get}
use Rattle.std.specs.declared.hash.FoldHasher.{FoldHasher}
use Rattle.std.specs.declared.hash.BuildHasherDefault.{BuildHasherDefault}
use Rattle.ng_scopes.specs.declared.names.Known.{Known}
use Rattle.ng_scopes.specs.declared.scope.Entry.{Entry}
use Rattle.ng_scopes.specs.declared.scope.Scope.{Scope as Kept, fold-roll-Scope}
use Rattle.ng_scopes.specs.declared.scope.Scope.TheOpen.{Scope-F}
use Rattle.ng_scopes.specs.declared.scope.Scope.TheVariants as scopes
use Rattle.ng_scopes.specs.Names.{Name, Scope, nothing, first_some, seen_entry, first_in, only, let_count, lets_of, inside, IsTable}
use Rattle.ng_ast.specs.declared.Place.{Place}
use Rattle.ng_ast.specs.declared.Expr.{Expr}
use Rattle.ng_scopes.specs.declared.usage.Usage.{Usage}
use Rattle.ng_scopes.specs.Templates.{test_usages, track_names}
use Rattle.ng_scopes.specs.Scope.{meaning_of, scope_step, kept_in}

last : {A : Type 0} (o : Option A) → first_some o None ≡ o
last None = refl
last (Some a) = refl

first_some-assoc : {A : Type 0} (a b c : Option A) → first_some (first_some a b) c ≡ first_some a (first_some b c)
first_some-assoc None b c = refl
first_some-assoc (Some x) b c = refl

pub meaning_of-Outside : (n : Name) → meaning_of scopes.Outside n ≡ None
unfolding meaning_of
meaning_of-Outside n = ap (λ (f : Scope). f n) (ap meaning_of (sym scopes.rolls-Outside) ∙ fold-roll-Scope Scope scope_step Scope-F.Outside)

pub meaning_of-View : (t : Bor (HashMap Name Entry (BuildHasherDefault FoldHasher))) (passed : ℕ) (outer : Bor Kept) (n : Name) → meaning_of (scopes.View t passed outer) n ≡ first_some (seen_entry passed (get bytes_eq t.now n)) (meaning_of outer.now n)
unfolding meaning_of
meaning_of-View t passed outer n = ap (λ (f : Scope). f n) (ap meaning_of (sym (scopes.rolls-View t passed outer)) ∙ fold-roll-Scope Scope scope_step (Scope-F.View t passed outer))

-- the names inside a view, all at once
pub meaning_of-view : (t : Bor (HashMap Name Entry (BuildHasherDefault FoldHasher))) (passed : ℕ) (outer : Bor Kept) → meaning_of (scopes.View t passed outer) ≡ kept_in t.now (meaning_of outer.now) passed
unfolding meaning_of
meaning_of-view t passed outer = ap meaning_of (sym (scopes.rolls-View t passed outer)) ∙ fold-roll-Scope Scope scope_step (Scope-F.View t passed outer)

pub meaning_of-outside : meaning_of scopes.Outside ≡ nothing
unfolding meaning_of
meaning_of-outside = ap meaning_of (sym scopes.rolls-Outside) ∙ fold-roll-Scope Scope scope_step Scope-F.Outside

-- the table of some names says what they say
pub kept_in-table : (t : HashMap Name Entry (BuildHasherDefault FoldHasher)) (names : List Known) (outer : Scope) → IsTable t names → kept_in t outer ≡ (λ passed. inside names passed outer)
kept_in-table t names outer table = λ i passed n. first_some (seen_entry passed (table n i)) (outer n)

-- the names of a track expression
pub track_told : (new old : List Usage) (t : HashMap Name Entry (BuildHasherDefault FoldHasher)) (names : List Known) (outer : Scope) (p : Place) (row : Name) (track : Option Expr)
    → IsTable t names → names ≡ track_names p row → outer ≡ nothing → new ≡ old ++ test_usages p (kept_in t outer 0) track
    → new ≡ old ++ test_usages p (inside (track_names p row) 0 nothing) track
track_told new old t names outer p row track table named out told =
    told ∙ ap (λ (s : ℕ → Scope). old ++ test_usages p (s 0) track) (kept_in-table t names outer table)
    ∙ ap (λ ks. old ++ test_usages p (inside ks 0 outer) track) named ∙ ap (λ o. old ++ test_usages p (inside (track_names p row) 0 o) track) out

-- the names inside a table of some names, where no view stands round it
pub kept_in-first : (t : HashMap Name Entry (BuildHasherDefault FoldHasher)) (names : List Known) (outer : Scope) → IsTable t names → kept_in t outer 0 ≡ inside names 0 outer
kept_in-first t names outer table = ap (λ (s : ℕ → Scope). s 0) (kept_in-table t names outer table)

-- the same, for the names that a declaration has
pub first_scope : (t : HashMap Name Entry (BuildHasherDefault FoldHasher)) (names known : List Known) (outer : Scope) → IsTable t names → names ≡ known → outer ≡ nothing → kept_in t outer 0 ≡ inside known 0 nothing
first_scope t names known outer table same out = kept_in-first t names outer table ∙ ap (λ ks. inside ks 0 outer) same ∙ ap (inside known 0) out

pub ruleset whole_laws = (meaning_of-view, meaning_of-outside)

pub ruleset scope_laws = (meaning_of-Outside, meaning_of-View)

-- a list of names with one more
pub first_in-push : (before : ℕ) (xs : List Known) (x : Known) (n : Name) → first_in before (xs ++ x ∷ []) n ≡ first_some (first_in before xs n) (only x (before + lets_of xs) n)
first_in-push before [] x n = let e : before ≡ before + 0 = omega arith in last (only x before n) ∙ ap (λ k. only x k n) e
first_in-push before (y ∷ ys) x n =
    let e : (before + let_count y.meaning) + lets_of ys ≡ before + (let_count y.meaning + lets_of ys) = omega arith in
    ap (first_some (only y before n)) (first_in-push (before + let_count y.meaning) ys x n ∙ ap (λ k. first_some (first_in (before + let_count y.meaning) ys n) (only x k n)) e)
    ∙ sym (first_some-assoc (only y before n) (first_in (before + let_count y.meaning) ys n) (only x (before + (let_count y.meaning + lets_of ys)) n))

pub lets_of-push : (xs : List Known) (x : Known) → lets_of (xs ++ x ∷ []) ≡ lets_of xs + let_count x.meaning
lets_of-push [] x = omega arith
lets_of-push (y ∷ ys) x = omega (arith, lets_of-push ys x)

more_of : (xs : List Known) (i : ℕ) (x : Known) → i < length xs → x ≡ get_or xs i x → take i xs ++ x ∷ [] ≡ take (i + 1) xs
more_of xs i x small is = ap (λ y. take i xs ++ y ∷ []) is ∙ sym (take_more xs i x small)

pub lets_more : (xs : List Known) (i : ℕ) (x : Known) → i < length xs → x ≡ get_or xs i x → lets_of (take i xs) + let_count x.meaning ≡ lets_of (take (i + 1) xs)
lets_more xs i x small is = sym (lets_of-push (take i xs) x) ∙ ap lets_of (more_of xs i x small is)

first_more : (xs : List Known) (i : ℕ) (x : Known) (n : Name) → i < length xs → x ≡ get_or xs i x → first_some (first_in 0 (take i xs) n) (only x (lets_of (take i xs)) n) ≡ first_in 0 (take (i + 1) xs) n
first_more xs i x n small is =
    let e : lets_of (take i xs) ≡ 0 + lets_of (take i xs) = omega arith in
    ap (λ k. first_some (first_in 0 (take i xs) n) (only x k n)) e ∙ sym (first_in-push 0 (take i xs) x n) ∙ ap (λ ys. first_in 0 ys n) (more_of xs i x small is)

-- the table of a list with one more
pub table_more : {S : Type 0} (old new : HashMap Name Entry S) (xs : List Known) (i before : ℕ) (x : Known) → i < length xs → x ≡ get_or xs i x
    → IsTable old (take i xs) → before ≡ lets_of (take i xs)
    → ((n : Name) → get bytes_eq new n ≡ first_some (get bytes_eq old n) (only x before n)) → IsTable new (take (i + 1) xs)
table_more old new xs i before x small is table count added n =
    added n ∙ ap (λ r. first_some r (only x before n)) (table n) ∙ ap (λ k. first_some (first_in 0 (take i xs) n) (only x k n)) count ∙ first_more xs i x n small is

pub ruleset table_laws = (kept_in-first, meaning_of-outside)
