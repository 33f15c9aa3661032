-- A map of the declared names, declaration by declaration.
use Rattle.std.proofs.Common.{◌≡◌, refl, ℕ, ◌+◌, ◌<◌, List, [], ◌∷◌, ◌++◌, length, get_or, drop, ap, ◌∙◌, sym, Option, Some, None, bytes_eq}
use Rattle.std.proofs.lemmas.List.{drop_more}
use Rattle.std.specs.HashMap.{HashMap, get}
use Rattle.ng_ast.specs.declared.Decl.{Decl}
use Rattle.ng_parts.specs.declared.declared.Declared.{Declared}
use Rattle.ng_parts.specs.Sites.{Name}
use Rattle.ng_parts.specs.Entries.{Entry, decl_entry, entries_from, first_some, only, named, named_in}

first_some-assoc : {A : Type 0} (a b c : Option A) → first_some (first_some a b) c ≡ first_some a (first_some b c)
first_some-assoc None b c = refl
first_some-assoc (Some x) b c = refl

named_in-append : (xs ys : List Entry) (n : Name) → named_in (xs ++ ys) n ≡ first_some (named_in xs n) (named_in ys n)
named_in-append [] ys n = refl
named_in-append (x ∷ xs) ys n = ap (first_some (only x.name x.declared n)) (named_in-append xs ys n) ∙ sym (first_some-assoc (only x.name x.declared n) (named_in xs n) (named_in ys n))

-- What is left to add, where the map has the names of the declarations before.
abbrev pub Indexed : {S : Type 0} → HashMap Name Declared S → ℕ → List Decl → List Decl → Type 0
Indexed index at rest ds = (n : Name) → first_some (get bytes_eq index n) (named_in (entries_from at rest) n) ≡ named ds n

pub indexed_more : {S : Type 0} (old new : HashMap Name Declared S) (at : ℕ) (xs ds : List Decl) (i : ℕ) (d : Decl) → i < length xs → d ≡ get_or xs i d
    → Indexed old at (drop i xs) ds → ((n : Name) → get bytes_eq new n ≡ first_some (get bytes_eq old n) (named_in (decl_entry at d) n)) → Indexed new (at + 1) (drop (i + 1) xs) ds
indexed_more old new at xs ds i d small is indexed added n =
    ap (λ r. first_some r (named_in (entries_from (at + 1) (drop (i + 1) xs)) n)) (added n)
    ∙ first_some-assoc (get bytes_eq old n) (named_in (decl_entry at d) n) (named_in (entries_from (at + 1) (drop (i + 1) xs)) n)
    ∙ ap (first_some (get bytes_eq old n)) (sym (named_in-append (decl_entry at d) (entries_from (at + 1) (drop (i + 1) xs)) n))
    ∙ ap (λ us. first_some (get bytes_eq old n) (named_in (entries_from at us) n)) (sym (drop_more xs i d small ∙ ap (λ u. u ∷ drop (i + 1) xs) (sym is)))
    ∙ indexed n
