-- What is added to an index of selectors, one alternative after another.
use Rattle.std.proofs.Common.{◌≡◌, sym, ◌∙◌, ap, ℕ, ◌+◌, ◌<◌, Bool, List, [], ◌∷◌, ◌++◌, append-nil, append_assoc, length, get_or, map, take, bytes_eq, arith}
use Rattle.std.proofs.lemmas.List.{take_more, length-take-le, length-map, map-append}
use Rattle.std.specs.Borrow.{Bor}
use Rattle.std.specs.HashMap.{HashMap, get}
use Rattle.std.specs.Map.{lookup}
use Rattle.ng_ast.specs.declared.Component.{Component}
use Rattle.ng_ast.specs.declared.One.{One}
use Rattle.ng_hosts.specs.declared.marks.Mark.{Mark}
use Rattle.ng_hosts.specs.declared.marks.MarkCounts.{MarkCounts}
use Rattle.ng_hosts.specs.declared.index.Entry.{Entry}
use Rattle.ng_hosts.specs.declared.index.SelectorIndex.{SelectorIndex}
use Rattle.ng_hosts.specs.Index.{row, is_attribute, is_class, is_tag, is_nothing, mark_of, entry, entry_if, marked, entries, IsEmpty, Adds, IsIndex}

append_more : (old new next add more all : List Entry) → new ≡ old ++ add → next ≡ new ++ more → add ++ more ≡ all → next ≡ old ++ all
append_more old new next add more all e f g = f ∙ ap (λ l. l ++ more) e ∙ append_assoc old add more ∙ ap (λ l. old ++ l) g

-- what is added, and then more
pub adds_more : (a b c : SelectorIndex) (f g h : (Mark → Bool) → List Entry) → Adds a b f → Adds b c g → ((w : Mark → Bool) → f w ++ g w ≡ h w) → Adds a c h
adds_more a b c f g h s t is = record {
  attributes = λ n. append_more (row (get bytes_eq a.attributes n)) (row (get bytes_eq b.attributes n)) (row (get bytes_eq c.attributes n)) (f (is_attribute n)) (g (is_attribute n)) (h (is_attribute n)) (s.attributes n) (t.attributes n) (is (is_attribute n));
  classes = λ n. append_more (row (get bytes_eq a.classes n)) (row (get bytes_eq b.classes n)) (row (get bytes_eq c.classes n)) (f (is_class n)) (g (is_class n)) (h (is_class n)) (s.classes n) (t.classes n) (is (is_class n));
  tags = λ n. append_more (row (get bytes_eq a.tags n)) (row (get bytes_eq b.tags n)) (row (get bytes_eq c.tags n)) (f (is_tag n)) (g (is_tag n)) (h (is_tag n)) (s.tags n) (t.tags n) (is (is_tag n));
  unmarked = append_more a.unmarked.items b.unmarked.items c.unmarked.items (f is_nothing) (g is_nothing) (h is_nothing) s.unmarked t.unmarked (is is_nothing);
}

-- nothing is added
pub adds_none : (a : SelectorIndex) (f : (Mark → Bool) → List Entry) → ((w : Mark → Bool) → f w ≡ []) → Adds a a f
adds_none a f none = record {
  attributes = λ n. sym (append-nil (row (get bytes_eq a.attributes n))) ∙ ap (λ l. row (get bytes_eq a.attributes n) ++ l) (sym (none (is_attribute n)));
  classes = λ n. sym (append-nil (row (get bytes_eq a.classes n))) ∙ ap (λ l. row (get bytes_eq a.classes n) ++ l) (sym (none (is_class n)));
  tags = λ n. sym (append-nil (row (get bytes_eq a.tags n))) ∙ ap (λ l. row (get bytes_eq a.tags n) ++ l) (sym (none (is_tag n)));
  unmarked = sym (append-nil a.unmarked.items) ∙ ap (λ l. a.unmarked.items ++ l) (sym (none is_nothing));
}

-- an empty map has no row
row_none : {K S : Type 0} (e : K → K → Bool) (m : HashMap K (List Entry) S) → m.entries ≡ [] → (n : K) → row (get e m n) ≡ []
row_none {K} {S} e m empty n = ap (λ (es : List (K × List Entry)). row (lookup (e n) es)) empty

-- an index that was empty, and to which the entries of all components were added
pub index_is : (a b : SelectorIndex) (k : MarkCounts) (cs : List Component) → IsEmpty a → Adds a b (λ w. entries k w 0 cs) → IsIndex b cs
index_is a b k cs none adds = record {
  counts = k;
  attributes = λ n. adds.attributes n ∙ ap (λ l. l ++ entries k (is_attribute n) 0 cs) (row_none bytes_eq a.attributes none.attributes n);
  classes = λ n. adds.classes n ∙ ap (λ l. l ++ entries k (is_class n) 0 cs) (row_none bytes_eq a.classes none.classes n);
  tags = λ n. adds.tags n ∙ ap (λ l. l ++ entries k (is_tag n) 0 cs) (row_none bytes_eq a.tags none.tags n);
  unmarked = adds.unmarked ∙ ap (λ l. l ++ entries k is_nothing 0 cs) none.unmarked;
}

-- ---- one alternative more

marked_append : (k : MarkCounts) (w : Mark → Bool) (at n : ℕ) (xs ys : List One) → marked k w at n (xs ++ ys) ≡ marked k w at n xs ++ marked k w at (n + length xs) ys
marked_append k w at n [] ys = ap (λ m. marked k w at m ys) (omega arith)
marked_append k w at n (x ∷ xs) ys =
    ap (λ l. entry_if (w (mark_of k x)) (entry at n) ++ l) (marked_append k w at (n + 1) xs ys ∙ ap (λ m. marked k w at (n + 1) xs ++ marked k w at m ys) (omega arith))
    ∙ sym (append_assoc (entry_if (w (mark_of k x)) (entry at n)) (marked k w at (n + 1) xs) (marked k w at (n + length (x ∷ xs)) ys))

pub marked_more : (k : MarkCounts) (w : Mark → Bool) (at : ℕ) (ones : List One) (i : ℕ) (one : One) → i < length ones → one ≡ get_or ones i one
    → marked k w at 0 (take i ones) ++ entry_if (w (mark_of k one)) (entry at i) ≡ marked k w at 0 (take (i + 1) ones)
marked_more k w at ones i one small is =
    ap (λ l. marked k w at 0 (take i ones) ++ l) (sym (append-nil (entry_if (w (mark_of k one)) (entry at i))))
    ∙ ap (λ m. marked k w at 0 (take i ones) ++ marked k w at m (one ∷ [])) (omega (arith, length-take-le i ones (omega arith)))
    ∙ sym (marked_append k w at 0 (take i ones) (one ∷ []))
    ∙ ap (λ y. marked k w at 0 (take i ones ++ y ∷ [])) is ∙ ap (marked k w at 0) (sym (take_more ones i one small))

-- ---- one component more

entries_append : (k : MarkCounts) (w : Mark → Bool) (n : ℕ) (xs ys : List Component) → entries k w n (xs ++ ys) ≡ entries k w n xs ++ entries k w (n + length xs) ys
entries_append k w n [] ys = ap (λ m. entries k w m ys) (omega arith)
entries_append k w n (x ∷ xs) ys =
    ap (λ l. marked k w n 0 x.selector.list ++ l) (entries_append k w (n + 1) xs ys ∙ ap (λ m. entries k w (n + 1) xs ++ entries k w m ys) (omega arith))
    ∙ sym (append_assoc (marked k w n 0 x.selector.list) (entries k w (n + 1) xs) (entries k w (n + length (x ∷ xs)) ys))

pub entries_more : (k : MarkCounts) (w : Mark → Bool) (cs : List (Bor Component)) (i : ℕ) (c : Bor Component) → i < length cs → c ≡ get_or cs i c
    → entries k w 0 (map (λ r. r.now) (take i cs)) ++ marked k w i 0 c.now.selector.list ≡ entries k w 0 (map (λ r. r.now) (take (i + 1) cs))
entries_more k w cs i c small is =
    ap (λ l. entries k w 0 (map (λ r. r.now) (take i cs)) ++ l) (sym (append-nil (marked k w i 0 c.now.selector.list)))
    ∙ ap (λ m. entries k w 0 (map (λ r. r.now) (take i cs)) ++ entries k w m (c.now ∷ [])) (omega (arith, length-map (take i cs) (λ (r : Bor Component). r.now), length-take-le i cs (omega arith)))
    ∙ sym (entries_append k w 0 (map (λ r. r.now) (take i cs)) (c.now ∷ []))
    ∙ ap (entries k w 0) (sym (map-append (λ (r : Bor Component). r.now) (take i cs) (c ∷ [])))
    ∙ ap (λ y. entries k w 0 (map (λ r. r.now) (take i cs ++ y ∷ []))) is ∙ ap (λ l. entries k w 0 (map (λ r. r.now) l)) (sym (take_more cs i c small))
