-- Clicks one after another, as a loop reads them.
use Rattle.std.proofs.Common.{◌≡◌, ℕ, ◌+◌, ◌<◌, ◌≤◌, List, [], ◌∷◌, ◌++◌, length, drop, get_or, refl, sym, ◌∙◌, ap, append_assoc, arith}
use Rattle.std.proofs.lemmas.List.{at_drop_more, at_drop_all, append-nil}
use Rattle.std.proofs.Common.{suc, Bool, true, false, cond, String, Global, codes}
use Rattle.std.specs.Prelude.{Option, Some, None, option_map, option_and_then, ◌==◌, ◌&&◌, nat_le}
use Rattle.serde_json.specs.Data.{Data, Members, Items}
use Rattle.serde_json.specs.Events.{members_len, items_len}
use Rattle.serde_json.specs.Find.{as_object, as_array}
use Rattle.serde_json.specs.Read.{read}
use Rattle.std.specs.Str.{IsUtf8}
use Rattle.std.proofs.lemmas.Str.{is_utf8-from_IsUtf8, IsUtf8-from_is_utf8}
use Rattle.std.proofs.lemmas.Bool.Decides.{nat_tests}
use Rattle.serde_json.specs.declared.value.Value.{Value}
use Rattle.serde_json.specs.View.{view, items_view, members_view}
use Rattle.ng_semantics.specs.Text.{Text}
use Rattle.ng_clicks.specs.Clicks.{click_tag, click_tags, is_click, text_at, clicks_of, json_of}

-- what was found stands before what is to come
abbrev pub joined : List Text → Option (List Text) → Option (List Text)
joined found rest = option_map (λ tags. found ++ tags) rest

joined_one : (found : List Text) (tag : Text) (rest : Option (List Text)) → joined found (option_map (λ tags. tag ∷ tags) rest) ≡ joined (found ++ tag ∷ []) rest
joined_one found tag None = refl
joined_one found tag (Some tags) = ap Some (sym (append_assoc found (tag ∷ []) tags))

by_tag : (rest : Option (List Text)) (found o : Option Text) → found ≡ o → option_and_then (λ t. option_map (λ tags. t ∷ tags) rest) found ≡ option_and_then (λ t. option_map (λ tags. t ∷ tags) rest) o
by_tag rest found o e = ap (λ o. option_and_then (λ t. option_map (λ tags. t ∷ tags) rest) o) e

pub goes_on : (events : List Value) (found : List Text) (i : ℕ) (event : Value) (tag : Text) → i < length events → event ≡ get_or events i event → click_tag (view event) ≡ Some tag
    → joined found (click_tags (items_view (drop i events))) ≡ joined (found ++ tag ∷ []) (click_tags (items_view (drop (i + 1) events)))
goes_on events found i event tag lt is e =
    let one : click_tags (items_view (drop i events)) ≡ option_and_then (λ t. option_map (λ tags. t ∷ tags) (click_tags (items_view (drop (i + 1) events)))) (click_tag (view event)) =
    at_drop_more (λ es. click_tags (items_view es)) events i event lt ∙ ap (λ x. click_tags (items_view (x ∷ drop (i + 1) events))) (sym is) in
    ap (joined found) (one ∙ by_tag _ _ _ e) ∙ joined_one found tag _

pub is_none : (events : List Value) (found : List Text) (i : ℕ) (event : Value) → i < length events → event ≡ get_or events i event → click_tag (view event) ≡ None
    → joined found (click_tags (items_view (drop i events))) ≡ None
is_none events found i event lt is e =
    let one : click_tags (items_view (drop i events)) ≡ option_and_then (λ t. option_map (λ tags. t ∷ tags) (click_tags (items_view (drop (i + 1) events)))) (click_tag (view event)) =
    at_drop_more (λ es. click_tags (items_view es)) events i event lt ∙ ap (λ x. click_tags (items_view (x ∷ drop (i + 1) events))) (sym is) in
    ap (joined found) (one ∙ by_tag _ _ _ e)

pub is_done : (events : List Value) (found : List Text) (i : ℕ) → length events ≤ i → joined found (click_tags (items_view (drop i events))) ≡ Some found
is_done events found i h = ap (joined found) (at_drop_all (λ es. click_tags (items_view es)) events i h) ∙ ap Some (append-nil found)

-- ---- one click

len_is : (es : List (String Global × Value)) → members_len (members_view es) ≡ length es
len_is [] = refl
len_is (e ∷ es) = ap suc (len_is es)

chosen_by : (d : Data) (ms : Members) (o : Option Members) → Some ms ≡ o → option_and_then (λ members. cond (members_len members == 2 && is_click (text_at (codes "on") d)) (text_at (codes "tag") d) None) o
    ≡ cond (members_len ms == 2 && is_click (text_at (codes "on") d)) (text_at (codes "tag") d) None
chosen_by d ms o e = ap (λ o. option_and_then (λ members. cond (members_len members == 2 && is_click (text_at (codes "on") d)) (text_at (codes "tag") d) None) o) (sym e)

-- what a test of two parts chooses
both : {A : Type 0} (x y : A) (n : ℕ) (b : Bool) → n ≡ 2 → b ≡ true → cond (n == 2 && b) x y ≡ x
both x y n b e f = rw (e, f) refl

not_both : {A : Type 0} (x y : A) (b c : Bool) → b ≡ false → cond (b && c) x y ≡ y
not_both x y b c e = rw e refl

not_second : {A : Type 0} (x y : A) (b c : Bool) → c ≡ false → cond (b && c) x y ≡ y
not_second x y true c e = rw e refl
not_second x y false c e = refl

not_two : (n : ℕ) → ¬ (n ≡ 2) → (n == 2) ≡ false
not_two n h = grind (arith, nat_tests)

pub tag_is : (d : Data) (es : List (String Global × Value)) → Some (members_view es) ≡ as_object d → length es ≡ 2 → is_click (text_at (codes "on") d) ≡ true → click_tag d ≡ text_at (codes "tag") d
tag_is d es e n f = chosen_by d (members_view es) (as_object d) e ∙ both _ _ _ _ (len_is es ∙ n) f

pub no_tag_by_len : (d : Data) (es : List (String Global × Value)) → Some (members_view es) ≡ as_object d → ¬ (length es ≡ 2) → click_tag d ≡ None
no_tag_by_len d es e n = chosen_by d (members_view es) (as_object d) e ∙ not_both _ _ _ _ (not_two _ (λ m. n (sym (len_is es) ∙ m)))

pub no_tag_by_event : (d : Data) (es : List (String Global × Value)) → Some (members_view es) ≡ as_object d → is_click (text_at (codes "on") d) ≡ false → click_tag d ≡ None
no_tag_by_event d es e f = chosen_by d (members_view es) (as_object d) e ∙ not_second _ _ _ _ f

-- ---- all of them

many_by : (ds : Items) (o : Option Items) → Some ds ≡ o → option_and_then (λ events. cond (nat_le (items_len events) 10000) (click_tags events) None) o ≡ cond (nat_le (items_len ds) 10000) (click_tags ds) None
many_by ds o e = ap (λ o. option_and_then (λ events. cond (nat_le (items_len events) 10000) (click_tags events) None) o) (sym e)

count_is : (vs : List Value) → items_len (items_view vs) ≡ length vs
count_is [] = refl
count_is (v ∷ vs) = ap suc (count_is vs)

few : {A : Type 0} (x y : A) (n : ℕ) → n ≤ 10000 → cond (nat_le n 10000) x y ≡ x
few x y n h = let e : nat_le n 10000 ≡ true = grind (arith, nat_tests) in rw e refl

many : {A : Type 0} (x y : A) (n : ℕ) → 10000 < n → cond (nat_le n 10000) x y ≡ y
many x y n h = let e : nat_le n 10000 ≡ false = grind (arith, nat_tests) in rw e refl

pub clicks_are : (d : Data) (vs : List Value) → Some (items_view vs) ≡ as_array d → length vs ≤ 10000 → clicks_of d ≡ click_tags (items_view vs)
unfolding clicks_of
clicks_are d vs e h = many_by (items_view vs) (as_array d) e ∙ few _ _ (items_len (items_view vs)) (omega (arith, count_is vs))

pub too_many : (d : Data) (vs : List Value) → Some (items_view vs) ≡ as_array d → 10000 < length vs → clicks_of d ≡ None
unfolding clicks_of
too_many d vs e h = many_by (items_view vs) (as_array d) e ∙ many _ _ (items_len (items_view vs)) (omega (arith, count_is vs))

-- ---- the reading

test_is : {A : Type 0} (x y : A) (b c : Bool) → b ≡ c → cond b x y ≡ cond c x y
test_is x y b c e = ap (λ v. cond v x y) e

not_true : (b : Bool) → ¬ (b ≡ true) → b ≡ false
not_true true h = absurd (h refl)
not_true false h = refl

pub json_is : (bytes : List ℕ) → IsUtf8 bytes → json_of bytes ≡ read bytes
unfolding json_of
json_is bytes h = test_is (read bytes) None _ true (is_utf8-from_IsUtf8 bytes h)

pub no_json : (bytes : List ℕ) → ¬ (IsUtf8 bytes) → json_of bytes ≡ None
unfolding json_of
no_json bytes h = test_is (read bytes) None _ false (not_true _ (λ e. h (IsUtf8-from_is_utf8 bytes e)))
