-- A start tag ends at the first `>` outside of the values of its attributes.
use Rattle.std.proofs.Common.{◌≡◌, ℕ, List, [], ◌∷◌, ◌++◌, refl, sym, ◌∙◌, ap, subst, append_assoc, arith}
use Rattle.std.specs.Prelude.{Bool, true, false, cond, ◌==◌}
use Rattle.ng_ast.specs.declared.Place.{Place}
use Rattle.ng_ast.specs.declared.TAttr.{TAttr}
use Rattle.ng_tokens.specs.Lexis.{Text, is_blank, is_quote, all}
use Rattle.ng_lex.specs.declared.quotes.Quoting.{Quoting}
use Rattle.ng_lex.specs.declared.quotes.Quoting.TheVariants.{Outside, Within}
use Rattle.ng_lex.specs.Words.{IsBlank, IsGap, is_outside, valued, after, Clear, is_run}
use Rattle.ng_lex.specs.Names.{in_attribute, IsAttribute}
use Rattle.ng_lex.specs.Attributes.{differs, in_bare, IsBare, Marked, ReadsAttr, ending, ReadsAttrs, is_lower, in_tag}
use Rattle.ng_lex.proofs.Texts.{both_true, no_true, same_byte}

-- No `>` that ends a tag stands in the text, which leads from the one state to the other.
abbrev pub Quiet : Quoting → Text → Quoting → Type 0
Quiet s x r = ((e : Text) → Clear valued (62 ∷ []) s x e) × (after valued s x ≡ r)

clear_append : (s : Quoting) (x y : Text) → ((e : Text) → Clear valued (62 ∷ []) s x e) → ((e : Text) → Clear valued (62 ∷ []) (after valued s x) y e) → (e : Text) → Clear valued (62 ∷ []) s (x ++ y) e
clear_append s [] y h i e = i e
clear_append s (b ∷ x) y h i e = (hit (is_outside s) (h e).0, clear_append (valued s b) x y (λ d. (h d).1) i e)
  where
    hit : (c : Bool) → cond c (cond (62 == b) true false) false ≡ false → cond c (cond (62 == b) true false) false ≡ false
    hit c t = t

after_append : (s : Quoting) (x y : Text) → after valued s (x ++ y) ≡ after valued (after valued s x) y
after_append s [] y = refl
after_append s (b ∷ x) y = after_append (valued s b) x y

pub quiet_append : (s r u : Quoting) (x y : Text) → Quiet s x r → Quiet r y u → Quiet s (x ++ y) u
quiet_append s r u x y h i = (
  λ e. clear_append s x y h.0 (λ d. subst (λ k. Clear valued (62 ∷ []) k y d) (sym h.1) (i.0 d)) e,
  after_append s x y ∙ ap (λ k. after valued k y) h.1 ∙ i.1,
)

quiet_one : (b : ℕ) (x : Text) → (62 == b) ≡ false → is_quote b ≡ false → Quiet Outside x Outside → Quiet Outside (b ∷ x) Outside
quiet_one b x h i g = rw i ((λ e. (rw h refl, g.0 e)), g.1)

quiet_all : (p : ℕ → Bool) → ((b : ℕ) → p b ≡ true → ((62 == b) ≡ false) × (is_quote b ≡ false)) → (x : Text) → all p x ≡ true → Quiet Outside x Outside
quiet_all p law [] h = ((λ e. tt), refl)
quiet_all p law (b ∷ x) h =
    let g : (p b ≡ true) × (all p x ≡ true) = both_true (p b) (all p x) h in
    let f = law b g.0 in
    quiet_one b x f.0 f.1 (quiet_all p law x g.1)

-- ---- bytes

blank_small : (b : ℕ) → is_blank b ≡ true → ((62 == b) ≡ false) × (is_quote b ≡ false)
blank_small b e = (grind arith, grind arith)

lower_quiet : (b : ℕ) → in_tag b ≡ true → ((62 == b) ≡ false) × (is_quote b ≡ false)
lower_quiet b e = (grind arith, grind arith)

turned : (v : Bool) → cond v false true ≡ true → v ≡ false
turned true e = absurd (cc)
turned false e = refl

-- what passes a test is no byte that doesn't
not_byte : (p : ℕ → Bool) (c : ℕ) → p c ≡ false → (b : ℕ) → p b ≡ true → (b == c) ≡ false
not_byte p c h b e = by (b == c) refl
  where
    by : (v : Bool) → (b == c) ≡ v → v ≡ false
    by true f = absurd (no_true (sym h ∙ ap p (sym (same_byte b c f)) ∙ e))
    by false f = refl

other_way : (b c : ℕ) → (b == c) ≡ false → (c == b) ≡ false
other_way b c e = grind arith

quiet_by : (p : ℕ → Bool) → p 62 ≡ false → p 34 ≡ false → p 39 ≡ false → (b : ℕ) → p b ≡ true → ((62 == b) ≡ false) × (is_quote b ≡ false)
quiet_by p h i j b e = (other_way b 62 (not_byte p 62 h b e), no_quote (not_byte p 39 j b e) (not_byte p 34 i b e))
  where
    no_quote : (b == 39) ≡ false → (b == 34) ≡ false → is_quote b ≡ false
    no_quote f g = rw f (rw g refl)

attribute_quiet : (b : ℕ) → in_attribute b ≡ true → ((62 == b) ≡ false) × (is_quote b ≡ false)
attribute_quiet = quiet_by in_attribute refl refl refl

bare_quiet : (b : ℕ) → in_bare b ≡ true → ((62 == b) ≡ false) × (is_quote b ≡ false)
bare_quiet = quiet_by in_bare refl refl refl

pub quiet_blank : (w : Text) → IsBlank w → Quiet Outside w Outside
quiet_blank w h = quiet_all is_blank blank_small w h

quiet_gap : (w : Text) → IsGap w → Quiet Outside w Outside
quiet_gap [] h = absurd h
quiet_gap (b ∷ w) h = quiet_blank (b ∷ w) h

quiet_attribute : (n : Text) → IsAttribute n → Quiet Outside n Outside
quiet_attribute [] h = absurd h
quiet_attribute (b ∷ n) h = quiet_all in_attribute attribute_quiet (b ∷ n) h

quiet_bare : (n : Text) → IsBare n → Quiet Outside n Outside
quiet_bare [] h = absurd h
quiet_bare (b ∷ n) h = quiet_all in_bare bare_quiet (b ∷ n) h

pub quiet_tag : (t : Text) → is_run is_lower in_tag t ≡ true → Quiet Outside t Outside
quiet_tag [] h = absurd (no_true h)
quiet_tag (b ∷ t) h =
    let g : (is_lower b ≡ true) × (all in_tag t ≡ true) = both_true (is_lower b) (all in_tag t) h in
    let f = lower_quiet b (rw g.0 refl) in
    quiet_one b t f.0 f.1 (quiet_all in_tag lower_quiet t g.1)

-- ---- values

within_one : (q b : ℕ) (v : Text) → (b == q) ≡ false → Quiet (Within q) v (Within q) → Quiet (Within q) (b ∷ v) (Within q)
within_one q b v h g = rw h ((λ e. (refl, g.0 e)), g.1)

within : (q : ℕ) (v : Text) → all (differs q) v ≡ true → Quiet (Within q) v (Within q)
within q [] h = ((λ e. tt), refl)
within q (b ∷ v) h = let g : (differs q b ≡ true) × (all (differs q) v ≡ true) = both_true (differs q b) (all (differs q) v) h in within_one q b v (turned (b == q) g.0) (within q v g.1)

double_opens : Quiet Outside (34 ∷ []) (Within 34)
double_opens = ((λ e. (refl, tt)), refl)

double_closes : Quiet (Within 34) (34 ∷ []) Outside
double_closes = ((λ e. (refl, tt)), refl)

single_opens : Quiet Outside (39 ∷ []) (Within 39)
single_opens = ((λ e. (refl, tt)), refl)

single_closes : Quiet (Within 39) (39 ∷ []) Outside
single_closes = ((λ e. (refl, tt)), refl)

nothing_quiet : Quiet Outside [] Outside
nothing_quiet = ((λ e. tt), refl)

quiet_marked : {m x z : Text} → Marked m x z → Quiet Outside (m ++ (x ++ m)) Outside
quiet_marked (Marked.double x h) = quiet_append Outside (Within 34) Outside (34 ∷ []) (x ++ (34 ∷ [])) double_opens (quiet_append (Within 34) (Within 34) Outside x (34 ∷ []) (within 34 x h) double_closes)
quiet_marked (Marked.single x h) = quiet_append Outside (Within 39) Outside (39 ∷ []) (x ++ (39 ∷ [])) single_opens (quiet_append (Within 39) (Within 39) Outside x (39 ∷ []) (within 39 x h) single_closes)
quiet_marked (Marked.bare x h stop) = quiet_append Outside Outside Outside x [] (quiet_bare x h) nothing_quiet

-- ---- attributes

quiet_equals : Quiet Outside (61 ∷ []) Outside
quiet_equals = ((λ e. (refl, tt)), refl)

quiet_slash : Quiet Outside (47 ∷ []) Outside
quiet_slash = ((λ e. (refl, tt)), refl)

quiet_attr : {p : Place} {x z : Text} {a : TAttr} → ReadsAttr p x z a → Quiet Outside x Outside
quiet_attr (ReadsAttr.without n name form alone) = quiet_attribute n name
quiet_attr (ReadsAttr.having n w v m x name form bw bv marked decodes says) =
    quiet_append Outside Outside Outside n (w ++ (61 ∷ (v ++ (m ++ (x ++ m))))) (quiet_attribute n name)
    (quiet_append Outside Outside Outside w (61 ∷ (v ++ (m ++ (x ++ m)))) (quiet_blank w bw)
    (quiet_append Outside Outside Outside (61 ∷ []) (v ++ (m ++ (x ++ m))) quiet_equals
    (quiet_append Outside Outside Outside v (m ++ (x ++ m)) (quiet_blank v bv) (quiet_marked marked))))

-- All of it before a last `>` is quiet.
abbrev pub EndsQuiet : Text → Type 0
EndsQuiet x = (y : Text) × (x ≡ y ++ (62 ∷ [])) × Quiet Outside y Outside

quiet_before : (w z : Text) → Quiet Outside w Outside → EndsQuiet z → EndsQuiet (w ++ z)
quiet_before w z h (y, e, q) = (w ++ y, ap (λ k. w ++ k) e ∙ sym (append_assoc w y (62 ∷ [])), quiet_append Outside Outside Outside w y h q)

quiet_ending : (closed : Bool) → EndsQuiet (ending closed)
quiet_ending false = ([], refl, nothing_quiet)
quiet_ending true = (47 ∷ [], refl, quiet_slash)

pub quiet_attrs : {closed : Bool} {p : Place} {x : Text} {attrs : List TAttr} → ReadsAttrs closed p x attrs → EndsQuiet x
quiet_attrs {closed = closed} (ReadsAttrs.no_more w h) = quiet_before w (ending closed) (quiet_blank w h) (quiet_ending closed)
quiet_attrs (ReadsAttrs.another w x z gap one more) = quiet_before w (x ++ z) (quiet_gap w gap) (quiet_before x z (quiet_attr one) (quiet_attrs more))

-- all of a tag before its last `>`
pub quiet_whole : (t x : Text) → is_run is_lower in_tag t ≡ true → EndsQuiet x → EndsQuiet (t ++ x)
quiet_whole t x h e = quiet_before t x (quiet_tag t h) e
