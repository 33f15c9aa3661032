-- Pieces: letters fall into one list of them at most, and how the first one leads on.
use Rattle.std.proofs.Common.{◌≡◌, ℕ, List, [], ◌∷◌, ◌++◌, length, refl, sym, ◌∙◌, ap, subst, append_assoc, arith, length-append, inl, inr}
use Rattle.std.proofs.lemmas.List.{map-append}
use Rattle.std.specs.Prelude.{true, false, if◌then◌else◌, ◌⊎◌}
use Rattle.ng_ast.specs.declared.Expr.{Expr}
use Rattle.ng_ast.specs.declared.Piece.{Piece}
use Rattle.ng_ast.specs.declared.Piece.TheVariants as piece
use Rattle.ng_tokens.specs.Lexis.{Text, begins}
use Rattle.ng_exprs.specs.Reading.{ReadsExpr, OverText}
use Rattle.ng_exprs.proofs.Whole.{text_reads_one}
use Rattle.ng_lex.specs.declared.quotes.Quoting.{Quoting}
use Rattle.ng_lex.specs.declared.quotes.Quoting.TheVariants.{Outside}
use Rattle.ng_lex.specs.declared.letters.PlacedLetter.{PlacedLetter}
use Rattle.ng_lex.specs.Letters.{Letters, bytes, start}
use Rattle.ng_lex.specs.Words.{is_outside, literal, unquoted, after, Clear, opening, closing}
use Rattle.ng_lex.specs.Values.{AtOpening, ReadsPieces, OverPieces}
use Rattle.ng_attributes.specs.Pieces.{TextAt, InterpolationAt, GoesPieces}
use Rattle.ng_attributes.proofs.Texts.{not_both, no_true, begins_self, begins_front, same_front}

pub bytes_append : (x y : Letters) → bytes (x ++ y) ≡ bytes x ++ bytes y
bytes_append x y = map-append (λ (l : PlacedLetter). l.letter.byte) x y

-- ---- the first place of a word

no_earlier : (w : Text) (s : Quoting) (c : ℕ) (y z r : Text) → s ≡ Outside → w ++ z ≡ c ∷ (y ++ (w ++ r)) → (if is_outside s then begins w (c ∷ (y ++ w)) else false) ≡ false → ⊥
no_earlier w s c y z r o e h =
    let there : begins w (c ∷ (y ++ (w ++ r))) ≡ true = ap (begins w) (sym e) ∙ begins_self w z in
    let same : begins w ((c ∷ (y ++ w)) ++ r) ≡ begins w (c ∷ (y ++ w)) = begins_front w (c ∷ (y ++ w)) r (omega (arith, length-append y w)) in
    let here : begins w (c ∷ (y ++ w)) ≡ true = sym same ∙ ap (λ k. begins w (c ∷ k)) (append_assoc y w r) ∙ there in
    not_both (begins w (c ∷ (y ++ w))) here (rw o at h)

pub first_once : (f : Quoting → ℕ → Quoting) (w : Text) (s : Quoting) (x y z r : Text) → x ++ (w ++ z) ≡ y ++ (w ++ r) → Clear f w s x w → after f s x ≡ Outside → Clear f w s y w → after f s y ≡ Outside → x ≡ y
first_once f w s [] [] z r e h i j k = refl
first_once f w s [] (c ∷ y) z r e h i j k = absurd (no_earlier w s c y z r i e j.0)
first_once f w s (c ∷ x) [] z r e h i j k = absurd (no_earlier w s c x r z k (sym e) h.0)
first_once f w s (c ∷ x) (d ∷ y) z r e h i j k =
    let b : c ≡ d = cc in
    let t : x ++ (w ++ z) ≡ y ++ (w ++ r) = cc in
    let g : x ≡ y = first_once f w (f s c) x y z r t h.1 i (subst (λ v. Clear f w (f s v) y w) (sym b) j.1) (subst (λ v. after f (f s v) y ≡ Outside) (sym b) k) in
    ap (λ v. v ∷ x) b ∙ ap (λ v. d ∷ v) g

no_opening : (c : ℕ) (y z r : Text) → z ≡ c ∷ (y ++ r) → AtOpening z → begins opening (c ∷ (y ++ r)) ≡ false → ⊥
no_opening c y z r e h i = not_both (begins opening (c ∷ (y ++ r))) (subst AtOpening e h) i

clear_once : (x y z r : Text) → x ++ z ≡ y ++ r → Clear unquoted opening Outside x z → AtOpening z → Clear unquoted opening Outside y r → AtOpening r → x ≡ y
clear_once [] [] z r e h i j k = refl
clear_once [] (c ∷ y) z r e h i j k = absurd (no_opening c y z r e i j.0)
clear_once (c ∷ x) [] z r e h i j k = absurd (no_opening c x r z (sym e) k h.0)
clear_once (c ∷ x) (d ∷ y) z r e h i j k =
    let b : c ≡ d = cc in
    let t : x ++ z ≡ y ++ r = cc in
    ap (λ v. v ∷ x) b ∙ ap (λ v. d ∷ v) (clear_once x y z r t h.1 i j.1 k)

-- ---- the first piece

length_bytes : (x : Letters) → length (bytes x) ≡ length x
length_bytes [] = refl
length_bytes (l ∷ x) = omega (arith, length_bytes x)

same_length : (x y : Letters) → bytes x ≡ bytes y → length x ≡ length y
same_length x y e = omega (arith, ap length e, length_bytes x, length_bytes y)

one_text : (ls : Letters) (l k : PlacedLetter) (x y z r : Letters) → TextAt ls l x z → TextAt ls k y r → (l ∷ x ≡ k ∷ y) × (z ≡ r)
one_text ls l k x y z r h i =
    let e : (l ∷ x) ++ z ≡ (k ∷ y) ++ r = sym h.is ∙ i.is in
    let b : bytes (l ∷ x) ++ bytes z ≡ bytes (k ∷ y) ++ bytes r = sym (bytes_append (l ∷ x) z) ∙ ap bytes e ∙ bytes_append (k ∷ y) r in
    same_front (l ∷ x) (k ∷ y) z r e (same_length (l ∷ x) (k ∷ y) (clear_once (bytes (l ∷ x)) (bytes (k ∷ y)) (bytes z) (bytes r) b h.clear h.ends i.clear i.ends))

inner_bytes : (x c z : Letters) → bytes c ≡ closing → bytes (x ++ (c ++ z)) ≡ bytes x ++ (closing ++ bytes z)
inner_bytes x c z e = bytes_append x (c ++ z) ∙ ap (λ k. bytes x ++ k) (bytes_append c z ∙ ap (λ k. k ++ bytes z) e)

-- what two interpolations that stand at one place have in common
record Same (o p x y z r : Letters) : Type 0 where
  opens : o ≡ p
  says : x ≡ y
  leaves : z ≡ r

one_interpolation : (ls o p x y c d z r : Letters) → InterpolationAt ls o x c z → InterpolationAt ls p y d r → Same o p x y z r
one_interpolation ls o p x y c d z r h i =
    let outer = same_front o p (x ++ (c ++ z)) (y ++ (d ++ r)) (sym h.is ∙ i.is) (same_length o p (h.opens ∙ sym i.opens)) in
    let b : bytes x ++ (closing ++ bytes z) ≡ bytes y ++ (closing ++ bytes r) = sym (inner_bytes x c z h.closes) ∙ ap bytes outer.1 ∙ inner_bytes y d r i.closes in
    let same : bytes x ≡ bytes y = first_once literal closing Outside (bytes x) (bytes y) (bytes z) (bytes r) b h.first.1 h.first.0 i.first.1 i.first.0 in
    let inner = same_front x y (c ++ z) (d ++ r) outer.1 (same_length x y same) in
    let rest = same_front c d z r inner.1 (same_length c d (h.closes ∙ sym i.closes)) in
    record { opens = outer.0; says = inner.0; leaves = rest.1 }

pub opening_begins : (ls o x c z : Letters) → InterpolationAt ls o x c z → begins opening (bytes ls) ≡ true
opening_begins ls o x c z h = ap (begins opening) (ap bytes h.is ∙ bytes_append o (x ++ (c ++ z)) ∙ ap (λ k. k ++ bytes (x ++ (c ++ z))) h.opens) ∙ begins_self opening (bytes (x ++ (c ++ z)))

text_begins : (ls : Letters) (l : PlacedLetter) (x z : Letters) → TextAt ls l x z → begins opening (bytes ls) ≡ false
text_begins ls l x z h = ap (begins opening) (ap bytes h.is ∙ bytes_append (l ∷ x) z) ∙ h.clear.0

-- ---- readings by their first piece

pub record WithText (ls : Letters) (ps : List Piece) : Type 0 where
  pub l : PlacedLetter
  pub x : Letters
  pub z : Letters
  pub more : List Piece
  pub at : TextAt ls l x z
  pub reads : ReadsPieces z more
  pub all : ps ≡ piece.Text (bytes (l ∷ x)) ∷ more

pub record WithInterpolation (ls : Letters) (ps : List Piece) : Type 0 where
  pub l : PlacedLetter
  pub o : Letters
  pub x : Letters
  pub c : Letters
  pub z : Letters
  pub e : Expr
  pub more : List Piece
  pub at : InterpolationAt ls (l ∷ o) x c z
  pub expr : ReadsExpr false (start x) (bytes x) e
  pub reads : ReadsPieces z more
  pub all : ps ≡ piece.Value l.place e ∷ more

abbrev FirstPiece : Letters → List Piece → Type 0
FirstPiece ls ps = ((ls ≡ []) × (ps ≡ [])) ⊎ (WithText ls ps ⊎ WithInterpolation ls ps)

first_piece : {ls : Letters} {ps : List Piece} → ReadsPieces ls ps → FirstPiece ls ps
first_piece ReadsPieces.no_piece = inl (refl, refl)
first_piece (ReadsPieces.text {ps = ps} l x z clear ends reads) = inr (inl (record { l = l; x = x; z = z; more = ps; at = record { is = refl; clear = clear; ends = ends }; reads = reads; all = refl }))
first_piece (ReadsPieces.interpolation {e = e} {ps = ps} l o x c z opens closes first expr reads) =
    inr (inr (record { l = l; o = o; x = x; c = c; z = z; e = e; more = ps; at = record { is = refl; opens = opens; closes = closes; first = first }; expr = expr; reads = reads; all = refl }))

pub record OverHere (ls : Letters) : Type 0 where
  pub o : Letters
  pub x : Letters
  pub c : Letters
  pub z : Letters
  pub at : InterpolationAt ls o x c z
  pub over : OverText false (start x) (bytes x)

pub record OverAfterText (ls : Letters) : Type 0 where
  pub l : PlacedLetter
  pub x : Letters
  pub z : Letters
  pub at : TextAt ls l x z
  pub over : OverPieces z

pub record OverAfterInterpolation (ls : Letters) : Type 0 where
  pub o : Letters
  pub x : Letters
  pub c : Letters
  pub z : Letters
  pub e : Expr
  pub at : InterpolationAt ls o x c z
  pub expr : ReadsExpr false (start x) (bytes x) e
  pub over : OverPieces z

pub first_over : {ls : Letters} → OverPieces ls → OverHere ls ⊎ (OverAfterText ls ⊎ OverAfterInterpolation ls)
first_over (OverPieces.here o x c z opens closes first over) = inl (record { o = o; x = x; c = c; z = z; at = record { is = refl; opens = opens; closes = closes; first = first }; over = over })
first_over (OverPieces.after_text l x z clear ends over) = inr (inl (record { l = l; x = x; z = z; at = record { is = refl; clear = clear; ends = ends }; over = over }))
first_over (OverPieces.after_interpolation {e = e} o x c z opens closes first expr over) =
    inr (inr (record { o = o; x = x; c = c; z = z; e = e; at = record { is = refl; opens = opens; closes = closes; first = first }; expr = expr; over = over }))

nothing_left : {A : Type 0} (b : A) (x z : List A) → [] ≡ (b ∷ x) ++ z → ⊥
nothing_left b x z e = cc

-- ---- text first

text_back : (ls : Letters) (l : PlacedLetter) (x z : Letters) → TextAt ls l x z → (ps : List Piece) → ReadsPieces ls ps → (more : List Piece) × (ps ≡ piece.Text (bytes (l ∷ x)) ∷ more) × ReadsPieces z more
text_back ls l x z h ps i = by (first_piece i)
  where
    by : FirstPiece ls ps → (more : List Piece) × (ps ≡ piece.Text (bytes (l ∷ x)) ∷ more) × ReadsPieces z more
    by (inl k) = absurd (nothing_left l x z (sym k.0 ∙ h.is))
    by (inr (inl k)) = let s = one_text ls k.l l k.x x k.z z k.at h in (k.more, k.all ∙ ap (λ v. piece.Text (bytes v) ∷ k.more) s.0, subst (λ v. ReadsPieces v k.more) s.1 k.reads)
    by (inr (inr k)) = absurd (not_both (begins opening (bytes ls)) (opening_begins ls (k.l ∷ k.o) k.x k.c k.z k.at) (text_begins ls l x z h))

text_calm : (ls : Letters) (l : PlacedLetter) (x z : Letters) → TextAt ls l x z → OverPieces ls → OverPieces z
text_calm ls l x z h i = by (first_over i)
  where
    by : OverHere ls ⊎ (OverAfterText ls ⊎ OverAfterInterpolation ls) → OverPieces z
    by (inl k) = absurd (not_both (begins opening (bytes ls)) (opening_begins ls k.o k.x k.c k.z k.at) (text_begins ls l x z h))
    by (inr (inl k)) = subst OverPieces (one_text ls k.l l k.x x k.z z k.at h).1 k.over
    by (inr (inr k)) = absurd (not_both (begins opening (bytes ls)) (opening_begins ls k.o k.x k.c k.z k.at) (text_begins ls l x z h))

pub text_goes : (ls : Letters) (l : PlacedLetter) (x z : Letters) → TextAt ls l x z → GoesPieces ls (piece.Text (bytes (l ∷ x)) ∷ []) z
text_goes ls l x z h = record {
  ahead = λ i more reads. subst (λ v. ReadsPieces v (piece.Text (bytes (l ∷ x)) ∷ more)) (sym h.is) (ReadsPieces.text l x z h.clear h.ends reads);
  back = λ i ps reads. text_back ls l x z h ps reads;
  heavy = λ over. subst OverPieces (sym h.is) (OverPieces.after_text l x z h.clear h.ends over);
  calm = text_calm ls l x z h;
}

-- ---- an interpolation first

interpolation_back : (ls : Letters) (l : PlacedLetter) (o x c z : Letters) (e : Expr) → InterpolationAt ls (l ∷ o) x c z → ReadsExpr false (start x) (bytes x) e → (ps : List Piece) → ReadsPieces ls ps
    → (more : List Piece) × (ps ≡ piece.Value l.place e ∷ more) × ReadsPieces z more
interpolation_back ls l o x c z e h expr ps i = by (first_piece i)
  where
    same_place : {k j : PlacedLetter} {u v : Letters} → k ∷ u ≡ j ∷ v → k ≡ j
    same_place s = cc

    by : FirstPiece ls ps → (more : List Piece) × (ps ≡ piece.Value l.place e ∷ more) × ReadsPieces z more
    by (inl k) = absurd (nothing_left l o (x ++ (c ++ z)) (sym k.0 ∙ h.is))
    by (inr (inl k)) = absurd (not_both (begins opening (bytes ls)) (opening_begins ls (l ∷ o) x c z h) (text_begins ls k.l k.x k.z k.at))
    by (inr (inr k)) =
        let s = one_interpolation ls (k.l ∷ k.o) (l ∷ o) k.x x k.c c k.z z k.at h in
        let one : k.e ≡ e = text_reads_one false (start x) (bytes x) k.e e (subst (λ v. ReadsExpr false (start v) (bytes v) k.e) s.says k.expr) expr in
        (k.more, k.all ∙ ap (λ v. piece.Value v.place k.e ∷ k.more) (same_place s.opens) ∙ ap (λ v. piece.Value l.place v ∷ k.more) one, subst (λ v. ReadsPieces v k.more) s.leaves k.reads)

interpolation_calm : (ls o x c z : Letters) → InterpolationAt ls o x c z → (OverText false (start x) (bytes x) → ⊥) → OverPieces ls → OverPieces z
interpolation_calm ls o x c z h none i = by (first_over i)
  where
    by : OverHere ls ⊎ (OverAfterText ls ⊎ OverAfterInterpolation ls) → OverPieces z
    by (inl k) = absurd (none (subst (λ v. OverText false (start v) (bytes v)) (one_interpolation ls k.o o k.x x k.c c k.z z k.at h).says k.over))
    by (inr (inl k)) = absurd (not_both (begins opening (bytes ls)) (opening_begins ls o x c z h) (text_begins ls k.l k.x k.z k.at))
    by (inr (inr k)) = subst OverPieces (one_interpolation ls k.o o k.x x k.c c k.z z k.at h).leaves k.over

pub interpolation_goes : (ls : Letters) (l : PlacedLetter) (o x c z : Letters) (e : Expr) → InterpolationAt ls (l ∷ o) x c z → ReadsExpr false (start x) (bytes x) e → (OverText false (start x) (bytes x) → ⊥)
    → GoesPieces ls (piece.Value l.place e ∷ []) z
interpolation_goes ls l o x c z e h expr none = record {
  ahead = λ i more reads. subst (λ v. ReadsPieces v (piece.Value l.place e ∷ more)) (sym h.is) (ReadsPieces.interpolation l o x c z h.opens h.closes h.first expr reads);
  back = λ i ps reads. interpolation_back ls l o x c z e h expr ps reads;
  heavy = λ over. subst OverPieces (sym h.is) (OverPieces.after_interpolation (l ∷ o) x c z h.opens h.closes h.first expr over);
  calm = interpolation_calm ls (l ∷ o) x c z h none;
}

pub interpolation_over : (ls o x c z : Letters) → InterpolationAt ls o x c z → OverText false (start x) (bytes x) → OverPieces ls
interpolation_over ls o x c z h over = subst OverPieces (sym h.is) (OverPieces.here o x c z h.opens h.closes h.first over)

-- no interpolation at the front is read
pub interpolation_unread : (ls o x c z : Letters) → InterpolationAt ls o x c z → ((e : Expr) → ReadsExpr false (start x) (bytes x) e → ⊥) → (ps : List Piece) → ReadsPieces ls ps → ⊥
interpolation_unread ls o x c z h none ps i = by (first_piece i)
  where
    starts : begins opening (bytes ls) ≡ true
    starts = opening_begins ls o x c z h

    by : FirstPiece ls ps → ⊥
    by (inl k) = absurd (no_true (ap (λ v. begins opening (bytes v)) (sym k.0) ∙ starts))
    by (inr (inl k)) = absurd (not_both (begins opening (bytes ls)) starts (text_begins ls k.l k.x k.z k.at))
    by (inr (inr k)) = none k.e (subst (λ v. ReadsExpr false (start v) (bytes v) k.e) (one_interpolation ls (k.l ∷ k.o) o k.x x k.c c k.z z k.at h).says k.expr)

-- one begins, and none ends
pub unclosed : (ls : Letters) → begins opening (bytes ls) ≡ true → ((o x c z : Letters) → InterpolationAt ls o x c z → ⊥) → (ps : List Piece) → ReadsPieces ls ps → ⊥
unclosed ls starts none ps i = by (first_piece i)
  where
    by : FirstPiece ls ps → ⊥
    by (inl k) = absurd (no_true (ap (λ v. begins opening (bytes v)) (sym k.0) ∙ starts))
    by (inr (inl k)) = absurd (not_both (begins opening (bytes ls)) starts (text_begins ls k.l k.x k.z k.at))
    by (inr (inr k)) = none (k.l ∷ k.o) k.x k.c k.z k.at

-- ---- all pieces

pub none_over : OverPieces [] → ⊥
none_over i = by (first_over i)
  where
    no_front : (o z : Letters) → [] ≡ o ++ z → bytes o ≡ opening → ⊥
    no_front [] z e b = no_true (ap (begins opening) b)
    no_front (l ∷ o) z e b = nothing_left l o z e

    by : OverHere [] ⊎ (OverAfterText [] ⊎ OverAfterInterpolation []) → ⊥
    by (inl k) = no_front k.o _ k.at.is k.at.opens
    by (inr (inl k)) = nothing_left k.l k.x k.z k.at.is
    by (inr (inr k)) = no_front k.o _ k.at.is k.at.opens

-- Letters fall into one list of pieces at most.
pub one_pieces : {ls : Letters} {ps : List Piece} → ReadsPieces ls ps → (qs : List Piece) → ReadsPieces ls qs → ps ≡ qs
one_pieces ReadsPieces.no_piece qs i = by (first_piece i)
  where
    by : FirstPiece [] qs → [] ≡ qs
    by (inl k) = sym k.1
    by (inr (inl k)) = absurd (nothing_left k.l k.x k.z k.at.is)
    by (inr (inr k)) = absurd (nothing_left k.l k.o _ k.at.is)
one_pieces (ReadsPieces.text {ps = ps} l x z clear ends reads) qs i =
    let k = text_back ((l ∷ x) ++ z) l x z (record { is = refl; clear = clear; ends = ends }) qs i in
    ap (λ v. piece.Text (bytes (l ∷ x)) ∷ v) (one_pieces reads k.0 k.2) ∙ sym k.1
one_pieces (ReadsPieces.interpolation {e = e} {ps = ps} l o x c z opens closes first expr reads) qs i =
    let k = interpolation_back ((l ∷ o) ++ (x ++ (c ++ z))) l o x c z e (record { is = refl; opens = opens; closes = closes; first = first }) expr qs i in
    ap (λ v. piece.Value l.place e ∷ v) (one_pieces reads k.0 k.2) ∙ sym k.1
