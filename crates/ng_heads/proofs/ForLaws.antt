-- The head of a `@for`: a text is one at most, and how its parts are read one after another.
use Rattle.std.proofs.Common.{◌≡◌, ℕ, List, [], ◌∷◌, ◌++◌, length, codes, refl, sym, ◌∙◌, ap, subst, append_assoc, arith, inl, inr}
use Rattle.std.specs.Prelude.{false, ◌⊎◌, Option, Some, None}
use Rattle.ng_ast.specs.declared.Place.{Place}
use Rattle.ng_ast.specs.declared.Expr.{Expr}
use Rattle.ng_ast.specs.declared.ForHead.{ForHead}
use Rattle.ng_tokens.specs.Lexis.{Text, is_blank, is_word, all, steps}
use Rattle.ng_exprs.specs.Reading.{ReadsExpr}
use Rattle.ng_exprs.proofs.Whole.{text_reads_one}
use Rattle.ng_lex.specs.Words.{IsBlank, IsGap, EndsWord, at_front}
use Rattle.ng_lex.specs.Attributes.{differs}
use Rattle.ng_lex.specs.Heads.{IsLetPart, ReadsParts, IsRow, ReadsFor}
use Rattle.ng_heads.proofs.Texts.{first_byte, both_true, same_front, same_runs}
use Rattle.ng_heads.proofs.Names.{blank_no_word, name_words, name_no_blank, same_tail, gap_blank}
use Rattle.ng_heads.proofs.HeadLaws.{StartsEnd, expr_then, let_free, one_let_part, round_ends}

-- ---- what the parts of a head begin with

pub record WithTrack (p : Place) (x : Text) (track : Option Expr) (vs : List (Text × Text)) : Type 0 where
  pub w : Text
  pub t : Text
  pub z : Text
  pub e : Expr
  pub is : x ≡ 59 ∷ (w ++ (codes "track" ++ (t ++ z)))
  pub blank : IsBlank w
  pub word : EndsWord t
  pub reads : ReadsExpr false (steps p (59 ∷ (w ++ codes "track"))) t e
  pub more : ReadsParts (steps p (59 ∷ (w ++ (codes "track" ++ t)))) z None vs
  pub says : track ≡ Some e

pub record WithLet (p : Place) (x : Text) (track : Option Expr) (vs : List (Text × Text)) : Type 0 where
  pub u : Text
  pub z : Text
  pub here : List (Text × Text)
  pub others : List (Text × Text)
  pub is : x ≡ 59 ∷ (u ++ z)
  pub part : IsLetPart u here
  pub more : ReadsParts (steps p (59 ∷ u)) z track others
  pub all_of : vs ≡ here ++ others

pub record NoPart (x : Text) (track : Option Expr) (vs : List (Text × Text)) : Type 0 where
  pub is : x ≡ []
  pub says : track ≡ None
  pub none : vs ≡ []

abbrev pub FirstPart : Place → Text → Option Expr → List (Text × Text) → Type 0
FirstPart p x track vs = NoPart x track vs ⊎ (WithTrack p x track vs ⊎ WithLet p x track vs)

pub first_part : {p : Place} {x : Text} {track : Option Expr} {vs : List (Text × Text)} → ReadsParts p x track vs → FirstPart p x track vs
first_part ReadsParts.no_part = inl (record { is = refl; says = refl; none = refl })
first_part (ReadsParts.track_part {e = e} w t z blank word reads more) = inr (inl (record { w = w; t = t; z = z; e = e; is = refl; blank = blank; word = word; reads = reads; more = more; says = refl }))
first_part (ReadsParts.let_part {vs = vs} {us = us} u z part more) = inr (inr (record { u = u; z = z; here = vs; others = us; is = refl; part = part; more = more; all_of = refl }))

pub parts_ends : {p : Place} {x : Text} {track : Option Expr} {vs : List (Text × Text)} → ReadsParts p x track vs → (y : Text) → StartsEnd y → StartsEnd (x ++ y)
parts_ends ReadsParts.no_part y h = h
parts_ends (ReadsParts.track_part w t z blank word reads more) y h = (59, _, refl, inr refl)
parts_ends (ReadsParts.let_part u z part more) y h = (59, _, refl, inr refl)

pub parts_stop : {p : Place} {x : Text} {track : Option Expr} {vs : List (Text × Text)} → ReadsParts p x track vs → at_front (differs 59) x ≡ false
parts_stop ReadsParts.no_part = refl
parts_stop (ReadsParts.track_part w t z blank word reads more) = refl
parts_stop (ReadsParts.let_part u z part more) = refl

pub no_part : (b : ℕ) (x : Text) → [] ≡ b ∷ x → ⊥
no_part b x e = cc

no_letter : {x y : Text} → 116 ∷ x ≡ 108 ∷ y → ⊥
no_letter e = let b : ◌≡◌ {A = ℕ} 116 108 = first_byte e in absurd (omega arith)

-- `track` is no `let`
pub track_no_let : (w t u z : Text) (vs : List (Text × Text)) → IsBlank w → IsLetPart u vs → 59 ∷ (w ++ (codes "track" ++ t)) ≡ 59 ∷ (u ++ z) → ⊥
track_no_let w t u z vs bw (x, s, e, bx, front, pairs) same =
    let whole : w ++ (codes "track" ++ t) ≡ x ++ (codes "let" ++ (s ++ z)) = same_tail 59 same ∙ ap (λ k. k ++ z) e ∙ append_assoc x (codes "let" ++ s) z in
    no_letter (same_runs is_blank w x (codes "track" ++ t) (codes "let" ++ (s ++ z)) whole bw bx refl refl).1

track_tail : {x y : Text} → codes "track" ++ x ≡ codes "track" ++ y → x ≡ y
track_tail e = same_tail 107 (same_tail 99 (same_tail 97 (same_tail 114 (same_tail 116 e))))

pub same_tracks : (w t u s : Text) → IsBlank w → IsBlank u → 59 ∷ (w ++ (codes "track" ++ t)) ≡ 59 ∷ (u ++ (codes "track" ++ s)) → (w ≡ u) × (t ≡ s)
same_tracks w t u s bw bu e =
    let g = same_runs is_blank w u (codes "track" ++ t) (codes "track" ++ s) (same_tail 59 e) bw bu refl refl in
    (g.0, track_tail g.1)

pub same_lets : (u z s y : Text) (vs ws : List (Text × Text)) → IsLetPart u vs → IsLetPart s ws → 59 ∷ (u ++ z) ≡ 59 ∷ (s ++ y) → at_front (differs 59) z ≡ false → at_front (differs 59) y ≡ false → (u ≡ s) × (z ≡ y)
same_lets u z s y vs ws h i e j k = same_runs (differs 59) u s z y (same_tail 59 e) (let_free u vs h) (let_free s ws i) j k

-- ---- one reading

pub same_rest : {A : Type 0} (t s z y : List A) → t ≡ s → t ++ z ≡ s ++ y → z ≡ y
same_rest t s z y e same = (same_front t s z y same (ap length e)).1

pub one_parts : {p : Place} {x : Text} {track : Option Expr} {vs : List (Text × Text)} → ReadsParts p x track vs → (tr : Option Expr) (us : List (Text × Text)) → ReadsParts p x tr us → (track ≡ tr) × (vs ≡ us)
one_parts ReadsParts.no_part tr us i = by (first_part i)
  where
    by : {p : Place} → FirstPart p [] tr us → (None ≡ tr) × ([] ≡ us)
    by (inl k) = (sym k.says, sym k.none)
    by (inr (inl k)) = absurd (no_part 59 _ k.is)
    by (inr (inr k)) = absurd (no_part 59 _ k.is)
one_parts (ReadsParts.track_part {p = p} {e = e} {vs = vs} w t z blank word reads more) tr us i = by (first_part i) (λ a b j. one_parts more a b j)
  where
    here : Text
    here = 59 ∷ (w ++ (codes "track" ++ (t ++ z)))

    by : FirstPart p here tr us → ((a : Option Expr) (b : List (Text × Text)) → ReadsParts (steps p (59 ∷ (w ++ (codes "track" ++ t)))) z a b → (None ≡ a) × (vs ≡ b)) → (Some e ≡ tr) × (vs ≡ us)
    by (inl k) go = absurd (no_part 59 _ (sym k.is))
    by (inr (inl k)) go =
        let g = same_tracks w (t ++ z) k.w (k.t ++ k.z) blank k.blank k.is in
        let gap : w ≡ k.w = g.0 in
        let whole : t ++ (z ++ (41 ∷ [])) ≡ k.t ++ (k.z ++ (41 ∷ [])) = sym (append_assoc t z (41 ∷ [])) ∙ ap (λ v. v ++ (41 ∷ [])) g.1 ∙ append_assoc k.t k.z (41 ∷ []) in
        let s = expr_then _ _ t k.t (z ++ (41 ∷ [])) (k.z ++ (41 ∷ [])) e k.e reads k.reads (parts_ends more (41 ∷ []) (round_ends [])) (parts_ends k.more (41 ∷ []) (round_ends [])) whole in
        let rest : z ≡ k.z = same_rest t k.t z k.z s.0 g.1 in
        let other : ReadsExpr false (steps p (59 ∷ (w ++ codes "track"))) t k.e = subst (λ v. ReadsExpr false (steps p (59 ∷ (v ++ codes "track"))) t k.e) (sym gap) (subst (λ v. ReadsExpr false (steps p (59 ∷ (k.w ++ codes "track"))) v k.e) (sym s.0) k.reads) in
        let moved : ReadsParts (steps p (59 ∷ (w ++ (codes "track" ++ t)))) z None us =
        subst (λ v. ReadsParts (steps p (59 ∷ (v ++ (codes "track" ++ t)))) z None us) (sym gap)
        (subst (λ v. ReadsParts (steps p (59 ∷ (k.w ++ (codes "track" ++ v)))) z None us) (sym s.0) (subst (λ v. ReadsParts (steps p (59 ∷ (k.w ++ (codes "track" ++ k.t)))) v None us) (sym rest) k.more)) in
        (ap Some (text_reads_one false _ t e k.e reads other) ∙ sym k.says, (go None us moved).1)
    by (inr (inr k)) go = absurd (track_no_let w (t ++ z) k.u k.z k.here blank k.part k.is)
one_parts (ReadsParts.let_part {p = p} {track = track} {vs = vs} {us = ws} u z part more) tr us i = by (first_part i) (λ a b j. one_parts more a b j)
  where
    by : FirstPart p (59 ∷ (u ++ z)) tr us → ((a : Option Expr) (b : List (Text × Text)) → ReadsParts (steps p (59 ∷ u)) z a b → (track ≡ a) × (ws ≡ b)) → (track ≡ tr) × (vs ++ ws ≡ us)
    by (inl k) go = absurd (no_part 59 _ (sym k.is))
    by (inr (inl k)) go = absurd (track_no_let k.w (k.t ++ k.z) u z vs k.blank part (sym k.is))
    by (inr (inr k)) go =
        let g = same_lets u z k.u k.z vs k.here part k.part k.is (parts_stop more) (parts_stop k.more) in
        let moved : ReadsParts (steps p (59 ∷ u)) z tr k.others = subst (λ v. ReadsParts (steps p (59 ∷ v)) z tr k.others) (sym g.0) (subst (λ v. ReadsParts (steps p (59 ∷ k.u)) v tr k.others) (sym g.1) k.more) in
        let rest = go tr k.others moved in
        let one : vs ≡ k.here = one_let_part u vs k.here part (subst (λ v. IsLetPart v k.here) (sym g.0) k.part) in
        (rest.0, ap (λ v. v ++ ws) one ∙ ap (λ v. k.here ++ v) rest.1 ∙ sym k.all_of)

-- ---- the row

gap_stops : (v z : Text) → IsGap v → at_front is_word (v ++ z) ≡ false
gap_stops [] z h = absurd h
gap_stops (b ∷ v) z h = blank_no_word b (both_true (is_blank b) (all is_blank v) h).0

of_tail : {x y : Text} → codes "of" ++ x ≡ codes "of" ++ y → x ≡ y
of_tail e = same_tail 102 (same_tail 111 e)

pub one_row : (a b n k z y : Text) → IsRow a n z → IsRow b k y → a ++ z ≡ b ++ y → (a ≡ b) × (n ≡ k) × (z ≡ y)
one_row a b n k z y (w, v, e, bw, gv, name, word) (u, s, d, bu, gs, other, also) same =
    let hz : Text = v ++ (codes "of" ++ z) in
    let iy : Text = s ++ (codes "of" ++ y) in
    let whole : w ++ (n ++ hz) ≡ u ++ (k ++ iy) = sym (ap (λ x. x ++ z) e ∙ regroup w n v z) ∙ same ∙ ap (λ x. x ++ y) d ∙ regroup u k s y in
    let outer = same_runs is_blank w u (n ++ hz) (k ++ iy) whole bw bu (name_no_blank n hz name) (name_no_blank k iy other) in
    let names = same_runs is_word n k hz iy outer.1 (name_words n name) (name_words k other) (gap_stops v (codes "of" ++ z) gv) (gap_stops s (codes "of" ++ y) gs) in
    let gaps = same_runs is_blank v s (codes "of" ++ z) (codes "of" ++ y) names.1 (gap_blank v gv) (gap_blank s gs) refl refl in (
      e ∙ ap (λ x. x ++ (n ++ (v ++ codes "of"))) outer.0 ∙ ap (λ x. u ++ (x ++ (v ++ codes "of"))) names.0 ∙ ap (λ x. u ++ (k ++ (x ++ codes "of"))) gaps.0 ∙ sym d,
      names.0,
      of_tail gaps.1,
    )
  where
    regroup : (w n v z : Text) → (w ++ (n ++ (v ++ codes "of"))) ++ z ≡ w ++ (n ++ (v ++ (codes "of" ++ z)))
    regroup w n v z = append_assoc w (n ++ (v ++ codes "of")) z ∙ ap (λ x. w ++ x) (append_assoc n (v ++ codes "of") z ∙ ap (λ x. n ++ x) (append_assoc v (codes "of") z))

head : Text → Expr → Option Expr → List (Text × Text) → ForHead
head row list track vars = record { row = row; list = list; track = track; vars = vars }

pub same_head : (h k : ForHead) → h.row ≡ k.row → h.list ≡ k.list → h.track ≡ k.track → h.vars ≡ k.vars → h ≡ k
unfolding head
same_head h k a b c d =
    let x : head h.row h.list h.track h.vars ≡ head k.row k.list k.track k.vars = ap (λ v. head v h.list h.track h.vars) a ∙ ap (λ v. head k.row v h.track h.vars) b ∙ ap (λ v. head k.row k.list v h.vars) c ∙ ap (head k.row k.list k.track) d in
    x

pub one_for : (p : Place) (x : Text) (h k : ForHead) → ReadsFor p x h → ReadsFor p x k → h ≡ k
one_for p x h k (a, t, z, e, row, reads, parts) (b, s, y, d, line, also, others) =
    let r = one_row a b h.row k.row (t ++ z) (s ++ y) row line (sym e ∙ d) in
    let whole : t ++ (z ++ (41 ∷ [])) ≡ s ++ (y ++ (41 ∷ [])) = sym (append_assoc t z (41 ∷ [])) ∙ ap (λ v. v ++ (41 ∷ [])) r.2 ∙ append_assoc s y (41 ∷ []) in
    let g = expr_then _ _ t s (z ++ (41 ∷ [])) (y ++ (41 ∷ [])) h.list k.list reads also (parts_ends parts (41 ∷ []) (round_ends [])) (parts_ends others (41 ∷ []) (round_ends [])) whole in
    let rest : z ≡ y = same_rest t s z y g.0 r.2 in
    let expr : ReadsExpr false (steps p a) t k.list = subst (λ v. ReadsExpr false (steps p v) t k.list) (sym r.0) (subst (λ v. ReadsExpr false (steps p b) v k.list) (sym g.0) also) in
    let moved : ReadsParts (steps p (a ++ t)) z k.track k.vars =
    subst (λ v. ReadsParts (steps p (v ++ t)) z k.track k.vars) (sym r.0) (subst (λ v. ReadsParts (steps p (b ++ v)) z k.track k.vars) (sym g.0) (subst (λ v. ReadsParts (steps p (b ++ s)) v k.track k.vars) (sym rest) others)) in
    let one = one_parts parts k.track k.vars moved in
    same_head h k r.1 (text_reads_one false _ t h.list k.list reads expr) one.0 one.1
