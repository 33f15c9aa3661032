-- What each step of the reader keeps.
use Rattle.std.proofs.Common.{◌≡◌, ℕ, ◌+◌, ◌-◌, ◌<◌, ◌≤◌, List, [], ◌∷◌, ◌++◌, length, take, drop, refl, sym, ◌∙◌, ap, subst, arith, inl, inr}
use Rattle.std.proofs.lemmas.List.{take-append-drop, length-take-le}
use Rattle.std.proofs.Common.{length-drop}
use Rattle.ng_heads.specs.Fits.{Fits}
use Rattle.std.specs.Prelude.{◌⊎◌, Option, Some, None, Result, Ok, Err, IfOk, IfErr}
use Rattle.ng_ast.specs.declared.Place.{Place}
use Rattle.ng_ast.specs.declared.TNode.{TNode}
use Rattle.ng_tokens.specs.Lexis.{Text, steps}
use Rattle.ng_lex.specs.declared.kinds.TokenKind.{TokenKind}
use Rattle.ng_lex.specs.declared.markup.Markup.{Markup}
use Rattle.ng_lex.specs.declared.markup.Markup.TheVariants as m
use Rattle.ng_lex.specs.declared.markup.Part.{Part}
use Rattle.ng_lex.specs.declared.markup.Shape.{Shape}
use Rattle.ng_lex.specs.Lexis.{part}
use Rattle.ng_lex.specs.Heavy.{IsHeavy}
use Rattle.ng_lex.specs.Span.{span}
use Rattle.ng_lex.specs.Spans.{IsSpan, kind_of}
use Rattle.ng_lex.proofs.Complete.{span_is}
use Rattle.ng_heads.specs.declared.halt.Halt as no_part
use Rattle.ng_heads.specs.declared.halt.Halt.TheVariants as why
use Rattle.ng_markup.specs.Parts.{IsRead, IsCalm, Says, IsNoPart, AnswersPart}
use Rattle.ng_nodes.specs.declared.builder.Builder.{Builder}
use Rattle.ng_nodes.specs.declared.halt.Halt.{Halt}
use Rattle.ng_nodes.specs.declared.halt.Halt.TheVariants as h
use Rattle.ng_nodes.specs.Texts.{Parts}
use Rattle.ng_nodes.specs.Limits.{ReadsNodes}
use Rattle.ng_nodes.specs.Reading.{HasRead, OverParts, CannotStand, Halts}
use Rattle.ng_templates.specs.Reading.{NoTemplate, OverTemplate, AnswersNodes}
use Rattle.ng_templates.specs.Fronts.{One, IsNowhere, Overflows, Stands, halted, SoFar}
use Rattle.ng_templates.proofs.Firsts.{one_span, part_is}
use Rattle.ng_attributes.proofs.Texts.{steps_append}
use Rattle.ng_templates.proofs.Goes.{goes_none, goes_next}
use Rattle.ng_templates.proofs.Light.{heavy_unread}
use Rattle.ng_templates.proofs.Whole.{all_lexed, all_calm, all_over, all_unread, unread, misplaced, heavy_misplaced, part_over, heavy_over}

-- ---- what stands at the front of a text

-- no token stands there
pub no_token : (p : Place) (t : Text) → span t ≡ None → IsNowhere p t
no_token p t none a z u is one =
    let found : span t ≡ Some (kind_of u.markup, length a) = ap span is ∙ span_is (kind_of u.markup) a z one.spans in
    let same : ◌≡◌ {A = Option (TokenKind × ℕ)} None (Some (kind_of u.markup, length a)) = sym none ∙ found in
    cc

-- a token stands there which is no part
pub no_reading : (p : Place) (k : TokenKind) (t : Text) (n : ℕ) → IsSpan k (take n t) (drop n t) → IsNoPart k p (take n t) → IsNowhere p t
no_reading p k t n spans none a z u is one =
    let g = one_span k (kind_of u.markup) (take n t) (drop n t) a z spans one.spans (take-append-drop n t ∙ is) in
    none u.markup (sym g.0) (subst (λ x. IsRead p x u.markup) (sym g.1) one.reads)

-- a token stands there which is a part, or in which an expression passes a limit
pub part_stands : (p : Place) (k : TokenKind) (t : Text) (n : ℕ) (c : Markup) → 0 < n → n ≤ length t → IsSpan k (take n t) (drop n t) → ((z : Text) → IsSpan k (take n t) z → Says k p (take n t) z c)
    → Stands p t (part c p) n
part_stands p k t n c some within spans says = record { at = refl; some = some; within = within; says = by (says (drop n t) spans) }
  where
    by : Says k p (take n t) (drop n t) c → Overflows p t (part c p) ⊎ (One p (take n t) (drop n t) (part c p) × IsCalm p t)
    by (inl (shape, is, heavy)) = inl (shape, is, subst (λ x. IsHeavy p x shape) (take-append-drop n t) heavy)
    by (inr (same, reads, calm)) =
        let one : One p (take n t) (drop n t) (part c p) = record { at = refl; spans = subst (λ l. IsSpan l (take n t) (drop n t)) (sym same) spans; reads = reads } in
        inr (one, subst (λ x. IsCalm p x) (take-append-drop n t) calm)

-- the front of a text as a range
pub front_is : (a t : Text) (n : ℕ) → a ≡ take (n - 0) t → a ≡ take n t
front_is a t n e = e ∙ ap (λ k. take k t) (let same : n - 0 ≡ n = omega arith in same)

pub reads_part : (p : Place) (k : TokenKind) (t a : Text) (n : ℕ) (c : Markup) → a ≡ take n t → (0 < n) × (n ≤ length t) → IsSpan k (take n t) (drop n t) → AnswersPart k p a (Ok c) → Stands p t (part c p) n
reads_part p k t a n c is within spans says = part_stands p k t n c within.0 within.1 spans (subst (λ x. AnswersPart k p x (Ok c)) is says)

pub reads_none : (p : Place) (k : TokenKind) (t a : Text) (n : ℕ) (halt : no_part.Halt) (e : Halt) → a ≡ take n t → IsSpan k (take n t) (drop n t) → AnswersPart k p a (Err halt) → e ≡ halted halt
    → Halts (IsNowhere p t) ⊥ e
reads_none p k t a n halt e is spans says same = subst (λ x. Halts (IsNowhere p t) ⊥ x) (sym same) (by halt (subst (λ x. AnswersPart k p x (Err halt)) is says))
  where
    by : (halt : no_part.Halt) → AnswersPart k p (take n t) (Err halt) → Halts (IsNowhere p t) ⊥ (halted halt)
    by (why.Syntax q) none = no_reading p k t n spans none
    by why.Memory none = tt

-- ---- one part more

pub nothing_read : (base : Place) (t : Text) (b : Builder) → HasRead [] b → SoFar base t b base t
nothing_read base t b read = record { front = []; x = []; goes = goes_none base t; at = refl; read = read }

module _ (base : Place) (t : Text) (b : Builder) (place : Place) (rest : Text) (far : SoFar base t b place rest) where
  there : (u : Part) (len : ℕ) → Stands place rest u len → Stands (steps base far.x) rest u len
  there u len stands = subst (λ q. Stands q rest u len) far.at stands

  halves : (len : ℕ) → rest ≡ take len rest ++ drop len rest
  halves len = sym (take-append-drop len rest)

  pub nowhere : 0 < length rest → IsNowhere place rest → NoTemplate base t
  nowhere some none = unread base t far.front far.x rest far.goes some (subst (λ q. IsNowhere q rest) far.at none)

  pub nowhere_halts : 0 < length rest → (e : Halt) → Halts (IsNowhere place rest) ⊥ e → Halts (NoTemplate base t) (OverTemplate base t) e
  nowhere_halts some (h.Syntax q) none = nowhere some none
  nowhere_halts some (h.Limit q) none = absurd none
  nowhere_halts some h.Memory none = tt

  taken_by : (u : Part) (len : ℕ) (next : Builder) → HasRead (far.front ++ u ∷ []) next → Overflows (steps base far.x) rest u ⊎ (One (steps base far.x) (take len rest) (drop len rest) u × IsCalm (steps base far.x) rest)
      → SoFar base t next (steps place (take len rest)) (drop len rest)
  taken_by u len next read (inl (shape, is, heavy)) = absurd (heavy_unread far.front u next shape is read)
  taken_by u len next read (inr (one, calm)) = record {
    front = far.front ++ u ∷ [];
    x = far.x ++ take len rest;
    goes = goes_next base t far.front far.x rest (take len rest) (drop len rest) u far.goes (halves len) one calm;
    at = ap (λ q. steps q (take len rest)) far.at ∙ sym (steps_append base far.x (take len rest));
    read = read;
  }

  pub taken : (u : Part) (len : ℕ) (next : Builder) → Stands place rest u len → ((front : Parts) → HasRead front b → HasRead (front ++ u ∷ []) next) → SoFar base t next (steps place (take len rest)) (drop len rest)
  taken u len next stands reads = taken_by u len next (reads far.front far.read) (there u len stands).says

  overflowing : (u : Part) (shape : Shape) → u.place ≡ steps base far.x → u.markup ≡ m.Heavy shape → u ≡ part (m.Heavy shape) (steps base far.x)
  overflowing u shape at is = part_is u (part (m.Heavy shape) (steps base far.x)) at is

  unstanding : (u : Part) (len : ℕ) → Stands (steps base far.x) rest u len → CannotStand far.front u → Overflows (steps base far.x) rest u ⊎ (One (steps base far.x) (take len rest) (drop len rest) u × IsCalm (steps base far.x) rest) → NoTemplate base t
  unstanding u len stands cannot (inl (shape, is, heavy)) =
      heavy_misplaced base t far.front far.x rest far.goes shape heavy (subst (λ v. CannotStand far.front v) (overflowing u shape stands.at is) cannot)
  unstanding u len stands cannot (inr (one, calm)) = misplaced base t far.front far.x rest far.goes (take len rest) (drop len rest) u (halves len) one cannot

  passing : (u : Part) (len : ℕ) → Stands (steps base far.x) rest u len → OverParts (far.front ++ u ∷ []) → Overflows (steps base far.x) rest u ⊎ (One (steps base far.x) (take len rest) (drop len rest) u × IsCalm (steps base far.x) rest) → OverTemplate base t
  passing u len stands over (inl (shape, is, heavy)) =
      heavy_over base t far.front far.x rest far.goes shape heavy (subst (λ v. OverParts (far.front ++ v ∷ [])) (overflowing u shape stands.at is) over)
  passing u len stands over (inr (one, calm)) = part_over base t far.front far.x rest far.goes (take len rest) (drop len rest) u (halves len) one over

  pub not_taken : (u : Part) (len : ℕ) (e : Halt) → Stands place rest u len → ((front : Parts) → HasRead front b → Halts (CannotStand front u) ((more : Parts) → OverParts (front ++ u ∷ more)) e)
      → Halts (NoTemplate base t) (OverTemplate base t) e
  not_taken u len (h.Syntax q) stands why = let s = there u len stands in unstanding u len s (why far.front far.read) s.says
  not_taken u len (h.Limit q) stands why = let s = there u len stands in passing u len s (why far.front far.read []) s.says
  not_taken u len h.Memory stands why = tt

-- what holds after one part more
pub leads_on : (b next : Builder) (place q : Place) (rest a z : Text) (u : Part) (len : ℕ) → Fits place rest → Stands place rest u len → ((front : Parts) → HasRead front b → HasRead (front ++ u ∷ []) next)
    → a ≡ take (len - 0) rest → z ≡ drop len rest → q ≡ steps place a → (q.line ≤ place.line + length a) × (q.column ≤ place.column + length a) × (q.byte ≤ place.byte + length a)
    → ((base : Place) (t : Text) → SoFar base t b place rest → SoFar base t next q z) × Fits q z × (length z < length rest)
leads_on b next place q rest a z u len fits stands reads cut left at near =
    let front : a ≡ take len rest = front_is a rest len cut in
    let place_is : steps place (take len rest) ≡ q = ap (steps place) (sym front) ∙ sym at in
    let short : length a ≡ len = ap length front ∙ length-take-le len rest stands.within in
    let rest_short : length z ≡ length rest - len = ap length left ∙ length-drop len rest in (
      λ base t far. subst (SoFar base t next q) (sym left) (subst (λ k. SoFar base t next k (drop len rest)) place_is (taken base t b place rest far u len next stands reads)),
      (omega (arith, fits.0, rest_short), omega (arith, fits.1, near.0, short, rest_short, stands.within), omega (arith, fits.2, near.1, short, rest_short, stands.within), omega (arith, fits.3, near.2, short, rest_short, stands.within)),
      omega (arith, rest_short, stands.some, stands.within),
    )

-- ---- the end of the text

module _ (base : Place) (t : Text) (b : Builder) (place : Place) (far : SoFar base t b place []) where
  whole : (ns : List TNode) → ((front : Parts) → HasRead front b → ReadsNodes front ns × (OverParts front → ⊥)) → AnswersNodes base t (Ok ns)
  whole ns reads =
      let r = reads far.front far.read in
      ((far.front, all_lexed base t far.front far.x far.goes, r.0), all_calm base t far.front far.x far.goes r.1)

  not_whole : (e : Halt) → ((front : Parts) → HasRead front b → Halts ((ns : List TNode) → ReadsNodes front ns → ⊥) (OverParts front) e) → AnswersNodes base t (Err e)
  not_whole (h.Syntax q) why = all_unread base t far.front far.x far.goes (why far.front far.read)
  not_whole (h.Limit q) why = all_over base t far.front far.x far.goes (why far.front far.read)
  not_whole h.Memory why = tt

  pub all_read : (r : Result (List TNode) Halt) → IfOk r (λ ns. (front : Parts) → HasRead front b → ReadsNodes front ns × (OverParts front → ⊥))
      → IfErr r (λ e. (front : Parts) → HasRead front b → Halts ((ns : List TNode) → ReadsNodes front ns → ⊥) (OverParts front) e) → AnswersNodes base t r
  all_read (Ok ns) reads why = whole ns reads
  all_read (Err e) reads why = not_whole e why

-- ---- the answer

pub stopped : (base : Place) (t : Text) (e : Halt) → Halts (NoTemplate base t) (OverTemplate base t) e → AnswersNodes base t (Err e)
stopped base t (h.Syntax q) why = why
stopped base t (h.Limit q) why = why
stopped base t h.Memory why = tt
