-- A token is one alone, too.
use Rattle.std.proofs.Common.{◌≡◌, ℕ, [], ◌∷◌, ◌++◌, refl, inl, inr}
use Rattle.std.specs.Prelude.{Bool, true, false, ◌==◌, ◌||◌, if◌then◌else◌}
use Rattle.ng_tokens.specs.Lexis.{Text, begins}
use Rattle.ng_lex.specs.declared.kinds.TokenKind.{TokenKind}
use Rattle.ng_lex.specs.declared.kinds.TokenKind.TheVariants as kind
use Rattle.ng_lex.specs.Words.{opening}
use Rattle.ng_lex.specs.Lexis.{is_plain, AllPlain}
use Rattle.ng_lex.specs.Spans.{Fills, IsHead, IsSpan}
use Rattle.ng_heads.proofs.After.{ends_any}

-- literal text
plain_by : (sign first : Bool) → (if sign then false else (if first then false else true)) ≡ true → sign ≡ false
plain_by true first e = absurd cc
plain_by false first e = refl

no_opening : (b : ℕ) → begins opening (b ∷ []) ≡ false
no_opening b = by (123 == b)
  where
    by : (v : Bool) → (if v then false else false) ≡ false
    by true = refl
    by false = refl

plain_last : (b : ℕ) (z : Text) → is_plain b z ≡ true → is_plain b [] ≡ true
plain_last b z e = rw (plain_by (b == 60 || b == 64 || b == 125) (begins opening (b ∷ z)) e, no_opening b) refl

plain_alone : (a z : Text) → AllPlain a z → AllPlain a []
plain_alone [] z h = tt
plain_alone (b ∷ []) z h = (plain_last b z h.0, tt)
plain_alone (b ∷ (c ∷ a)) z h = (h.0, plain_alone (c ∷ a) z h.1)

-- heads of blocks
fills_any : {x z : Text} → Fills x z → (r : Text) → Fills x r
fills_any (Fills.last_piece t z ends) r = Fills.last_piece t r (ends_any t 41 z r (inl refl) ends)
fills_any (Fills.next_piece t x z ends more) r = Fills.next_piece t x r (ends_any t 59 (x ++ (41 ∷ z)) (x ++ (41 ∷ r)) (inr refl) ends) (fills_any more r)

head_alone : {a z : Text} → IsHead a z → IsHead a []
head_alone (IsHead.braced word w z is blank) = IsHead.braced word w [] is blank
head_alone (IsHead.bracketed word w x v z is before after fills) = IsHead.bracketed word w x v [] is before after (fills_any fills (v ++ (123 ∷ [])))

pub span_alone : (k : TokenKind) (a z : Text) → IsSpan k a z → IsSpan k a []
span_alone kind.Literal [] z h = absurd h
span_alone kind.Literal (b ∷ a) z h = (plain_alone (b ∷ a) z h.0, tt)
span_alone kind.Interpolation a z h = h
span_alone kind.Start a z h = h
span_alone kind.End a z h = h
span_alone kind.Comment a z h = h
span_alone kind.Head a z h = head_alone h
span_alone kind.Close a z h = h
span_alone kind.Let a z (x, t, n, is, front, ends) = (x, t, n, is, front, ends_any t 59 z [] (inr refl) ends)
