-- How the letters of a value begin: with text, or with an interpolation.
use Rattle.std.specs.Prelude.{◌≡◌, ℕ, suc, ◌<◌, List, [], ◌∷◌, ◌++◌, length, take, drop, Bool, true, false, if◌then◌else◌, Option, Some, None, Result, Ok, Err}
use Rattle.std.specs.Str.{IsCharBoundary}
use Rattle.ng_lex.specs.declared.kinds.TokenKind.{TokenKind}
use Rattle.ng_lex.specs.declared.kinds.TokenKind.TheVariants as kind
use Rattle.ng_lex.specs.Spans.{IsSpan}
use Rattle.ng_ast.specs.declared.Piece.{Piece}
use Rattle.ng_lex.specs.declared.quotes.Quoting.TheVariants.{Outside}
use Rattle.ng_lex.specs.declared.letters.PlacedLetter.{PlacedLetter}
use Rattle.ng_lex.specs.Letters.{Letters, bytes}
use Rattle.ng_lex.specs.Words.{literal, unquoted, Clear, First, opening, closing}
use Rattle.ng_lex.specs.Values.{AtOpening, ReadsPieces, OverPieces}
use Rattle.ng_tokens.specs.Lexis.{Text, begins}
use Rattle.ng_attributes.specs.declared.spelled.Spelled.{Spelled}
use Rattle.ng_attributes.specs.declared.stop.Stop.{Stop}
use Rattle.ng_attributes.specs.Spelling.{IsSpelled}
use Rattle.ng_attributes.specs.Answers.{Halts, Goes}

-- The letters begin with text, as long as can be, and the last ones are left.
pub record TextAt (ls : Letters) (l : PlacedLetter) (x z : Letters) : Type 0 where
  pub is : ls ≡ (l ∷ x) ++ z
  pub clear : Clear unquoted opening Outside (bytes (l ∷ x)) (bytes z)
  pub ends : AtOpening (bytes z)

-- The letters begin with `{{`, what stands inside, and `}}`, and the last ones are left.
pub record InterpolationAt (ls o x c z : Letters) : Type 0 where
  pub is : ls ≡ o ++ (x ++ (c ++ z))
  pub opens : bytes o ≡ opening
  pub closes : bytes c ≡ closing
  pub first : First literal closing (bytes x)

-- these pieces stand before the letters that are left
abbrev pub GoesPieces : Letters → List Piece → Letters → Type 0
GoesPieces ls ps r = Goes {I = Unit {0}} (λ i xs qs. ReadsPieces xs qs) OverPieces ls ps r

-- the bytes before the first `{{`
abbrev pub text_len : Text → ℕ
text_len [] = 0
text_len (b ∷ t) = if begins opening (b ∷ t) then 0 else suc (text_len t)

-- the kind of an interpolation
abbrev pub is_value : TokenKind → Bool
is_value kind.Interpolation = true
is_value _ = false

-- an interpolation stands at the front, and has so many bytes
abbrev pub OpensValue : Text → Option ℕ → Type 0
OpensValue t None = (a z : Text) → IsSpan kind.Interpolation a z → t ≡ a ++ z → ⊥
OpensValue t (Some n) = IsSpan kind.Interpolation (take n t) (drop n t) × IsCharBoundary t n

-- the first piece of the letters, and what comes after it
pub record PieceAt (ls : Letters) (p : Piece) (rest : Spelled) : Type 0 where
  pub goes : GoesPieces ls (p ∷ []) rest.letters.now
  pub spelled : IsSpelled rest
  pub shorter : length rest.letters.now < length ls

abbrev pub AnswersPiece : Letters → Result (Piece × Spelled) Stop → Type 0
AnswersPiece ls (Ok v) = PieceAt ls v.0 v.1
AnswersPiece ls (Err e) = Halts ((ps : List Piece) → ReadsPieces ls ps → ⊥) (OverPieces ls) e
