-- What the values of attributes say.
use Rattle.std.specs.Prelude.{◌≡◌, Bool, true, false, if◌then◌else◌, List, [], ◌∷◌, ◌++◌, codes, Option, Some, None}
use Rattle.ng_ast.specs.declared.Place.{Place}
use Rattle.ng_ast.specs.declared.Expr.{Expr}
use Rattle.ng_ast.specs.declared.Stmt.{Stmt}
use Rattle.ng_ast.specs.declared.Piece.{Piece}
use Rattle.ng_ast.specs.declared.Piece.TheVariants as piece
use Rattle.ng_ast.specs.declared.OutletForm.{OutletForm}
use Rattle.ng_ast.specs.declared.OutletForm.TheVariants as outlet
use Rattle.ng_ast.specs.declared.AttrForm.{AttrForm}
use Rattle.ng_ast.specs.declared.AttrForm.TheVariants as a
use Rattle.ng_tokens.specs.declared.kinds.Sign.TheVariants as s
use Rattle.ng_tokens.specs.declared.kinds.Kind.TheVariants as k
use Rattle.ng_tokens.specs.Lexis.{Text, begins, same_text}
use Rattle.ng_tokens.specs.Lexis as tokens
use Rattle.ng_exprs.specs.Grammar.{Tokens, token, sign, Reads}
use Rattle.ng_exprs.specs.Grammar as grammar
use Rattle.ng_exprs.specs.Limits.{Passes}
use Rattle.ng_exprs.specs.Statements.{Begins}
use Rattle.ng_exprs.specs.Reading.{ReadsExpr, OverText}
use Rattle.ng_exprs.specs.Listening.{ReadsLines, OverLines, NoLines}
use Rattle.ng_lex.specs.declared.quotes.Quoting.TheVariants.{Outside}
use Rattle.ng_lex.specs.declared.letters.PlacedLetter.{PlacedLetter}
use Rattle.ng_lex.specs.declared.attributes.NameForm.{NameForm}
use Rattle.ng_lex.specs.declared.attributes.NameForm.TheVariants as f
use Rattle.ng_lex.specs.Letters.{Letters, bytes, start}
use Rattle.ng_lex.specs.Words.{IsOneName, literal, unquoted, Clear, First, opening, closing}

-- ---- text and interpolations

-- the word stands somewhere in the text
abbrev pub holds : Text → Text → Bool
holds w [] = false
holds w (b ∷ t) = if begins w (b ∷ t) then true else holds w t

-- nothing, or `{{` at the front
abbrev pub AtOpening : Text → Type 0
AtOpening [] = Unit {0}
AtOpening (b ∷ t) = begins opening (b ∷ t) ≡ true

-- The letters fall into these pieces: text, as long as can be, and interpolations, up to the first `}}` outside of text literals.
pub data ReadsPieces : Letters → List Piece → Type 0 where
  no_piece : ReadsPieces [] []
  text : {ps : List Piece} (l : PlacedLetter) (x z : Letters) → Clear unquoted opening Outside (bytes (l ∷ x)) (bytes z) → AtOpening (bytes z) → ReadsPieces z ps
      → ReadsPieces ((l ∷ x) ++ z) (piece.Text (bytes (l ∷ x)) ∷ ps)
  interpolation : {e : Expr} {ps : List Piece} (l : PlacedLetter) (o x c z : Letters) → bytes (l ∷ o) ≡ opening → bytes c ≡ closing → First literal closing (bytes x)
      → ReadsExpr false (start x) (bytes x) e → ReadsPieces z ps → ReadsPieces ((l ∷ o) ++ (x ++ (c ++ z))) (piece.Value l.place e ∷ ps)

-- text alone, or text with interpolations
abbrev pub IsPlain : Letters → AttrForm → Type 0
IsPlain ls (a.Static t) = (holds opening (bytes ls) ≡ false) × (t ≡ bytes ls)
IsPlain ls (a.Joined ps) = (holds opening (bytes ls) ≡ true) × ReadsPieces ls ps
IsPlain ls _ = ⊥

-- ---- outlets

-- null, a name, or e ? o : o
pub data ReadsOutlet : Tokens → OutletForm → Type 0 where
  nothing : (n : Text) (p : Place) → same_text (codes "null") n ≡ true → ReadsOutlet (token (k.Name n) p ∷ []) outlet.Null
  template : (n : Text) (p : Place) → same_text (codes "null") n ≡ false → ReadsOutlet (token (k.Name n) p ∷ []) (outlet.Name p n)
  choose : {e : Expr} {left right : OutletForm} (x y z : Tokens) (p q : Place) → Reads 8 x e → ReadsOutlet y left → ReadsOutlet z right
      → ReadsOutlet (x ++ (sign s.Question p ∷ (y ++ (sign s.Colon q ∷ z)))) (outlet.Choose (grammar.start x) e left right)

abbrev pub IsOutlet : Place → Text → OutletForm → Type 0
IsOutlet p t o = (ts : Tokens) × tokens.Lexes false p t ts [] × ReadsOutlet ts o

-- a front of the text is an outlet's form that is begun, and passes a limit
abbrev pub OverOutlet : Place → Text → Type 0
OverOutlet p t = (ts : Tokens) × (rest : Text) × tokens.Lexes false p t ts rest × Begins ReadsOutlet ts × Passes ts

-- ---- values by the form of the name

abbrev pub IsExpr : Place → Letters → Expr → Type 0
IsExpr p ls e = ReadsExpr false p (bytes ls) e

-- what an attribute says whose value has these letters, of which the first stands at the place
abbrev pub Says : NameForm → Place → Letters → AttrForm → Type 0
Says (f.Plain n) p ls form = IsPlain ls form
Says (f.Property n) p ls form = (e : Expr) × IsExpr p ls e × (form ≡ a.Property e)
Says (f.Attribute n) p ls form = (e : Expr) × IsExpr p ls e × (form ≡ a.Attribute e)
Says (f.Class n) p ls form = (e : Expr) × IsExpr p ls e × (form ≡ a.Class e)
Says (f.Style n u) p ls form = (e : Expr) × IsExpr p ls e × (form ≡ a.Style u e)
Says (f.Event n) p ls form = (bs : List Stmt) × ReadsLines false p (bytes ls) bs × (form ≡ a.Listener bs)
Says (f.Both n) p ls form = (y : Text) × IsOneName (bytes ls) y × (form ≡ a.Both y)
Says (f.Reference n) p ls form = ⊥
Says (f.Variable n) p ls form = form ≡ a.Variable (Some (bytes ls))
Says f.Outlet p ls form = (o : OutletForm) × IsOutlet p (bytes ls) o × (form ≡ a.Outlet o)
Says f.Context p ls form = (e : Expr) × IsExpr p ls e × (form ≡ a.Context e)

-- what an attribute says without a value
abbrev pub without_value : NameForm → Option AttrForm
without_value (f.Plain n) = Some (a.Static [])
without_value (f.Reference n) = Some a.Reference
without_value (f.Variable n) = Some (a.Variable None)
without_value _ = None

-- ---- values that pass a limit

-- an interpolation after other pieces is begun, and passes a limit
pub data OverPieces : Letters → Type 0 where
  here : (o x c z : Letters) → bytes o ≡ opening → bytes c ≡ closing → First literal closing (bytes x) → OverText false (start x) (bytes x) → OverPieces (o ++ (x ++ (c ++ z)))
  after_text : (l : PlacedLetter) (x z : Letters) → Clear unquoted opening Outside (bytes (l ∷ x)) (bytes z) → AtOpening (bytes z) → OverPieces z → OverPieces ((l ∷ x) ++ z)
  after_interpolation : {e : Expr} (o x c z : Letters) → bytes o ≡ opening → bytes c ≡ closing → First literal closing (bytes x) → ReadsExpr false (start x) (bytes x) e
      → OverPieces z → OverPieces (o ++ (x ++ (c ++ z)))

-- What stands in the value is begun, and passes a limit.
abbrev pub OverValue : NameForm → Place → Letters → Type 0
OverValue (f.Plain n) p ls = OverPieces ls
OverValue (f.Property n) p ls = OverText false p (bytes ls)
OverValue (f.Attribute n) p ls = OverText false p (bytes ls)
OverValue (f.Class n) p ls = OverText false p (bytes ls)
OverValue (f.Style n u) p ls = OverText false p (bytes ls)
OverValue (f.Event n) p ls = OverLines p (bytes ls) × NoLines true p (bytes ls)
OverValue (f.Both n) p ls = ⊥
OverValue (f.Reference n) p ls = ⊥
OverValue (f.Variable n) p ls = ⊥
OverValue f.Outlet p ls = OverOutlet p (bytes ls)
OverValue f.Context p ls = OverText false p (bytes ls)
