-- The texts of a template: what a run of literal text and interpolations shows.
use Rattle.std.specs.Prelude.{◌≡◌, ◌≢◌, ℕ, Bool, true, false, ◌||◌, if◌then◌else◌, List, [], ◌∷◌, ◌++◌}
use Rattle.std.specs.Str.{bytes_eq, is_utf8}
use Rattle.ng_ast.specs.declared.Place.{Place}
use Rattle.ng_ast.specs.declared.Piece.{Piece}
use Rattle.ng_ast.specs.declared.Piece.TheVariants as piece
use Rattle.ng_ast.specs.declared.TNode.{TNode}
use Rattle.ng_ast.specs.declared.TNode.TheVariants as node
use Rattle.ng_lex.specs.declared.markup.Letter.{Letter}
use Rattle.ng_lex.specs.declared.markup.Markup.{Markup}
use Rattle.ng_lex.specs.declared.markup.Markup.TheVariants as m
use Rattle.ng_lex.specs.declared.markup.Part.{Part}

abbrev pub Text : Type 0
Text = List ℕ

abbrev pub Parts : Type 0
Parts = List Part

abbrev pub part : Markup → Place → Part
part c p = record { place = p; markup = c }

-- the bytes of letters as they stand
abbrev pub kept : List Letter → Text
kept [] = []
kept (c ∷ cs) = c.byte ∷ kept cs

-- the bytes of letters, with one space for each run of white space; the truth value says whether white space stands right before
abbrev pub collapsed : Bool → List Letter → Text
collapsed after [] = []
collapsed after (c ∷ cs) = if c.blank then (if after then collapsed true cs else 32 ∷ collapsed true cs) else c.byte ∷ collapsed false cs

-- the text of letters, where white space is kept, or where it isn't
abbrev pub text_of : Bool → List Letter → Text
text_of keep cs = if keep then kept cs else collapsed false cs

-- letters that are a piece of a text: there are some, and their bytes are UTF-8
unfoldable pub is_piece : Bool → List Letter → Bool
is_piece keep [] = false
is_piece keep (c ∷ cs) = is_utf8 (text_of keep (c ∷ cs))

-- literal text and interpolations
abbrev pub is_text : Markup → Bool
is_text (m.Literal cs) = true
is_text (m.Interpolation a) = true
is_text _ = false

abbrev pub is_literal : Markup → Bool
is_literal (m.Literal cs) = true
is_literal _ = false

-- A part that goes on with a text. Literal text is as long as it can be, so none stands right after other literal text, which the second truth value tells.
abbrev pub goes_on : Bool → Bool → Markup → Bool
goes_on keep after (m.Literal cs) = if after then false else is_piece keep cs
goes_on keep after (m.Interpolation a) = true
goes_on keep after _ = false

-- the parts are a text, or what follows a literal text or an interpolation in one
abbrev pub IsRun : Bool → Bool → Parts → Type 0
IsRun keep after [] = Unit {0}
IsRun keep after (t ∷ ts) = (goes_on keep after t.markup ≡ true) × IsRun keep (is_literal t.markup) ts

-- what follows a text, which is as long as it can be
abbrev pub NotText : Parts → Type 0
NotText [] = Unit {0}
NotText (t ∷ ts) = is_text t.markup ≡ false

abbrev pub piece_of : Bool → Place → Markup → List Piece
piece_of keep p (m.Literal cs) = piece.Text (text_of keep cs) ∷ []
piece_of keep p (m.Interpolation a) = piece.Value p a ∷ []
piece_of keep p _ = []

-- the pieces of a text
abbrev pub pieces : Bool → Parts → List Piece
pieces keep [] = []
pieces keep (t ∷ ts) = piece_of keep t.place t.markup ++ pieces keep ts

-- no piece is empty, and no two that stand side by side are both characters
abbrev pub begins_with_text : List Piece → Bool
begins_with_text (piece.Text t ∷ xs) = true
begins_with_text _ = false

abbrev pub AreMaximal : List Piece → Type 0
AreMaximal [] = Unit {0}
AreMaximal (piece.Text t ∷ xs) = (t ≢ []) × (begins_with_text xs ≡ false) × AreMaximal xs
AreMaximal (piece.Value p a ∷ xs) = AreMaximal xs

abbrev pub all_blank : List Letter → Bool
all_blank [] = true
all_blank (c ∷ cs) = if c.blank then all_blank cs else false

-- literal text that is white space alone
abbrev pub is_blank : Markup → Bool
is_blank (m.Literal cs) = all_blank cs
is_blank _ = false

abbrev pub blank : Parts → Bool
blank [] = true
blank (t ∷ ts) = if is_blank t.markup then blank ts else false

-- The node of a text, at the place of its first byte. One that is white space alone has none, except where white space is kept.
abbrev pub texted : Bool → Parts → List TNode
texted keep [] = []
texted keep (t ∷ ts) = if (if keep then false else blank (t ∷ ts)) then [] else node.Text t.place (pieces keep (t ∷ ts)) ∷ []

-- what may stand between a `}` and the next branch of its block: nothing, or white space
abbrev pub IsGap : Bool → Parts → Type 0
IsGap keep ts = IsRun keep false ts × (blank ts ≡ true)

-- whether two tags are the same
abbrev pub same : Text → Text → Bool
same v w = bytes_eq v w

-- `pre` and `textarea`, in which white space is kept
unfoldable pub keeps : Text → Bool
keeps tag = same tag (112 ∷ 114 ∷ 101 ∷ []) || same tag (116 ∷ 101 ∷ 120 ∷ 116 ∷ 97 ∷ 114 ∷ 101 ∷ 97 ∷ [])
