-- Pieces are escaped one by one.
use Rattle.std.proofs.Common.{◌≡◌, List, [], ◌∷◌, ◌++◌, refl, ap, ◌∙◌}
use Rattle.std.specs.List.{flat_map}
use Rattle.std.proofs.lemmas.Grind.{flat_map-append}
use Rattle.ng_ast.specs.declared.Piece.{Piece}
use Rattle.ng_semantics.specs.Meaning.{World}
use Rattle.ng_semantics.specs.Html.{escaped, escaped_byte}
use Rattle.ng_semantics.specs.Tree.{piece_text, pieces_text}
use Rattle.ng_update.specs.Printed.{piece_printed}

pub escaped_pieces : (world : World) (ps : List Piece) → escaped (pieces_text world ps) ≡ flat_map (piece_printed world) ps
escaped_pieces world [] = refl
escaped_pieces world (p ∷ ps) = flat_map-append escaped_byte (piece_text world p) (pieces_text world ps) ∙ ap (λ ts. piece_printed world p ++ ts) (escaped_pieces world ps)
