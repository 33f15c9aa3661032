use Rattle.std.proofs.Common.{◌≡◌, true, sym, ◌∙◌, ap, subst}
use Rattle.std.specs.Str.{IsUtf8}
use Rattle.ng_declare.specs.Files.{is_marked}
use Rattle.ng_declare.proofs.Marks.{after_mark}
use Rattle.ng_declare.proofs.file.first_cursor.Goals as goal

pub range_from-requires : goal.range_from-requires
range_from-requires c =
    let u : IsUtf8 c.args.text.now = subst IsUtf8 c.as_bytes.ensures.value c.as_bytes.ensures.utf8 in
    let m : is_marked c.args.text.now ≡ true = ap is_marked (sym c.as_bytes.ensures.value) ∙ sym c.has_mark.ensures ∙ c.if-has_mark.true in
    λ some. after_mark c.args.text.now u m
