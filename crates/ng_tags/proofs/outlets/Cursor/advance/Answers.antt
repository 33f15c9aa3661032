use Rattle.std.proofs.Common.{get_or, refl, ap}
use Rattle.ng_tags.proofs.Cuts.{is_cut, advances, rest_taken}
use Rattle.ng_tags.proofs.outlets.Cursor.advance.Goals as goal

pub cut-requires : goal.cut-requires
cut-requires c =
    is_cut c.args.self c.args.len (get_or c.args.self.tokens.now c.args.len c.index-self-len.result) c.requires.cursor c.requires.within (ap (get_or c.args.self.tokens.now c.args.len) c.index-self-len.is)

pub returns : goal.returns
returns c =
    advances c.args.self _ c.args.len _ (get_or c.args.self.tokens.now c.args.len c.index-self-len.result) c.requires.cursor c.requires.within (ap (get_or c.args.self.tokens.now c.args.len) c.index-self-len.is) c.cut.ensures refl (rest_taken c.args.len c.args.self.tokens.now)
