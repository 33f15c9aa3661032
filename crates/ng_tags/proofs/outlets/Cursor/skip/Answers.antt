use Rattle.std.proofs.Common.{refl}
use Rattle.ng_tags.proofs.Cuts.{skips_all, rest_taken}
use Rattle.ng_tags.proofs.outlets.Cursor.skip.Goals as goal

pub returns : goal.returns
returns c = skips_all c.args.self _ c.args.len c.requires.cursor c.if-len-self.false refl refl (rest_taken c.args.len c.args.self.tokens.now)
