use Rattle.ng_attributes.proofs.SpelledLaws.{split_of}
use Rattle.ng_attributes.proofs.spelled.Spelled.split.Goals as goal

pub returns : goal.returns
returns c = split_of _ _ _ c.args.at c.requires.spelled c.requires.boundary c.split_at.ensures.front c.split_at.ensures.back c.split_at-2.ensures.front c.split_at-2.ensures.back
