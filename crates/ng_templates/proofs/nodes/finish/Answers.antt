use Rattle.std.proofs.Common.{List, ℕ, subst}
use Rattle.ng_attributes.proofs.Texts.{no_length}
use Rattle.ng_templates.specs.Fronts.{SoFar}
use Rattle.ng_templates.proofs.Turns.{all_read}
use Rattle.ng_templates.proofs.nodes.finish.Goals as goal

pub returns : goal.returns
returns c = λ base t far.
    let r = c.args.reader in
    all_read base t r.builder r.place (subst (λ (k : List ℕ). SoFar base t r.builder r.place k) (no_length r.rest.now c.requires) far) c.finish.result c.finish.ensures.reads c.finish.ensures.refused
