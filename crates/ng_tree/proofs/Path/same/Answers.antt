use Rattle.std.proofs.Common.{◌≡◌}
use Rattle.std.specs.Cmp.Lexicographic.{pointwise}
use Rattle.std.proofs.lemmas.Slice.Eq.{slice_eq-Decides}
use Rattle.ng_tree.specs.Same.{is_same_step, is_same_step_decides}
use Rattle.ng_tree.proofs.Path.same.Goals as goal

pub returns : goal.returns
returns c =
    let told : c.eq.result ≡ pointwise is_same_step c.args.self.now c.args.other.now = rw (c.items.ensures, c.items-2.ensures) at c.eq.ensures in
    slice_eq-Decides is_same_step_decides c.args.self.now c.args.other.now c.eq.result told
