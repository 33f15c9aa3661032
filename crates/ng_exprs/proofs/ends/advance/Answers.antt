use Rattle.std.proofs.Common.{sym, ◌∙◌, ap, drop, arith}
use Rattle.ng_exprs.specs.Ends.{end_from, later}
use Rattle.ng_exprs.proofs.Closing.{advance_over}
use Rattle.ng_exprs.proofs.ends.advance.Goals as goal

pub returns : goal.returns
returns c = (
  advance_over c.args.depth c.args.z.now (c.in_ok-shape.shape, c.in_ok-shape.len) c.in-len1-up.len_at_least (cc) (sym c.in_ok-shape.ensures.value) (cc) c.in_ok-shape.ensures.within
      ∙ ap (λ m. later c.in_ok-shape.len (end_from m 0 (drop c.in_ok-shape.len c.args.z.now))) (sym c.opened.ensures.value),
  omega (arith, c.in_ok-shape.ensures.within),
  omega (arith, c.in_ok-shape.ensures.within),
  c.opened.ensures.bound,
)
