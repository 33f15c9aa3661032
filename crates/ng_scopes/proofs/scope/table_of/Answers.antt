use Rattle.std.proofs.Common.{◌+◌, ap, ◌∙◌, arith}
use Rattle.ng_scopes.specs.Names.{let_count}
use Rattle.ng_scopes.proofs.ScopeLaws.{table_more, lets_more}
use Rattle.ng_scopes.proofs.scope.table_of.Goals as goal

pub loop-known-preserved : goal.loop-known-preserved
loop-known-preserved c = record {
  table = table_more c.loop-known.table c.add.new.table c.args.names.now c.loop-known.known-index c.loop-known.before c.known-item.result (omega arith) c.known-item.is
      c.loop-known.invariant.table c.loop-known.invariant.before c.in_ok-add.ensures;
  before = c.in_ok-before.ensures ∙ ap (λ k. k + let_count c.known-item.result.meaning) c.loop-known.invariant.before
      ∙ lets_more c.args.names.now c.loop-known.known-index c.known-item.result (omega arith) c.known-item.is;
}
