use Rattle.std.proofs.Common.{◌∙◌}
use Rattle.ng_hosts.proofs.Hits.{hits_are, searched}
use Rattle.ng_hosts.proofs.search.search.Goals as goal

pub returns : goal.returns
returns c = λ at.
    searched _ _ _ c.args.index.now at c.new-found.result c.try_entries.new.found c.try_entries-2.new.found c.try_attrs.new.found c.unmarked.result.now c.by_tag.result.now
    c.new-found.ensures.empty c.unmarked.ensures c.by_tag.ensures (c.in_ok-try_entries.ensures at) (c.in_ok-try_entries-2.ensures at) (c.in_ok-try_attrs.ensures at)
    ∙ hits_are _ _ _ c.args.index.now c.requires at
