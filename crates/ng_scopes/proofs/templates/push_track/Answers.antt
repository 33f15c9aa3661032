use Rattle.std.proofs.Common.{◌∙◌}
use Rattle.ng_scopes.proofs.ScopeLaws.{track_told, meaning_of-outside}
use Rattle.ng_scopes.proofs.templates.push_track.Goals as goal

pub returns : goal.returns
returns c = track_told _ c.args.found.now.items c.in_ok-table.table _ _ c.args.place c.args.head.now.row c.args.head.now.track
    c.in_ok-table.ensures (c.as_slice.ensures.value ∙ c.in_ok-names.ensures) meaning_of-outside c.in_ok-push_tracked.ensures
