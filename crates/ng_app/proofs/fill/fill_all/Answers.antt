use Rattle.std.proofs.lemmas.Result.{err_from_is_err_and}
use Rattle.ng_app.proofs.Filled.{entries_refused}
use Rattle.ng_app.proofs.Turned.{turned_fit, last_fits, others_fit, begun, next, pushed}
use Rattle.ng_app.proofs.fill.fill_all.Goals as goal

pub loop-entry-init : goal.loop-entry-init
loop-entry-init c = record {
  fits = turned_fit c.args.entries c.in_ok-ahead.ahead c.in_ok-ahead.ensures c.requires;
  read = begun c.args.entries c.in_ok-ahead.ahead c.new-decls.result c.in_ok-ahead.ensures c.new-decls.ensures;
}

pub fill-requires : goal.fill-requires
fill-requires c = last_fits c.loop-entry.ahead c.pop.new.self c.in-Some.entry c.in-Some.ensures c.loop-entry.invariant.fits

pub returns-in_err-fill : goal.returns-in_err-fill
returns-in_err-fill c =
    let p = err_from_is_err_and c.from_residual-in_err-fill.result c.from_residual-in_err-fill.ensures.1 in
    let read = next c.args.entries c.loop-entry.decls c.loop-entry.ahead c.pop.new.self c.in-Some.entry c.in-Some.ensures c.loop-entry.invariant.read in
    rw (p.1, p.2) (entries_refused c.args.entries c.loop-entry.decls c.in-Some.entry _ c.in_err-fill.field-0.0 read c.in_err-fill.ensures)

pub loop-entry-preserved : goal.loop-entry-preserved
loop-entry-preserved c =
    let read = next c.args.entries c.loop-entry.decls c.loop-entry.ahead c.pop.new.self c.in-Some.entry c.in-Some.ensures c.loop-entry.invariant.read in
    record {
      fits = others_fit c.loop-entry.ahead c.pop.new.self c.in-Some.entry c.in-Some.ensures c.loop-entry.invariant.fits;
      read = pushed c.args.entries c.loop-entry.decls c.push.new.self c.in-Some.entry _ c.in_ok-fill.field-0 c.in_ok-push.ensures.ok read c.in_ok-fill.ensures;
    }
