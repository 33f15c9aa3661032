use Rattle.std.specs.Prelude.{Ok, Err}
use Rattle.std.proofs.lemmas.Result.{err_from_is_err_and}
use Rattle.ng_app.proofs.Places.{sources_fit}
use Rattle.ng_app.proofs.Public.{template_refused, app_found, refused_clause, answers_exactly}
use Rattle.ng_app.proofs.app.read_app.Goals as goal

pub fill_all-requires : goal.fill_all-requires
fill_all-requires c = sources_fit c.args.bytes.now c.in_ok-entries.entries c.in_ok-entries.ensures.reads.0 c.requires

pub returns-in_err-decls-clause-refused : goal.returns-in_err-decls-clause-refused
returns-in_err-decls-clause-refused c =
    let t = c.args.bytes.now in
    let e = c.in_err-decls.field-0.0 in
    let p = err_from_is_err_and c.from_residual-in_err-decls.result c.from_residual-in_err-decls.ensures.1 in
    rw (p.1, p.2) (refused_clause t (Err e) (template_refused t c.in_ok-entries.entries e c.in_ok-entries.ensures.reads.0 c.in_err-decls.ensures))

pub returns-clause-exact : goal.returns-clause-exact
returns-clause-exact c =
    let t = c.args.bytes.now in
    let ds = c.in_ok-decls.decls in
    answers_exactly t (Ok (record { decls = ds })) (app_found t c.in_ok-entries.entries ds c.in_ok-entries.ensures.reads c.in_ok-decls.ensures)
