use Rattle.std.proofs.Common.{refl, subst}
use Rattle.std.specs.Prelude.{Err}
use Rattle.ng_ast.specs.declared.refusals.ReadError.TheVariants as r
use Rattle.ng_tokens.specs.Lexis.{Text}
use Rattle.ng_declare.specs.Files.{Answers}
use Rattle.ng_declare.proofs.Whole.{utf8_clause, reads_clause, refused_clause, answers_exactly}
use Rattle.ng_declare.proofs.file.read_file.Goals as goal

pub returns-in-Ok : goal.returns-in-Ok
returns-in-Ok c =
    let a : Answers c.args.bytes.now c.read_text.result = subst (λ (t : Text). Answers t c.read_text.result) c.in-Ok.ensures.cases.0 c.read_text.ensures in
    record {
      utf8 = utf8_clause c.args.bytes.now c.read_text.result c.in-Ok.ensures.cases.1 a;
      reads = reads_clause c.args.bytes.now c.read_text.result a;
      refused = refused_clause c.args.bytes.now c.read_text.result a;
      exact = answers_exactly c.args.bytes.now c.read_text.result a;
    }

pub returns-in-Err : goal.returns-in-Err
returns-in-Err c = record {
  utf8 = (λ e. c.in-Err.ensures.cases.0, λ f. refl);
  reads = tt;
  refused = c.in-Err.ensures.cases.0;
  exact = answers_exactly c.args.bytes.now (Err r.Utf8) c.in-Err.ensures.cases.0;
}
