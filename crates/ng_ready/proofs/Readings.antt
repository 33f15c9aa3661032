-- Applications that are read within the limits are sized.
use Rattle.std.proofs.lemmas.List.Elements.{All-contains}
use Rattle.ng_ast.specs.declared.App.{App}
use Rattle.ng_ast.specs.declared.Decl.TheVariants as decl
use Rattle.ng_tokens.specs.Lexis.{Text}
use Rattle.ng_app.specs.Reading.{ReadsApp, OverApp, TemplateKeepsLimits}
use Rattle.ng_app.proofs.Public.{templates_keep_limits}
use Rattle.ng_sizes.proofs.Whole.{few_of_parts, shallow_of_parts}
use Rattle.ng_ready.specs.Sized.{AreSized}

pub sized : (t : Text) (app : App) → ReadsApp t app → (OverApp t → ⊥) → AreSized app
sized t app reads calm = λ c among.
    let kept : TemplateKeepsLimits (decl.Component c) = All-contains TemplateKeepsLimits app.decls (decl.Component c) (templates_keep_limits t app reads calm) among in (
      shallow_of_parts kept.0 c.template.nodes kept.1 kept.2,
      few_of_parts kept.0 c.template.nodes kept.1 kept.2,
    )
