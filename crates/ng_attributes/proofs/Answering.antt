-- How one answer leads to another.
use Rattle.ng_ast.specs.declared.refusals.ReadError.{ReadError}
use Rattle.ng_ast.specs.declared.refusals.ReadError.TheVariants as r
use Rattle.ng_exprs.specs.Reading.{Refused}
use Rattle.ng_attributes.specs.declared.stop.Stop.{Stop}
use Rattle.ng_attributes.specs.declared.stop.Stop.TheVariants as h
use Rattle.ng_attributes.specs.Answers.{Halts, Stops}

pub halts_as : (N N' O O' : Type 0) (e : Stop) → (N → N') → (O → O') → Halts N O e → Halts N' O' e
halts_as N N' O O' (h.Syntax p) f g k = f k
halts_as N N' O O' h.Limit f g k = g k
halts_as N N' O O' h.Memory f g k = tt

-- a refusal, as it is told
pub stopped : (N O : Type 0) (x : ReadError) (e : Stop) → Refused N O x → Stops x e → Halts N O e
stopped N O r.Utf8 e k m = absurd k
stopped N O (r.Syntax f) (h.Syntax p) k m = k.2
stopped N O (r.Syntax f) h.Limit k m = absurd m
stopped N O (r.Syntax f) h.Memory k m = absurd m
stopped N O (r.Limit f) (h.Syntax p) k m = absurd m
stopped N O (r.Limit f) h.Limit k m = k.2
stopped N O (r.Limit f) h.Memory k m = absurd m
stopped N O r.Memory (h.Syntax p) k m = absurd m
stopped N O r.Memory h.Limit k m = absurd m
stopped N O r.Memory h.Memory k m = tt
