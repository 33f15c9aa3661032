-- What the check of an application answers.
use Rattle.std.specs.Prelude.{◌≡◌, Result, Ok, Err}
use Rattle.ng_ast.specs.declared.App.{App}
use Rattle.ng_rules.specs.declared.checker.CheckError.{CheckError}
use Rattle.ng_rules.specs.declared.checker.CheckError.TheVariants as error
use Rattle.ng_rules.specs.Breaks.{IsSound, IsLeastBreak}

-- Sound, and the application itself; or the least break with the application back; or memory ran out, with the application back.
abbrev pub Answers : App → Result App CheckError → Type 0
Answers app (Ok sound) = (sound ≡ app) × IsSound app
Answers app (Err (error.Refused refusal back)) = (back ≡ app) × IsLeastBreak app refusal
Answers app (Err (error.Memory back)) = back ≡ app
