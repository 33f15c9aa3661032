use Rattle.ng_selectors.proofs.Sound.{sound, same_reading, no_reading}
use Rattle.ng_selectors.proofs.read_selector.Goals as goal

pub returns-in-Ok-clause-reads : goal.returns-in-Ok-clause-reads
returns-in-Ok-clause-reads c = sound _ _ c.in-Ok.ensures

pub returns-in-Ok-clause-exact : goal.returns-in-Ok-clause-exact
returns-in-Ok-clause-exact c = λ s. same_reading _ _ s c.in-Ok.ensures

pub returns-in_ok-refusal-in-Err-Syntax-clause-refused : goal.returns-in_ok-refusal-in-Err-Syntax-clause-refused
returns-in_ok-refusal-in-Err-Syntax-clause-refused c =
    let told = c.in_ok-refusal-in-Err-Syntax.ensures in
    (told.0, told.1, told.2, no_reading c.args.text.now (rw c.in-Err-Syntax.field-0-is at c.in-Err-Syntax.ensures))

pub returns-in_ok-refusal-in-Err-Syntax-clause-exact : goal.returns-in_ok-refusal-in-Err-Syntax-clause-exact
returns-in_ok-refusal-in-Err-Syntax-clause-exact c = λ s h. absurd (no_reading c.args.text.now (rw c.in-Err-Syntax.field-0-is at c.in-Err-Syntax.ensures) s h)
