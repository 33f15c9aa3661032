use Rattle.std.proofs.Common.{ℕ, List, arith, inl, inr}
use Rattle.ng_outside.specs.Causes.{Rose}
use Rattle.ng_cli.specs.Words.{Task, Runs, Checks}
use Rattle.ng_cli.specs.Allowed.{Told}
use Rattle.ng_cli.specs.Causes.{EventsFailed}
use Rattle.test_program.proofs.cli.surely.Goals as goal

-- where no fetch fails, none of the events does
no_events : (task : Task) (told : Told) (before after : List ℕ → ℕ) → EventsFailed task told before after → ((name : List ℕ) → Rose (before name) (after name) → ⊥) → ⊥
no_events (Runs app events) told before after failed none = none events failed.0
no_events (Checks app) told before after failed none = failed

pub returns-clause-file : goal.returns-clause-file
returns-clause-file c = λ h.
    let f = c.ivy.ensures.five h in
    elim f.rose [ inl r ↦ omega arith | inr r ↦ no_events f.task _ _ _ r (λ name rose. omega (arith, rose)) ]

pub returns-clause-output : goal.returns-clause-output
returns-clause-output c = λ h. let r = c.ivy.ensures.six h in omega arith
