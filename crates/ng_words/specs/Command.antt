-- The command line, as `clap` knows it.
use Rattle.std.specs.Prelude.{Some, true, codes}
use Rattle.clap.specs.Words.{App, Rule, Text, new_app, new_rule, with_rule}
use Rattle.clap.specs.declared.builder.action.ArgAction.TheVariants.{Set, SetTrue}

-- a word that may be left out with those that follow it
abbrev pub positional : Text → Rule
positional id = record (new_rule id) { action = Some Set }

-- a flag with two signs, which may be left out
abbrev pub flag : Text → Rule
flag id = record (new_rule id) { long = Some id; action = Some SetTrue }

-- a program whose words don't begin with its own name
abbrev pub nameless : App → App
nameless app = record app { top = record app.top { no_binary_name = true } }

-- Three words and four flags. What asks for help is there besides, as `clap` adds it.
unfoldable pub command : App
command =
    with_rule (with_rule (with_rule (with_rule (with_rule (with_rule (with_rule (nameless (new_app (codes "ivy")))
    (positional (codes "command"))) (positional (codes "first"))) (positional (codes "second")))
    (flag (codes "every"))) (flag (codes "ops"))) (flag (codes "report"))) (flag (codes "trace"))
