-- What the words of a call ask for.
use Rattle.std.specs.Prelude.{Bool, false, ◌||◌, List, [], ◌∷◌, Option, Some, None, codes, option_map, if◌then◌else◌, bytes_eq}
use Rattle.std.specs.Option.{option_map_or}
use Rattle.clap.specs.Words.{Kinds, Row, Text, fault_of, first_of, matches_of}
use Rattle.ng_words.specs.declared.order.Flags.{Flags}
use Rattle.ng_words.specs.declared.order.Order.{Order}
use Rattle.ng_words.specs.declared.order.Order.TheVariants as order
use Rattle.ng_words.specs.Command.{command}

-- An order with its words as texts.
pub data Asked : Type 0 where
  -- `run [--every] [--ops] [--report] [--trace] APP EVENTS`
  Run : Flags → Text → Text → Asked
  -- `check APP`
  Check : Text → Asked
  -- `compile APP`
  Compile : Text → Asked

-- What `clap` found in words that it takes.
pub record Given : Type 0 where
  pub command : Option Text
  pub first : Option Text
  pub second : Option Text
  pub flags : Flags

-- a flag that was given has the value `true`
abbrev pub is_set : Option Text → Bool
is_set value = option_map_or (λ t. bytes_eq t (codes "true")) value false

abbrev pub given_in : List Row → Given
given_in rows = record {
  command = first_of (codes "command") rows;
  first = first_of (codes "first") rows;
  second = first_of (codes "second") rows;
  flags = record {
    every = is_set (first_of (codes "every") rows);
    ops = is_set (first_of (codes "ops") rows);
    report = is_set (first_of (codes "report") rows);
    trace = is_set (first_of (codes "trace") rows);
  };
}

abbrev pub has_flag : Flags → Bool
has_flag f = f.every || (f.ops || (f.report || f.trace))

-- the one file, where no other and no flag stands beside it
abbrev pub lone_file : Flags → Option Text → Option Text → Option Text
lone_file flags (Some app) None = if has_flag flags then None else Some app
lone_file flags (Some app) (Some other) = None
lone_file flags None second = None

abbrev pub both : Flags → Option Text → Option Text → Option Asked
both flags (Some app) (Some events) = Some (Run flags app events)
both flags (Some app) None = None
both flags None second = None

-- the row of the table that a word has
abbrev pub row_of : Text → Flags → Option Text → Option Text → Option Asked
row_of name flags first second =
    if bytes_eq name (codes "run") then both flags first second
    else (if bytes_eq name (codes "check") then option_map Check (lone_file flags first second)
    else (if bytes_eq name (codes "compile") then option_map Compile (lone_file flags first second) else None))

abbrev pub row_by : Option Text → Flags → Option Text → Option Text → Option Asked
row_by None flags first second = None
row_by (Some name) flags first second = row_of name flags first second

-- what is asked by words that `clap` takes
abbrev pub asked_in : Given → Option Asked
asked_in g = row_by g.command g.flags g.first g.second

-- nothing is asked where `clap` finds a fault
abbrev pub unless_refused : Kinds → Option Asked → Option Asked
unless_refused [] ask = ask
unless_refused (kind ∷ kinds) ask = None

-- What is asked by the words, if `clap` takes them and the table has their row.
unfoldable pub asked : List Text → Option Asked
asked words = unless_refused (fault_of command words) (asked_in (given_in (matches_of command words)))

-- an order of the code
abbrev pub meant : Order → Asked
meant (order.Run flags app events) = Run flags app.now events.now
meant (order.Check app) = Check app.now
meant (order.Compile app) = Compile app.now
