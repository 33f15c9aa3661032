-- The lines of a run with those of its operations, which may be any that are frugal.
use Rattle.std.specs.Prelude.{◌≡◌, ℕ, suc, Bool, if◌then◌else◌, List, [], ◌∷◌, ◌++◌, map, length, Option, Some, None, codes}
use Rattle.std.specs.Fmt.{decimal}
use Rattle.ng_values.specs.declared.value.Value.TheVariants as val
use Rattle.ng_values.specs.Json.{json}
use Rattle.ng_values.specs.View.{plain}
use Rattle.ng_ast.specs.declared.App.{App}
use Rattle.ng_turns.specs.declared.Event.{Event}
use Rattle.ng_turns.specs.declared.Op.{Op}
use Rattle.ng_turns.specs.declared.Op.TheVariants as op
use Rattle.ng_meaning.specs.Lists.{Text}
use Rattle.ng_meaning.specs.Printing.{html}
use Rattle.ng_meaning.specs.Runs.{Turn, run_with}
use Rattle.ng_meaning.specs.Lines.{Wanted, event_lines, check_lines, report_lines, last_lines}
use Rattle.ng_meaning.specs.Operations.{Numbered, nothing_numbered, AreOps}

-- a text as JSON
abbrev pub text_json : Text → Text
text_json t = json (plain (val.Text t))

-- the node before which one is placed, or the end
abbrev pub before_text : Option ℕ → Text
before_text None = codes "-"
before_text (Some b) = decimal b

-- the line of an operation
abbrev pub op_line : Op → Text
op_line (op.MakeElement s tag) = codes "op make " ++ decimal s ++ 32 ∷ tag
op_line (op.MakeText s) = codes "op make " ++ decimal s ++ codes " #text"
op_line (op.SetAttribute s name w) = codes "op attr " ++ decimal s ++ 32 ∷ name ++ 32 ∷ text_json w
op_line (op.ClearAttribute s name) = codes "op unattr " ++ decimal s ++ 32 ∷ name
op_line (op.SetText s t) = codes "op text " ++ decimal s ++ 32 ∷ text_json t
op_line (op.Place s p b) = codes "op place " ++ decimal s ++ 32 ∷ decimal p ++ 32 ∷ before_text b
op_line (op.Unplace s) = codes "op unplace " ++ decimal s
op_line (op.End s) = codes "op drop " ++ decimal s

-- The operations of the turns of a run, from numbered nodes on: those of each pass, and none where no pass ran.
abbrev pub AreOpsOf : App → Numbered → List Turn → List (List Op) → Type 0
AreOpsOf app old [] [] = Unit {0}
AreOpsOf app old (t ∷ ts) (ops ∷ rest) = elim t.checked [
  | None ↦ (ops ≡ []) × AreOpsOf app old ts rest
  | Some ps ↦ (new : Numbered) × AreOps app t.state.tree old ops new × AreOpsOf app new ts rest
]
AreOpsOf app old _ _ = ⊥

module _ (app : App) (wanted : Wanted) (with_ops : Bool) where
  -- the lines of a turn, which is number k, with those of its operations
  abbrev pub written_turn : ℕ → Turn → List Op → List Text
  written_turn k t ops =
      event_lines k t.outcome ++ (if wanted.traces then check_lines app t.checked else []) ++ (if with_ops then map op_line ops else []) ++ (codes "page " ++ decimal k)
      ∷ html t.page ∷ (if wanted.reports then report_lines app t.state else [])

  -- the lines of turns, of which the first is number k
  abbrev pub written_from : ℕ → List Turn → List (List Op) → List Text
  written_from k [] opss = []
  written_from k (t ∷ ts) [] = written_turn k t [] ++ written_from (suc k) ts []
  written_from k (t ∷ ts) (ops ∷ opss) = written_turn k t ops ++ written_from (suc k) ts opss

  -- The run over events, in which every instance is checked or those alone that are due, may write these lines.
  pub record MayWrite (every : Bool) (es : List Event) (ls : List Text) : Type 0 where
    pub ops : List (List Op)
    pub are : AreOpsOf app nothing_numbered (run_with app every es).turns ops
    pub lines : ls ≡ written_from 0 (run_with app every es).turns ops ++ last_lines app wanted (length (run_with app every es).turns) (length es) (run_with app every es).ended
