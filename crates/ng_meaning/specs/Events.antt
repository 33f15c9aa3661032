-- What an event does to what an application holds.
use Rattle.std.specs.Prelude.{ℕ, zero, suc, ◌+◌, Bool, true, false, not, ◌&&◌, nat_lt, if◌then◌else◌, List, [], ◌∷◌, ◌++◌, reverse, Option, Some, None, Result, Ok, Err, codes, unwrap_or}
use Rattle.std.specs.List.{list_any}
use Rattle.ng_values.specs.declared.value.Value.{Value}
use Rattle.ng_values.specs.declared.value.Value.TheVariants as val
use Rattle.ng_values.specs.declared.fault.Fault.{Fault}
use Rattle.ng_values.specs.declared.fault.Fault.TheVariants.{NullRead, NoMember, CallTooDeep, HandlerLimit}
use Rattle.ng_values.specs.Calls.{argument}
use Rattle.ng_values.specs.Kinds.{truth}
use Rattle.ng_ast.specs.declared.App.{App}
use Rattle.ng_ast.specs.declared.Expr.{Expr}
use Rattle.ng_ast.specs.declared.Stmt.{Stmt, out-Stmt, size-Stmt}
use Rattle.ng_ast.specs.declared.Stmt.TheOpen.{Stmt-F}
use Rattle.ng_ast.specs.declared.Owner.{Owner}
use Rattle.ng_ast.specs.declared.Owner.TheVariants as owner
use Rattle.ng_ast.specs.declared.AttrForm.{AttrForm}
use Rattle.ng_ast.specs.declared.AttrForm.TheVariants as form
use Rattle.ng_ast.specs.declared.Member.{Member}
use Rattle.ng_ast.specs.declared.MemberKind.{MemberKind}
use Rattle.ng_ast.specs.declared.MemberKind.TheVariants as kind
use Rattle.ng_tree.specs.declared.Step.TheVariants as step
use Rattle.ng_tree.specs.declared.NodeId.{NodeId}
use Rattle.ng_tree.specs.declared.Site.{Site}
use Rattle.ng_tree.specs.declared.Site.TheVariants as site
use Rattle.ng_tree.specs.declared.Item.{Item}
use Rattle.ng_tree.specs.declared.Item.TheVariants as item
use Rattle.ng_turns.specs.declared.Event.{Event}
use Rattle.ng_turns.specs.declared.Event.TheVariants as event
use Rattle.ng_turns.specs.declared.Outcome.{Outcome}
use Rattle.ng_turns.specs.declared.Outcome.TheVariants as outcome
use Rattle.ng_meaning.specs.Steps.{Steps, ◌>>=◌, ◌>>◌, pure, fail, change, get, each, all}
use Rattle.ng_meaning.specs.Levels.{whole}
use Rattle.ng_meaning.specs.Lists.{Text, look}
use Rattle.ng_meaning.specs.Declared.{member, initial}
use Rattle.ng_meaning.specs.Same.{same_value, same_path}
use Rattle.ng_meaning.specs.World.{World, Held, held, value_or_null, written}
use Rattle.ng_meaning.specs.Expressions.{Scope, Meaning, mean, mean_value, item_index, own_name, bodies, most_calls}
use Rattle.ng_meaning.specs.Template.{Form, Host, node_at, attributes}
use Rattle.ng_meaning.specs.Places.{Trail, Outlines, instance_at, outlines}
use Rattle.ng_meaning.specs.Init.{Setting}
use Rattle.ng_meaning.specs.Injection.{resolved}
use Rattle.ng_meaning.specs.Tree.{Marks, none_marked, either, Tree, State, names_seen}
use Rattle.ng_meaning.specs.Queries.{found}
use Rattle.ng_meaning.specs.Page.{page}
use Rattle.ng_meaning.specs.Targets.{Listener, listener, with_attribute, event_way, way_listeners}

-- ---- statements

-- What an event has done so far: what is held, how many statements and how many calls of getters and declared pipes were counted, the instances that
-- were marked, and whether the event was stopped on its way.
pub record Doing : Type 0 where
  pub world : World
  pub statements : ℕ
  pub calls : ℕ
  pub marks : Marks
  pub stopped : Bool

-- a step of an event
abbrev pub Act : Type 0 → Type 0
Act = Steps Doing Fault

-- where a statement stands: the names that it sees, and the site that it belongs to
pub record Frame : Type 0 where
  pub names : List (Text × Item)
  pub own : Site

-- what the statements of a method or a listener do; none where no more calls may be open
abbrev pub Runner : Type 0
Runner = Option (Frame → List Stmt → Act (Unit {0}))

-- a call of a method or a listener is opened
abbrev pub opened : Runner → ((Frame → List Stmt → Act (Unit {0})) → Act (Unit {0})) → Act (Unit {0})
opened None call = fail CallTooDeep
opened (Some run) call = call run

-- A statement is counted. The 10,001st of an event is too many, and isn't run.
abbrev pub counted : Act (Unit {0})
counted = λ d. let more = record d { statements = d.statements + 1 } in elim (nat_lt d.statements 10000) [ true ↦ (Ok tt, more) | false ↦ (Err HandlerLimit, more) ]

-- an instance and its ancestors, that is the instances at the beginnings of its path
abbrev pub with_ancestors : Trail → List Trail
with_ancestors [] = [] ∷ []
with_ancestors (step.Child n ∷ p) = (step.Child n ∷ p) ∷ with_ancestors p
with_ancestors (s ∷ p) = with_ancestors p

-- the instance of a host
abbrev pub instance_of : Trail → ℕ → Form → List Trail
instance_of p n (Host c tag attrs nodes) = (step.Child n ∷ p) ∷ []
instance_of p n f = []

-- the instance whose template has a view
abbrev pub unit_of : Outlines → Trail
unit_of [] = []
unit_of (o ∷ outer) = o.unit

-- the parameters of a method with their arguments: missing ones are null, surplus ones are dropped
abbrev pub parameters : List Text → List Value → List (Text × Item)
parameters [] ws = []
parameters (p ∷ ps) [] = (p, item.Value val.Null) ∷ parameters ps []
parameters (p ∷ ps) (w ∷ ws) = (p, item.Value w) ∷ parameters ps ws

-- what the owner of a call is: an own signal, an own output, or what a name gives
pub data Owned : Type 0 where
  OwnSignal : Owned
  OwnOutput : Owned
  Named : Owned

-- what a member is as an owner
abbrev pub owned : MemberKind → Owned
owned (kind.Signal w) = OwnSignal
owned kind.Output = OwnOutput
owned _ = Named

-- what the member of a name is as an owner
abbrev pub owned_member : Option Member → Owned
owned_member None = Named
owned_member (Some m) = owned m.kind

-- what a name of a site is as an owner
abbrev pub owned_name : Option Held → Text → Owned
owned_name None name = Named
owned_name (Some h) name = owned_member (member name h.members)

-- what a name is as an owner, where names of the frame hide members
abbrev pub owner_of : Frame → Text → World → Owned
owner_of f name world = elim (look name f.names) [ Some i ↦ Named | None ↦ owned_name (held world f.own) name ]

-- The start of a listener marks the instance that declares it, that one's ancestors, and on a host the host's instance.
abbrev pub marked_by : App → Listener → Marks
marked_by app l = λ p. list_any (same_path p) (with_ancestors (unit_of (outlines app l.path)) ++ instance_of l.path l.number l.form)

-- the listener started
abbrev pub started : App → Listener → Act (Unit {0})
started app l = change (λ d. record d { marks = either d.marks (marked_by app l) })

-- something done unless the event was stopped
abbrev pub unless_stopped : Act (Unit {0}) → Act (Unit {0})
unless_stopped m = get >>= (λ d. if d.stopped then pure tt else m)

-- Listeners one after another. After one in which the event was stopped none is started, and none after a fault.
abbrev pub in_turn : (Listener → Act (Unit {0})) → List Listener → Act (Unit {0})
in_turn run [] = pure tt
in_turn run (l ∷ ls) = run l >> unless_stopped (in_turn run ls)

-- nothing happens on null
abbrev pub unless_null : Item → Act (Unit {0}) → Act (Unit {0})
unless_null (item.Value val.Null) m = pure tt
unless_null i m = m

-- Given the tree that is shown.
module _ (app : App) (tree : Tree) where
  -- what an expression of a statement sees: names and queries as of the last pass, fields and signals as they are now
  abbrev pub frame_scope : Frame → World → Scope
  frame_scope f world = record { app = app; world = world; names = f.names; own = Some f.own; found = found app tree }

  -- what something means to a statement; the calls of one event are counted together
  abbrev pub meant : {A : Type 0} → Frame → (Scope → Meaning A) → Act A
  meant f m = λ d. let r = m (frame_scope f d.world) (record { calls = d.calls; reads = [] }) in (r.0, record d { calls = r.1.calls })

  -- a value written
  abbrev pub write : Site → Text → Value → Act (Unit {0})
  write at name w = change (λ d. record d { world = written at name w d.world })

  -- Given how many calls may still be opened, and what a method or a listener does that is opened here.
  module _ (left : ℕ) (runner : Runner) where
    -- an expression whose value is needed
    abbrev pub value_in : Frame → Expr → Act Value
    value_in f e = meant f (λ s. mean_value left s e)

    -- arguments from left to right
    abbrev pub values_in : Frame → List Expr → Act (List Value)
    values_in f = all (value_in f)

    -- what a name gives
    abbrev pub named_item : Frame → Text → Act Item
    named_item f name = elim (look name f.names) [ Some i ↦ pure i | None ↦ meant f (λ s. own_name (bodies left) s (Some f.own) name) ]

    -- a method with its arguments
    abbrev pub run_method : Site → MemberKind → List Value → Act (Unit {0})
    run_method at (kind.Method ps ss) args = opened runner (λ run. run (record { names = parameters ps args; own = at }) ss)
    run_method at _ args = fail NoMember

    -- the method that a member is
    abbrev pub member_method : Site → Option Member → List Value → Act (Unit {0})
    member_method at None args = fail NoMember
    member_method at (Some m) args = run_method at m.kind args

    -- the method of a name of what a site holds
    abbrev pub held_method : Site → Text → List Value → Option Held → Act (Unit {0})
    held_method at name args None = fail NoMember
    held_method at name args (Some h) = member_method at (member name h.members) args

    -- a method of a site, by its name
    abbrev pub call_method : Site → Text → List Value → Act (Unit {0})
    call_method at name args = get >>= (λ d. held_method at name args (held d.world at))

    -- a method of what an owner gave; values and lists of sites have none, and null has a fault of its own
    abbrev pub send : Fault → Item → Text → List Value → Act (Unit {0})
    send on_null (item.Value val.Null) name args = fail on_null
    send on_null (item.Value w) name args = fail NoMember
    send on_null (item.Site at) name args = call_method at name args
    send on_null (item.Sites ats) name args = fail NoMember

    -- the statements of a listener of the view at a path; that of `[(x)]="y"` is one assignment to y
    abbrev pub listener_body : (Frame → List Stmt → Act (Unit {0})) → Trail → Value → AttrForm → Act (Unit {0})
    listener_body run p event (form.Listener ss) =
        let os = outlines app p in run (record { names = (codes "$event", item.Value event) ∷ names_seen tree.views os; own = instance_at (unit_of os) }) ss
    listener_body run p event (form.Both y) = counted >> write (instance_at (unit_of (outlines app p))) y event
    listener_body run p event _ = pure tt

    -- a listener is opened, and then started
    abbrev pub run_listener : Value → Listener → Act (Unit {0})
    run_listener event l = opened runner (λ run. started app l >> listener_body run l.path event l.attribute.form)

    -- the listener for an output on the host with a number
    abbrev pub run_output : ℕ → Text → Value → Outlines → Act (Unit {0})
    run_output n output w [] = pure tt
    run_output n output w (o ∷ outer) =
        elim (node_at n o.nodes) [ None ↦ pure tt | Some q ↦ each (run_listener w) (with_attribute o.path n q.form (listener output (attributes q.form))) ]

    -- `emit` of an instance runs the host's listener for that output at once; the root instance has none
    abbrev pub emit_from : Trail → Text → Value → Act (Unit {0})
    emit_from (step.Child n ∷ p) output w = run_output n output w (outlines app p)
    emit_from p output w = pure tt

    -- `emit` of a site
    abbrev pub emit : Site → Text → Value → Act (Unit {0})
    emit (site.Component p) output w = emit_from (reverse p) output w
    emit at output w = pure tt

    -- `x.m(..)`: an own signal is set, an own output emits, and a method of another owner is called
    abbrev pub send_name : Frame → Text → Text → List Expr → Owned → Act (Unit {0})
    send_name f to name args OwnSignal = values_in f args >>= (λ ws. write f.own to (argument 0 ws))
    send_name f to name args OwnOutput = values_in f args >>= (λ ws. emit f.own to (argument 0 ws))
    send_name f to name args Named = do
      i ← named_item f to
      ws ← values_in f args
      send NullRead i name ws

    -- `x.m(..)`, `x?.m(..)` and `x[e].m(..)`; on null the second ends before its arguments
    abbrev pub send_owner : Frame → Owner → Text → List Expr → Act (Unit {0})
    send_owner f (owner.Name p to) name args = get >>= (λ d. send_name f to name args (owner_of f to d.world))
    send_owner f (owner.Safe p to) name args = named_item f to >>= (λ i. unless_null i (values_in f args >>= send NullRead i name))
    send_owner f (owner.Item p to e) name args = do
      i ← named_item f to
      at ← meant f (λ s. mean left s e)
      j ← meant f (λ s. item_index i at)
      ws ← values_in f args
      send NullRead j name ws

    -- what a statement does with its operands, given what those inside do
    abbrev pub act_with : (Stmt → Frame → Act (Unit {0})) → Stmt-F Stmt → Frame → Act (Unit {0})
    act_with inner (Stmt-F.Set p name e) f = value_in f e >>= write f.own name
    act_with inner (Stmt-F.Do p name args) f = values_in f args >>= call_method f.own name
    act_with inner (Stmt-F.Send p o name args) f = send_owner f o name args
    act_with inner (Stmt-F.If p c ss others) f = value_in f c >>= (λ w. if truth w then each (λ s. inner s f) ss else each (λ s. inner s f) others)

    -- one level of a statement: it is counted, then its operands are taken, and then it acts
    abbrev pub act_layer : (Stmt → Frame → Act (Unit {0})) → Stmt-F Stmt → Frame → Act (Unit {0})
    act_layer inner l f = counted >> act_with inner l f

    -- a statement
    abbrev pub act : Stmt → Frame → Act (Unit {0})
    act = whole out-Stmt size-Stmt (λ f. pure tt) act_layer

  -- what the statements of a method or a listener do, where n calls may still be opened, it among them
  abbrev pub runner : ℕ → Runner
  runner zero = None
  runner (suc n) = Some (λ f. each (λ s. act n (runner n) s f))

  -- an event on its way: each listener is the first open call, and their statements and calls are counted together
  abbrev pub on_event : Value → List Listener → Act (Unit {0})
  on_event event = in_turn (run_listener most_calls (runner most_calls) event)

  -- in an event, something done to what is held
  abbrev pub setting : {A : Type 0} → Setting A → Act A
  setting m = λ d. let r = m d.world in (r.0, record d { world = r.1 })

  -- A `call` finds its token from the bootstrap's environment, bears the services that are new, and runs the method, which is the first open call.
  abbrev pub call_event : Text → Text → List Value → Act (Unit {0})
  call_event token name args = setting (resolved app None token []) >>= (λ i. send most_calls (runner most_calls) NoMember i name args)

-- ---- the signals that an event changed

-- the value that a member of a site had before an event; for a site that was born in it, the initial value
abbrev pub value_before : World → Site → Member → Value
value_before before at m = elim (held before at) [ None ↦ unwrap_or (initial m.kind) val.Null | Some h ↦ unwrap_or (look m.name h.values) val.Null ]

-- the signals of a site
abbrev pub is_signal : MemberKind → Bool
is_signal (kind.Signal w) = true
is_signal _ = false

-- whether a member, if there is one, is a signal whose value differs from that before an event
abbrev pub differs_at : World → World → Site → Option Member → Bool
differs_at before after at None = false
differs_at before after at (Some m) = is_signal m.kind && not (same_value (value_before before at m) (value_or_null after at m.name))

-- the member of a name of what a site holds
abbrev pub held_member : Text → Option Held → Option Member
held_member name None = None
held_member name (Some h) = member name h.members

-- Signals, as a test of their sites and names.
abbrev pub Signals : Type 0
Signals = Site → Text → Bool

-- the signals that an event changed
abbrev pub changed_signals : World → World → Signals
changed_signals before after at name = differs_at before after at (held_member name (held after at))

-- ---- the event

-- whether an event asks for a pass: a listener or a method was started, or a token was looked for
abbrev pub asks_pass : Outcome → Bool
asks_pass outcome.Ran = true
asks_pass (outcome.Faulted f) = true
asks_pass _ = false

-- the result of an event, what is held after it, the instances that were marked, and the signals whose value differs from that before the event
pub record Handled : Type 0 where
  pub outcome : Outcome
  pub world : World
  pub marks : Marks
  pub changed : Signals

-- whether there was a fault
abbrev pub outcome_of : Result (Unit {0}) Fault → Outcome
outcome_of (Ok _) = outcome.Ran
outcome_of (Err f) = outcome.Faulted f

-- what an event leaves that did something; a fault keeps what was written
abbrev pub handled : World → Result (Unit {0}) Fault × Doing → Handled
handled before r = record { outcome = outcome_of r.0; world = r.1.world; marks = r.1.marks; changed = changed_signals before r.1.world }

-- an event that did nothing
abbrev pub nothing_done : Outcome → World → Handled
nothing_done came world = record { outcome = came; world = world; marks = none_marked; changed = λ at name. false }

-- before an event has done anything
abbrev pub idle : World → Doing
idle world = record { world = world; statements = 0; calls = 0; marks = none_marked; stopped = false }

module _ (app : App) (z : State) where
  -- an event for which these listen
  abbrev pub on_listeners : Value → List Listener → Handled
  on_listeners event [] = nothing_done outcome.NoListener z.world
  on_listeners event (l ∷ ls) = handled z.world (on_event app z.tree event (l ∷ ls) (idle z.world))

  -- an event that goes this way
  abbrev pub on_way : Text → Value → Option (List NodeId) → Handled
  on_way name event None = nothing_done outcome.NoTarget z.world
  on_way name event (Some way) = on_listeners event (way_listeners app name way)

  -- What an event does. The tree stays as it is until the next pass. To hold passes back, and to let them follow, does nothing by itself.
  unfoldable pub handle : Event → Handled
  handle (event.On name tag n value) = on_way name value (event_way (page app z.tree) tag n)
  handle (event.Call token name args) = handled z.world (call_event app z.tree token name args (idle z.world))
  handle event.Hold = nothing_done outcome.Held z.world
  handle event.Flush = nothing_done outcome.Flushed z.world
