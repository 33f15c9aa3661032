-- What an expression means: an item or its first fault, the calls that it made, and the signals that it read.
use Rattle.std.specs.Prelude.{ℕ, zero, suc, ◌+◌, pos, Bool, true, false, not, nat_lt, if◌then◌else◌, List, [], ◌∷◌, map, length, slice_get, Option, Some, None, Result, Ok, Err, codes, bytes_eq}
use Rattle.std.specs.List.{concat, zip}
use Rattle.ng_values.specs.declared.value.Value.{Value}
use Rattle.ng_values.specs.declared.value.Value.TheVariants as val
use Rattle.ng_values.specs.declared.fault.Fault.{Fault}
use Rattle.ng_values.specs.declared.fault.Fault.TheVariants.{WrongKind, NoMember, NullRead, ValueTooLarge, CallTooDeep, CallLimit}
use Rattle.ng_values.specs.Add.{add}
use Rattle.ng_values.specs.Calls.{invoked}
use Rattle.ng_values.specs.Kinds.{truth}
use Rattle.ng_values.specs.Make.{list_of, rec_of}
use Rattle.ng_values.specs.Numbers.{difference, product, quotient, remainder, precedes}
use Rattle.ng_values.specs.Parts.{indexed, part}
use Rattle.ng_values.specs.Text.{text}
use Rattle.ng_values.specs.View.{plain}
use Rattle.ng_pipes.specs.declared.builtin.PipeId.{PipeId}
use Rattle.ng_pipes.specs.declared.builtin.PipeId.TheVariants as builtin
use Rattle.ng_pipes.specs.Pipes.{applied}
use Rattle.ng_ast.specs.declared.App.{App}
use Rattle.ng_ast.specs.declared.Expr.{Expr, out-Expr, size-Expr}
use Rattle.ng_ast.specs.declared.Expr.TheOpen.{Expr-F}
use Rattle.ng_ast.specs.declared.Unary.{Unary}
use Rattle.ng_ast.specs.declared.Unary.TheVariants as unary
use Rattle.ng_ast.specs.declared.Binary.{Binary}
use Rattle.ng_ast.specs.declared.Binary.TheVariants as binary
use Rattle.ng_ast.specs.declared.Piece.{Piece}
use Rattle.ng_ast.specs.declared.Piece.TheVariants as piece
use Rattle.ng_ast.specs.declared.Pipe.{Pipe}
use Rattle.ng_ast.specs.declared.Member.{Member}
use Rattle.ng_ast.specs.declared.MemberKind.{MemberKind}
use Rattle.ng_ast.specs.declared.MemberKind.TheVariants as kind
use Rattle.ng_ast.specs.declared.QueryKind.{QueryKind}
use Rattle.ng_ast.specs.declared.QueryKind.TheVariants as query
use Rattle.ng_tree.specs.declared.Site.{Site}
use Rattle.ng_tree.specs.declared.Item.{Item}
use Rattle.ng_tree.specs.declared.Item.TheVariants as item
use Rattle.ng_meaning.specs.Steps.{Steps, ◌>>=◌, ◌>>◌, pure, fail, change, all}
use Rattle.ng_meaning.specs.Levels.{whole}
use Rattle.ng_meaning.specs.Lists.{Text, look}
use Rattle.ng_meaning.specs.Declared.{pipe, member}
use Rattle.ng_meaning.specs.Same.{same_value}
use Rattle.ng_meaning.specs.World.{World, Held, Read, held, value_or_null, add_read}

-- ---- what is seen, and what is noted

-- What an expression sees: the application, what it holds, the names of block variables, `@let`s, references and parameters, the innermost first,
-- then the members of a site, and what each query of an instance finds.
pub record Scope : Type 0 where
  pub app : App
  pub world : World
  pub names : List (Text × Item)
  pub own : Option Site
  pub found : Site → Member → List Site

-- the same, seen from a site's own members alone
abbrev pub inside : Scope → Site → Scope
inside s at = record s { names = []; own = Some at }

-- the same, with these names alone
abbrev pub only : Scope → List (Text × Item) → Scope
only s names = record s { names = names; own = None }

-- What is noted on the way: how many getters and declared pipes were called, and the signals that were read, each once, in the order of the first
-- reading.
pub record Effects : Type 0 where
  pub calls : ℕ
  pub reads : List Read

-- nothing noted yet
abbrev pub no_effects : Effects
no_effects = record { calls = 0; reads = [] }

-- what something means: an answer or the first fault, and what was noted until then
abbrev pub Meaning : Type 0 → Type 0
Meaning = Steps Effects Fault

-- ---- items

-- what an operation on values gives
abbrev pub Answer : Type 0
Answer = Result Value Fault

-- a value as an item
abbrev pub value : Value → Meaning Item
value w = pure (item.Value w)

-- what an operation gives, as an item
abbrev pub answer : Answer → Meaning Item
answer (Ok w) = value w
answer (Err f) = fail f

-- The value, where one is needed: an instance, a service, an element or what a query finds is of the wrong kind.
abbrev pub need : Item → Meaning Value
need (item.Value w) = pure w
need (item.Site at) = fail WrongKind
need (item.Sites ats) = fail WrongKind

-- whether an item is null, which a site never is
abbrev pub is_null : Item → Bool
is_null (item.Value val.Null) = true
is_null _ = false

-- null, where nothing is there
abbrev pub or_null : Option Item → Item
or_null None = item.Value val.Null
or_null (Some i) = i

-- ---- operators, for operands that are both taken

-- the other truth value
abbrev pub negated : Answer → Answer
negated (Ok w) = Ok (val.Bool (not (truth w)))
negated (Err f) = Err f

-- a number as it is
abbrev pub number_itself : Value → Answer
number_itself (val.Int z) = Ok (val.Int z)
number_itself _ = Err WrongKind

-- `!`, `-` and `+` before an operand
abbrev pub prefixed : Unary → Value → Answer
prefixed unary.Not w = Ok (val.Bool (not (truth w)))
prefixed unary.Neg w = difference (val.Int (pos 0)) w
prefixed unary.Plus w = number_itself w

-- An operator between two operands. `==` and `===` are one, by kind and content.
abbrev pub operated : Binary → Value → Value → Answer
operated binary.Or a b = Ok (if truth a then a else b)
operated binary.And a b = Ok (if truth a then b else a)
operated binary.OrNull a b = Ok (if same_value a val.Null then b else a)
operated binary.Eq a b = Ok (val.Bool (same_value a b))
operated binary.Same a b = Ok (val.Bool (same_value a b))
operated binary.Ne a b = Ok (val.Bool (not (same_value a b)))
operated binary.NotSame a b = Ok (val.Bool (not (same_value a b)))
operated binary.Lt a b = precedes a b
operated binary.Gt a b = precedes b a
operated binary.Le a b = negated (precedes b a)
operated binary.Ge a b = negated (precedes a b)
operated binary.Add a b = add a b
operated binary.Sub a b = difference a b
operated binary.Mul a b = product a b
operated binary.Div a b = quotient a b
operated binary.Rem a b = remainder a b

-- the built-in pipe of a name
abbrev pub builtin_pipe : Text → Option PipeId
builtin_pipe = λ name. look name
    ((codes "uppercase", builtin.Uppercase) ∷ (codes "lowercase", builtin.Lowercase) ∷ (codes "slice", builtin.Slice) ∷ (codes "json", builtin.Json) ∷ (codes "length", builtin.Length) ∷ [])

-- what a built-in pipe makes of a value and its arguments; the rules refuse other names
abbrev pub piped : Option PipeId → List Value → Answer
piped None ws = Err WrongKind
piped (Some p) ws = applied p ws

-- ---- positions and members of items

-- the site at a number of what a query finds, and null out of range
abbrev pub site_at : Value → List Site → Meaning Item
site_at (val.Int (pos n)) ats = elim (slice_get ats n) [ None ↦ value val.Null | Some at ↦ pure (item.Site at) ]
site_at (val.Int z) ats = value val.Null
site_at _ ats = fail WrongKind

-- `a[e]`, of a value or of what a query finds
abbrev pub item_index : Item → Item → Meaning Item
item_index (item.Value val.Null) at = fail NullRead
item_index (item.Value w) at = need at >>= (λ i. answer (indexed w i))
item_index (item.Site s) at = fail NoMember
item_index (item.Sites ats) at = need at >>= (λ i. site_at i ats)

-- the first result of a query, or null
abbrev pub first_site : List Site → Item
first_site [] = item.Value val.Null
first_site (at ∷ ats) = item.Site at

-- whether a query gives its first result alone, as `viewchild` and `contentchild` do
abbrev pub gives_first : QueryKind → Bool
gives_first query.ViewChild = true
gives_first query.ContentChild = true
gives_first query.ViewChildren = false
gives_first query.ContentChildren = false

-- what the name of a query gives: all results, or the first one
abbrev pub query_item : QueryKind → List Site → Item
query_item k ats = if gives_first k then first_site ats else item.Sites ats

-- ---- getters, declared pipes and signals

-- A call of a getter or a declared pipe is counted. The 10,001st within one event or one binding is too many.
abbrev pub counted : Meaning (Unit {0})
counted = λ e. let more = record e { calls = e.calls + 1 } in elim (nat_lt e.calls 10000) [ true ↦ (Ok tt, more) | false ↦ (Err CallLimit, more) ]

-- what the body of a getter or a declared pipe means; none where no more calls may be open
abbrev pub Bodies : Type 0
Bodies = Option (Scope → Expr → Meaning Item)

-- a call is opened, unless too many are open
abbrev pub opened : Bodies → Scope → Expr → Meaning Item
opened None s e = fail CallTooDeep
opened (Some mean) s e = mean s e

-- a call of a getter or a declared pipe with this body: it is counted, and then opened
abbrev pub called : Bodies → Scope → Expr → Meaning Item
called bodies s e = counted >> opened bodies s e

-- the value of a signal, whose reading is noted
abbrev pub read_signal : World → Site → Text → Meaning Item
read_signal world at name =
    let w = value_or_null world at name in change (λ e. record e { reads = add_read (record { at = at; signal = name; value = w }) e.reads }) >> value w

-- what f makes of a site's member of a name
abbrev pub with_member : Scope → Site → Text → (Held → Member → Meaning Item) → Meaning Item
with_member s at name f = elim (held s.world at) [ None ↦ fail NoMember | Some h ↦ elim (member name h.members) [ None ↦ fail NoMember | Some m ↦ f h m ] ]

-- `a.name` of a site: its field, its input or its getter
abbrev pub site_member : Bodies → Scope → Site → Member → MemberKind → Meaning Item
site_member bodies s at m (kind.Field w) = value (value_or_null s.world at m.name)
site_member bodies s at m (kind.Input required w) = value (value_or_null s.world at m.name)
site_member bodies s at m (kind.Getter e) = called bodies (inside s at) e
site_member bodies s at m _ = fail NoMember

-- the name of an own member: a field, an input or a getter, what was injected, or what a query finds
abbrev pub own_member : Bodies → Scope → Site → Held → Member → MemberKind → Meaning Item
own_member bodies s at h m (kind.Inject token flags) = pure (or_null (look m.name h.items))
own_member bodies s at h m (kind.Query k aim descendants) = pure (query_item k (s.found at m))
own_member bodies s at h m k = site_member bodies s at m k

-- `a.name()` of a site: its signal
abbrev pub site_signal : Scope → Site → Member → MemberKind → Meaning Item
site_signal s at m (kind.Signal w) = read_signal s.world at m.name
site_signal s at m _ = fail NoMember

-- a name among the members of the own site
abbrev pub own_name : Bodies → Scope → Option Site → Text → Meaning Item
own_name bodies s None name = fail NoMember
own_name bodies s (Some at) name = with_member s at name (λ h m. own_member bodies s at h m m.kind)

-- a name, looked up from the innermost
abbrev pub name_item : Bodies → Scope → Text → Meaning Item
name_item bodies s name = elim (look name s.names) [ None ↦ own_name bodies s s.own name | Some i ↦ pure i ]

-- `name()`: an own signal
abbrev pub own_signal : Scope → Option Site → Text → Meaning Item
own_signal s None name = fail NoMember
own_signal s (Some at) name = with_member s at name (λ h m. site_signal s at m m.kind)

-- `a.name`
abbrev pub item_member : Bodies → Scope → Item → Text → Meaning Item
item_member bodies s (item.Value w) name = answer (part w name)
item_member bodies s (item.Site at) name = with_member s at name (λ h m. site_member bodies s at m m.kind)
item_member bodies s (item.Sites ats) name = if bytes_eq name (codes "length") then value (val.Int (pos (length ats))) else fail NoMember

-- Where a value has no such call, or is null, that fault comes before one of an argument.
abbrev pub if_callable : Answer → Meaning Item → Meaning Item
if_callable (Err NullRead) call = fail NullRead
if_callable (Err NoMember) call = fail NoMember
if_callable _ call = call

-- `a.name(..)`, of which the arguments have been taken
abbrev pub item_call : Scope → Item → Text → List Item → Meaning Item
item_call s (item.Value w) name args = if_callable (invoked w name []) (all need args >>= (λ ws. answer (invoked w name ws)))
item_call s (item.Site at) name [] = with_member s at name (λ h m. site_signal s at m m.kind)
item_call s (item.Site at) name (a ∷ rest) = fail NoMember
item_call s (item.Sites ats) name args = fail NoMember

-- ---- expressions, by recursion on their parts

-- What a postfix chain means so far; none where a `?.` on null leaves out the rest of it.
abbrev pub Chain : Type 0
Chain = Meaning (Option Item)

-- a chain that has an item
abbrev pub whole_item : Meaning Item → Chain
whole_item m = m >>= (λ i. pure (Some i))

-- what follows in a chain
abbrev pub go_on : (Item → Meaning Item) → Option Item → Chain
go_on f None = pure None
go_on f (Some i) = whole_item (f i)

-- what follows after `?.`
abbrev pub go_on_safely : (Item → Meaning Item) → Option Item → Chain
go_on_safely f None = pure None
go_on_safely f (Some i) = if is_null i then pure None else whole_item (f i)

-- An operator, by what its operands mean. `&&`, `||` and `??` evaluate only the part that they give; the others take both operands.
abbrev pub combined : Binary → Meaning Item → Meaning Item → Meaning Item
combined binary.And a b = do
  i ← a
  w ← need i
  if truth w then b else pure i
combined binary.Or a b = do
  i ← a
  w ← need i
  if truth w then pure i else b
combined binary.OrNull a b = do
  i ← a
  if is_null i then b else pure i
combined op a b = do
  i ← a
  j ← b
  x ← need i
  y ← need j
  answer (operated op x y)

-- a pipe, given the declared one of that name, which hides a built-in one
abbrev pub pipe_call : Bodies → Scope → Text → Option Pipe → List Value → Meaning Item
pipe_call bodies s name None ws = answer (piped (builtin_pipe name) ws)
pipe_call bodies s name (Some p) ws = called bodies (only s (zip p.params (map item.Value ws))) p.value

-- Given what bodies and the parts of an expression mean.
module _ (bodies : Bodies) (chain : Expr → Scope → Chain) where
  -- a part that is no chain to go on with
  abbrev pub mean_part : Scope → Expr → Meaning Item
  mean_part s e = chain e s >>= (λ i. pure (or_null i))

  -- parts from left to right, and then their values
  abbrev pub mean_values : Scope → List Expr → Meaning (List Value)
  mean_values s es = all (mean_part s) es >>= all need

  -- the truth of a part
  abbrev pub mean_truth : Scope → Expr → Meaning Bool
  mean_truth s e = mean_part s e >>= need >>= (λ w. pure (truth w))

  -- a call, which stands after a name, `.name` or `?.name`
  abbrev pub mean_call : Expr-F Expr → List Expr → Scope → Chain
  mean_call (Expr-F.Name p name) args s = whole_item (own_signal s s.own name)
  mean_call (Expr-F.Member p a name) args s = chain a s >>= go_on (λ i. all (mean_part s) args >>= item_call s i name)
  mean_call (Expr-F.Safe p a name) args s = chain a s >>= go_on_safely (λ i. all (mean_part s) args >>= item_call s i name)
  mean_call _ args s = fail NoMember

  -- one level of an expression
  abbrev pub mean_level : Expr-F Expr → Scope → Chain
  mean_level (Expr-F.Literal p w) s = whole_item (value w)
  mean_level (Expr-F.Name p name) s = whole_item (name_item bodies s name)
  mean_level (Expr-F.Group p a) s = whole_item (mean_part s a)
  mean_level (Expr-F.List p es) s = whole_item (mean_values s es >>= (λ ws. answer (list_of (map plain ws))))
  mean_level (Expr-F.Rec p qs) s = whole_item (mean_values s (map (λ q. q.1) qs) >>= (λ ws. answer (rec_of (zip (map (λ q. q.0) qs) (map plain ws)))))
  mean_level (Expr-F.Unary p op a) s = whole_item (mean_part s a >>= need >>= (λ w. answer (prefixed op w)))
  mean_level (Expr-F.Binary p op a b) s = whole_item (combined op (mean_part s a) (mean_part s b))
  mean_level (Expr-F.Choose p c a b) s = whole_item (mean_truth s c >>= (λ t. if t then mean_part s a else mean_part s b))
  mean_level (Expr-F.Member p a name) s = chain a s >>= go_on (λ i. item_member bodies s i name)
  mean_level (Expr-F.Safe p a name) s = chain a s >>= go_on_safely (λ i. item_member bodies s i name)
  mean_level (Expr-F.Index p a b) s = chain a s >>= go_on (λ i. mean_part s b >>= item_index i)
  mean_level (Expr-F.Call p a args) s = mean_call (out-Expr a) args s
  mean_level (Expr-F.Pipe p a name args) s = whole_item (mean_values s (a ∷ args) >>= pipe_call bodies s name (pipe s.app name))

-- what an expression means as a chain to go on with, given what bodies mean
abbrev pub mean_chain : Bodies → Expr → Scope → Chain
mean_chain bodies = whole out-Expr size-Expr (λ s. pure None) (mean_level bodies)

-- what an expression means, given what bodies mean
abbrev pub mean_with : Bodies → Scope → Expr → Meaning Item
mean_with bodies = mean_part bodies (mean_chain bodies)

-- what bodies mean, where n calls may still be opened
abbrev pub bodies : ℕ → Bodies
bodies zero = None
bodies (suc n) = Some (mean_with (bodies n))

-- The meaning of an expression, where n calls of getters and declared pipes may still be opened.
unfoldable pub mean : ℕ → Scope → Expr → Meaning Item
mean n = mean_with (bodies n)

-- the meaning of an expression where a value is needed
abbrev pub mean_value : ℕ → Scope → Expr → Meaning Value
mean_value n s e = mean n s e >>= need

-- At most 64 calls are open at once, and a binding opens none itself.
abbrev pub most_calls : ℕ
most_calls = 64

-- ---- interpolated text

-- a text, unless it has more than 65,535 bytes
abbrev pub within_limit : Text → Meaning Text
within_limit t = if nat_lt 65535 (length t) then fail ValueTooLarge else pure t

-- the text of a piece: as it stands, or that of a value
abbrev pub piece_text : Scope → Piece → Meaning Text
piece_text s (piece.Text t) = pure t
piece_text s (piece.Value p e) = mean_value most_calls s e >>= (λ w. within_limit (text (plain w)))

-- the texts of all pieces in one; a single one needs no joining
abbrev pub joined_pieces : List Text → Meaning Text
joined_pieces [] = pure []
joined_pieces (t ∷ []) = pure t
joined_pieces (t ∷ u ∷ us) = within_limit (concat (t ∷ u ∷ us))

-- A text or an attribute with interpolations is one binding: its pieces from left to right, and then the whole.
unfoldable pub interpolated : Scope → List Piece → Meaning Text
interpolated s pieces = all (piece_text s) pieces >>= joined_pieces
