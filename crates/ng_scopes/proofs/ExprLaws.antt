-- The equations of the names in an expression, one for each variant.
use Rattle.std.proofs.Common.{◌≡◌, refl, ℕ, List, [], ◌∷◌, ◌++◌, length, map, ap, ◌∙◌, sym, Option, Some, None, append_assoc, append-nil, cond, false, ◌==◌}
use Rattle.std.proofs.lemmas.List.{map-append, length-map}
use Rattle.std.specs.List.{flat_map}
use Rattle.ng_values.specs.declared.value.Value.{Value}
use Rattle.ng_ast.specs.declared.Place.{Place}
use Rattle.ng_ast.specs.declared.Unary.{Unary}
use Rattle.ng_ast.specs.declared.Binary.{Binary}
use Rattle.ng_ast.specs.declared.Expr.{Expr, fold-roll-Expr}
use Rattle.ng_ast.specs.declared.Expr.TheOpen.{Expr-F}
use Rattle.ng_ast.specs.declared.Expr.TheVariants as e
use Rattle.ng_ast.specs.declared.OutletForm.{OutletForm, fold-roll-OutletForm}
use Rattle.ng_ast.specs.declared.OutletForm.TheOpen.{OutletForm-F}
use Rattle.ng_ast.specs.declared.OutletForm.TheVariants as outlet
use Rattle.ng_scopes.specs.declared.usage.Spot.{Spot}
use Rattle.ng_scopes.specs.declared.usage.Usage.{Usage}
use Rattle.ng_scopes.specs.declared.usage.Act.TheVariants as act
use Rattle.ng_scopes.specs.Names.{Name, Scope}
use Rattle.ng_scopes.specs.Mentions.{Mention, Told, told, told_step, one, callee, all_mentions, mentions, name_of, owner_of, outlet_step, outlet_mentions}
use Rattle.ng_scopes.specs.Usages.{use_of, uses_of, usages, outlet_usages}

pub flat_map-map : {X Y A : Type 0} (f : Y → List A) (g : X → Y) (xs : List X) → flat_map f (map g xs) ≡ flat_map (λ x. f (g x)) xs
flat_map-map f g [] = refl
flat_map-map f g (x ∷ xs) = ap (λ r. f (g x) ++ r) (flat_map-map f g xs)

pub append3 : {U : Type 0} (l a b c : List U) → ((l ++ a) ++ b) ++ c ≡ l ++ (a ++ (b ++ c))
append3 l a b c = append_assoc (l ++ a) b c ∙ append_assoc l a (b ++ c)

pub map-flat_map : {X Y A : Type 0} (f : Y → A) (g : X → List Y) (xs : List X) → map f (flat_map g xs) ≡ flat_map (λ x. map f (g x)) xs
map-flat_map f g [] = refl
map-flat_map f g (x ∷ xs) = map-append f (g x) (flat_map g xs) ∙ ap (λ r. map f (g x) ++ r) (map-flat_map f g xs)

told-Literal : (p : Place) (v : Value) → told (e.Literal p v) ≡ told_step (Expr-F.Literal p v)
told-Literal p v = ap told (sym (e.rolls-Literal p v)) ∙ fold-roll-Expr Told told_step (Expr-F.Literal p v)

told-Name : (p : Place) (n : Name) → told (e.Name p n) ≡ told_step (Expr-F.Name p n)
told-Name p n = ap told (sym (e.rolls-Name p n)) ∙ fold-roll-Expr Told told_step (Expr-F.Name p n)

told-Group : (p : Place) (a : Expr) → told (e.Group p a) ≡ told_step (Expr-F.Group p (told a))
told-Group p a = ap told (sym (e.rolls-Group p a)) ∙ fold-roll-Expr Told told_step (Expr-F.Group p a)

told-List : (p : Place) (items : List Expr) → told (e.List p items) ≡ told_step (Expr-F.List p (map told items))
told-List p items = ap told (sym (e.rolls-List p items)) ∙ fold-roll-Expr Told told_step (Expr-F.List p items)

told-Rec : (p : Place) (pairs : List (List ℕ × Expr)) → told (e.Rec p pairs) ≡ told_step (Expr-F.Rec p (map (λ q. (q.0, told q.1)) pairs))
told-Rec p pairs = ap told (sym (e.rolls-Rec p pairs)) ∙ fold-roll-Expr Told told_step (Expr-F.Rec p pairs)

told-Unary : (p : Place) (op : Unary) (a : Expr) → told (e.Unary p op a) ≡ told_step (Expr-F.Unary p op (told a))
told-Unary p op a = ap told (sym (e.rolls-Unary p op a)) ∙ fold-roll-Expr Told told_step (Expr-F.Unary p op a)

told-Binary : (p : Place) (op : Binary) (a : Expr) (b : Expr) → told (e.Binary p op a b) ≡ told_step (Expr-F.Binary p op (told a) (told b))
told-Binary p op a b = ap told (sym (e.rolls-Binary p op a b)) ∙ fold-roll-Expr Told told_step (Expr-F.Binary p op a b)

told-Choose : (p : Place) (test : Expr) (a : Expr) (b : Expr) → told (e.Choose p test a b) ≡ told_step (Expr-F.Choose p (told test) (told a) (told b))
told-Choose p test a b = ap told (sym (e.rolls-Choose p test a b)) ∙ fold-roll-Expr Told told_step (Expr-F.Choose p test a b)

told-Member : (p : Place) (a : Expr) (s : Name) → told (e.Member p a s) ≡ told_step (Expr-F.Member p (told a) s)
told-Member p a s = ap told (sym (e.rolls-Member p a s)) ∙ fold-roll-Expr Told told_step (Expr-F.Member p a s)

told-Safe : (p : Place) (a : Expr) (s : Name) → told (e.Safe p a s) ≡ told_step (Expr-F.Safe p (told a) s)
told-Safe p a s = ap told (sym (e.rolls-Safe p a s)) ∙ fold-roll-Expr Told told_step (Expr-F.Safe p a s)

told-Index : (p : Place) (a : Expr) (b : Expr) → told (e.Index p a b) ≡ told_step (Expr-F.Index p (told a) (told b))
told-Index p a b = ap told (sym (e.rolls-Index p a b)) ∙ fold-roll-Expr Told told_step (Expr-F.Index p a b)

told-Call : (p : Place) (f : Expr) (args : List Expr) → told (e.Call p f args) ≡ told_step (Expr-F.Call p (told f) (map told args))
told-Call p f args = ap told (sym (e.rolls-Call p f args)) ∙ fold-roll-Expr Told told_step (Expr-F.Call p f args)

told-Pipe : (p : Place) (a : Expr) (n : Name) (args : List Expr) → told (e.Pipe p a n args) ≡ told_step (Expr-F.Pipe p (told a) n (map told args))
told-Pipe p a n args = ap told (sym (e.rolls-Pipe p a n args)) ∙ fold-roll-Expr Told told_step (Expr-F.Pipe p a n args)

pub name_of-Literal : (p : Place) (v : Value) → name_of (e.Literal p v) ≡ None
unfolding name_of
name_of-Literal p v = ap (λ (t : Told). t.name) (told-Literal p v)

pub name_of-Name : (p : Place) (n : Name) → name_of (e.Name p n) ≡ Some n
unfolding name_of
name_of-Name p n = ap (λ (t : Told). t.name) (told-Name p n)

pub name_of-Group : (p : Place) (a : Expr) → name_of (e.Group p a) ≡ None
unfolding name_of
name_of-Group p a = ap (λ (t : Told). t.name) (told-Group p a)

pub name_of-List : (p : Place) (items : List Expr) → name_of (e.List p items) ≡ None
unfolding name_of
name_of-List p items = ap (λ (t : Told). t.name) (told-List p items)

pub name_of-Rec : (p : Place) (pairs : List (List ℕ × Expr)) → name_of (e.Rec p pairs) ≡ None
unfolding name_of
name_of-Rec p pairs = ap (λ (t : Told). t.name) (told-Rec p pairs)

pub name_of-Unary : (p : Place) (op : Unary) (a : Expr) → name_of (e.Unary p op a) ≡ None
unfolding name_of
name_of-Unary p op a = ap (λ (t : Told). t.name) (told-Unary p op a)

pub name_of-Binary : (p : Place) (op : Binary) (a : Expr) (b : Expr) → name_of (e.Binary p op a b) ≡ None
unfolding name_of
name_of-Binary p op a b = ap (λ (t : Told). t.name) (told-Binary p op a b)

pub name_of-Choose : (p : Place) (test : Expr) (a : Expr) (b : Expr) → name_of (e.Choose p test a b) ≡ None
unfolding name_of
name_of-Choose p test a b = ap (λ (t : Told). t.name) (told-Choose p test a b)

pub name_of-Member : (p : Place) (a : Expr) (s : Name) → name_of (e.Member p a s) ≡ None
unfolding name_of
name_of-Member p a s = ap (λ (t : Told). t.name) (told-Member p a s)

pub name_of-Safe : (p : Place) (a : Expr) (s : Name) → name_of (e.Safe p a s) ≡ None
unfolding name_of
name_of-Safe p a s = ap (λ (t : Told). t.name) (told-Safe p a s)

pub name_of-Index : (p : Place) (a : Expr) (b : Expr) → name_of (e.Index p a b) ≡ None
unfolding name_of
name_of-Index p a b = ap (λ (t : Told). t.name) (told-Index p a b)

pub name_of-Call : (p : Place) (f : Expr) (args : List Expr) → name_of (e.Call p f args) ≡ None
unfolding name_of
name_of-Call p f args = ap (λ (t : Told). t.name) (told-Call p f args)

pub name_of-Pipe : (p : Place) (a : Expr) (n : Name) (args : List Expr) → name_of (e.Pipe p a n args) ≡ None
unfolding name_of
name_of-Pipe p a n args = ap (λ (t : Told). t.name) (told-Pipe p a n args)

pub ruleset name_laws = (name_of-Literal, name_of-Name, name_of-Group, name_of-List, name_of-Rec, name_of-Unary, name_of-Binary, name_of-Choose, name_of-Member, name_of-Safe, name_of-Index, name_of-Call, name_of-Pipe)

pub owner_of-Literal : (p : Place) (v : Value) → owner_of (e.Literal p v) ≡ None
unfolding owner_of name_of
owner_of-Literal p v = ap (λ (t : Told). t.owner) (told-Literal p v)

pub owner_of-Name : (p : Place) (n : Name) → owner_of (e.Name p n) ≡ None
unfolding owner_of name_of
owner_of-Name p n = ap (λ (t : Told). t.owner) (told-Name p n)

pub owner_of-Group : (p : Place) (a : Expr) → owner_of (e.Group p a) ≡ None
unfolding owner_of name_of
owner_of-Group p a = ap (λ (t : Told). t.owner) (told-Group p a)

pub owner_of-List : (p : Place) (items : List Expr) → owner_of (e.List p items) ≡ None
unfolding owner_of name_of
owner_of-List p items = ap (λ (t : Told). t.owner) (told-List p items)

pub owner_of-Rec : (p : Place) (pairs : List (List ℕ × Expr)) → owner_of (e.Rec p pairs) ≡ None
unfolding owner_of name_of
owner_of-Rec p pairs = ap (λ (t : Told). t.owner) (told-Rec p pairs)

pub owner_of-Unary : (p : Place) (op : Unary) (a : Expr) → owner_of (e.Unary p op a) ≡ None
unfolding owner_of name_of
owner_of-Unary p op a = ap (λ (t : Told). t.owner) (told-Unary p op a)

pub owner_of-Binary : (p : Place) (op : Binary) (a : Expr) (b : Expr) → owner_of (e.Binary p op a b) ≡ None
unfolding owner_of name_of
owner_of-Binary p op a b = ap (λ (t : Told). t.owner) (told-Binary p op a b)

pub owner_of-Choose : (p : Place) (test : Expr) (a : Expr) (b : Expr) → owner_of (e.Choose p test a b) ≡ None
unfolding owner_of name_of
owner_of-Choose p test a b = ap (λ (t : Told). t.owner) (told-Choose p test a b)

pub owner_of-Member : (p : Place) (a : Expr) (s : Name) → owner_of (e.Member p a s) ≡ name_of a
unfolding owner_of name_of
owner_of-Member p a s = ap (λ (t : Told). t.owner) (told-Member p a s)

pub owner_of-Safe : (p : Place) (a : Expr) (s : Name) → owner_of (e.Safe p a s) ≡ None
unfolding owner_of name_of
owner_of-Safe p a s = ap (λ (t : Told). t.owner) (told-Safe p a s)

pub owner_of-Index : (p : Place) (a : Expr) (b : Expr) → owner_of (e.Index p a b) ≡ None
unfolding owner_of name_of
owner_of-Index p a b = ap (λ (t : Told). t.owner) (told-Index p a b)

pub owner_of-Call : (p : Place) (f : Expr) (args : List Expr) → owner_of (e.Call p f args) ≡ None
unfolding owner_of name_of
owner_of-Call p f args = ap (λ (t : Told). t.owner) (told-Call p f args)

pub owner_of-Pipe : (p : Place) (a : Expr) (n : Name) (args : List Expr) → owner_of (e.Pipe p a n args) ≡ None
unfolding owner_of name_of
owner_of-Pipe p a n args = ap (λ (t : Told). t.owner) (told-Pipe p a n args)

pub ruleset owner_laws = (owner_of-Literal, owner_of-Name, owner_of-Group, owner_of-List, owner_of-Rec, owner_of-Unary, owner_of-Binary, owner_of-Choose, owner_of-Member, owner_of-Safe, owner_of-Index, owner_of-Call, owner_of-Pipe)

pub usages-Literal : (spot : Spot) (scope : Scope) (p : Place) (v : Value) → usages spot scope (e.Literal p v) ≡ []
unfolding usages mentions name_of owner_of
usages-Literal spot scope p v = ap (λ (t : Told). uses_of spot scope t.mentions) (told-Literal p v)

pub usages-Name : (spot : Spot) (scope : Scope) (p : Place) (n : Name) → usages spot scope (e.Name p n) ≡ use_of spot scope (record { name = n; act = act.Read }) ∷ []
unfolding usages mentions name_of owner_of
usages-Name spot scope p n = ap (λ (t : Told). uses_of spot scope t.mentions) (told-Name p n)

pub usages-Group : (spot : Spot) (scope : Scope) (p : Place) (a : Expr) → usages spot scope (e.Group p a) ≡ usages spot scope a
unfolding usages mentions name_of owner_of
usages-Group spot scope p a = ap (λ (t : Told). uses_of spot scope t.mentions) (told-Group p a)

pub usages-List : (spot : Spot) (scope : Scope) (p : Place) (items : List Expr) → usages spot scope (e.List p items) ≡ flat_map (usages spot scope) items
unfolding usages mentions name_of owner_of
usages-List spot scope p items = ap (λ (t : Told). uses_of spot scope t.mentions) (told-List p items) ∙ ap (uses_of spot scope) (flat_map-map (λ (t : Told). t.mentions) told items) ∙ map-flat_map (use_of spot scope) (λ x. (told x).mentions) items

pub usages-Rec : (spot : Spot) (scope : Scope) (p : Place) (pairs : List (List ℕ × Expr)) → usages spot scope (e.Rec p pairs) ≡ flat_map (λ q. usages spot scope q.1) pairs
unfolding usages mentions name_of owner_of
usages-Rec spot scope p pairs = ap (λ (t : Told). uses_of spot scope t.mentions) (told-Rec p pairs) ∙ ap (uses_of spot scope) (flat_map-map (λ (q : List ℕ × Told). q.1.mentions) (λ (q : List ℕ × Expr). (q.0, told q.1)) pairs) ∙ map-flat_map (use_of spot scope) (λ (q : List ℕ × Expr). (told q.1).mentions) pairs

pub usages-Unary : (spot : Spot) (scope : Scope) (p : Place) (op : Unary) (a : Expr) → usages spot scope (e.Unary p op a) ≡ usages spot scope a
unfolding usages mentions name_of owner_of
usages-Unary spot scope p op a = ap (λ (t : Told). uses_of spot scope t.mentions) (told-Unary p op a)

pub usages-Binary : (spot : Spot) (scope : Scope) (p : Place) (op : Binary) (a : Expr) (b : Expr) → usages spot scope (e.Binary p op a b) ≡ usages spot scope a ++ usages spot scope b
unfolding usages mentions name_of owner_of
usages-Binary spot scope p op a b = ap (λ (t : Told). uses_of spot scope t.mentions) (told-Binary p op a b) ∙ map-append (use_of spot scope) (told a).mentions (told b).mentions

pub usages-Choose : (spot : Spot) (scope : Scope) (p : Place) (test : Expr) (a : Expr) (b : Expr) → usages spot scope (e.Choose p test a b) ≡ usages spot scope test ++ (usages spot scope a ++ usages spot scope b)
unfolding usages mentions name_of owner_of
usages-Choose spot scope p test a b = ap (λ (t : Told). uses_of spot scope t.mentions) (told-Choose p test a b) ∙ map-append (use_of spot scope) (told test).mentions ((told a).mentions ++ (told b).mentions) ∙ ap (λ r. usages spot scope test ++ r) (map-append (use_of spot scope) (told a).mentions (told b).mentions)

pub usages-Member : (spot : Spot) (scope : Scope) (p : Place) (a : Expr) (s : Name) → usages spot scope (e.Member p a s) ≡ usages spot scope a
unfolding usages mentions name_of owner_of
usages-Member spot scope p a s = ap (λ (t : Told). uses_of spot scope t.mentions) (told-Member p a s)

pub usages-Safe : (spot : Spot) (scope : Scope) (p : Place) (a : Expr) (s : Name) → usages spot scope (e.Safe p a s) ≡ usages spot scope a
unfolding usages mentions name_of owner_of
usages-Safe spot scope p a s = ap (λ (t : Told). uses_of spot scope t.mentions) (told-Safe p a s)

pub usages-Index : (spot : Spot) (scope : Scope) (p : Place) (a : Expr) (b : Expr) → usages spot scope (e.Index p a b) ≡ usages spot scope a ++ usages spot scope b
unfolding usages mentions name_of owner_of
usages-Index spot scope p a b = ap (λ (t : Told). uses_of spot scope t.mentions) (told-Index p a b) ∙ map-append (use_of spot scope) (told a).mentions (told b).mentions

pub usages-Call : (spot : Spot) (scope : Scope) (p : Place) (f : Expr) (args : List Expr) → usages spot scope (e.Call p f args) ≡ uses_of spot scope (callee (name_of f) (owner_of f) (length args) (mentions f)) ++ flat_map (usages spot scope) args
unfolding usages mentions name_of owner_of
usages-Call spot scope p f args = ap (λ (t : Told). uses_of spot scope t.mentions) (told-Call p f args) ∙ map-append (use_of spot scope) (callee (told f).name (told f).owner (length (map told args)) (told f).mentions) (all_mentions (map told args)) ∙ ap (λ n. uses_of spot scope (callee (told f).name (told f).owner n (told f).mentions) ++ uses_of spot scope (all_mentions (map told args))) (length-map args told) ∙ ap (λ r. uses_of spot scope (callee (told f).name (told f).owner (length args) (told f).mentions) ++ r) (ap (uses_of spot scope) (flat_map-map (λ (t : Told). t.mentions) told args) ∙ map-flat_map (use_of spot scope) (λ x. (told x).mentions) args)

pub usages-Pipe : (spot : Spot) (scope : Scope) (p : Place) (a : Expr) (n : Name) (args : List Expr) → usages spot scope (e.Pipe p a n args) ≡ usages spot scope a ++ (use_of spot scope (record { name = n; act = act.Piped (length args) }) ∷ flat_map (usages spot scope) args)
unfolding usages mentions name_of owner_of
usages-Pipe spot scope p a n args = ap (λ (t : Told). uses_of spot scope t.mentions) (told-Pipe p a n args) ∙ map-append (use_of spot scope) (told a).mentions (one n (act.Piped (length (map told args))) ++ all_mentions (map told args)) ∙ ap (λ k. usages spot scope a ++ (use_of spot scope (record { name = n; act = act.Piped k }) ∷ uses_of spot scope (all_mentions (map told args)))) (length-map args told) ∙ ap (λ r. usages spot scope a ++ (use_of spot scope (record { name = n; act = act.Piped (length args) }) ∷ r)) (ap (uses_of spot scope) (flat_map-map (λ (t : Told). t.mentions) told args) ∙ map-flat_map (use_of spot scope) (λ x. (told x).mentions) args)

pub pushed-Literal : (l : List Usage) (spot : Spot) (scope : Scope) (p : Place) (v : Value) → l ++ usages spot scope (e.Literal p v) ≡ l
pushed-Literal l spot scope p v = ap (λ r. l ++ r) (usages-Literal spot scope p v) ∙ append-nil l

pub pushed-Binary : (l : List Usage) (spot : Spot) (scope : Scope) (p : Place) (op : Binary) (a : Expr) (b : Expr) → l ++ usages spot scope (e.Binary p op a b) ≡ (l ++ usages spot scope a) ++ usages spot scope b
pushed-Binary l spot scope p op a b = ap (λ r. l ++ r) (usages-Binary spot scope p op a b) ∙ sym (append_assoc l (usages spot scope a) (usages spot scope b))

pub pushed-Choose : (l : List Usage) (spot : Spot) (scope : Scope) (p : Place) (test : Expr) (a : Expr) (b : Expr) → l ++ usages spot scope (e.Choose p test a b) ≡ ((l ++ usages spot scope test) ++ usages spot scope a) ++ usages spot scope b
pushed-Choose l spot scope p test a b = ap (λ r. l ++ r) (usages-Choose spot scope p test a b) ∙ sym (append3 l (usages spot scope test) (usages spot scope a) (usages spot scope b))

pub pushed-Index : (l : List Usage) (spot : Spot) (scope : Scope) (p : Place) (a : Expr) (b : Expr) → l ++ usages spot scope (e.Index p a b) ≡ (l ++ usages spot scope a) ++ usages spot scope b
pushed-Index l spot scope p a b = ap (λ r. l ++ r) (usages-Index spot scope p a b) ∙ sym (append_assoc l (usages spot scope a) (usages spot scope b))

pub pushed-Call : (l : List Usage) (spot : Spot) (scope : Scope) (p : Place) (f : Expr) (args : List Expr) → l ++ usages spot scope (e.Call p f args) ≡ (l ++ uses_of spot scope (callee (name_of f) (owner_of f) (length args) (mentions f))) ++ flat_map (usages spot scope) args
pushed-Call l spot scope p f args = ap (λ r. l ++ r) (usages-Call spot scope p f args) ∙ sym (append_assoc l (uses_of spot scope (callee (name_of f) (owner_of f) (length args) (mentions f))) (flat_map (usages spot scope) args))

pub pushed-Pipe : (l : List Usage) (spot : Spot) (scope : Scope) (p : Place) (a : Expr) (n : Name) (args : List Expr) → l ++ usages spot scope (e.Pipe p a n args) ≡ ((l ++ usages spot scope a) ++ (use_of spot scope (record { name = n; act = act.Piped (length args) }) ∷ [])) ++ flat_map (usages spot scope) args
pushed-Pipe l spot scope p a n args = ap (λ r. l ++ r) (usages-Pipe spot scope p a n args) ∙ sym (append3 l (usages spot scope a) (use_of spot scope (record { name = n; act = act.Piped (length args) }) ∷ []) (flat_map (usages spot scope) args))

pub ruleset expr_laws = (pushed-Literal, usages-Name, usages-Group, usages-List, usages-Rec, usages-Unary, pushed-Binary, pushed-Choose, usages-Member, usages-Safe, pushed-Index, pushed-Call, pushed-Pipe)

pub owned-many : (spot : Spot) (scope : Scope) (x : Name) (n : ℕ) (f : Expr) → (n == 0) ≡ false → uses_of spot scope (callee None (Some x) n (mentions f)) ≡ usages spot scope f
unfolding usages
owned-many spot scope x n f h = ap (λ b. uses_of spot scope (cond b (one x act.Asked) (mentions f))) h

pub owned-None : (spot : Spot) (scope : Scope) (x : Option Name) (n : ℕ) (f : Expr) → x ≡ None → uses_of spot scope (callee None x n (mentions f)) ≡ usages spot scope f
unfolding usages
owned-None spot scope x n f h = ap (λ o. uses_of spot scope (callee None o n (mentions f))) h

pub ruleset callee_laws = (owned-many, owned-None)

pub outlet-Null : (spot : Spot) (scope : Scope) → outlet_usages spot scope outlet.Null ≡ []
unfolding outlet_usages outlet_mentions
outlet-Null spot scope = ap (uses_of spot scope) (ap outlet_mentions (sym outlet.rolls-Null) ∙ fold-roll-OutletForm (List Mention) outlet_step OutletForm-F.Null)

pub outlet-Name : (spot : Spot) (scope : Scope) (p : Place) (n : Name) → outlet_usages spot scope (outlet.Name p n) ≡ use_of spot scope (record { name = n; act = act.Outlet }) ∷ []
unfolding outlet_usages outlet_mentions
outlet-Name spot scope p n = ap (uses_of spot scope) (ap outlet_mentions (sym (outlet.rolls-Name p n)) ∙ fold-roll-OutletForm (List Mention) outlet_step (OutletForm-F.Name p n))

pub outlet-Choose : (spot : Spot) (scope : Scope) (p : Place) (test : Expr) (a b : OutletForm) → outlet_usages spot scope (outlet.Choose p test a b) ≡ usages spot scope test ++ (outlet_usages spot scope a ++ outlet_usages spot scope b)
unfolding outlet_usages outlet_mentions usages
outlet-Choose spot scope p test a b = ap (uses_of spot scope) (ap outlet_mentions (sym (outlet.rolls-Choose p test a b)) ∙ fold-roll-OutletForm (List Mention) outlet_step (OutletForm-F.Choose p test a b))
    ∙ map-append (use_of spot scope) (mentions test) (outlet_mentions a ++ outlet_mentions b) ∙ ap (λ r. usages spot scope test ++ r) (map-append (use_of spot scope) (outlet_mentions a) (outlet_mentions b))

pub pushed_outlet-Null : (l : List Usage) (spot : Spot) (scope : Scope) → l ++ outlet_usages spot scope outlet.Null ≡ l
pushed_outlet-Null l spot scope = ap (λ r. l ++ r) (outlet-Null spot scope) ∙ append-nil l

pub pushed_outlet-Choose : (l : List Usage) (spot : Spot) (scope : Scope) (p : Place) (test : Expr) (a b : OutletForm)
    → l ++ outlet_usages spot scope (outlet.Choose p test a b) ≡ ((l ++ usages spot scope test) ++ outlet_usages spot scope a) ++ outlet_usages spot scope b
pushed_outlet-Choose l spot scope p test a b = ap (λ r. l ++ r) (outlet-Choose spot scope p test a b) ∙ sym (append3 l (usages spot scope test) (outlet_usages spot scope a) (outlet_usages spot scope b))

pub ruleset outlet_laws = (pushed_outlet-Null, outlet-Name, pushed_outlet-Choose)
