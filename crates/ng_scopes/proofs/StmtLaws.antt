-- The equations of the names in a statement, one for each variant.
use Rattle.std.proofs.Common.{◌≡◌, refl, ℕ, List, [], ◌∷◌, ◌++◌, length, map, ap, ◌∙◌, sym, false, append_assoc}
use Rattle.std.proofs.lemmas.List.{map-append}
use Rattle.std.specs.List.{flat_map}
use Rattle.ng_ast.specs.declared.Place.{Place}
use Rattle.ng_ast.specs.declared.Expr.{Expr}
use Rattle.ng_ast.specs.declared.Owner.{Owner}
use Rattle.ng_ast.specs.declared.Owner.TheVariants as owner
use Rattle.ng_ast.specs.declared.Stmt.{Stmt, fold-roll-Stmt}
use Rattle.ng_ast.specs.declared.Stmt.TheOpen.{Stmt-F}
use Rattle.ng_ast.specs.declared.Stmt.TheVariants as s
use Rattle.ng_scopes.specs.declared.usage.Spot.{Spot}
use Rattle.ng_scopes.specs.declared.usage.Usage.{Usage}
use Rattle.ng_scopes.specs.declared.usage.Act.TheVariants as act
use Rattle.ng_scopes.specs.Names.{Name, Scope}
use Rattle.ng_scopes.specs.Mentions.{Mention, mentions, owner_mentions, stmt_step, stmt_mentions}
use Rattle.ng_scopes.specs.Usages.{use_of, uses_of, usages, stmt_usages}
use Rattle.ng_scopes.proofs.ExprLaws.{append3, flat_map-map, map-flat_map}

pub owner-Item : (spot : Spot) (scope : Scope) (m : Name) (n : ℕ) (p : Place) (x : Name) (e : Expr)
    → uses_of spot scope (owner_mentions m n (owner.Item p x e)) ≡ use_of spot scope (record { name = x; act = act.Sent false m n }) ∷ usages spot scope e
unfolding usages
owner-Item spot scope m n p x e = refl

pub pushed-Item : (l : List Usage) (spot : Spot) (scope : Scope) (m : Name) (n : ℕ) (o : Owner) (p : Place) (x : Name) (e : Expr) → o ≡ owner.Item p x e
    → l ++ uses_of spot scope (owner_mentions m n o) ≡ (l ++ use_of spot scope (record { name = x; act = act.Sent false m n }) ∷ []) ++ usages spot scope e
pushed-Item l spot scope m n o p x e is = ap (λ y. l ++ uses_of spot scope (owner_mentions m n y)) is ∙ ap (λ r. l ++ r) (owner-Item spot scope m n p x e) ∙ sym (append_assoc l (use_of spot scope (record { name = x; act = act.Sent false m n }) ∷ []) (usages spot scope e))

pub ruleset owner_laws = (pushed-Item, pushed-Item)

pub stmt-Set : (spot : Spot) (scope : Scope) (p : Place) (n : Name) (e : Expr) → stmt_usages spot scope (s.Set p n e) ≡ use_of spot scope (record { name = n; act = act.Set }) ∷ usages spot scope e
unfolding stmt_usages stmt_mentions usages
stmt-Set spot scope p n e = ap (uses_of spot scope) (ap stmt_mentions (sym (s.rolls-Set p n e)) ∙ fold-roll-Stmt (List Mention) stmt_step (Stmt-F.Set p n e))

pub stmt-Do : (spot : Spot) (scope : Scope) (p : Place) (n : Name) (args : List Expr)
    → stmt_usages spot scope (s.Do p n args) ≡ use_of spot scope (record { name = n; act = act.Done (length args) }) ∷ flat_map (usages spot scope) args
unfolding stmt_usages stmt_mentions usages
stmt-Do spot scope p n args = ap (uses_of spot scope) (ap stmt_mentions (sym (s.rolls-Do p n args)) ∙ fold-roll-Stmt (List Mention) stmt_step (Stmt-F.Do p n args))
    ∙ ap (λ r. use_of spot scope (record { name = n; act = act.Done (length args) }) ∷ r) (map-flat_map (use_of spot scope) mentions args)

pub stmt-Send : (spot : Spot) (scope : Scope) (p : Place) (o : Owner) (m : Name) (args : List Expr)
    → stmt_usages spot scope (s.Send p o m args) ≡ uses_of spot scope (owner_mentions m (length args) o) ++ flat_map (usages spot scope) args
unfolding stmt_usages stmt_mentions usages
stmt-Send spot scope p o m args = ap (uses_of spot scope) (ap stmt_mentions (sym (s.rolls-Send p o m args)) ∙ fold-roll-Stmt (List Mention) stmt_step (Stmt-F.Send p o m args))
    ∙ map-append (use_of spot scope) (owner_mentions m (length args) o) (flat_map mentions args) ∙ ap (λ r. uses_of spot scope (owner_mentions m (length args) o) ++ r) (map-flat_map (use_of spot scope) mentions args)

pub stmt-If : (spot : Spot) (scope : Scope) (p : Place) (test : Expr) (chosen others : List Stmt)
    → stmt_usages spot scope (s.If p test chosen others) ≡ usages spot scope test ++ (flat_map (stmt_usages spot scope) chosen ++ flat_map (stmt_usages spot scope) others)
unfolding stmt_usages stmt_mentions usages
stmt-If spot scope p test chosen others = ap (uses_of spot scope) (ap stmt_mentions (sym (s.rolls-If p test chosen others)) ∙ fold-roll-Stmt (List Mention) stmt_step (Stmt-F.If p test chosen others)
    ∙ ap (λ r. mentions test ++ (r ++ flat_map (λ ms. ms) (map stmt_mentions others))) (flat_map-map (λ (ms : List Mention). ms) stmt_mentions chosen)
    ∙ ap (λ r. mentions test ++ (flat_map stmt_mentions chosen ++ r)) (flat_map-map (λ (ms : List Mention). ms) stmt_mentions others))
    ∙ map-append (use_of spot scope) (mentions test) (flat_map stmt_mentions chosen ++ flat_map stmt_mentions others)
    ∙ ap (λ r. usages spot scope test ++ r) (map-append (use_of spot scope) (flat_map stmt_mentions chosen) (flat_map stmt_mentions others)
    ∙ ap (λ r. r ++ uses_of spot scope (flat_map stmt_mentions others)) (map-flat_map (use_of spot scope) stmt_mentions chosen)
    ∙ ap (λ r. flat_map (stmt_usages spot scope) chosen ++ r) (map-flat_map (use_of spot scope) stmt_mentions others))

pub pushed-Set : (l : List Usage) (spot : Spot) (scope : Scope) (p : Place) (n : Name) (e : Expr)
    → l ++ stmt_usages spot scope (s.Set p n e) ≡ (l ++ use_of spot scope (record { name = n; act = act.Set }) ∷ []) ++ usages spot scope e
pushed-Set l spot scope p n e = ap (λ r. l ++ r) (stmt-Set spot scope p n e) ∙ sym (append_assoc l (use_of spot scope (record { name = n; act = act.Set }) ∷ []) (usages spot scope e))

pub pushed-Do : (l : List Usage) (spot : Spot) (scope : Scope) (p : Place) (n : Name) (args : List Expr)
    → l ++ stmt_usages spot scope (s.Do p n args) ≡ (l ++ use_of spot scope (record { name = n; act = act.Done (length args) }) ∷ []) ++ flat_map (usages spot scope) args
pushed-Do l spot scope p n args = ap (λ r. l ++ r) (stmt-Do spot scope p n args) ∙ sym (append_assoc l (use_of spot scope (record { name = n; act = act.Done (length args) }) ∷ []) (flat_map (usages spot scope) args))

pub pushed-Send : (l : List Usage) (spot : Spot) (scope : Scope) (p : Place) (o : Owner) (m : Name) (args : List Expr)
    → l ++ stmt_usages spot scope (s.Send p o m args) ≡ (l ++ uses_of spot scope (owner_mentions m (length args) o)) ++ flat_map (usages spot scope) args
pushed-Send l spot scope p o m args = ap (λ r. l ++ r) (stmt-Send spot scope p o m args) ∙ sym (append_assoc l (uses_of spot scope (owner_mentions m (length args) o)) (flat_map (usages spot scope) args))

pub pushed-If : (l : List Usage) (spot : Spot) (scope : Scope) (p : Place) (test : Expr) (chosen others : List Stmt)
    → l ++ stmt_usages spot scope (s.If p test chosen others) ≡ ((l ++ usages spot scope test) ++ flat_map (stmt_usages spot scope) chosen) ++ flat_map (stmt_usages spot scope) others
pushed-If l spot scope p test chosen others = ap (λ r. l ++ r) (stmt-If spot scope p test chosen others) ∙ sym (append3 l (usages spot scope test) (flat_map (stmt_usages spot scope) chosen) (flat_map (stmt_usages spot scope) others))

pub ruleset stmt_laws = (pushed-Set, pushed-Do, pushed-Send, pushed-If)
