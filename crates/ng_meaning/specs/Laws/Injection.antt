-- What a token gives doesn't depend on what is live.
use Rattle.std.specs.Prelude.{◌≡◌, List, [], Option, Result, Ok, Err}
use Rattle.std.proofs.Common.{ap}
use Rattle.ng_values.specs.declared.fault.Fault.{Fault}
use Rattle.ng_ast.specs.declared.App.{App}
use Rattle.ng_ast.specs.declared.Flag.{Flag}
use Rattle.ng_tree.specs.declared.Item.{Item}
use Rattle.ng_tree.specs.declared.Site.{Site}
use Rattle.ng_meaning.specs.Lists.{Text}
use Rattle.ng_meaning.specs.World.{World}
use Rattle.ng_meaning.specs.Steps.{and_then, pure}
use Rattle.ng_meaning.specs.Injection.{Made, search, askers, provided, bear, after_search, resolved}

-- an answer that follows a step is the one that was to be given
answers : (i j : Item) (r : Result (Unit {0}) Fault) (world : World) → (and_then r world (λ _. pure i)).0 ≡ Ok j → i ≡ j
answers i j (Ok u) world e = cc
answers i j (Err f) world e = cc

given_by : (app : App) (r : Result Item Fault) (made : List Made) (world : World) (i : Item) → (after_search app (r, made) world).0 ≡ Ok i → r ≡ Ok i
given_by app (Ok j) made world i e = ap Ok (answers j i (bear app made world).0 (bear app made world).1 e)
given_by app (Err f) made world i e = cc

refused_by : (app : App) (r : Result Item Fault) (made : List Made) (world : World) (f : Fault) → r ≡ Err f → after_search app (r, made) world ≡ (Err f, world)
refused_by app (Ok j) made world f e = cc
refused_by app (Err g) made world f e = λ i. (e i, world)

-- What is given when a token is resolved is what the application and the place alone say.
pub resolved-provided : (app : App) (from : Option Site) (token : Text) (flags : List Flag) (world : World) (i : Item) → (resolved app from token flags world).0 ≡ Ok i → provided app from token flags ≡ Ok i
unfolding resolved provided
resolved-provided app from token flags world i e = let r = search app (askers from) from token flags [] in given_by app r.0 r.1 world i e

-- A search that fails is refused at once, whatever is live, and nothing is born.
pub resolved-refused : (app : App) (from : Option Site) (token : Text) (flags : List Flag) (world : World) (f : Fault) → provided app from token flags ≡ Err f → resolved app from token flags world ≡ (Err f, world)
unfolding resolved provided
resolved-refused app from token flags world f e = let r = search app (askers from) from token flags [] in refused_by app r.0 r.1 world f e
