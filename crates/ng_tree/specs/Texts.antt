-- The texts of paths, nodes and sites.
use Rattle.std.specs.Prelude.{ℕ, zero, suc, ◌<◌, Bool, true, false, List, [], ◌∷◌, ◌++◌, length, codes, slice_index_or}
use Rattle.std.specs.Fmt.{decimal}
use Rattle.std.specs.List.{flat_map}
use Rattle.ng_values.specs.Json.{json}
use Rattle.ng_values.specs.View.{plain}
use Rattle.ng_tree.specs.declared.Names.{Names}
use Rattle.ng_tree.specs.declared.NodeId.{NodeId}
use Rattle.ng_tree.specs.declared.NodeId.TheVariants as id
use Rattle.ng_tree.specs.declared.Site.{Site}
use Rattle.ng_tree.specs.declared.Site.TheVariants as site
use Rattle.ng_tree.specs.declared.Step.{Step}
use Rattle.ng_tree.specs.declared.Step.TheVariants as step

-- the place of a row among those with its key, where it isn't the first: `#k`
abbrev pub occurrence_text : ℕ → List ℕ
occurrence_text zero = []
occurrence_text (suc k) = 35 ∷ decimal (suc k)

-- `/n`, `/n?b`, `/n[KEY]` or `/n[KEY#k]`, `/n!t`, with the key as JSON
abbrev pub step_text : Step → List ℕ
step_text (step.Child n) = 47 ∷ decimal n
step_text (step.Branch n b) = 47 ∷ decimal n ++ 63 ∷ decimal b
step_text (step.Row n w k) = 47 ∷ decimal n ++ 91 ∷ json (plain w) ++ occurrence_text k ++ 93 ∷ []
step_text (step.Outlet n t) = 47 ∷ decimal n ++ 33 ∷ decimal t

-- `.`, and then the steps
abbrev pub path_text : List Step → List ℕ
path_text p = 46 ∷ flat_map step_text p

-- `^` for the host of the root component, and else the path and `:n`
abbrev pub node_text : NodeId → List ℕ
node_text id.Root = 94 ∷ []
node_text (id.At p n) = path_text p ++ 58 ∷ decimal n

-- whether a component provides to its own view alone
abbrev pub provide_word : Bool → List ℕ
provide_word true = codes " viewprovide "
provide_word false = codes " provide "

-- the path of a component, the text of a node, `PATH provide TOKEN`, `PATH viewprovide TOKEN` or `env ENVIRONMENT TOKEN`
abbrev pub site_text : Names → Site → List ℕ
site_text names (site.Component p) = path_text p
site_text names (site.Element i) = node_text i
site_text names (site.Service p view t) = path_text p ++ provide_word view ++ slice_index_or names.tokens t []
site_text names (site.Env e t) = codes "env " ++ slice_index_or names.environments e [] ++ 32 ∷ slice_index_or names.tokens t []

-- the names have the numbers in a site
abbrev pub HasNames : Names → Site → Type 0
HasNames names (site.Component p) = Unit {0}
HasNames names (site.Element i) = Unit {0}
HasNames names (site.Service p view t) = t < length names.tokens
HasNames names (site.Env e t) = (e < length names.environments) × (t < length names.tokens)
