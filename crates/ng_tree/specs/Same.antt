-- Whether two steps, paths, nodes or sites are one, as a test.
use Rattle.std.specs.Prelude.{◌≡◌, Bool, List, refl}
use Rattle.std.specs.Bool.{Decides}
use Rattle.std.specs.Cmp.Lexicographic.{pointwise}
use Rattle.std.proofs.Common.{ap}
use Rattle.std.proofs.lemmas.Slice.Eq.{slice_eq-Decides}
use Rattle.ng_values.specs.Stored.{is_one, is_one_decides}
use Rattle.ng_tree.specs.declared.NodeId.{NodeId}
use Rattle.ng_tree.specs.declared.Site.{Site}
use Rattle.ng_tree.specs.declared.Step.{Step}
use Rattle.ng_tree.specs.contracts.NodeId as node_row
use Rattle.ng_tree.specs.contracts.Site as site_row
use Rattle.ng_tree.specs.contracts.Step as step_row

-- two steps
abbrev pub is_same_step : Step → Step → Bool
is_same_step a b = is_one (step_row.the_row.coded.code a) (step_row.the_row.coded.code b)

pub is_same_step_decides : (a b : Step) → Decides (is_same_step a b) (a ≡ b)
is_same_step_decides a b =
    let d = is_one_decides (step_row.the_row.coded.code a) (step_row.the_row.coded.code b) in
    (λ h. step_row.the_row.coded.inj a b (d.0 h), λ e. d.1 (ap step_row.the_row.coded.code e))

-- two paths, step by step
abbrev pub is_same_path : List Step → List Step → Bool
is_same_path = pointwise is_same_step

pub is_same_path_decides : (p q : List Step) → Decides (is_same_path p q) (p ≡ q)
is_same_path_decides p q = slice_eq-Decides is_same_step_decides p q (is_same_path p q) refl

-- two nodes
abbrev pub is_same_node : NodeId → NodeId → Bool
is_same_node a b = is_one (node_row.the_row.coded.code a) (node_row.the_row.coded.code b)

pub is_same_node_decides : (a b : NodeId) → Decides (is_same_node a b) (a ≡ b)
is_same_node_decides a b =
    let d = is_one_decides (node_row.the_row.coded.code a) (node_row.the_row.coded.code b) in
    (λ h. node_row.the_row.coded.inj a b (d.0 h), λ e. d.1 (ap node_row.the_row.coded.code e))

-- two sites
abbrev pub is_same_site : Site → Site → Bool
is_same_site a b = is_one (site_row.the_row.coded.code a) (site_row.the_row.coded.code b)

pub is_same_site_decides : (a b : Site) → Decides (is_same_site a b) (a ≡ b)
is_same_site_decides a b =
    let d = is_one_decides (site_row.the_row.coded.code a) (site_row.the_row.coded.code b) in
    (λ h. site_row.the_row.coded.inj a b (d.0 h), λ e. d.1 (ap site_row.the_row.coded.code e))
