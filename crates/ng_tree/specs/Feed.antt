-- What the hash of a step, a path, a node or a site is fed: which variant it is, and then what it holds.
use Rattle.std.specs.Prelude.{List, ◌++◌}
use Rattle.std.specs.Hash as fed
use Rattle.std.specs.Hash.{HashWrites}
use Rattle.ng_values.specs.Feed.{feed_of}
use Rattle.ng_tree.specs.declared.NodeId.{NodeId}
use Rattle.ng_tree.specs.declared.NodeId.TheVariants as id
use Rattle.ng_tree.specs.declared.Site.{Site}
use Rattle.ng_tree.specs.declared.Site.TheVariants as site
use Rattle.ng_tree.specs.declared.Step.{Step}
use Rattle.ng_tree.specs.declared.Step.TheVariants as step

-- a step
abbrev pub step_feed : Step → HashWrites
step_feed (step.Child n) = fed.u8 0 ++ fed.u32 n
step_feed (step.Branch n b) = (fed.u8 1 ++ fed.u32 n) ++ fed.u32 b
step_feed (step.Row n w k) = ((fed.u8 2 ++ fed.u32 n) ++ feed_of w) ++ fed.u32 k
step_feed (step.Outlet n t) = (fed.u8 3 ++ fed.u32 n) ++ fed.u32 t

-- a path
abbrev pub path_feed : List Step → HashWrites
path_feed = fed.slice step_feed

-- a node
abbrev pub node_feed : NodeId → HashWrites
node_feed id.Root = fed.u8 0
node_feed (id.At p n) = (fed.u8 1 ++ path_feed p) ++ fed.u32 n

-- a site
abbrev pub site_feed : Site → HashWrites
site_feed (site.Component p) = fed.u8 0 ++ path_feed p
site_feed (site.Element i) = fed.u8 1 ++ node_feed i
site_feed (site.Service p view t) = ((fed.u8 2 ++ path_feed p) ++ fed.bool view) ++ fed.u32 t
site_feed (site.Env e t) = (fed.u8 3 ++ fed.u32 e) ++ fed.u32 t
