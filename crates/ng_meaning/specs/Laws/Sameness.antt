-- The tests of sameness decide equality.
use Rattle.std.specs.Prelude.{◌≡◌, ℕ, Bool, true, false, ◌&&◌, nat_eq, List, bytes_eq, refl}
use Rattle.std.specs.Bool.{Decides}
use Rattle.std.proofs.Common.{ap, subst}
use Rattle.std.proofs.lemmas.Bool.Decides.{Decides-like, Decides-and, Decides-eqb}
use Rattle.std.proofs.lemmas.Slice.Eq.{slice_eq-Decides}
use Rattle.ng_values.specs.declared.value.Value.{Value}
use Rattle.ng_values.specs.OrderTotal.{value_ties}
use Rattle.ng_values.specs.Same.{is_same_decides}
use Rattle.ng_tree.specs.declared.Step.{Step}
use Rattle.ng_tree.specs.declared.Step.TheVariants as step
use Rattle.ng_tree.specs.declared.NodeId.{NodeId}
use Rattle.ng_tree.specs.declared.NodeId.TheVariants as id
use Rattle.ng_tree.specs.declared.Site.{Site}
use Rattle.ng_tree.specs.declared.Site.TheVariants as site
use Rattle.ng_meaning.specs.Same.{same_truth, same_value, same_step, same_path, same_node, same_site}

pub same_value_decides : (v w : Value) → Decides (same_value v w) (v ≡ w)
same_value_decides v w = subst (λ (b : Bool). Decides b (v ≡ w)) (value_ties v w) (is_same_decides v w)

same_truth_decides : (u v : Bool) → Decides (same_truth u v) (u ≡ v)
same_truth_decides true true = (λ h. refl, λ e. refl)
same_truth_decides false false = (λ h. refl, λ e. refl)
same_truth_decides true false = (λ h. cc, λ e. cc)
same_truth_decides false true = (λ h. cc, λ e. cc)

pub same_step_decides : (a b : Step) → Decides (same_step a b) (a ≡ b)
same_step_decides (step.Child m) (step.Child n) = Decides-like (nat_eq m n) (ap step.Child) (λ (e : step.Child m ≡ step.Child n). cc) (Decides-eqb m n)
same_step_decides (step.Branch m a) (step.Branch n b) =
    Decides-like (nat_eq m n && nat_eq a b) (λ (p : (m ≡ n) × (a ≡ b)). cc) (λ (e : step.Branch m a ≡ step.Branch n b). (cc, cc))
    (Decides-and (nat_eq m n) (nat_eq a b) (Decides-eqb m n) (Decides-eqb a b))
same_step_decides (step.Row m v j) (step.Row n w k) =
    Decides-like (nat_eq m n && nat_eq j k && same_value v w) (λ (p : ((m ≡ n) × (j ≡ k)) × (v ≡ w)). cc) (λ (e : step.Row m v j ≡ step.Row n w k). ((cc, cc), cc))
    (Decides-and (nat_eq m n && nat_eq j k) (same_value v w) (Decides-and (nat_eq m n) (nat_eq j k) (Decides-eqb m n) (Decides-eqb j k)) (same_value_decides v w))
same_step_decides (step.Outlet m t) (step.Outlet n u) =
    Decides-like (nat_eq m n && nat_eq t u) (λ (p : (m ≡ n) × (t ≡ u)). cc) (λ (e : step.Outlet m t ≡ step.Outlet n u). (cc, cc))
    (Decides-and (nat_eq m n) (nat_eq t u) (Decides-eqb m n) (Decides-eqb t u))
same_step_decides a b = (λ h. cc, λ e. cc)

pub same_path_decides : (p q : List Step) → Decides (same_path p q) (p ≡ q)
same_path_decides p q = slice_eq-Decides same_step_decides p q (same_path p q) refl

pub same_node_decides : (a b : NodeId) → Decides (same_node a b) (a ≡ b)
same_node_decides id.Root id.Root = (λ h. refl, λ e. refl)
same_node_decides (id.At p m) (id.At q n) =
    Decides-like (nat_eq m n && same_path p q) (λ (h : (m ≡ n) × (p ≡ q)). cc) (λ (e : id.At p m ≡ id.At q n). (cc, cc)) (Decides-and (nat_eq m n) (same_path p q) (Decides-eqb m n) (same_path_decides p q))
same_node_decides a b = (λ h. cc, λ e. cc)

pub same_site_decides : (a b : Site) → Decides (same_site a b) (a ≡ b)
same_site_decides (site.Component p) (site.Component q) = Decides-like (same_path p q) (ap site.Component) (λ (e : site.Component p ≡ site.Component q). cc) (same_path_decides p q)
same_site_decides (site.Element a) (site.Element b) = Decides-like (same_node a b) (ap site.Element) (λ (e : site.Element a ≡ site.Element b). cc) (same_node_decides a b)
same_site_decides (site.Service p u m) (site.Service q v n) =
    Decides-like (nat_eq m n && same_truth u v && same_path p q) (λ (h : ((m ≡ n) × (u ≡ v)) × (p ≡ q)). cc) (λ (e : site.Service p u m ≡ site.Service q v n). ((cc, cc), cc))
    (Decides-and (nat_eq m n && same_truth u v) (same_path p q) (Decides-and (nat_eq m n) (same_truth u v) (Decides-eqb m n) (same_truth_decides u v)) (same_path_decides p q))
same_site_decides (site.Env d m) (site.Env e n) =
    Decides-like (nat_eq d e && nat_eq m n) (λ (h : (d ≡ e) × (m ≡ n)). cc) (λ (h : site.Env d m ≡ site.Env e n). (cc, cc)) (Decides-and (nat_eq d e) (nat_eq m n) (Decides-eqb d e) (Decides-eqb m n))
same_site_decides a b = (λ h. cc, λ e. cc)

pub same_text_decides : (s t : List ℕ) → Decides (bytes_eq s t) (s ≡ t)
same_text_decides s t = slice_eq-Decides Decides-eqb s t (bytes_eq s t) refl
