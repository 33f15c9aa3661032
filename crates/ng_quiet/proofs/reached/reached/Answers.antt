use Rattle.std.proofs.Common.{◌≡◌, arith, rules, refl, sym, subst, Bool, false, List, length, replicate}
use Rattle.std.proofs.lemmas.Grind.{common_steps}
use Rattle.ng_quiet.specs.Reached.{MarksReached}
use Rattle.ng_quiet.proofs.ReachedLaws.{searches_first, searches_same, written}
use Rattle.ng_quiet.proofs.reached.reached.Goals as goal

pub returns : goal.returns
returns c =
    let e : c.as_mut_slice.result.now ≡ replicate (length c.args.graph.now) false = first_of (search rules, grind (arith, common_steps)) in
    let f : c.in_ok-ahead.ahead.items ≡ c.args.starts.now = first_of (search rules, grind (arith, common_steps)) in
    let s : MarksReached c.args.graph.now c.args.starts.now c.search.new.marks =
    c.in_ok-search.ensures c.args.starts.now (searches_same c.args.graph.now c.args.starts.now (replicate (length c.args.graph.now) false) c.as_mut_slice.result.now c.args.starts.now c.in_ok-ahead.ahead.items e f
    (searches_first c.args.graph.now c.args.starts.now (length c.args.graph.now) refl)) in
    let l : c.in_ok-marks.marks.len ≡ length c.search.new.marks = omega (arith, c.in_ok-marks.ensures.len, s.long) in
    subst (λ (m : List Bool). MarksReached c.args.graph.now c.args.starts.now m) (sym (written c.search.new.marks _ c.in_ok-marks.marks.len l)) s
