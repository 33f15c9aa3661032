use Rattle.std.proofs.Common.{◌≤◌, length, sym, ◌∙◌, ap, subst, arith, rules}
use Rattle.ng_tags.specs.Outlets.{is_bar}
use Rattle.ng_tags.proofs.OutletSteps.{top_within}
use Rattle.ng_tags.proofs.OutletAnswers.{leaf_bar, leaf_none, leaf_limit, leaf_form}
use Rattle.ng_tags.proofs.outlets.leaf.Goals as goal

pub returns-then-is_bar : goal.returns-then-is_bar
returns-then-is_bar c = leaf_bar c.args.cursor c.args.len c.requires.top c.requires.plain (ap is_bar (sym c.sign.ensures) ∙ sym c.is_bar.ensures ∙ c.if-is_bar.true)

pub slice_bounds-leaf_of-end : goal.slice_bounds-leaf_of-end
slice_bounds-leaf_of-end c = let h : c.args.len ≤ length c.args.cursor.tokens.now = subst (λ n. n ≤ length c.args.cursor.tokens.now) (sym c.requires.top) (top_within 0 c.args.cursor.tokens.now) in search rules

pub returns-in_default : goal.returns-in_default
returns-in_default c = leaf_none c.args.cursor c.args.len c.requires.top c.requires.plain (sym c.in_ok-found.ensures ∙ c.in_default.is)

pub returns-then-budget-eq0 : goal.returns-then-budget-eq0
returns-then-budget-eq0 c = leaf_limit c.args.cursor c.args.len c.requires.top c.requires.plain c.in-Some.found c.args.budget (sym c.in_ok-found.ensures ∙ c.in-Some.is) c.if-budget-eq0.true

pub skip-requires-clause-within : goal.skip-requires-clause-within
skip-requires-clause-within c = subst (λ n. n ≤ length c.args.cursor.tokens.now) (sym c.requires.top) (top_within 0 c.args.cursor.tokens.now)

pub returns : goal.returns
returns c =
    leaf_form c.args.cursor c.args.len c.requires.top c.requires.plain c.in-Some.found c.args.budget c.skip.result (ap is_bar (sym c.sign.ensures) ∙ sym c.is_bar.ensures ∙ c.if-is_bar.false) (sym c.in_ok-found.ensures ∙ c.in-Some.is) (omega arith) c.skip.ensures
