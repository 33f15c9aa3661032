use Rattle.std.proofs.Common.{◌≡◌, ◌+◌, [], ◌∷◌, ◌++◌, arith, inl, inr, sym, ◌∙◌, ap}
use Rattle.ng_values.specs.Measure.{weight, list_weight}
use Rattle.ng_values.specs.View.{plain, plain_items}
use Rattle.ng_declare.specs.Constants.{fits_list}
use Rattle.ng_declare.proofs.Weighing.{items_full, items_more}
use Rattle.ng_declare.proofs.weights.Listing.push.Goals as goal

pub returns-then-weight-gt-MAX_WEIGHT-clause-refused : goal.returns-then-weight-gt-MAX_WEIGHT-clause-refused
returns-then-weight-gt-MAX_WEIGHT-clause-refused c = items_full c.args.self.now.items.items c.args.self.now.weight c.args.item c.requires (inl (omega arith))

pub returns-then-depth-gt-MAX_INNER_DEPTH-clause-refused : goal.returns-then-depth-gt-MAX_INNER_DEPTH-clause-refused
returns-then-depth-gt-MAX_INNER_DEPTH-clause-refused c = items_full c.args.self.now.items.items c.args.self.now.weight c.args.item c.requires (inr (omega arith))

pub returns-clause-weighs : goal.returns-clause-weighs
returns-clause-weighs c =
    let all : c.push.new.self.items ≡ c.args.self.now.items.items ++ c.args.item ∷ [] = c.in_ok-push.ensures.items in
    let now : c.saturating_add-weight.result ≡ weight (plain c.args.item) + c.args.self.now.weight = omega arith in
    let m = items_more c.args.self.now.items.items c.args.self.now.weight c.args.item c.requires (omega arith) (omega arith) in
    record { fits = ap fits_list all ∙ m.fits; weighs = now ∙ m.weighs ∙ ap (λ vs. list_weight (plain_items vs)) (sym all) }
