use Rattle.std.proofs.Common.{◌≡◌, ℕ, List, ◌+◌, ◌-◌, [], ◌∷◌, ◌++◌, arith, inl, inr, sym, ◌∙◌, ap, nat_cmp}
use Rattle.std.specs.Prelude.{unwrap_or}
use Rattle.std.specs.Map.{lookup}
use Rattle.std.specs.BTreeMap.{is_at, insert_entry}
use Rattle.std.specs.Cmp.Lexicographic.{slice_cmp}
use Rattle.ng_values.specs.Make.{put_all}
use Rattle.ng_values.specs.Measure.{pair_weight, rec_weight}
use Rattle.ng_values.specs.View.{plain, plain_pairs}
use Rattle.ng_declare.specs.Constants.{fits_rec}
use Rattle.ng_declare.specs.Weights.{measures}
use Rattle.ng_declare.proofs.Weighing.{pairs_full, pairs_more, pairs_weight, pairs_heavy}
use Rattle.ng_declare.proofs.weights.Pairing.push.Goals as goal

pub returns-then-own-gt-MAX_WEIGHT-clause-refused : goal.returns-then-own-gt-MAX_WEIGHT-clause-refused
returns-then-own-gt-MAX_WEIGHT-clause-refused c = pairs_full c.args.self.now.pairs.items c.args.key c.args.value (inl (omega arith))

pub returns-then-depth-gt-MAX_INNER_DEPTH-clause-refused : goal.returns-then-depth-gt-MAX_INNER_DEPTH-clause-refused
returns-then-depth-gt-MAX_INNER_DEPTH-clause-refused c = pairs_full c.args.self.now.pairs.items c.args.key c.args.value (inr (omega arith))

pub overflow_sub-weight : goal.overflow_sub-weight
overflow_sub-weight c =
    let own : c.pair_weight-own.result ≡ pair_weight (c.args.key, plain c.args.value) = omega arith in
    let had : c.unwrap_or-before.result ≡ unwrap_or (lookup (is_at (slice_cmp nat_cmp c.args.key)) c.args.self.now.weights.entries) 0 = c.unwrap_or-before.ensures ∙ ap (λ o. unwrap_or o 0) c.in_ok-insert.ensures.old ∙ ap (λ (k : List ℕ). unwrap_or (lookup (is_at (slice_cmp nat_cmp k)) c.args.self.now.weights.entries) 0) c.in_ok-copy.ensures in
    let e = pairs_weight c.args.self.now.pairs.items c.args.self.now.weights.entries c.args.self.now.weight c.args.key c.args.value c.requires c.in_ok-insert.ensures.was_ordered in
    omega (arith, own, had, e)

pub returns-then-weight-gt-MAX_WEIGHT-clause-refused : goal.returns-then-weight-gt-MAX_WEIGHT-clause-refused
returns-then-weight-gt-MAX_WEIGHT-clause-refused c =
    let own : c.pair_weight-own.result ≡ pair_weight (c.args.key, plain c.args.value) = omega arith in
    let had : c.unwrap_or-before.result ≡ unwrap_or (lookup (is_at (slice_cmp nat_cmp c.args.key)) c.args.self.now.weights.entries) 0 = c.unwrap_or-before.ensures ∙ ap (λ o. unwrap_or o 0) c.in_ok-insert.ensures.old ∙ ap (λ (k : List ℕ). unwrap_or (lookup (is_at (slice_cmp nat_cmp k)) c.args.self.now.weights.entries) 0) c.in_ok-copy.ensures in
    let e = pairs_weight c.args.self.now.pairs.items c.args.self.now.weights.entries c.args.self.now.weight c.args.key c.args.value c.requires c.in_ok-insert.ensures.was_ordered in
    pairs_heavy (c.args.self.now.pairs.items ++ (c.args.key, c.args.value) ∷ []) (omega (arith, own, had, e))

pub returns-clause-weighs : goal.returns-clause-weighs
returns-clause-weighs c =
    let own : c.pair_weight-own.result ≡ pair_weight (c.args.key, plain c.args.value) = omega arith in
    let had : c.unwrap_or-before.result ≡ unwrap_or (lookup (is_at (slice_cmp nat_cmp c.args.key)) c.args.self.now.weights.entries) 0 = c.unwrap_or-before.ensures ∙ ap (λ o. unwrap_or o 0) c.in_ok-insert.ensures.old ∙ ap (λ (k : List ℕ). unwrap_or (lookup (is_at (slice_cmp nat_cmp k)) c.args.self.now.weights.entries) 0) c.in_ok-copy.ensures in
    let e = pairs_weight c.args.self.now.pairs.items c.args.self.now.weights.entries c.args.self.now.weight c.args.key c.args.value c.requires c.in_ok-insert.ensures.was_ordered in
    let all : c.push.new.self.items ≡ c.args.self.now.pairs.items ++ (c.args.key, c.args.value) ∷ [] = c.in_ok-push.ensures.items in
    let now : (c.args.self.now.weight + c.pair_weight-own.result) - c.unwrap_or-before.result ≡ rec_weight (put_all [] (plain_pairs (c.args.self.now.pairs.items ++ (c.args.key, c.args.value) ∷ []))) = omega (arith, own, had, e) in
    let m = pairs_more c.args.self.now.pairs.items c.args.self.now.weights.entries c.args.self.now.weight ((c.args.self.now.weight + c.pair_weight-own.result) - c.unwrap_or-before.result) c.args.key c.args.value c.requires now (omega arith) (omega arith) in
    record {
      fits = ap fits_rec all ∙ m.fits;
      kept = c.in_ok-insert.ensures.entries ∙ ap (λ (k : List ℕ). insert_entry (slice_cmp nat_cmp) c.args.self.now.weights.entries k c.pair_weight-own.result) c.in_ok-copy.ensures ∙ ap (λ (n : ℕ). insert_entry (slice_cmp nat_cmp) c.args.self.now.weights.entries c.args.key n) own ∙ m.kept ∙ ap measures (sym all);
      weighs = m.weighs ∙ ap (λ ps. rec_weight (put_all [] (plain_pairs ps))) (sym all);
    }
