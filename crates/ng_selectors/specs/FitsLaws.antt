-- The equations of what fits.
use Rattle.std.specs.Prelude.{◌≡◌, ℕ, zero, suc, ◌<◌, ◌≤◌, Bool, not, ◌&&◌, List, [], ◌∷◌, refl}
use Rattle.std.specs.List.{list_all}
use Rattle.std.proofs.Common.{ap, sym, ◌∙◌, arith}
use denote.Param.Weighed.{most}
use Rattle.ng_tokens.specs.Lexis.{Text}
use Rattle.ng_ast.specs.declared.One.{One}
use Rattle.ng_ast.specs.declared.SelPart.{SelPart, out-SelPart, roll-SelPart, size-SelPart}
use Rattle.ng_ast.specs.declared.SelPart.TheOpen.{SelPart-F}
use Rattle.ng_ast.specs.declared.SelPart.TheVariants as kind
use Rattle.ng_ast.specs.declared.SelPart.TheViews.{roll-out-SelPart, sized-Not, size-One, size_is-One}
use Rattle.ng_selectors.specs.declared.Attr.{Attr}
use Rattle.ng_selectors.specs.Fits.{has, has_value, has_class, tag_fits, layer_fits, one_within, one_fits, part_fits}

inside_smaller : (p : SelPart) (a : One) → out-SelPart p ≡ SelPart-F.Not a → size-One a < size-SelPart p
inside_smaller p a e = omega (arith, ap size-SelPart (sym (roll-out-SelPart p) ∙ ap roll-SelPart e ∙ kind.rolls-Not a), sized-Not a)

module _ (tag : Text) (attrs : List Attr) where
  -- tests that agree on what stands in a `:not` agree on a part
  part_same : (f g : One → Bool) (p : SelPart) → ((a : One) → size-One a < size-SelPart p → f a ≡ g a) → layer_fits tag attrs f (out-SelPart p) ≡ layer_fits tag attrs g (out-SelPart p)
  part_same f g p go = by (out-SelPart p) refl
    where
      by : (l : SelPart-F SelPart One) → out-SelPart p ≡ l → layer_fits tag attrs f l ≡ layer_fits tag attrs g l
      by (SelPart-F.Has n) e = refl
      by (SelPart-F.Is n v) e = refl
      by (SelPart-F.Class c) e = refl
      by (SelPart-F.Not a) e = ap not (go a (inside_smaller p a e))

  parts_same : (f g : One → Bool) (k : ℕ) (ps : List SelPart) → ((a : One) → size-One a < k → f a ≡ g a) → most size-SelPart ps ≤ k
      → list_all (λ p. layer_fits tag attrs f (out-SelPart p)) ps ≡ list_all (λ p. layer_fits tag attrs g (out-SelPart p)) ps
  parts_same f g k [] go small = refl
  parts_same f g k (p ∷ ps) go small =
      ap (λ x. x && list_all (λ q. layer_fits tag attrs f (out-SelPart q)) ps) (part_same f g p (λ a less. go a (omega arith)))
      ∙ ap (λ x. layer_fits tag attrs g (out-SelPart p) && x) (parts_same f g k ps go (omega arith))

  parts_smaller : (a : One) → most size-SelPart a.parts < size-One a
  parts_smaller a = omega (arith, size_is-One a)

  -- more levels than an alternative is deep change nothing
  within_same : (m n : ℕ) (a : One) → size-One a < m → size-One a < n → one_within tag attrs m a ≡ one_within tag attrs n a
  within_same zero n a l k = absurd (omega arith)
  within_same (suc m) zero a l k = absurd (omega arith)
  within_same (suc m) (suc n) a l k =
      ap (λ x. tag_fits tag a.tag && x)
      (parts_same (one_within tag attrs m) (one_within tag attrs n) (most size-SelPart a.parts) a.parts
      (λ b less. within_same m n b (omega (arith, parts_smaller a)) (omega (arith, parts_smaller a))) (omega arith))

  -- an alternative fits where its tag does and every part
  pub one_fits_is : (a : One) → one_fits tag attrs a ≡ (tag_fits tag a.tag && list_all (part_fits tag attrs) a.parts)
  unfolding one_fits part_fits
  one_fits_is a =
      ap (λ x. tag_fits tag a.tag && x)
      (parts_same (one_within tag attrs (size-One a)) (one_fits tag attrs) (most size-SelPart a.parts) a.parts
      (λ b less. within_same (size-One a) (suc (size-One b)) b (omega (arith, parts_smaller a)) (omega arith)) (omega arith))

  pub part_fits-Has : (n : Text) → part_fits tag attrs (kind.Has n) ≡ has attrs n
  unfolding part_fits
  part_fits-Has n = ap (layer_fits tag attrs (one_fits tag attrs)) (kind.outs-Has n)

  pub part_fits-Is : (n v : Text) → part_fits tag attrs (kind.Is n v) ≡ has_value attrs n v
  unfolding part_fits
  part_fits-Is n v = ap (layer_fits tag attrs (one_fits tag attrs)) (kind.outs-Is n v)

  pub part_fits-Class : (c : Text) → part_fits tag attrs (kind.Class c) ≡ has_class attrs c
  unfolding part_fits
  part_fits-Class c = ap (layer_fits tag attrs (one_fits tag attrs)) (kind.outs-Class c)

  pub part_fits-Not : (a : One) → part_fits tag attrs (kind.Not a) ≡ not (one_fits tag attrs a)
  unfolding part_fits
  part_fits-Not a = ap (layer_fits tag attrs (one_fits tag attrs)) (kind.outs-Not a)

pub ruleset part_laws = (part_fits-Has, part_fits-Is, part_fits-Class, part_fits-Not)
