-- Expressions of declarations: the function and the grammar are one.
use Rattle.std.proofs.Common.{◌≡◌, ℕ, ◌<◌, ◌≤◌, Bool, true, false, cond, [], ◌∷◌, length, refl, sym, ◌∙◌, ap, subst, arith, inl}
use Rattle.std.specs.Prelude.{nat_le, Some, None, Ok, Err}
use Rattle.std.proofs.lemmas.Bool.Decides.{nat_tests}
use Rattle.std.proofs.lemmas.List.{append-nil}
use Rattle.ng_ast.specs.declared.Expr.{Expr}
use Rattle.ng_tokens.specs.declared.kinds.Sign.{Sign}
use Rattle.ng_tokens.specs.declared.kinds.Sign.TheVariants as s
use Rattle.ng_tokens.specs.declared.kinds.Kind.{Kind}
use Rattle.ng_tokens.specs.declared.kinds.Kind.TheVariants as k
use Rattle.ng_exprs.specs.Grammar.{Tokens, ReadsPiped}
use Rattle.ng_exprs.specs.Limits.{after, opens, Passes}
use Rattle.ng_exprs.specs.Ends.{stops, is_zero}
use Rattle.ng_exprs.specs.Parse.{Outcome, Syntax, Limit, whole, turns}
use Rattle.ng_exprs.proofs.Complete.{Gets, complete as complete_tokens}
use Rattle.ng_exprs.proofs.Outcomes.{NoStop, Calm}
use Rattle.ng_exprs.proofs.Public.{at_end, at_long, limit_over, reads_one}
use Rattle.ng_exprs.proofs.Closing.{calm_of}
use Rattle.ng_phrases.specs.Words.{same_sign}
use Rattle.ng_declare.specs.Ends.{ends_by}
use Rattle.ng_declare.specs.EndsLaws.{NoEnd, same_is}
use Rattle.ng_declare.specs.Expressions.{FitsExpr, all_taken, expr_of}
use Rattle.ng_declare.specs.PartsLaws.{Part}

-- ---- the function on tokens

few : (n : ℕ) → nat_le n 256 ≡ true → n ≤ 256
few n e = grind (arith, nat_tests)

not_few : (n : ℕ) → nat_le n 256 ≡ false → 256 < n
not_few n e = grind (arith, nat_tests)

pub expr_found : (ts : Tokens) (a : Expr) → expr_of ts ≡ Some a → FitsExpr ts a
unfolding expr_of
expr_found ts a e = by (whole turns 33 ts) refl e
  where
    counted : (b : Expr) → whole turns 33 ts ≡ Ok (b, []) → (v : Bool) → nat_le (length ts) 256 ≡ v → cond v (Some b) None ≡ Some a → FitsExpr ts a
    counted b f true g h = let same : b ≡ a = cc in subst (FitsExpr ts) same (at_end ts b [] f (omega arith) (few (length ts) g))
    counted b f false g h = absurd (cc)

    by : (o : Outcome Expr) → whole turns 33 ts ≡ o → all_taken ts o ≡ Some a → FitsExpr ts a
    by (Ok (b, [])) f h = counted b f (nat_le (length ts) 256) refl h
    by (Ok (b, t ∷ us)) f h = absurd (cc)
    by (Err x) f h = absurd (cc)

pub expr_finds : (ts : Tokens) (a : Expr) → FitsExpr ts a → expr_of ts ≡ Some a
unfolding expr_of
expr_finds ts a h = by (whole turns 33 ts) refl (complete_tokens h.0 turns 33)
  where
    counted : whole turns 33 ts ≡ Ok (a, []) → (v : Bool) → nat_le (length ts) 256 ≡ v → cond v (Some a) None ≡ Some a
    counted f true g = refl
    counted f false g = absurd (h.1 (at_long ts a [] f (omega arith) (not_few (length ts) g)))

    by : (o : Outcome Expr) → whole turns 33 ts ≡ o → Gets a [] o → all_taken ts (whole turns 33 ts) ≡ Some a
    by (Ok q) f g = let same : whole turns 33 ts ≡ Ok (a, []) = f ∙ ap Ok g in ap (all_taken ts) same ∙ counted same (nat_le (length ts) 256) refl
    by (Err Limit) f g = absurd (h.1 (limit_over ts f))
    by (Err Syntax) f g = absurd g

-- ---- an expression ends nothing

ends_less : (kind : Kind) (d : ℕ) → stops kind d ≡ false → ends_by s.Semicolon kind d ≡ false
ends_less (k.Number n) d e = refl
ends_less (k.Name n) d e = refl
ends_less (k.Variable n) d e = refl
ends_less (k.Text n) d e = refl
ends_less (k.Sign y) d e = by (same_sign y s.Semicolon) refl
  where
    by : (v : Bool) → same_sign y s.Semicolon ≡ v → cond v (is_zero d) false ≡ false
    by true f = ap (λ (x : Sign). stops (k.Sign x) d) (sym (same_is s.Semicolon y f)) ∙ e
    by false f = refl

no_end : (d : ℕ) (ts : Tokens) → NoStop d ts → NoEnd s.Semicolon d ts
no_end d [] h = tt
no_end d (t ∷ ts) h = (ends_less t.kind d h.0, no_end (after t.kind d) ts h.1)

pub expr_balanced : (ts : Tokens) (a : Expr) → ReadsPiped ts a → NoEnd s.Semicolon 0 ts × (opens 0 ts ≡ 0)
expr_balanced ts a h =
    let c : (d : ℕ) × Calm d ts = calm_of ts a h in
    (no_end 0 ts (subst (NoStop 0) (append-nil ts) (c.1.steady 0 [] tt)), ap (opens 0) (sym (append-nil ts)) ∙ c.1.even 0 [])

-- ---- the part

abbrev pub expression : Part Expr
expression = record {
  ending = s.Semicolon;
  is_end = inl refl;
  reads = ReadsPiped;
  within = FitsExpr;
  passes = Passes;
  find = expr_of;
  found = expr_found;
  finds = expr_finds;
  unlimited = λ ts a h. h.0;
  one = reads_one;
  balanced = expr_balanced;
  calm = λ ts a h front more parts rest b begun passes. h.1 (front, more, parts, (rest, b, begun), passes);
}
