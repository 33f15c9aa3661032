-- How the value of an attribute stands behind its name.
use Rattle.std.specs.Prelude.{◌≡◌, ℕ, Bool, true, ◌∷◌, ◌++◌, Option, Some, None}
use Rattle.ng_ast.specs.declared.Place.{Place}
use Rattle.ng_tokens.specs.Lexis.{Text, all, steps}
use Rattle.ng_lex.specs.Words.{IsBlank, at_front}
use Rattle.ng_lex.specs.Attributes.{IsBare, ends_bare, Marked}
use Rattle.ng_attributes.specs.declared.at.At.{At}
use Rattle.ng_tags.specs.declared.marks.Assigned.{Assigned}
use Rattle.ng_tags.specs.declared.marks.Assigned.TheVariants as a
use Rattle.ng_attributes.specs.Places.{Fits}
use Rattle.ng_tags.specs.Tags.{NoEquals}

-- The text stands between two marks: it says the second text, whose first byte stands at the second place, and the last text comes after it.
pub record MarkedAt (p : Place) (t : Text) (s : Place) (x : Text) (q : Place) (r : Text) : Type 0 where
  pub m : Text
  pub marked : Marked m x r
  pub is : t ≡ m ++ (x ++ (m ++ r))
  pub inside : s ≡ steps p m
  pub at : q ≡ steps p (m ++ (x ++ m))

-- The text begins with `=` and a value, white space round the `=` or without.
pub record AssignedAt (p : Place) (t : Text) (s : Place) (x : Text) (q : Place) (r : Text) : Type 0 where
  pub w : Text
  pub v : Text
  pub m : Text
  pub before : IsBlank w
  pub behind : IsBlank v
  pub marked : Marked m x r
  pub is : t ≡ w ++ (61 ∷ (v ++ (m ++ (x ++ (m ++ r)))))
  pub inside : s ≡ steps p (w ++ (61 ∷ (v ++ m)))
  pub at : q ≡ steps p (w ++ (61 ∷ (v ++ (m ++ (x ++ m)))))

-- ---- what the code gives

-- both are cut off a text that isn't too long
pub record Both (one two : At) : Type 0 where
  pub inside : Fits one.place one.text.now
  pub rest : Fits two.place two.text.now

-- what stands before the mark, and what comes after it
pub record ClosedAt (p : ℕ → Bool) (m : Text) (at inside rest : At) : Type 0 where
  pub passes : all p inside.text.now ≡ true
  pub is : at.text.now ≡ inside.text.now ++ (m ++ rest.text.now)
  pub start : inside.place ≡ at.place
  pub end : rest.place ≡ steps at.place (inside.text.now ++ m)
  pub both : Both inside rest

abbrev pub IsClosed : (ℕ → Bool) → Text → At → Option (At × At) → Type 0
IsClosed p m at None = (x r : Text) → all p x ≡ true → at.text.now ≡ x ++ (m ++ r) → ⊥
IsClosed p m at (Some v) = ClosedAt p m at v.0 v.1

-- a bare value, and what comes after it
pub record BareAt (at inside rest : At) : Type 0 where
  pub bare : IsBare inside.text.now
  pub ends : at_front ends_bare rest.text.now ≡ true
  pub is : at.text.now ≡ inside.text.now ++ rest.text.now
  pub start : inside.place ≡ at.place
  pub end : rest.place ≡ steps at.place inside.text.now
  pub both : Both inside rest

abbrev pub IsBareAt : At → Option (At × At) → Type 0
IsBareAt at None = (x r : Text) → IsBare x → at_front ends_bare r ≡ true → at.text.now ≡ x ++ r → ⊥
IsBareAt at (Some v) = BareAt at v.0 v.1

abbrev pub IsMarked : At → Option (At × At) → Type 0
IsMarked at None = (s q : Place) (x r : Text) → MarkedAt at.place at.text.now s x q r → ⊥
IsMarked at (Some v) = MarkedAt at.place at.text.now v.0.place v.0.text.now v.1.place v.1.text.now × Both v.0 v.1

abbrev pub IsAssigned : At → Assigned → Type 0
IsAssigned at a.Nothing = NoEquals at.text.now
IsAssigned at (a.Broken p) = (NoEquals at.text.now → ⊥) × ((s q : Place) (x r : Text) → AssignedAt at.place at.text.now s x q r → ⊥)
IsAssigned at (a.Value inside rest) = AssignedAt at.place at.text.now inside.place inside.text.now rest.place rest.text.now × Both inside rest
