-- Pieces that are written one after another.
use Rattle.std.proofs.Common.{◌≡◌, ℕ, ◌+◌, [], ◌∷◌, ◌++◌, take, drop, Option, Some, None, Result, Ok, Err, refl, sym, ap, ◌∙◌, append_assoc, OnErr, length, ◌-◌, length-drop}
use Rattle.std.proofs.Math.Seq.{take-add, take-length}
use Rattle.std.proofs.lemmas.List.{take-append-drop}
use Rattle.ng_outside.specs.Taken.{appended}
use Rattle.ng_semantics.specs.Text.{Text}
use Rattle.ng_cli.specs.Causes.{Wrote, WrotePart}

pub appended-nothing : (before : Option Text) → appended before [] ≡ before
appended-nothing None = refl
appended-nothing (Some t) = ap Some (append-nothing t)
  where
    append-nothing : (t : Text) → t ++ [] ≡ t
    append-nothing [] = refl
    append-nothing (b ∷ t) = ap (λ r. b ∷ r) (append-nothing t)

pub appended-appended : (before : Option Text) (a b : Text) → appended (appended before a) b ≡ appended before (a ++ b)
appended-appended None a b = refl
appended-appended (Some t) a b = ap Some (append_assoc t a b)

-- one text, and then another
pub wrote_then : (t0 t1 t2 : Option Text) (a b : Text) → Wrote t0 t1 a → Wrote t1 t2 b → Wrote t0 t2 (a ++ b)
wrote_then t0 t1 t2 a b w v = v ∙ ap (λ t. appended t b) w ∙ appended-appended t0 a b

-- nothing
pub wrote_nothing : (t0 t1 : Option Text) → t1 ≡ t0 → Wrote t0 t1 []
wrote_nothing t0 t1 e = e ∙ sym (appended-nothing t0)

all_left : (text : Text) (done : ℕ) → take (length text - done) (drop done text) ≡ drop done text
all_left text done = ap (λ m. take m (drop done text)) (sym (length-drop done text)) ∙ take-length (drop done text)

-- the first n bytes of what is left after `done`
pub wrote_more : (t0 t1 t2 : Option Text) (text : Text) (done n : ℕ) → Wrote t0 t1 (take done text) → t2 ≡ appended t1 (take n (take (length text - done) (drop done text))) → Wrote t0 t2 (take (done + n) text)
wrote_more t0 t1 t2 text done n w v =
    wrote_then t0 t1 t2 (take done text) (take n (drop done text)) w (v ∙ ap (λ x. appended t1 (take n x)) (all_left text done)) ∙ ap (appended t0) (sym (take-add done n text))

-- a beginning, where nothing more was taken
pub wrote_front : (t0 t1 t2 : Option Text) (text : Text) (done : ℕ) → Wrote t0 t1 (take done text) → t2 ≡ t1 → WrotePart t0 t2 text
wrote_front t0 t1 t2 text done w e = record { front = take done text; rest = drop done text; whole_is = sym (take-append-drop done text); wrote = e ∙ w }

-- a whole is a part of what it begins
pub part_of_whole : (t0 t1 : Option Text) (a rest : Text) → Wrote t0 t1 a → WrotePart t0 t1 (a ++ rest)
part_of_whole t0 t1 a rest w = record { front = a; rest = rest; whole_is = refl; wrote = w }

-- a whole text, and then a part of the next, is a part of both with whatever follows
pub part_after : (t0 t1 t2 : Option Text) (a b rest : Text) → Wrote t0 t1 a → WrotePart t1 t2 b → WrotePart t0 t2 (a ++ (b ++ rest))
part_after t0 t1 t2 a b rest w p =
    record {
      front = a ++ p.front;
      rest = p.rest ++ rest;
      whole_is = ap (λ x. a ++ (x ++ rest)) p.whole_is ∙ ap (λ x. a ++ x) (append_assoc p.front p.rest rest) ∙ sym (append_assoc a p.front (p.rest ++ rest));
      wrote = wrote_then t0 t1 t2 a p.front w p.wrote;
    }

-- at an error
pub on_err : {T E Q : Type 0} (r : Result T E) → Q → OnErr r Q
on_err (Ok x) q = tt
on_err (Err e) q = q

-- a part of the beginning is a part of the whole
pub part_before : (t0 t1 : Option Text) (a rest : Text) → WrotePart t0 t1 a → WrotePart t0 t1 (a ++ rest)
part_before t0 t1 a rest p = record { front = p.front; rest = p.rest ++ rest; whole_is = ap (λ x. x ++ rest) p.whole_is ∙ append_assoc p.front p.rest rest; wrote = p.wrote }
