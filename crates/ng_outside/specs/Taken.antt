-- What a sink has taken, where it says so.
use Rattle.std.specs.Prelude.{◌≡◌, ℕ, ◌+◌, List, [], ◌++◌, take, drop, Option, Some, None, refl}
use Rattle.std.proofs.Common.{ap, sym, ◌∙◌}
use Rattle.std.proofs.Math.Seq.{take-add}
use Rattle.std.proofs.lemmas.List.{append_assoc, append-nil}

-- a piece behind what was taken: where that is known it stays known
abbrev pub appended : Option (List ℕ) → List ℕ → Option (List ℕ)
appended None piece = None
appended (Some bytes) piece = Some (bytes ++ piece)

-- two pieces one after the other are one piece
pub appended-append : (known : Option (List ℕ)) (first second : List ℕ)
    → appended (appended known first) second ≡ appended known (first ++ second)
appended-append None first second = refl
appended-append (Some bytes) first second = ap Some (append_assoc bytes first second)

-- an empty piece changes nothing
pub appended-nil : (known : Option (List ℕ)) → appended known [] ≡ known
appended-nil None = refl
appended-nil (Some bytes) = ap Some (append-nil bytes)

-- the next part of some bytes behind the part before it
pub appended-take : (known : Option (List ℕ)) (bytes : List ℕ) (done n : ℕ)
    → appended (appended known (take done bytes)) (take n (drop done bytes)) ≡ appended known (take (done + n) bytes)
appended-take known bytes done n =
    appended-append known (take done bytes) (take n (drop done bytes)) ∙ ap (appended known) (sym (take-add done n bytes))
