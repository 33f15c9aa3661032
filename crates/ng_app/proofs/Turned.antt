-- The entries from the last to the first, and back.
use Rattle.std.proofs.Common.{◌≡◌, List, [], ◌∷◌, ◌++◌, sym, ◌∙◌, ap, subst}
use Rattle.std.specs.Prelude.{reverse, Ok, Some}
use Rattle.std.specs.List.{All}
use Rattle.std.proofs.lemmas.List.{reverse-append, reverse-reverse}
use Rattle.std.proofs.lemmas.List.Elements.{All-pop}
use Rattle.std.proofs.lemmas.List.Sorted.{All-permutation, IsPermutation-reverse}
use Rattle.ng_ast.specs.declared.Decl.{Decl}
use Rattle.ng_declare.specs.declared.entries.Entry.{Entry}
use Rattle.ng_app.specs.Answers.{SourceFits, AnswersEntry, SoFar}
use Rattle.ng_app.proofs.Filled.{none_yet, one_more}

pub turned_fit : (all turned : List Entry) → turned ≡ reverse all → All SourceFits all → All SourceFits turned
turned_fit all turned e h = subst (All SourceFits) (sym e) (All-permutation SourceFits all (reverse all) (IsPermutation-reverse all) h)

-- ---- the last of the entries that are left

pub last_fits : (left less : List Entry) (e : Entry) → left ≡ less ++ e ∷ [] → All SourceFits left → SourceFits e
last_fits left less e is h = (All-pop SourceFits left less (Some e) is h).1

pub others_fit : (left less : List Entry) (e : Entry) → left ≡ less ++ e ∷ [] → All SourceFits left → All SourceFits less
others_fit left less e is h = (All-pop SourceFits left less (Some e) is h).0

-- ---- what is read of them

pub begun : (all turned : List Entry) (ds : List Decl) → turned ≡ reverse all → ds ≡ [] → SoFar all ds (reverse turned)
begun all turned ds e none =
    let back : all ≡ reverse turned = sym (ap reverse e ∙ reverse-reverse all) in
    subst (SoFar all ds) back (subst (λ (fs : List Decl). SoFar all fs all) (sym none) (none_yet all))

pub next : (all : List Entry) (ds : List Decl) (left less : List Entry) (e : Entry) → left ≡ less ++ e ∷ [] → SoFar all ds (reverse left) → SoFar all ds (e ∷ reverse less)
next all ds left less e is s =
    let turned : reverse left ≡ e ∷ reverse less = ap reverse is ∙ reverse-append less (e ∷ []) in
    subst (SoFar all ds) turned s

pub pushed : (all : List Entry) (ds more : List Decl) (e : Entry) (rest : List Entry) (d : Decl) → more ≡ ds ++ d ∷ [] → SoFar all ds (e ∷ rest) → AnswersEntry e (Ok d) → SoFar all more rest
pushed all ds more e rest d is s h = subst (λ (fs : List Decl). SoFar all fs rest) (sym is) (one_more all ds e rest d s h.0 h.1)
