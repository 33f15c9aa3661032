-- Names of which none repeats another.
use Rattle.std.proofs.Common.{◌≡◌, Bool, true, false, not, List, [], ◌∷◌, map, bytes_eq, refl, sym, ◌∙◌, ap}
use Rattle.std.proofs.lemmas.Bool.{and_from, or_left, or_right, or_from}
use Rattle.std.proofs.lemmas.Slice.Eq.{bytes_eq-Decides}
use Rattle.ng_parts.specs.declared.site.Site.{Site}
use Rattle.ng_parts.specs.Sites.{Name, when, is_among, repeats_after, repeats}
use Rattle.ng_semantics.specs.First.{has_name, all_differ}
use Rattle.ng_ready.proofs.Empty.{left_empty, right_empty}

abbrev pub site_names : List Site → List Name
site_names = map (λ s. s.name)

unrepeated : (t : Bool) (s : Site) → when t s ≡ [] → t ≡ false
unrepeated true s e = absurd (cc)
unrepeated false s e = refl

-- a name before others that is none of them
other : (before : List Name) (n m : Name) (t : Bool) → bytes_eq n m ≡ t → is_among before n ≡ true → is_among before m ≡ false → t ≡ false
other before n m false e among not_among = refl
other before n m true e among not_among =
    let same : n ≡ m = (bytes_eq-Decides n m).0 e in
    absurd (let k : true ≡ false = sym among ∙ ap (is_among before) same ∙ not_among in cc)

apart : (before : List Name) (n : Name) (ss : List Site) → is_among before n ≡ true → repeats_after before ss ≡ [] → has_name n (site_names ss) ≡ false
apart before n [] among e = refl
apart before n (s ∷ ss) among e =
    or_from _ _
    (other before n s.name (bytes_eq n s.name) refl among (unrepeated _ _ (left_empty _ _ e)))
    (apart (s.name ∷ before) n ss (or_right _ _ among) (right_empty _ _ e))

differ_after : (before : List Name) (ss : List Site) → repeats_after before ss ≡ [] → all_differ (site_names ss) ≡ true
differ_after before [] e = refl
differ_after before (s ∷ ss) e =
    let rest : repeats_after (s.name ∷ before) ss ≡ [] = right_empty _ _ e in
    let own : is_among (s.name ∷ before) s.name ≡ true = or_left _ _ ((bytes_eq-Decides s.name s.name).1 refl) in
    and_from _ _ (ap not (apart (s.name ∷ before) s.name ss own rest)) (differ_after (s.name ∷ before) ss rest)

-- where no site repeats a name, all names differ
pub differ : (ss : List Site) → repeats ss ≡ [] → all_differ (site_names ss) ≡ true
differ = differ_after []
