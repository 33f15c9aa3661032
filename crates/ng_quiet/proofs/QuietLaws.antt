-- Every component with a mark keeps both rules.
use Rattle.std.proofs.Common.{◌≡◌, refl, sym, ◌∙◌, ap, subst, ℕ, zero, suc, ◌+◌, ◌<◌, ◌≤◌, ◌↔◌, Bool, false, List, [], ◌∷◌, ◌++◌, length, map, get_or, take, inl, inr, Some, slice_get, IsTrue, Bor, arith}
use Rattle.std.proofs.lemmas.List.{take_more, length-map, length-take}
use Rattle.std.specs.Prelude.{Result, Ok, Err, IfOk}
use Rattle.std.specs.declared.alloc.AllocError.{AllocError}
use Rattle.ng_ast.specs.declared.App.{App}
use Rattle.ng_ast.specs.declared.Component.{Component}
use Rattle.ng_hosts.specs.Hosts.{Name, components}
use Rattle.ng_quiet.specs.Reached.{IsMarked}
use Rattle.ng_quiet.specs.Quiet.{MayBeSkipped, reads_steadily, is_called, KeepsFields, IsQuiet}
use Rattle.ng_quiet.specs.Used.{MarksSkipped, AllKeep}
use Rattle.ng_quiet.proofs.Members.{get_push, map_test}

-- what the code asks of a component
abbrev pub Keeps : List Bool → List Bool → (Name → Bool) → ℕ → Component → Type 0
Keeps marks steady called k c = IsMarked marks k → IsTrue (get_or steady k false) × KeepsFields called c

keep_push : (cs : List Component) (c : Component) (marks steady : List Bool) (called : Name → Bool) → AllKeep cs marks steady called → Keeps marks steady called (length cs) c
    → AllKeep (cs ++ c ∷ []) marks steady called
keep_push cs c marks steady called so_far here k d at = elim (get_push cs c k d at) [
  | inl i ↦ so_far k d i
  | inr r ↦ subst (Keeps marks steady called k) r.1 (subst (λ (n : ℕ). Keeps marks steady called n c) (sym r.0) here)
]

map_push : (rs : List (Bor Component)) (r : Bor Component) → map (λ (c : Bor Component). c.now) (rs ++ r ∷ []) ≡ map (λ (c : Bor Component). c.now) rs ++ r.now ∷ []
map_push [] r = refl
map_push (q ∷ rs) r = ap (λ (l : List Component). q.now ∷ l) (map_push rs r)

map_taken : (rs : List (Bor Component)) (i : ℕ) → i < length rs → length (map (λ (c : Bor Component). c.now) (take i rs)) ≡ i
map_taken rs i small = simp (length-map, length-take) (omega arith)

-- one component more
pub keep_more : (rs : List (Bor Component)) (i : ℕ) (r : Bor Component) (marks steady : List Bool) (called : Name → Bool) → i < length rs → r ≡ get_or rs i r
    → AllKeep (map (λ (c : Bor Component). c.now) (take i rs)) marks steady called → Keeps marks steady called i r.now
    → AllKeep (map (λ (c : Bor Component). c.now) (take (i + 1) rs)) marks steady called
keep_more rs i r marks steady called small is so_far here =
    let cut : take (i + 1) rs ≡ take i rs ++ r ∷ [] = take_more rs i r small ∙ ap (λ (q : Bor Component). take i rs ++ q ∷ []) (sym is) in
    subst (λ (l : List Component). AllKeep l marks steady called) (sym (ap (map (λ (c : Bor Component). c.now)) cut ∙ map_push (take i rs) r))
    (keep_push (map (λ (c : Bor Component). c.now) (take i rs)) r.now marks steady called so_far (subst (λ (n : ℕ). Keeps marks steady called n r.now) (sym (map_taken rs i small)) here))

mapped_at : (rs : List (Bor Component)) (i : ℕ) (r : Bor Component) → i < length rs → r ≡ get_or rs i r → slice_get (map (λ (c : Bor Component). c.now) rs) i ≡ Some r.now
mapped_at [] i r small is = absurd (omega arith)
mapped_at (q ∷ rs) zero r small is = ap (λ (c : Bor Component). Some c.now) (sym is)
mapped_at (q ∷ rs) (suc i) r small is = mapped_at rs i r (omega arith) is

-- one that doesn't keep them
pub keep_not : (rs : List (Bor Component)) (i : ℕ) (r : Bor Component) (marks steady : List Bool) (called : Name → Bool) → i < length rs → r ≡ get_or rs i r
    → (Keeps marks steady called i r.now → IsTrue false) → (IsTrue false → AllKeep (map (λ (c : Bor Component). c.now) rs) marks steady called) × (AllKeep (map (λ (c : Bor Component). c.now) rs) marks steady called → IsTrue false)
keep_not rs i r marks steady called small is never = (λ h. absurd (cc), λ all. never (all i r.now (mapped_at rs i r small is)))

-- the application is quiet exactly where all keep them
pub quiet_is : (app : App) (cs : List Component) (marks steady : List Bool) (called : Name → Bool) → cs ≡ components app.decls → MarksSkipped cs marks
    → steady ≡ map reads_steadily (components app.decls) → ((n : Name) → called n ≡ is_called app.decls n)
    → (AllKeep cs marks steady called → IsQuiet app) × (IsQuiet app → AllKeep cs marks steady called)
quiet_is app cs marks steady called are marked read same =
    let m : MarksSkipped (components app.decls) marks = subst (λ (l : List Component). MarksSkipped l marks) are marked in
    let here : (k : ℕ) (c : Component) → slice_get (components app.decls) k ≡ Some c → get_or steady k false ≡ reads_steadily c =
    λ k c at. ap (λ (l : List Bool). get_or l k false) read ∙ map_test reads_steadily (components app.decls) k c at in (
      λ all. record {
        reads = λ c s. let r : (k : ℕ) × (slice_get (components app.decls) k ≡ Some c) × IsMarked marks k = m.complete c s in
            sym (here r.0 c r.1) ∙ (all r.0 c (ap (λ (l : List Component). slice_get l r.0) are ∙ r.1) r.2).0;
        fields = λ c s x i method a is. let r : (k : ℕ) × (slice_get (components app.decls) k ≡ Some c) × IsMarked marks k = m.complete c s in
            (all r.0 c (ap (λ (l : List Component). slice_get l r.0) are ∙ r.1) r.2).1 x i method a (same x.name ∙ is);
      },
      λ quiet k c at h.
          let there : slice_get (components app.decls) k ≡ Some c = ap (λ (l : List Component). slice_get l k) (sym are) ∙ at in
          let s : MayBeSkipped (components app.decls) c = m.sound k c there h in
          (here k c there ∙ quiet.reads c s, λ x i method a is. quiet.fields c s x i method a (sym (same x.name) ∙ is)),
    )

-- a test at a place, whatever stands for one beyond the end
same_there : (flags : List Bool) (i : ℕ) (a b : Bool) → i < length flags → get_or flags i a ≡ get_or flags i b
same_there [] i a b small = absurd (omega arith)
same_there (f ∷ flags) zero a b small = refl
same_there (f ∷ flags) (suc i) a b small = same_there flags i a b (omega arith)

-- what is asked of a component, by the test that the code reads
pub asked_there : (marks steady : List Bool) (called : Name → Bool) (i : ℕ) (c : Component) (test : Bool) → i < length steady → test ≡ get_or steady i test
    → ((IsTrue (get_or marks i false) → IsTrue test × KeepsFields called c) → Keeps marks steady called i c) × (Keeps marks steady called i c → IsTrue (get_or marks i false) → IsTrue test × KeepsFields called c)
asked_there marks steady called i c test small is = (
  λ keeps h. let r : IsTrue test × KeepsFields called c = keeps h in (same_there steady i false test small ∙ sym is ∙ r.0, r.1),
  λ keeps h. let r : IsTrue (get_or steady i false) × KeepsFields called c = keeps h in (is ∙ same_there steady i test false small ∙ r.0, r.1),
)

take_all : {X : Type 0} (xs : List X) (i : ℕ) → length xs ≤ i → take i xs ≡ xs
take_all [] zero h = refl
take_all [] (suc i) h = refl
take_all (x ∷ xs) zero h = absurd (omega arith)
take_all {X} (x ∷ xs) (suc i) h = ap (λ (l : List X). x ∷ l) (take_all xs i (omega arith))

-- all of them were looked at
pub keep_all : (rs : List (Bor Component)) (i : ℕ) (marks steady : List Bool) (called : Name → Bool) → length rs ≤ i → AllKeep (map (λ (c : Bor Component). c.now) (take i rs)) marks steady called
    → AllKeep (map (λ (c : Bor Component). c.now) rs) marks steady called
keep_all rs i marks steady called past all = subst (λ (l : List (Bor Component)). AllKeep (map (λ (c : Bor Component). c.now) l) marks steady called) (take_all rs i past) all

-- an answer to a question is one to the same question
pub same_answer : (r : Result Bool AllocError) (A B : Type 0) → (A → B) × (B → A) → IfOk r (λ b. IsTrue b ↔ A) → IfOk r (λ b. IsTrue b ↔ B)
same_answer (Ok b) A B e h = (λ t. e.0 (h.0 t), λ q. h.1 (e.1 q))
same_answer (Err x) A B e h = h
