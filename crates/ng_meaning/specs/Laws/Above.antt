-- The environments above one: as many steps as there are environments, and one more, reach `root`, wherever it is reached at all.
use Rattle.std.specs.Prelude.{◌≡◌, ◌⊎◌, ℕ, zero, suc, ◌+◌, ◌≤◌, Bool, true, false, ◌||◌, cond, if◌then◌else◌, List, [], ◌∷◌, ◌++◌, length, Some, None, bytes_eq, codes, find, refl}
use Rattle.std.specs.List.{filter_map, list_any}
use Rattle.std.proofs.Common.{inl, inr, ap, sym, ◌∙◌, subst, arith}
use Rattle.ng_ast.specs.declared.App.{App}
use Rattle.ng_ast.specs.declared.Decl.{Decl}
use Rattle.ng_ast.specs.declared.Decl.TheVariants as decl
use Rattle.ng_ast.specs.declared.Environment.{Environment}
use Rattle.ng_tree.specs.Names.{declared_environments, is_root, with_root, environments}
use Rattle.ng_tree.specs.Names.{environment_in as name_in}
use Rattle.ng_meaning.specs.Lists.{Text}
use Rattle.ng_meaning.specs.Declared.{environment, environment_in, root}
use Rattle.ng_meaning.specs.Injection.{above, upwards, environments_from}
use Rattle.ng_meaning.specs.Laws.Apart.{In, Apart, In-left, In-right, no_more_than}
use Rattle.ng_meaning.specs.Laws.Sameness.{same_text_decides}

module _ (app : App) where
  -- the next environment above
  abbrev next : Text → Text
  next name = above (environment app name)

  -- ---- the steps upwards

  -- One step: `root` is the last, and each other one is followed by those above it.
  step_up : (n : ℕ) (name : Text) → (name ≡ root) × (upwards app (suc n) name ≡ name ∷ []) ⊎ ((name ≡ root → ⊥) × (upwards app (suc n) name ≡ name ∷ upwards app n (next name)))
  step_up n name = by_test (bytes_eq name root) refl
    where
      by_test : (b : Bool) → bytes_eq name root ≡ b → (name ≡ root) × (elim b as (λ _. List Text) [ true ↦ name ∷ [] | false ↦ name ∷ upwards app n (next name) ] ≡ name ∷ [])
          ⊎ ((name ≡ root → ⊥) × (elim b as (λ _. List Text) [ true ↦ name ∷ [] | false ↦ name ∷ upwards app n (next name) ] ≡ name ∷ upwards app n (next name)))
      by_test true e = inl ((same_text_decides name root).0 e, refl)
      by_test false e = inr ((λ d. let t : bytes_eq name root ≡ true = (same_text_decides name root).1 d in cc), refl)

  -- what is reached from one that isn't `root` is reached from the next one
  reached_next : (n : ℕ) (name : Text) → (name ≡ root → ⊥) → upwards app (suc n) name ≡ name ∷ upwards app n (next name) → In root (upwards app (suc n) name) → In root (upwards app n (next name))
  reached_next n name other e i = behind (subst (In root) e i)
    where
      behind : In root (name ∷ upwards app n (next name)) → In root (upwards app n (next name))
      behind (inl d) = absurd (other (sym d))
      behind (inr j) = j

  -- more steps change nothing where `root` is reached, if there are as many as names
  as_many : (n m : ℕ) (name : Text) → In root (upwards app n name) → length (upwards app n name) ≤ m → upwards app m name ≡ upwards app n name
  as_many zero m name i less = absurd i
  as_many (suc n) m name i less = by_step m (step_up n name) less (λ k j l. as_many n k (next name) j l)
    where
      by_step : (m : ℕ) → (name ≡ root) × (upwards app (suc n) name ≡ name ∷ []) ⊎ ((name ≡ root → ⊥) × (upwards app (suc n) name ≡ name ∷ upwards app n (next name)))
          → length (upwards app (suc n) name) ≤ m → ((k : ℕ) → In root (upwards app n (next name)) → length (upwards app n (next name)) ≤ k → upwards app k (next name) ≡ upwards app n (next name))
          → upwards app m name ≡ upwards app (suc n) name
      by_step zero (inl h) less rest = absurd (omega (arith, ap length h.1))
      by_step zero (inr h) less rest = absurd (omega (arith, ap length h.1))
      by_step (suc m) (inl h) less rest = of_root (step_up m name)
        where
          of_root : (name ≡ root) × (upwards app (suc m) name ≡ name ∷ []) ⊎ ((name ≡ root → ⊥) × (upwards app (suc m) name ≡ name ∷ upwards app m (next name))) → upwards app (suc m) name ≡ upwards app (suc n) name
          of_root (inl k) = k.1 ∙ sym h.1
          of_root (inr k) = absurd (k.0 h.0)
      by_step (suc m) (inr h) less rest = of_other (step_up m name)
        where
          of_other : (name ≡ root) × (upwards app (suc m) name ≡ name ∷ []) ⊎ ((name ≡ root → ⊥) × (upwards app (suc m) name ≡ name ∷ upwards app m (next name))) → upwards app (suc m) name ≡ upwards app (suc n) name
          of_other (inl k) = absurd (h.0 k.0)
          of_other (inr k) = k.1 ∙ ap (λ ys. name ∷ ys) (rest m (reached_next n name h.0 h.1 i) (omega (arith, less, ap length h.1))) ∙ sym h.1

  -- from each of the names on, `root` is reached, over no more names
  from_each : (n : ℕ) (name x : Text) → In root (upwards app n name) → In x (upwards app n name) → (m : ℕ) × In root (upwards app m x) × (length (upwards app m x) ≤ length (upwards app n name))
  from_each zero name x i j = absurd i
  from_each (suc n) name x i j = by_step (step_up n name) (λ k l. from_each n (next name) x k l)
    where
      this : x ≡ name → (m : ℕ) × In root (upwards app m x) × (length (upwards app m x) ≤ length (upwards app (suc n) name))
      this e = (suc n, subst (λ y. In root (upwards app (suc n) y)) (sym e) i, subst (λ y. length (upwards app (suc n) y) ≤ length (upwards app (suc n) name)) (sym e) (omega arith))

      by_step : (name ≡ root) × (upwards app (suc n) name ≡ name ∷ []) ⊎ ((name ≡ root → ⊥) × (upwards app (suc n) name ≡ name ∷ upwards app n (next name)))
          → (In root (upwards app n (next name)) → In x (upwards app n (next name)) → (m : ℕ) × In root (upwards app m x) × (length (upwards app m x) ≤ length (upwards app n (next name))))
          → (m : ℕ) × In root (upwards app m x) × (length (upwards app m x) ≤ length (upwards app (suc n) name))
      by_step (inl h) rest = alone (subst (In x) h.1 j)
        where
          alone : In x (name ∷ []) → (m : ℕ) × In root (upwards app m x) × (length (upwards app m x) ≤ length (upwards app (suc n) name))
          alone (inl e) = this e
          alone (inr none) = absurd none
      by_step (inr h) rest = either (subst (In x) h.1 j)
        where
          either : In x (name ∷ upwards app n (next name)) → (m : ℕ) × In root (upwards app m x) × (length (upwards app m x) ≤ length (upwards app (suc n) name))
          either (inl e) = this e
          either (inr k) = let r = rest (reached_next n name h.0 h.1 i) k in (r.0, r.1, omega (arith, r.2, ap length h.1))

  -- a name doesn't stand above itself where `root` is reached
  not_above_itself : (n : ℕ) (name : Text) → (name ≡ root → ⊥) → upwards app (suc n) name ≡ name ∷ upwards app n (next name) → In root (upwards app (suc n) name) → In name (upwards app n (next name)) → ⊥
  not_above_itself n name other e i j =
      let r = from_each n (next name) name (reached_next n name other e i) j in
      let k : ℕ = length (upwards app r.0 name) + length (upwards app (suc n) name) in
      let same : upwards app r.0 name ≡ upwards app (suc n) name = sym (as_many r.0 k name r.1 (omega arith)) ∙ as_many (suc n) k name i (omega arith) in
      omega (arith, r.2, ap length same, ap length e)

  -- ---- the names are declared

  found_or_not : (name : Text) (ds : List Decl) → (find (λ (e : Environment). bytes_eq name e.name) (filter_map environment_in ds) ≡ None) ⊎ In name (filter_map name_in ds)
  found_or_not name [] = inl refl
  found_or_not name (decl.Component c ∷ ds) = found_or_not name ds
  found_or_not name (decl.Service s ∷ ds) = found_or_not name ds
  found_or_not name (decl.Pipe p ∷ ds) = found_or_not name ds
  found_or_not name (decl.Environment e ∷ ds) = by_name (bytes_eq name e.name) refl (found_or_not name ds)
    where
      by_name : (b : Bool) → bytes_eq name e.name ≡ b → (find (λ (x : Environment). bytes_eq name x.name) (filter_map environment_in ds) ≡ None) ⊎ In name (filter_map name_in ds)
          → (cond b (Some e) (find (λ (x : Environment). bytes_eq name x.name) (filter_map environment_in ds)) ≡ None) ⊎ In name (e.name ∷ filter_map name_in ds)
      by_name true t rest = inr (inl ((same_text_decides name e.name).0 t))
      by_name false t (inl k) = inl k
      by_name false t (inr k) = inr (inr k)
  found_or_not name (decl.Token p n ∷ ds) = found_or_not name ds
  found_or_not name (decl.Bootstrap p n e ∷ ds) = found_or_not name ds

  in_with_root : (names : List Text) → In root (with_root names) × ((x : Text) → In x names → In x (with_root names))
  in_with_root names = by_test (list_any is_root names) refl
    where
      some_root : (xs : List Text) → list_any is_root xs ≡ true → In root xs
      some_root [] e = cc
      some_root (x ∷ xs) e = this_or (is_root x) refl e (some_root xs)
        where
          this_or : (b : Bool) → is_root x ≡ b → (b || list_any is_root xs) ≡ true → (list_any is_root xs ≡ true → In root xs) → In root (x ∷ xs)
          this_or true t h rest = inl (sym ((same_text_decides x root).0 t))
          this_or false t h rest = inr (rest h)

      by_test : (b : Bool) → list_any is_root names ≡ b → In root (if b then names else names ++ codes "root" ∷ []) × ((x : Text) → In x names → In x (if b then names else names ++ codes "root" ∷ []))
      by_test true e = (some_root names e, λ x i. i)
      by_test false e = (In-right names (codes "root" ∷ []) root (inl refl), λ x i. In-left names (codes "root" ∷ []) x i)

  -- the names of which each, and each next one, isn't `root`
  record Front (names : List Text) : Type 0 where
    front : List Text
    apart : Apart front
    declared : (x : Text) → In x front → In x (declared_environments app)
    no_root : In root front → ⊥
    within : (x : Text) → In x front → In x names
    all_but_two : length names ≤ length front + 2

  front_of : (n : ℕ) (name : Text) → In root (upwards app n name) → Front (upwards app n name)
  front_of zero name i = absurd i
  front_of (suc n) name i = by_step (step_up n name) (front_of n (next name))
    where
      short : (names : List Text) → length names ≤ 2 → Front names
      short names less = record { front = []; apart = tt; declared = λ x j. absurd j; no_root = λ j. j; within = λ x j. absurd j; all_but_two = omega (arith, less) }

      -- the name in front of those of the next one
      longer : (name ≡ root → ⊥) → upwards app (suc n) name ≡ name ∷ upwards app n (next name) → In name (declared_environments app) → Front (upwards app n (next name)) → Front (upwards app (suc n) name)
      longer other e known f = record {
        front = name ∷ f.front;
        apart = (λ j. not_above_itself n name other e i (f.within name j), f.apart);
        declared = λ x j. elim j [ inl d ↦ subst (λ y. In y (declared_environments app)) (sym d) known | inr k ↦ f.declared x k ];
        no_root = λ j. elim j [ inl d ↦ other (sym d) | inr k ↦ f.no_root k ];
        within = λ x j. subst (In x) (sym e) (elim j [ inl d ↦ inl d | inr k ↦ inr (f.within x k) ]);
        all_but_two = omega (arith, f.all_but_two, ap length e);
      }

      -- one that isn't declared stands under `root`
      by_declared : (name ≡ root → ⊥) → upwards app (suc n) name ≡ name ∷ upwards app n (next name) → (In root (upwards app n (next name)) → Front (upwards app n (next name)))
          → (environment app name ≡ None) ⊎ In name (declared_environments app) → Front (upwards app (suc n) name)
      by_declared other e rest (inr known) = longer other e known (rest (reached_next n name other e i))
      by_declared other e rest (inl none) =
          let two : next name ≡ root = ap above none in
          short (upwards app (suc n) name) (omega (arith, ap length e, ap length (ap (upwards app n) two), ends_at_root n (subst (λ y. In root (upwards app n y)) two (reached_next n name other e i))))
        where
          ends_at_root : (k : ℕ) → In root (upwards app k root) → length (upwards app k root) ≤ 1
          ends_at_root zero j = absurd j
          ends_at_root (suc k) j = of_root (step_up k root)
            where
              of_root : (root ≡ root) × (upwards app (suc k) root ≡ root ∷ []) ⊎ ((root ≡ root → ⊥) × (upwards app (suc k) root ≡ root ∷ upwards app k (next root))) → length (upwards app (suc k) root) ≤ 1
              of_root (inl h) = omega (arith, ap length h.1)
              of_root (inr h) = absurd (h.0 refl)

      by_step : (name ≡ root) × (upwards app (suc n) name ≡ name ∷ []) ⊎ ((name ≡ root → ⊥) × (upwards app (suc n) name ≡ name ∷ upwards app n (next name)))
          → (In root (upwards app n (next name)) → Front (upwards app n (next name))) → Front (upwards app (suc n) name)
      by_step (inl h) rest = short (upwards app (suc n) name) (omega (arith, ap length h.1))
      by_step (inr h) rest = by_declared h.0 h.1 rest (found_or_not name app.decls)

  -- Where `root` is reached by any number of steps, the environments from a name on are those that are defined.
  pub environments-Enough : (name : Text) (n : ℕ) → In root (upwards app n name) → upwards app n name ≡ environments_from app name
  environments-Enough name n i =
      let f = front_of n name i in
      let all = in_with_root (declared_environments app) in
      let few : length (root ∷ f.front) ≤ length (environments app) =
      no_more_than (root ∷ f.front) (environments app) (f.no_root, f.apart) (λ x j. elim j [ inl e ↦ subst (λ y. In y (environments app)) (sym e) all.0 | inr k ↦ all.1 x (f.declared x k) ]) in
      sym (as_many n (suc (length (environments app))) name i (omega (arith, few, f.all_but_two)))
