-- The templates of a file that reads: how long their texts are, and where they stand.
use Rattle.std.proofs.Common.{◌≡◌, ℕ, suc, ◌+◌, ◌≤◌, Bool, true, false, List, [], ◌∷◌, ◌++◌, length, drop, sym, ◌∙◌, ap, subst, arith, length-append, length-drop}
use Rattle.std.specs.Prelude.{◌==◌, ◌&&◌, nat_le, if◌then◌else◌}
use Rattle.std.specs.List.{All}
use Rattle.std.proofs.lemmas.List.Elements.{All-nil, All-cons, All-weaker}
use Rattle.ng_ast.specs.declared.Place.{Place}
use Rattle.ng_tokens.specs.Lexis.{Text, step, steps}
use Rattle.ng_tokens.specs.declared.kinds.Token.{Token}
use Rattle.ng_phrases.specs.Phrase.{Phrase, ◌>>=◌}
use Rattle.ng_phrases.specs.Reading.{Then, Many, reads}
use Rattle.ng_phrases.specs.Tokens.{ReadsToken}
use Rattle.ng_phrases.specs.Words.{token}
use Rattle.ng_declare.specs.declared.entries.Entry.{Entry}
use Rattle.ng_declare.specs.declared.entries.Entry.TheVariants as entry
use Rattle.ng_declare.specs.declared.entries.Source.{Source}
use Rattle.ng_declare.specs.declared.words.DeclWord.{DeclWord}
use Rattle.ng_declare.specs.declared.words.DeclWord.TheVariants as d
use Rattle.ng_declare.specs.Words.{decl_word, sees_one}
use Rattle.ng_declare.specs.Readers.{readers}
use Rattle.ng_declare.specs.Leaves.{quoted_here}
use Rattle.ng_declare.specs.Grammar.{shown, component, service, pipe, environment, token_declared, bootstrap, entry_by, declared, entries, file}
use Rattle.ng_declare.specs.Files.{unmarked, first_place, nowhere, ReadsFile}
use Rattle.ng_app.specs.Answers.{SourceFits}

-- ---- places

-- the numbers of the place are at most n
abbrev Near : ℕ → Place → Type 0
Near n p = (p.line ≤ n) × (p.column ≤ n) × (p.byte ≤ n)

near_more : (n m : ℕ) (p : Place) → n ≤ m → Near n p → Near m p
near_more n m p less h = (omega (arith, h.0), omega (arith, h.1), omega (arith, h.2))

near_step : (n : ℕ) (p : Place) (b : ℕ) → Near n p → Near (n + 1) (step p b)
near_step n p b h = by (b == 10) (nat_le 128 b && nat_le b 191)
  where
    by : (line inner : Bool)
        → Near (n + 1) (if line then record { line = p.line + 1; column = 1; byte = p.byte + 1 } else (if inner then record p { byte = p.byte + 1 } else record p { column = p.column + 1; byte = p.byte + 1 }))
    by true inner = (omega (arith, h.0), omega arith, omega (arith, h.2))
    by false true = (omega (arith, h.0), omega (arith, h.1), omega (arith, h.2))
    by false false = (omega (arith, h.0), omega (arith, h.1), omega (arith, h.2))

near_steps : (x : Text) (n : ℕ) (p : Place) → Near n p → Near (n + length x) (steps p x)
near_steps [] n p h = near_more n (n + 0) p (omega arith) h
near_steps (b ∷ x) n p h = near_more (n + 1 + length x) (n + suc (length x)) (steps (step p b) x) (omega arith) (near_steps x (n + 1) (step p b) (near_step n p b h))

-- ---- phrases

-- What the phrase reads within m bytes of a file has the property.
record Holds {A : Type 0} (m : ℕ) (g : Phrase readers ⊥ A) (P : A → Type 0) : Type 0 where
  each : (n : ℕ) (p : Place) (x z : Text) (a : A) → Near n p → n + length x ≤ m → reads nowhere g p x z a → P a

module _ {m : ℕ} {A : Type 0} {P : A → Type 0} where
  holds_pure : {a : A} → P a → Holds m (Phrase.pure a) P
  unfolding reads
  holds_pure {a} i = record { each = λ n p x z b near fits h. subst P (sym h.1) i }

  holds_next : {B : Type 0} {Q : B → Type 0} {r : Phrase readers ⊥ B} {f : B → Phrase readers ⊥ A} → Holds m r Q → ((b : B) → Q b → Holds m (f b) P) → Holds m (Phrase.bind r f) P
  unfolding reads
  holds_next one two = record {
    each = λ n p x z a near fits h.
        let len : length x ≡ length h.front + length h.back = ap length h.parts ∙ length-append h.front h.back in
        let b = one.each n p h.front (h.back ++ z) h.value near (omega (arith, len, fits)) h.begins_so in
        (two h.value b).each (n + length h.front) (steps p h.front) h.back z a (near_steps h.front n p near) (omega (arith, len, fits)) h.goes_on;
  }

  -- after a phrase of which nothing is said
  holds_after : {B : Type 0} {r : Phrase readers ⊥ B} {f : B → Phrase readers ⊥ A} → ((b : B) → Holds m (f b) P) → Holds m (Phrase.bind r f) P
  holds_after {r = r} {f = f} two = holds_next {Q = λ b. Unit {0}} (record { each = λ n p x z b near fits h. tt }) (λ b i. two b)

all_hold : {A : Type 0} (m : ℕ) (more : Text → Bool) (item : Place → Text → Text → A → Type 0) (P : A → Type 0)
    → ((n : ℕ) (p : Place) (x z : Text) (a : A) → Near n p → n + length x ≤ m → item p x z a → P a) → {p : Place} {x z : Text} {l : List A} → Many more item p x z l
    → (n : ℕ) → Near n p → n + length x ≤ m → All P l
all_hold m more item P one (Many.done e) n near fits = All-nil P
all_hold m more item P one {p} {z = z} (Many.next {a = a} {found = found} x y e i h) n near fits =
    let len : length (x ++ y) ≡ length x + length y = length-append x y in
    All-cons P a found (one n p x (y ++ z) a near (omega (arith, len, fits)) i) (all_hold m more item P one h (n + length x) (near_steps x n p near) (omega (arith, len, fits)))

-- ---- the phrases of files

-- the text of the template is shorter than m, and its place is near
abbrev Stands : ℕ → Source → Type 0
Stands m s = (length s.text + 2 ≤ m) × Near m s.place

abbrev EntryStands : ℕ → Entry → Type 0
EntryStands m (entry.Component o) = Stands m o.template
EntryStands m _ = Unit {0}

module _ (m : ℕ) where
  quoted_stands : Holds m quoted_here (Stands m)
  unfolding reads quoted_here
  quoted_stands = record {
    each = λ n p x z a near fits h.
        let len : length x ≡ suc (length a.text + 1) = ap length h.0 ∙ ap suc (length-append a.text (96 ∷ [])) in
        (omega (arith, len, fits), subst (Near m) (sym h.1) (near_more (n + 1) m (step p 96) (omega (arith, len, fits)) (near_step n p 96 near)));
  }

  shown_stands : Holds m shown (Stands m)
  unfolding shown
  shown_stands = holds_after (λ u. holds_next quoted_stands (λ s i. holds_after (λ v. holds_after (λ w. holds_pure i))))

  component_stands : (p : Place) → Holds m (component p) (EntryStands m)
  unfolding component
  component_stands p =
      holds_after (λ name. holds_after (λ u. holds_after (λ selector. holds_after (λ onpush. holds_after (λ members. holds_next shown_stands (λ s i. holds_after (λ v. holds_pure i)))))))

  service_stands : (p : Place) → Holds m (service p) (EntryStands m)
  unfolding service
  service_stands p = holds_after (λ name. holds_after (λ root. holds_after (λ u. holds_after (λ members. holds_after (λ v. holds_pure tt)))))

  pipe_stands : (p : Place) → Holds m (pipe p) (EntryStands m)
  unfolding pipe
  pipe_stands p = holds_after (λ name. holds_after (λ u. holds_after (λ params. holds_after (λ v. holds_after (λ w. holds_after (λ value. holds_after (λ end. holds_pure tt)))))))

  environment_stands : (p : Place) → Holds m (environment p) (EntryStands m)
  unfolding environment
  environment_stands p = holds_after (λ name. holds_after (λ under. holds_after (λ u. holds_after (λ lines. holds_after (λ v. holds_pure tt)))))

  token_stands : (p : Place) → Holds m (token_declared p) (EntryStands m)
  unfolding token_declared
  token_stands p = holds_after (λ name. holds_after (λ u. holds_pure tt))

  bootstrap_stands : (p : Place) → Holds m (bootstrap p) (EntryStands m)
  unfolding bootstrap
  bootstrap_stands p = holds_after (λ name. holds_after (λ inside. holds_after (λ u. holds_pure tt)))

  entry_stands : (p : Place) (w : DeclWord) → Holds m (entry_by p w) (EntryStands m)
  entry_stands p d.Component = component_stands p
  entry_stands p d.Service = service_stands p
  entry_stands p d.Pipe = pipe_stands p
  entry_stands p d.Environment = environment_stands p
  entry_stands p d.Token = token_stands p
  entry_stands p d.Bootstrap = bootstrap_stands p

  declared_stands : (t : Token) → Holds m (declared t) (EntryStands m)
  unfolding declared
  declared_stands t = holds_after (λ w. entry_stands t.place w)

  round_stands : Holds m (token >>= declared) (EntryStands m)
  round_stands = holds_after declared_stands

  entries_stand : Holds m entries (All (EntryStands m))
  unfolding reads token entries
  entries_stand = record {
    each = λ n p x z all near fits h.
        subst (All (EntryStands m)) (sym h.1) (all_hold m (sees_one decl_word) (Then ReadsToken (λ t. reads nowhere (declared t))) (EntryStands m) round_stands.each h.2 n near fits);
  }

  file_stands : Holds m file (All (EntryStands m))
  unfolding file
  file_stands = holds_after (λ u. entries_stand)

-- ---- a whole file

-- the place and the text after a byte order mark
abbrev Begins : Text → Type 0
Begins t = (n : ℕ) × Near n (first_place t) × (n + length (unmarked t) ≤ length t + 1)

begins : (t : Text) → Begins t
begins [] = (1, (omega arith, omega arith, omega arith), omega arith)
begins (a ∷ []) = (1, (omega arith, omega arith, omega arith), omega arith)
begins (a ∷ b ∷ []) = (1, (omega arith, omega arith, omega arith), omega arith)
begins (a ∷ b ∷ c ∷ z) = by (a == 239 && b == 187 && c == 191)
  where
    by : (marked : Bool) → (n : ℕ) × Near n (if marked then record { line = 1; column = 1; byte = 3 } else record { line = 1; column = 1; byte = 0 })
        × (n + length (if marked then drop 3 (a ∷ b ∷ c ∷ z) else a ∷ b ∷ c ∷ z) ≤ length (a ∷ b ∷ c ∷ z) + 1)
    by true = (3, (omega arith, omega arith, omega arith), omega (arith, length-drop 3 (a ∷ b ∷ c ∷ z)))
    by false = (1, (omega arith, omega arith, omega arith), omega arith)

-- The reader of templates takes those of a file.
pub sources_fit : (t : Text) (es : List Entry) → ReadsFile t es → length t ≤ 1048576 → All SourceFits es
sources_fit t es h small =
    let b = begins t in
    All-weaker (EntryStands (length t + 1)) SourceFits (by (length t + 1) (omega (arith, small))) es
    ((file_stands (length t + 1)).each b.0 (first_place t) (unmarked t) [] es b.1 b.2 h.1)
  where
    by : (m : ℕ) → m ≤ 1048577 → (e : Entry) → EntryStands m e → SourceFits e
    by m less (entry.Component o) i = (omega (arith, i.0, less), (omega (arith, i.1.0, less), omega (arith, i.1.1, less), omega (arith, i.1.2, less)))
    by m less (entry.Service s) i = tt
    by m less (entry.Pipe s) i = tt
    by m less (entry.Environment s) i = tt
    by m less (entry.Token p n) i = tt
    by m less (entry.Bootstrap p n inside) i = tt
