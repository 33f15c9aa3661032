-- The laws of whole lists of parts.
use Rattle.std.proofs.Common.{◌≡◌, ℕ, ◌+◌, ◌<◌, ◌≤◌, List, [], ◌∷◌, ◌++◌, length, refl, sym, ◌∙◌, ap, subst, append_assoc, arith, inl, inr}
use Rattle.std.proofs.lemmas.List.{append-nil}
use Rattle.std.specs.Prelude.{Bool, true, false, ◌⊎◌, nat_lt, Result, Ok, Err, if◌then◌else◌}
use Rattle.ng_ast.specs.declared.Place.{Place}
use Rattle.ng_ast.specs.declared.TNode.{TNode}
use Rattle.ng_lex.specs.declared.markup.Markup.{Markup}
use Rattle.ng_lex.specs.declared.markup.Markup.TheVariants as m
use Rattle.ng_lex.specs.declared.markup.Part.{Part}
use Rattle.ng_nodes.specs.declared.state.Frame.{Frame}
use Rattle.ng_nodes.specs.declared.state.State.{State}
use Rattle.ng_nodes.specs.declared.halt.Halt.{Halt}
use Rattle.ng_nodes.specs.declared.halt.Halt.TheVariants as h
use Rattle.ng_nodes.specs.Texts.{Parts, part}
use Rattle.ng_nodes.specs.Grammar.{Nodes}
use Rattle.ng_nodes.specs.Machine.{Stop, Syntax, Limit, and_then, shown_run, settle, arrive, checked, step, closed, finish, begin, after, read}
use Rattle.ng_nodes.specs.Limits.{opened_by, levels, begins, ReadsNodes, IsBegun, MayBe, is_heavy, IsTooDeep, IsTooHeavy, HasTooMany, Over}
use Rattle.ng_nodes.specs.Reading.{OverParts, MayBeParts, AreNoNodes, CannotStand, Halts, IsOrMemory}
use Rattle.ng_nodes.specs.Gives.{Fails, Answers}
use Rattle.ng_nodes.proofs.Free.{ended, free}
use Rattle.ng_nodes.proofs.Complete.{complete}
use Rattle.ng_nodes.proofs.Sound.{Reads, Was, marks_levels, begun_of, arrived, begin_reads, reads_whole, reads_keep}
use Rattle.ng_nodes.proofs.Limited.{Fits, fits, no_room, read_light, may_be_itself, may_be_same}
use Rattle.ng_nodes.proofs.Grows.{count_of, text_count, text_shown_out, grows}

-- ---- one reading

abbrev Answer : Type 0
Answer = Result (List TNode × ℕ) Stop

same_answer : (r : Answer) (x y : List TNode × ℕ) → r ≡ Ok x → r ≡ Ok y → x ≡ y
same_answer r x y e f = cc

clash : (r : Answer) (x : List TNode × ℕ) → r ≡ Err Syntax → r ≡ Ok x → ⊥
clash r x e f = cc

-- the nodes of parts, and how many there are, are told by the parts
pub reads_one : (ts : Parts) (a b : List TNode) (j k : ℕ) → Nodes false ts a j → Nodes false ts b k → (a ≡ b) × (j ≡ k)
reads_one ts a b j k h i = let same : (a, j) ≡ (b, k) = same_answer (free begin ts) (a, j) (b, k) (complete h) (complete i) in (ap (λ p. p.0) same, ap (λ p. p.1) same)

pub one_reading : (ts : Parts) (a b : List TNode) → ReadsNodes ts a → ReadsNodes ts b → a ≡ b
one_reading ts a b h i = (reads_one ts a b h.0 i.0 h.1 i.1).0

-- ---- one step

-- what a step is
record Stepped (d n : ℕ) (st : State) (t : Part) (next : State) : Type 0 where
  arrives : arrive (nat_lt (length st.outer) d) t.markup t.place st ≡ Ok next
  few : next.made ≤ n

checked_ok : (n : ℕ) (st next : State) → checked n st ≡ Ok next → (st ≡ next) × (next.made ≤ n)
checked_ok n st next e = by_bool (nat_lt n st.made) refl e
  where
    by_bool : (v : Bool) → nat_lt n st.made ≡ v → (if v then Err Limit else Ok st) ≡ Ok next → (st ≡ next) × (next.made ≤ n)
    by_bool true f e = absurd cc
    by_bool false f e = let same : st ≡ next = cc in let less : st.made ≤ n = grind arith in (same, subst (λ s. s.made ≤ n) same less)

stepped : (d n : ℕ) (st : State) (t : Part) (next : State) → step d n st t ≡ Ok next → Stepped d n st t next
unfolding step
stepped d n st t next e = by_result (arrive (nat_lt (length st.outer) d) t.markup t.place st) refl e
  where
    by_result : (r : Result State Stop) → arrive (nat_lt (length st.outer) d) t.markup t.place st ≡ r → and_then r (checked n) ≡ Ok next → Stepped d n st t next
    by_result (Ok s) f g = let c = checked_ok n s next g in record { arrives = f ∙ ap (λ z. Ok z) c.0; few = c.1 }
    by_result (Err s) f g = absurd cc

-- a step without limits
step_free : (d n : ℕ) (st : State) (t : Part) (next : State) → step d n st t ≡ Ok next → arrive true t.markup t.place st ≡ Ok next
step_free d n st t next e =
    let s : Stepped d n st t next = stepped d n st t next e in
    let light : is_heavy t.markup ≡ false = read_light (nat_lt (length st.outer) d) t.markup t.place st next s.arrives in
    subst (λ r. Fits (nat_lt (length st.outer) d) t.markup r (arrive true t.markup t.place st)) s.arrives (fits (nat_lt (length st.outer) d) t.markup t.markup t.place st (may_be_itself t.markup light))

step_reads : (d n : ℕ) (st : State) (front : Parts) (t : Part) (next : State) → Reads st front → step d n st t ≡ Ok next → Reads next (front ++ t ∷ [])
step_reads d n st front t next h e = subst (λ r. Was front t r) (step_free d n st t next e) (arrived st front t.markup t.place h)

-- ---- several steps

after_then : (d n : ℕ) (r : Result State Stop) (ts : Parts) (st : State) → and_then r (λ s. after d n s ts) ≡ Ok st → (s : State) × ((r ≡ Ok s) × (after d n s ts ≡ Ok st))
after_then d n (Ok s) ts st e = (s, (refl, e))
after_then d n (Err s) ts st e = absurd cc

after_first : (d n : ℕ) (st : State) (t : Part) (ts : Parts) (last : State) → after d n st (t ∷ ts) ≡ Ok last → (s : State) × ((step d n st t ≡ Ok s) × (after d n s ts ≡ Ok last))
unfolding after
after_first d n st t ts last e = after_then d n (step d n st t) ts last e

after_reads : (d n : ℕ) (ts : Parts) (st : State) (front : Parts) (last : State) → Reads st front → after d n st ts ≡ Ok last → Reads last (front ++ ts)
unfolding after
after_reads d n [] st front last h e =
    let same : st ≡ last = cc in
    subst (λ s. Reads s (front ++ [])) same (subst (λ x. Reads st x) (sym (append-nil front)) h)
after_reads d n (t ∷ ts) st front last h e =
    let g = after_first d n st t ts last e in
    subst (λ x. Reads last x) (append_assoc front (t ∷ []) ts) (after_reads d n ts g.0 (front ++ t ∷ []) last (step_reads d n st front t g.0 h g.1.0) g.1.1)

after_free : (d n : ℕ) (ts us : Parts) (st last : State) → after d n st ts ≡ Ok last → free st (ts ++ us) ≡ free last us
unfolding after free
after_free d n [] us st last e = let same : st ≡ last = cc in ap (λ s. free s us) same
after_free d n (t ∷ ts) us st last e =
    let g = after_first d n st t ts last e in
    ap (λ r. and_then r (λ s. free s (ts ++ us))) (step_free d n st t g.0 g.1.0) ∙ after_free d n ts us g.0 last g.1.1

-- what is read of the front of a list, and then the next part
after_split : (d n : ℕ) (x : Parts) (t : Part) (more : Parts) (st last : State) → after d n st (x ++ t ∷ more) ≡ Ok last → (s : State) × ((after d n st x ≡ Ok s) × ((next : State) × (step d n s t ≡ Ok next)))
unfolding after
after_split d n [] t more st last e = let g = after_first d n st t more last e in (st, (refl, (g.0, g.1.0)))
after_split d n (u ∷ x) t more st last e =
    let g = after_first d n st u (x ++ t ∷ more) last e in
    let i = after_split d n x t more g.0 last g.1.1 in
    (i.0, (ap (λ r. and_then r (λ s. after d n s x)) g.1.0 ∙ i.1.0, i.1.1))

after_one_more : (d n : ℕ) (x : Parts) (t : Part) (st last : State) → after d n st x ≡ Ok last → after d n st (x ++ t ∷ []) ≡ and_then (step d n last t) (λ s. Ok s)
unfolding after
after_one_more d n [] t st last e = let same : st ≡ last = cc in ap (λ s. and_then (step d n s t) (λ z. Ok z)) same
after_one_more d n (u ∷ x) t st last e =
    let g = after_first d n st u x last e in
    ap (λ r. and_then r (λ s. after d n s (x ++ t ∷ []))) g.1.0 ∙ after_one_more d n x t g.0 last g.1.1

-- why parts aren't read whole: one of them isn't
record Stopped (d n : ℕ) (st : State) (ts : Parts) (e : Stop) : Type 0 where
  before : Parts
  t : Part
  more : Parts
  last : State
  all : ts ≡ before ++ t ∷ more
  reads : after d n st before ≡ Ok last
  stops : step d n last t ≡ Err e

stopped_later : (d n : ℕ) (st s : State) (t : Part) (ts : Parts) (e : Stop) → step d n st t ≡ Ok s → Stopped d n s ts e → Stopped d n st (t ∷ ts) e
unfolding after
stopped_later d n st s t ts e g h = record {
  before = t ∷ h.before;
  t = h.t;
  more = h.more;
  last = h.last;
  all = ap (λ v. t ∷ v) h.all;
  reads = ap (λ r. and_then r (λ w. after d n w h.before)) g ∙ h.reads;
  stops = h.stops;
}

stopped_now : (d n : ℕ) (st : State) (t : Part) (ts : Parts) (e : Stop) → step d n st t ≡ Err e → Stopped d n st (t ∷ ts) e
unfolding after
stopped_now d n st t ts e g = record { before = []; t = t; more = ts; last = st; all = refl; reads = refl; stops = g }

after_stops : (d n : ℕ) (ts : Parts) (st : State) (e : Stop) → after d n st ts ≡ Err e → Stopped d n st ts e
unfolding after
after_stops d n [] st e f = absurd cc
after_stops d n (t ∷ ts) st e f = by_step (step d n st t) refl f (λ s g. after_stops d n ts s e g)
  where
    by_step : (r : Result State Stop) → step d n st t ≡ r → and_then r (λ s. after d n s ts) ≡ Err e → ((s : State) → after d n s ts ≡ Err e → Stopped d n s ts e) → Stopped d n st (t ∷ ts) e
    by_step (Ok s) g f go = stopped_later d n st s t ts e g (go s f)
    by_step (Err s) g f go = stopped_now d n st t ts e (g ∙ f)

-- ---- what a step answers

begun_step : (st : State) (front : Parts) (c : Markup) (q : Place) (next : State) → Reads st front → arrive true c q st ≡ Ok next → IsBegun (front ++ part c q ∷ [])
begun_step st front c q next h e = begun_of next (front ++ part c q ∷ []) (subst (λ r. Was front (part c q) r) e (arrived st front c q h))

-- why a step answers a limit
too_many : (d n : ℕ) (front : Parts) (st : State) → after d n begin front ≡ Ok st → Reads st front → n < count_of st → HasTooMany n front
too_many d n front st e h less = (
  begun_of st front h,
  λ y ns k i.
      let whole : free st y ≡ Ok (ns, k) = sym (after_free d n front y begin st e) ∙ complete i in
      let most : count_of st ≤ k = grows y st front (ns, k) h whole in
      omega arith,
)

Why : ℕ → ℕ → Parts → Part → Type 0
Why d n front t = (IsTooDeep d front t ⊎ IsTooHeavy front t) ⊎ HasTooMany n (front ++ t ∷ [])

step_limit_arrive : (d n : ℕ) (front : Parts) (st : State) (t : Part) → Reads st front → arrive (nat_lt (length st.outer) d) t.markup t.place st ≡ Err Limit → Why d n front t
unfolding Why
step_limit_arrive d n front st t h e = by_kind (is_heavy t.markup) refl
  where
    room : Bool
    room = nat_lt (length st.outer) d

    would : (c : Markup) → MayBe t.markup c → Fits (nat_lt (length st.outer) d) t.markup (Err Limit) (arrive true c t.place st)
    would c i = subst (λ r. Fits (nat_lt (length st.outer) d) t.markup r (arrive true c t.place st)) e (fits (nat_lt (length st.outer) d) t.markup c t.place st i)

    begun : (c : Markup) → MayBe t.markup c → IsBegun (front ++ part c t.place ∷ [])
    begun c i = let w = would c i in begun_step st front c t.place w.0.0 h w.0.1

    deep : (is_heavy t.markup ≡ false) → ((is_heavy t.markup ≡ true) ⊎ ((begins t.markup ≡ true) × (nat_lt (length st.outer) d ≡ false))) → IsTooDeep d front t
    deep light (inl f) = absurd cc
    deep light (inr f) =
        let full : d ≤ length st.outer = let g : nat_lt (length st.outer) d ≡ false = f.1 in grind arith in
        let same : levels (opened_by [] front) ≡ length st.outer = ap levels h.depth ∙ marks_levels st.opener st.outer in
        (begun t.markup (may_be_itself t.markup light), f.0, omega arith)

    by_kind : (v : Bool) → is_heavy t.markup ≡ v → (IsTooDeep d front t ⊎ IsTooHeavy front t) ⊎ HasTooMany n (front ++ t ∷ [])
    by_kind true f = inl (inr (f, begun))
    by_kind false f = inl (inl (deep f (would t.markup (may_be_itself t.markup f)).1))

-- one node too many is begun
many : (d n : ℕ) (front : Parts) (st : State) (t : Part) (next : State) → after d n begin front ≡ Ok st → Reads st front → arrive (nat_lt (length st.outer) d) t.markup t.place st ≡ Ok next → n < next.made → Why d n front t
unfolding Why free
many d n front st t next so_far h e less =
    let room : Bool = nat_lt (length st.outer) d in
    let light : is_heavy t.markup ≡ false = read_light room t.markup t.place st next e in
    let freed : arrive true t.markup t.place st ≡ Ok next = subst (λ r. Fits room t.markup r (arrive true t.markup t.place st)) e (fits room t.markup t.markup t.place st (may_be_itself t.markup light)) in
    let reads : Reads next (front ++ t ∷ []) = subst (λ r. Was front t r) freed (arrived st front t.markup t.place h) in
    inr (
      begun_of next (front ++ t ∷ []) reads,
      λ y ns k i.
          let whole : free next y ≡ Ok (ns, k) = sym (ap (λ x. free begin x) (append_assoc front (t ∷ []) y) ∙ after_free d n front (t ∷ y) begin st so_far ∙ ap (λ r. and_then r (λ s. free s y)) freed) ∙ complete i in
          let most : count_of next ≤ k = grows y next (front ++ t ∷ []) (ns, k) reads whole in
          omega arith,
    )

step_limit : (d n : ℕ) (front : Parts) (st : State) (t : Part) → after d n begin front ≡ Ok st → Reads st front → step d n st t ≡ Err Limit → Why d n front t
unfolding step
step_limit d n front st t so_far h e = by_result (arrive (nat_lt (length st.outer) d) t.markup t.place st) refl e
  where
    full : (next : State) → arrive (nat_lt (length st.outer) d) t.markup t.place st ≡ Ok next → checked n next ≡ Err Limit → n < next.made
    full next f g = by_bool (nat_lt n next.made) refl g
      where
        by_bool : (v : Bool) → nat_lt n next.made ≡ v → (if v then Err Limit else Ok next) ≡ Err Limit → n < next.made
        by_bool true i g = grind arith
        by_bool false i g = absurd cc

    by_result : (r : Result State Stop) → arrive (nat_lt (length st.outer) d) t.markup t.place st ≡ r → and_then r (checked n) ≡ Err Limit → Why d n front t
    by_result (Ok next) f g = many d n front st t next so_far h f (full next f g)
    by_result (Err Limit) f g = step_limit_arrive d n front st t h f
    by_result (Err Syntax) f g = absurd cc

checked_syntax : (n : ℕ) (r : Result State Stop) → and_then r (checked n) ≡ Err Syntax → r ≡ Err Syntax
checked_syntax n (Ok next) e = by_bool (nat_lt n next.made) e
  where
    by_bool : (v : Bool) → (if v then Err Limit else Ok next) ≡ Err Syntax → Ok next ≡ Err Syntax
    by_bool true f = absurd cc
    by_bool false f = absurd cc
checked_syntax n (Err s) e = let f : s ≡ Syntax = cc in ap (λ z. Err z) f

-- where a step answers Syntax, the part can't stand
step_syntax : (d n : ℕ) (front : Parts) (st : State) (t : Part) → after d n begin front ≡ Ok st → step d n st t ≡ Err Syntax → CannotStand front t
unfolding step free
step_syntax d n front st t so_far e = λ c i more ns g.
    let room : Bool = nat_lt (length st.outer) d in
    let stuck : arrive room t.markup t.place st ≡ Err Syntax = checked_syntax n (arrive room t.markup t.place st) e in
    let freed : arrive true c t.place st ≡ Err Syntax = subst (λ r. Fits room t.markup r (arrive true c t.place st)) stuck (fits room t.markup c t.place st i) in
    clash (free begin (front ++ part c t.place ∷ more)) (ns, g.0) (after_free d n front (part c t.place ∷ more) begin st so_far ∙ ap (λ r. and_then r (λ s. free s more)) freed) (complete g.1)

-- ---- the end

-- where a part begins an element or a block there is room for it
room_of : (d : ℕ) (st next : State) (c : Markup) (q : Place) → begins c ≡ true → arrive (nat_lt (length st.outer) d) c q st ≡ Ok next → length st.outer < d
room_of d st next c q e f = by_room (nat_lt (length st.outer) d) refl f
  where
    by_room : (v : Bool) → nat_lt (length st.outer) d ≡ v → arrive v c q st ≡ Ok next → length st.outer < d
    by_room true g f = grind arith
    by_room false g f = absurd (no_room c q st next e f)

not_deep : (d n : ℕ) (ts : Parts) (last : State) → after d n begin ts ≡ Ok last → (x : Parts) (t : Part) (more : Parts) → ts ≡ x ++ t ∷ more → IsTooDeep d x t → ⊥
not_deep d n ts last so_far x t more all deep =
    let g = after_split d n x t more begin last (subst (λ z. after d n begin z ≡ Ok last) all so_far) in
    let h : Reads g.0 x = after_reads d n x begin [] g.0 begin_reads g.1.0 in
    let s : Stepped d n g.0 t g.1.1.0 = stepped d n g.0 t g.1.1.0 g.1.1.1 in
    let less : length g.0.outer < d = room_of d g.0 g.1.1.0 t.markup t.place deep.1 s.arrives in
    let same : levels (opened_by [] x) ≡ length g.0.outer = ap levels h.depth ∙ marks_levels g.0.opener g.0.outer in
    let few : d ≤ levels (opened_by [] x) = deep.2 in
    absurd (omega arith)

not_heavy : (d n : ℕ) (ts : Parts) (last : State) → after d n begin ts ≡ Ok last → (x : Parts) (t : Part) (more : Parts) → ts ≡ x ++ t ∷ more → IsTooHeavy x t → ⊥
not_heavy d n ts last so_far x t more all heavy =
    let g = after_split d n x t more begin last (subst (λ z. after d n begin z ≡ Ok last) all so_far) in
    let s : Stepped d n g.0 t g.1.1.0 = stepped d n g.0 t g.1.1.0 g.1.1.1 in
    let light : is_heavy t.markup ≡ false = read_light (nat_lt (length g.0.outer) d) t.markup t.place g.0 g.1.1.0 s.arrives in
    let weighs : is_heavy t.markup ≡ true = heavy.0 in
    cc

not_over : (d n : ℕ) (ts : Parts) (last : State) (ns : List TNode) (k : ℕ) → after d n begin ts ≡ Ok last → Nodes false ts ns k → k ≤ n → Over d n ts → ⊥
not_over d n ts last ns k so_far h few (Over.deep x t more all g) = not_deep d n ts last so_far x t more all g
not_over d n ts last ns k so_far h few (Over.heavy x t more all g) = not_heavy d n ts last so_far x t more all g
not_over d n ts last ns k so_far h few (Over.many x more all g) =
    let less : n < k = g.1 more ns k (subst (λ z. Nodes false z ns k) all h) in
    absurd (omega arith)

-- what the end of the parts answers
abbrev Closed : ℕ → List Frame → State → List TNode → Type 0
Closed n fs st ns = (fs ≡ []) × (st.nodes ≡ ns) × (st.made ≤ n)

closed_ok : (n : ℕ) (fs : List Frame) (st : State) (ns : List TNode) → closed n fs st ≡ Ok ns → Closed n fs st ns
closed_ok n [] st ns e = by_bool (nat_lt n st.made) refl e
  where
    by_bool : (v : Bool) → nat_lt n st.made ≡ v → (if v then Err Limit else Ok st.nodes) ≡ Ok ns → Closed n [] st ns
    by_bool true f e = absurd cc
    by_bool false f e = (refl, cc, grind arith)
closed_ok n (f ∷ fs) st ns e = absurd cc

abbrev Full : ℕ → List Frame → State → Type 0
Full n fs st = (fs ≡ []) × (n < st.made)

closed_limit : (n : ℕ) (fs : List Frame) (st : State) → closed n fs st ≡ Err Limit → Full n fs st
closed_limit n [] st e = by_bool (nat_lt n st.made) refl e
  where
    by_bool : (v : Bool) → nat_lt n st.made ≡ v → (if v then Err Limit else Ok st.nodes) ≡ Err Limit → Full n [] st
    by_bool true f e = (refl, grind arith)
    by_bool false f e = absurd cc
closed_limit n (f ∷ fs) st e = absurd cc

closed_syntax : (n : ℕ) (fs : List Frame) (st : State) → closed n fs st ≡ Err Syntax → ended fs st ≡ Err Syntax
closed_syntax n [] st e = by_bool (nat_lt n st.made) e
  where
    by_bool : (v : Bool) → (if v then Err Limit else Ok st.nodes) ≡ Err Syntax → ended [] st ≡ Err Syntax
    by_bool true e = absurd cc
    by_bool false e = absurd cc
closed_syntax n (f ∷ fs) st e = refl

finish_ok : (d n : ℕ) (front : Parts) (st : State) (ns : List TNode) → after d n begin front ≡ Ok st → finish n st ≡ Ok ns → ReadsNodes front ns × (Over d n front → ⊥)
unfolding finish free
finish_ok d n front st ns so_far e =
    let h : Reads st front = after_reads d n front begin [] st begin_reads so_far in
    let c = closed_ok n st.outer (settle st) ns e in
    let r : ReadsNodes front ns = subst (λ z. ReadsNodes front z) c.1 (reads_whole st front h c.0) in
    let whole : free begin front ≡ ended st.outer (settle st) = ap (λ x. free begin x) (sym (append-nil front)) ∙ after_free d n front [] begin st so_far in
    let ends : free begin front ≡ ended [] (settle st) = whole ∙ ap (λ fs. ended fs (settle st)) c.0 in
    let pair : List TNode × ℕ = ((settle st).nodes, (settle st).made) in
    let same : pair ≡ (ns, r.0) = same_answer (free begin front) pair (ns, r.0) ends (complete r.1) in
    let few : r.0 ≤ n = subst (λ k. k ≤ n) (ap (λ p. p.1) same) c.2 in
    (r, not_over d n front st ns r.0 so_far r.1 few)

finish_syntax : (d n : ℕ) (front : Parts) (st : State) → after d n begin front ≡ Ok st → finish n st ≡ Err Syntax → (ns : List TNode) → ReadsNodes front ns → ⊥
unfolding finish free
finish_syntax d n front st so_far e ns r =
    clash (free begin front) (ns, r.0) (ap (λ x. free begin x) (sym (append-nil front)) ∙ after_free d n front [] begin st so_far ∙ closed_syntax n st.outer (settle st) e) (complete r.1)

finish_limit : (d n : ℕ) (front : Parts) (st : State) → after d n begin front ≡ Ok st → finish n st ≡ Err Limit → Over d n front
unfolding finish
finish_limit d n front st so_far e =
    let h : Reads st front = after_reads d n front begin [] st begin_reads so_far in
    let c = closed_limit n st.outer (settle st) e in
    let out : length (shown_run st.keep st.run) ≤ text_count st.run = subst (λ v. length (shown_run v st.run) ≤ text_count st.run) (sym (reads_keep st front h c.0)) (text_shown_out st.run) in
    let full : n < st.made + length (shown_run st.keep st.run) = c.1 in
    let less : n < count_of st = omega arith in
    Over.many front [] (sym (append-nil front)) (too_many d n front st so_far h less)

-- ---- parts with heavy ones among them

may_be_part : (t u : Part) → is_heavy t.markup ≡ false → MayBe t.markup u.markup → u.place ≡ t.place → u ≡ t
may_be_part t u light h e = ap (λ c. part c u.place) (may_be_same t.markup u.markup light h) ∙ ap (λ p. part t.markup p) e

step_light : (d n : ℕ) (st : State) (t : Part) (next : State) → step d n st t ≡ Ok next → is_heavy t.markup ≡ false
step_light d n st t next e = read_light (nat_lt (length st.outer) d) t.markup t.place st next (stepped d n st t next e).arrives

-- none of the parts that were read is heavy
may_be_whole : (d n : ℕ) (ts us : Parts) (st last : State) → after d n st ts ≡ Ok last → MayBeParts ts us → us ≡ ts
may_be_whole d n [] [] st last e h = refl
may_be_whole d n [] (u ∷ us) st last e h = absurd h
may_be_whole d n (t ∷ ts) [] st last e h = absurd h
may_be_whole d n (t ∷ ts) (u ∷ us) st last e h =
    let g = after_first d n st t ts last e in
    ap (λ v. v ∷ us) (may_be_part t u (step_light d n st t g.0 g.1.0) h.0 h.1) ∙ ap (λ vs. t ∷ vs) (may_be_whole d n ts us g.0 last g.1.1 h.2)

record MayBeSplit (x : Parts) (t : Part) (us : Parts) : Type 0 where
  c : Markup
  more : Parts
  all : us ≡ x ++ part c t.place ∷ more
  may : MayBe t.markup c

may_be_split : (d n : ℕ) (x : Parts) (t : Part) (more us : Parts) (st last : State) → after d n st x ≡ Ok last → MayBeParts (x ++ t ∷ more) us → MayBeSplit x t us
may_be_split d n [] t more [] st last e h = absurd h
may_be_split d n [] t more (u ∷ us) st last e h = record { c = u.markup; more = us; all = ap (λ p. part u.markup p ∷ us) h.1; may = h.0 }
may_be_split d n (v ∷ x) t more [] st last e h = absurd h
may_be_split d n (v ∷ x) t more (u ∷ us) st last e h =
    let g = after_first d n st v x last e in
    let s : MayBeSplit x t us = may_be_split d n x t more us g.0 last g.1.1 h.2 in
    record { c = s.c; more = s.more; all = ap (λ w. w ∷ us) (may_be_part v u (step_light d n st v g.0 g.1.0) h.0 h.1) ∙ ap (λ ws. v ∷ ws) s.all; may = s.may }

-- ---- what the reader owes

-- the machine comes to this state
abbrev Reaches : Parts → State → Type 0
Reaches front st = after 32 4096 begin front ≡ Ok st

over_of : (d n : ℕ) (front : Parts) (t : Part) (more : Parts) → Why d n front t → Over d n (front ++ t ∷ more)
unfolding Why
over_of d n front t more (inl (inl h)) = Over.deep front t more refl h
over_of d n front t more (inl (inr h)) = Over.heavy front t more refl h
over_of d n front t more (inr h) = Over.many (front ++ t ∷ []) more (sym (append_assoc front (t ∷ []) more)) h

reads_of : (front : Parts) (st : State) → Reaches front st → Reads st front
reads_of front st h = after_reads 32 4096 front begin [] st begin_reads h

-- one more part is read
pub pushed : (st : State) (t : Part) (next : State) → step 32 4096 st t ≡ Ok next → (front : Parts) → Reaches front st → Reaches (front ++ t ∷ []) next
pushed st t next g front h = after_one_more 32 4096 front t begin st h ∙ ap (λ r. and_then r (λ s. Ok s)) g

-- or isn't
pub refused : (st : State) (t : Part) (e : Halt) → Fails (step 32 4096 st t) e → (front : Parts) → Reaches front st → Halts (CannotStand front t) ((more : Parts) → OverParts (front ++ t ∷ more)) e
refused st t (h.Syntax p) g front so_far = step_syntax 32 4096 front st t so_far g
refused st t (h.Limit p) g front so_far = λ more. over_of 32 4096 front t more (step_limit 32 4096 front st t so_far (reads_of front st so_far) g)
refused st t h.Memory g front so_far = tt

-- the parts end
pub finished : (st : State) (ns : List TNode) → finish 4096 st ≡ Ok ns → (front : Parts) → Reaches front st → ReadsNodes front ns × (OverParts front → ⊥)
finished st ns g front so_far = finish_ok 32 4096 front st ns so_far g

pub unfinished : (st : State) (e : Halt) → Fails (finish 4096 st) e → (front : Parts) → Reaches front st → Halts ((ns : List TNode) → ReadsNodes front ns → ⊥) (OverParts front) e
unfinished st (h.Syntax p) g front so_far = finish_syntax 32 4096 front st so_far g
unfinished st (h.Limit p) g front so_far = finish_limit 32 4096 front st so_far g
unfinished st h.Memory g front so_far = tt

-- ---- all parts

abbrev Reply : Parts → Result (List TNode) Stop → Type 0
Reply ts (Ok ns) = ReadsNodes ts ns × (OverParts ts → ⊥)
Reply ts (Err Syntax) = AreNoNodes ts
Reply ts (Err Limit) = OverParts ts

replies_end : (ts : Parts) (st : State) → Reaches ts st → (r : Result (List TNode) Stop) → finish 4096 st ≡ r → Reply ts r
replies_end ts st so_far (Ok ns) e = finish_ok 32 4096 ts st ns so_far e
replies_end ts st so_far (Err Syntax) e = λ us h ns i. finish_syntax 32 4096 ts st so_far e ns (subst (λ v. ReadsNodes v ns) (may_be_whole 32 4096 ts us begin st so_far h) i)
replies_end ts st so_far (Err Limit) e = finish_limit 32 4096 ts st so_far e

replies_stop : (ts : Parts) (e : Stop) → Stopped 32 4096 begin ts e → Reply ts (Err e)
replies_stop ts Syntax s = λ us h ns i.
    let m : MayBeSplit s.before s.t us = may_be_split 32 4096 s.before s.t s.more us begin s.last s.reads (subst (λ v. MayBeParts v us) s.all h) in
    step_syntax 32 4096 s.before s.last s.t s.reads s.stops m.c m.may m.more ns (subst (λ v. ReadsNodes v ns) m.all i)
replies_stop ts Limit s = subst OverParts (sym s.all) (over_of 32 4096 s.before s.t s.more (step_limit 32 4096 s.before s.last s.t s.reads (reads_of s.before s.last s.reads) s.stops))

replies : (ts : Parts) (r : Result (List TNode) Stop) → read 32 4096 begin ts ≡ r → Reply ts r
replies ts r e = by_after (after 32 4096 begin ts) refl e
  where
    by_after : (o : Result State Stop) → after 32 4096 begin ts ≡ o → and_then o (finish 4096) ≡ r → Reply ts r
    by_after (Ok st) f g = replies_end ts st f r g
    by_after (Err s) f g = subst (Reply ts) g (replies_stop ts s (after_stops 32 4096 ts begin s f))

pub all_read : (ts : Parts) (ns : List TNode) → read 32 4096 begin ts ≡ Ok ns → ReadsNodes ts ns × (OverParts ts → ⊥)
all_read ts ns g = replies ts (Ok ns) g

pub not_read : (ts : Parts) (e : Halt) → Fails (read 32 4096 begin ts) e → Halts (AreNoNodes ts) (OverParts ts) e
not_read ts (h.Syntax p) g = replies ts (Err Syntax) g
not_read ts (h.Limit p) g = replies ts (Err Limit) g
not_read ts h.Memory g = tt

-- parts that are nodes have no heavy one among them
light_then : (t : Part) (ts : Parts) (st : State) (out : List TNode × ℕ) (r : Result State Stop) → arrive true t.markup t.place st ≡ r → ((next : State) → free next ts ≡ Ok out → MayBeParts ts ts)
    → and_then r (λ next. free next ts) ≡ Ok out → MayBeParts (t ∷ ts) (t ∷ ts)
light_then t ts st out (Ok next) e go f = (may_be_itself t.markup (read_light true t.markup t.place st next e), refl, go next f)
light_then t ts st out (Err s) e go f = absurd cc

may_be_all : (ts : Parts) (st : State) (out : List TNode × ℕ) → free st ts ≡ Ok out → MayBeParts ts ts
unfolding free
may_be_all [] st out e = tt
may_be_all (t ∷ ts) st out e = light_then t ts st out (arrive true t.markup t.place st) refl (λ next f. may_be_all ts next out f) e

-- parts that are nodes within the limits are read
pub exactly_read : (ts : Parts) (r : Result (List TNode) Halt) → Answers (read 32 4096 begin ts) r → (ns : List TNode) → ReadsNodes ts ns → (OverParts ts → ⊥) → IsOrMemory ns r
exactly_read ts (Ok ms) g ns i few = let j = all_read ts ms g in (reads_one ts ms ns j.0.0 i.0 j.0.1 i.1).0
exactly_read ts (Err (h.Syntax p)) g ns i few = absurd (not_read ts (h.Syntax p) g ts (may_be_all ts begin (ns, i.0) (complete i.1)) ns i)
exactly_read ts (Err (h.Limit p)) g ns i few = absurd (few (not_read ts (h.Limit p) g))
exactly_read ts (Err h.Memory) g ns i few = tt
