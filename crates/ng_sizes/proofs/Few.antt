-- Parts that pass no limit are few nodes.
use Rattle.std.proofs.Common.{◌≡◌, ℕ, ◌+◌, ◌<◌, ◌≤◌, List, [], ◌∷◌, ◌++◌, length, refl, sym, ◌∙◌, ap, subst, append_assoc, arith}
use Rattle.std.proofs.lemmas.List.{append-nil}
use Rattle.std.specs.Prelude.{Bool, true, false, nat_lt, Result, Ok, Err}
use Rattle.ng_ast.specs.declared.TNode.{TNode}
use Rattle.ng_ast.specs.Nodes.{all_nodes}
use Rattle.ng_ast.specs.NodesLaws.{count_is}
use Rattle.ng_lex.specs.declared.markup.Part.{Part}
use Rattle.ng_nodes.specs.declared.state.Frame.{Frame}
use Rattle.ng_nodes.specs.declared.state.State.{State}
use Rattle.ng_nodes.specs.Texts.{Parts}
use Rattle.ng_nodes.specs.Grammar.{Nodes}
use Rattle.ng_nodes.specs.Machine.{Stop, and_then, shown_run, settle, arrive, begin}
use Rattle.ng_nodes.specs.Limits.{ReadsNodes, Over}
use Rattle.ng_nodes.proofs.Free.{ended, free}
use Rattle.ng_nodes.proofs.Complete.{complete}
use Rattle.ng_nodes.proofs.Sound.{Reads, Was, arrived, begin_reads, reads_keep}
use Rattle.ng_nodes.proofs.Grows.{count_of, text_count, text_shown_out, grows}
use Rattle.ng_nodes.proofs.Counts.{counts}

-- the state that the machine without limits comes to by parts that it reads whole
record Comes (st : State) (front ts : Parts) (out : List TNode × ℕ) : Type 0 where
  last : State
  reads : Reads last (front ++ ts)
  goes : (us : Parts) → free st (ts ++ us) ≡ free last us
  ends : ended last.outer (settle last) ≡ Ok out

comes_then : (st : State) (front : Parts) (t : Part) (ts : Parts) (out : List TNode × ℕ) (r : Result State Stop) → arrive true t.markup t.place st ≡ r → Was front t r
    → ((next : State) → Reads next (front ++ t ∷ []) → free next ts ≡ Ok out → Comes next (front ++ t ∷ []) ts out) → and_then r (λ next. free next ts) ≡ Ok out → Comes st front (t ∷ ts) out
unfolding free
comes_then st front t ts out (Ok next) a w go e =
    let c : Comes next (front ++ t ∷ []) ts out = go next w e in
    record {
      last = c.last;
      reads = subst (λ x. Reads c.last x) (append_assoc front (t ∷ []) ts) c.reads;
      goes = λ us. ap (λ r. and_then r (λ s. free s (ts ++ us))) a ∙ c.goes us;
      ends = c.ends;
    }
comes_then st front t ts out (Err s) a w go e = absurd cc

comes : (ts : Parts) (st : State) (front : Parts) (out : List TNode × ℕ) → Reads st front → free st ts ≡ Ok out → Comes st front ts out
unfolding free
comes [] st front out h e = record { last = st; reads = subst (λ x. Reads st x) (sym (append-nil front)) h; goes = λ us. refl; ends = e }
comes (t ∷ ts) st front out h e =
    comes_then st front t ts out (arrive true t.markup t.place st) refl (arrived st front t.markup t.place h) (λ next w f. comes ts next (front ++ t ∷ []) out w f) e

-- where the parts end all nodes are begun
all_begun : (st : State) (front : Parts) → Reads st front → (ns : List TNode) (k : ℕ) (fs : List Frame) → st.outer ≡ fs → ended fs (settle st) ≡ Ok (ns, k) → k ≤ count_of st
all_begun st front h ns k [] out e =
    let whole : List TNode × ℕ = ((settle st).nodes, (settle st).made) in
    let same : whole ≡ (ns, k) = cc in
    let made : st.made + length (shown_run st.keep st.run) ≡ k = ap (λ p. p.1) same in
    let last : length (shown_run st.keep st.run) ≤ text_count st.run = subst (λ v. length (shown_run v st.run) ≤ text_count st.run) (sym (reads_keep st front h out)) (text_shown_out st.run) in
    omega arith
all_begun st front h ns k (f ∷ fs) out e = absurd cc

-- whatever parts come after nodes, there are no fewer nodes then
no_fewer : (ts more : Parts) (ns ms : List TNode) (j k : ℕ) → Nodes false ts ns j → Nodes false (ts ++ more) ms k → j ≤ k
no_fewer ts more ns ms j k h i =
    let c : Comes begin [] ts (ns, j) = comes ts begin [] (ns, j) begin_reads (complete h) in
    let least : j ≤ count_of c.last = all_begun c.last ts c.reads ns j c.last.outer refl c.ends in
    let most : count_of c.last ≤ k = grows more c.last ts (ms, k) c.reads (sym (c.goes more) ∙ complete i) in
    omega arith

few_of : (d n : ℕ) (ts : Parts) (ns : List TNode) (k : ℕ) → Nodes false ts ns k → (Over d n ts → ⊥) → k ≤ n
few_of d n ts ns k h few = by_bool (nat_lt n k) refl
  where
    by_bool : (v : Bool) → nat_lt n k ≡ v → k ≤ n
    by_bool false e = grind arith
    by_bool true e =
        let less : n < k = grind arith in
        absurd (few (Over.many ts [] (sym (append-nil ts)) (
          ([], ns, (k, subst (λ z. Nodes false z ns k) (sym (append-nil ts)) h)),
          λ more ms j i. let least : k ≤ j = no_fewer ts more ns ms k j h i in omega arith,
        )))

-- ---- the law
pub few : (d n : ℕ) (ts : Parts) (ns : List TNode) → ReadsNodes ts ns → (Over d n ts → ⊥) → length (all_nodes ns) ≤ n
few d n ts ns h within = omega (arith, few_of d n ts ns h.0 h.1 within, counts h.1, count_is ns)
