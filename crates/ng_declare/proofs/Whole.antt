-- What is read of a whole file.
use Rattle.std.proofs.Common.{◌≡◌, List, [], ◌∷◌, ◌++◌, length, refl, sym, ◌∙◌, ap, subst, arith}
use Rattle.std.specs.Prelude.{◌==◌, ◌↔◌, true, false, IsUtf8, IfOk, IfErr, Result, Ok, Err}
use Rattle.std.proofs.lemmas.List.{append-nil}
use Rattle.ng_ast.specs.declared.Place.{Place}
use Rattle.ng_ast.specs.declared.refusals.ReadError.{ReadError}
use Rattle.ng_ast.specs.declared.refusals.ReadError.TheVariants as r
use Rattle.ng_tokens.specs.Lexis.{Text, steps}
use Rattle.ng_exprs.specs.Reading.{Refused, IsOrMemory}
use Rattle.ng_phrases.specs.Parser.{Stop, Took, Gets, Means, Exact, Agree}
use Rattle.ng_phrases.specs.Reading.{reads, over}
use Rattle.ng_phrases.specs.ParserLaws.{err_no_ok, same_stop}
use Rattle.ng_phrases.proofs.Laws.{exact}
use Rattle.ng_phrases.proofs.Agreement.{agree}
use Rattle.ng_declare.specs.declared.halt.Halt.{Halt}
use Rattle.ng_declare.specs.declared.halt.Halt.TheVariants as h
use Rattle.ng_declare.specs.declared.entries.Entry.{Entry}
use Rattle.ng_declare.specs.Readers.{Question, ask, unread_at, over_at, readers}
use Rattle.ng_declare.specs.Gives.{nothing, read, Fails, Tells}
use Rattle.ng_declare.specs.Grammar.{file}
use Rattle.ng_declare.specs.Files.{first_place, unmarked, nowhere, never, ReadsFile, OverFile, NoFile, Refuses, Answers}

exact_nothing : Exact readers nowhere never nothing
exact_nothing = record {
  sound = record { takes = λ p t a q z e. absurd (err_no_ok Stop.Syntax (a, q, z) e) };
  calm = record { within = λ p t a q z e k. k };
  complete = record { gets = λ p x z a k. absurd k };
  stops = record { means = λ p t e k. subst (Means readers ⊥) (same_stop Stop.Syntax e k) tt };
}

-- the parser of files and their grammar are one
exact_file : Exact readers (reads nowhere file) (over nowhere never file) (read file)
exact_file = exact readers nowhere nothing never exact_nothing file

agree_file : Agree (reads nowhere file) (reads nowhere file)
agree_file = agree nowhere nowhere (record { same = λ p x z y w a b k i e. absurd k }) file

pub one_reading : (t : Text) (a b : List Entry) → ReadsFile t a → ReadsFile t b → a ≡ b
one_reading t a b h i = (agree_file.same (first_place t) (unmarked t) [] (unmarked t) [] a b h.1 i.1 refl).1

-- what the parser gives where the file is read
gets_file : (t : Text) (es : List Entry) → ReadsFile t es → Gets readers (es, steps (first_place t) (unmarked t), []) (read file (first_place t) (unmarked t))
gets_file t es i = subst (λ (z : Text). Gets readers (es, steps (first_place t) (unmarked t), []) (read file (first_place t) z)) (append-nil (unmarked t)) (exact_file.complete.gets (first_place t) (unmarked t) [] es i.1)

-- a stop that says so comes only where there is no reading
unread : (t : Text) (e : Stop Question) → read file (first_place t) (unmarked t) ≡ Err e → ((es : List Entry) → Gets readers (es, steps (first_place t) (unmarked t), []) (Err e) → ⊥) → NoFile t
unread t e is none es i = none es (subst (Gets readers (es, steps (first_place t) (unmarked t), [])) is (gets_file t es i))

pub file_found : (t : Text) (es : List Entry) (q : Place) (z : Text) → IsUtf8 t → read file (first_place t) (unmarked t) ≡ Ok (es, q, z) → z ≡ [] → ReadsFile t es × (OverFile t → ⊥)
file_found t es q z utf8 e none =
    let w : Took (reads nowhere file) (first_place t) (unmarked t) es q z = exact_file.sound.takes (first_place t) (unmarked t) es q z e in
    let text : w.text ≡ unmarked t = sym (w.parts ∙ ap (λ (u : Text). w.text ++ u) none ∙ append-nil w.text) in (
      (utf8, subst (λ (x : Text). reads nowhere file (first_place t) x [] es) text (subst (λ (u : Text). reads nowhere file (first_place t) w.text u es) none w.reads)),
      λ k. exact_file.calm.within (first_place t) (unmarked t) es q z e k,
    )

-- where something is left, there is no reading
pub file_goes_on : (t : Text) (es : List Entry) (q : Place) (z : Text) → read file (first_place t) (unmarked t) ≡ Ok (es, q, z) → (z ≡ [] → ⊥) → NoFile t
file_goes_on t es q z e some ds i =
    let same : ◌≡◌ {A = List Entry × Place × Text} (es, q, z) (ds, steps (first_place t) (unmarked t), []) = subst (Gets readers (ds, steps (first_place t) (unmarked t), [])) e (gets_file t ds i) in
    some (ap (λ (v : List Entry × Place × Text). v.2) same)

-- a halt of the reader, told as a refusal
pub file_refused : (t : Text) (e : Halt) (q : Place) (z : Text) (told : ReadError) → IsUtf8 t → Fails (read file (first_place t) (unmarked t)) e q z → Tells e told → Refuses (IsUtf8 t) (NoFile t) (OverFile t) told
file_refused t (h.Syntax at) q z (r.Syntax f) u i k = (k.0, k.1, u, unread t Stop.Syntax i (λ es g. g))
file_refused t (h.Syntax at) q z (r.Limit f) u i k = absurd k
file_refused t (h.Syntax at) q z r.Utf8 u i k = absurd k
file_refused t (h.Syntax at) q z r.Memory u i k = u
file_refused t (h.Limit at) q z (r.Limit f) u i k = (k.0, k.1, u, exact_file.stops.means (first_place t) (unmarked t) Stop.Limit i)
file_refused t (h.Limit at) q z (r.Syntax f) u i k = absurd k
file_refused t (h.Limit at) q z r.Utf8 u i k = absurd k
file_refused t (h.Limit at) q z r.Memory u i k = u
file_refused t h.Memory q z r.Memory u i k = u
file_refused t h.Memory q z (r.Limit f) u i k = absurd k
file_refused t h.Memory q z (r.Syntax f) u i k = absurd k
file_refused t h.Memory q z r.Utf8 u i k = absurd k
file_refused t (h.Refused what error) q z told u i k = subst (Refuses (IsUtf8 t) (NoFile t) (OverFile t)) (sym k) (by error i.1)
  where
    by : (error : ReadError) → Refused (unread_at what q z) (over_at what q z) error → Refuses (IsUtf8 t) (NoFile t) (OverFile t) error
    by (r.Syntax f) j = (j.0, j.1, u, unread t (Stop.Refused (ask what q z)) i.0 (λ es g. g j.2))
    by (r.Limit f) j = (j.0, j.1, u, exact_file.stops.means (first_place t) (unmarked t) (Stop.Refused (ask what q z)) i.0 j.2)
    by r.Utf8 j = absurd j
    by r.Memory j = u

-- ---- the clauses of the reader

pub answers_exactly : (t : Text) (o : Result (List Entry) ReadError) → Answers t o → (es : List Entry) → ReadsFile t es → (OverFile t → ⊥) → IsOrMemory es o
answers_exactly t (Ok ds) a es i few = one_reading t ds es a.0 i
answers_exactly t (Err r.Utf8) a es i few = absurd (a i.0)
answers_exactly t (Err (r.Syntax f)) a es i few = absurd (a.3 es i)
answers_exactly t (Err (r.Limit f)) a es i few = absurd (few a.3)
answers_exactly t (Err r.Memory) a es i few = tt

-- ---- the end of a file

pub no_rest : (z : Text) → (length z == 0) ≡ true → z ≡ []
no_rest [] e = refl
no_rest (b ∷ z) e = absurd (grind arith)

pub some_rest : (z : Text) → (length z == 0) ≡ false → z ≡ [] → ⊥
some_rest [] e f = absurd (cc)
some_rest (b ∷ z) e f = cc

-- what the first cursor is
pub from_first : {A : Type 0} (f : Place → Text → A) (t : Text) (p : Place) (z : Text) → p ≡ first_place t → z ≡ unmarked t → f (first_place t) (unmarked t) ≡ f p z
from_first f t p z e g = ap (λ (q : Place). f q (unmarked t)) (sym e) ∙ ap (λ (u : Text). f p u) (sym g)

pub utf8_clause : (t : Text) (o : Result (List Entry) ReadError) → IsUtf8 t → Answers t o → (o ≡ Err r.Utf8) ↔ (IsUtf8 t → ⊥)
utf8_clause t (Ok es) u a = (λ e. cc, λ f. absurd (f u))
utf8_clause t (Err r.Utf8) u a = (λ e. a, λ f. refl)
utf8_clause t (Err (r.Syntax x)) u a = (λ e. cc, λ f. absurd (f u))
utf8_clause t (Err (r.Limit x)) u a = (λ e. cc, λ f. absurd (f u))
utf8_clause t (Err r.Memory) u a = (λ e. cc, λ f. absurd (f u))

pub reads_clause : (t : Text) (o : Result (List Entry) ReadError) → Answers t o → IfOk o (λ es. ReadsFile t es × (OverFile t → ⊥))
reads_clause t (Ok es) a = a
reads_clause t (Err e) a = tt

pub refused_clause : (t : Text) (o : Result (List Entry) ReadError) → Answers t o → IfErr o (Refuses (IsUtf8 t) (NoFile t) (OverFile t))
refused_clause t (Ok es) a = tt
refused_clause t (Err e) a = a

-- a text that goes on after its declarations, told as a refusal
pub left_over : (t : Text) (at : Place) (told : ReadError) → IsUtf8 t → NoFile t → Tells (h.Syntax at) told → Refuses (IsUtf8 t) (NoFile t) (OverFile t) told
left_over t at (r.Syntax f) u none k = (k.0, k.1, u, none)
left_over t at (r.Limit f) u none k = absurd k
left_over t at r.Utf8 u none k = absurd k
left_over t at r.Memory u none k = u
