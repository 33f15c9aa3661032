-- The clauses of the reader of applications.
use Rattle.std.proofs.Common.{◌≡◌, List, refl, ap, subst, inl, inr}
use Rattle.std.specs.Prelude.{◌↔◌, IsUtf8, IfOk, IfErr, Result, Ok, Err}
use Rattle.std.specs.List.{All}
use Rattle.ng_ast.specs.declared.App.{App}
use Rattle.ng_ast.specs.declared.Decl.{Decl}
use Rattle.ng_ast.specs.declared.refusals.ReadError.{ReadError}
use Rattle.ng_ast.specs.declared.refusals.ReadError.TheVariants as r
use Rattle.ng_tokens.specs.Lexis.{Text}
use Rattle.ng_exprs.specs.Reading.{IsOrMemory}
use Rattle.ng_declare.specs.declared.entries.Entry.{Entry}
use Rattle.ng_declare.specs.Files.{ReadsFile, OverFile, NoFile, Refuses}
use Rattle.ng_declare.proofs.Whole.{one_reading}
use Rattle.ng_app.specs.Reading.{AreFilled, HasOver, ReadsApp, OverApp, NoApp, TemplateKeepsLimits}
use Rattle.ng_app.specs.Answers.{AnswersEntries, AnswersApp}
use Rattle.ng_app.proofs.Filled.{one_list, keep_limits}

pub one_reading_of_app : (t : Text) (a b : App) → ReadsApp t a → ReadsApp t b → a ≡ b
one_reading_of_app t a b h i =
    let same : h.0 ≡ i.0 = one_reading t h.0 i.0 h.1 i.1 in
    ap (λ ds. record { decls = ds }) (one_list i.0 a.decls b.decls (subst (λ es. AreFilled es a.decls) same h.2) i.2)

-- what is over is the file, or the templates of the entries that it has
calm_app : (t : Text) (es : List Entry) → ReadsFile t es → (OverFile t → ⊥) → (HasOver es → ⊥) → OverApp t → ⊥
calm_app t es h calm few (inl o) = calm o
calm_app t es h calm few (inr o) = few (subst HasOver (one_reading t o.0 es o.1 h) o.2)

-- ---- what the reader answers

-- the file is refused
pub file_refused : (t : Text) (e : ReadError) → Refuses (IsUtf8 t) (NoFile t) (OverFile t) e → AnswersApp t (Err e)
file_refused t r.Utf8 h = h
file_refused t (r.Syntax f) h = (h.0, h.1, h.2, λ app i. h.3 i.0 i.1)
file_refused t (r.Limit f) h = (h.0, h.1, h.2, inl h.3)
file_refused t r.Memory h = h

-- a template is refused
pub template_refused : (t : Text) (es : List Entry) (e : ReadError) → ReadsFile t es → AnswersEntries es (Err e) → AnswersApp t (Err e)
template_refused t es r.Utf8 h k = absurd k
template_refused t es (r.Syntax f) h k = (k.0, k.1, h.0, λ app i. k.2 app.decls (subst (λ (fs : List Entry). AreFilled fs app.decls) (one_reading t i.0 es i.1 h) i.2))
template_refused t es (r.Limit f) h k = (k.0, k.1, h.0, inr (es, h, k.2))
template_refused t es r.Memory h k = h.0

pub app_found : (t : Text) (es : List Entry) (ds : List Decl) → ReadsFile t es × (OverFile t → ⊥) → AnswersEntries es (Ok ds) → AnswersApp t (Ok (record { decls = ds }))
app_found t es ds h k = ((es, h.0, k.0), calm_app t es h.0 h.1 k.1)

-- ---- the clauses

pub utf8_clause : (t : Text) (o : Result App ReadError) → AnswersApp t o → (o ≡ Err r.Utf8) ↔ (IsUtf8 t → ⊥)
utf8_clause t (Ok app) a = (λ e. cc, λ f. absurd (f a.0.1.0))
utf8_clause t (Err r.Utf8) a = (λ e. a, λ f. refl)
utf8_clause t (Err (r.Syntax x)) a = (λ e. cc, λ f. absurd (f a.2))
utf8_clause t (Err (r.Limit x)) a = (λ e. cc, λ f. absurd (f a.2))
utf8_clause t (Err r.Memory) a = (λ e. cc, λ f. absurd (f a))

pub reads_clause : (t : Text) (o : Result App ReadError) → AnswersApp t o → IfOk o (λ app. ReadsApp t app × (OverApp t → ⊥))
reads_clause t (Ok app) a = a
reads_clause t (Err e) a = tt

pub refused_clause : (t : Text) (o : Result App ReadError) → AnswersApp t o → IfErr o (Refuses (IsUtf8 t) (NoApp t) (OverApp t))
refused_clause t (Ok app) a = tt
refused_clause t (Err e) a = a

pub answers_exactly : (t : Text) (o : Result App ReadError) → AnswersApp t o → (app : App) → ReadsApp t app → (OverApp t → ⊥) → IsOrMemory app o
answers_exactly t (Ok found) a app i few = one_reading_of_app t found app a.0 i
answers_exactly t (Err r.Utf8) a app i few = absurd (a i.1.0)
answers_exactly t (Err (r.Syntax f)) a app i few = absurd (a.3 app i)
answers_exactly t (Err (r.Limit f)) a app i few = absurd (few a.3)
answers_exactly t (Err r.Memory) a app i few = tt

-- ---- the limits

pub templates_keep_limits : (t : Text) (app : App) → ReadsApp t app → (OverApp t → ⊥) → All TemplateKeepsLimits app.decls
templates_keep_limits t app h few = keep_limits h.0 app.decls h.2 (λ o. few (inr (h.0, h.1, o)))
