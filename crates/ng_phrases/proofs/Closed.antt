-- Phrases without a hole: the parser and the grammar are one, and a text is one phrase at most.
use Rattle.std.proofs.Common.{subst}
use Rattle.ng_phrases.specs.Parser.{Readers, Stop, Means, Exact, Agree}
use Rattle.ng_phrases.specs.Phrase.{Phrase}
use Rattle.ng_phrases.specs.Reading.{reads, over}
use Rattle.ng_phrases.specs.Parse.{parse}
use Rattle.ng_phrases.specs.ParserLaws.{err_no_ok, same_stop}
use Rattle.ng_phrases.specs.Closed.{nowhere, never, nothing}
use Rattle.ng_phrases.proofs.Laws.{exact}
use Rattle.ng_phrases.proofs.Agreement.{agree}

pub exact_nothing : (R : Readers) → Exact R nowhere never nothing
exact_nothing R = record {
  sound = record { takes = λ p t a q z e. absurd (err_no_ok Stop.Syntax (a, q, z) e) };
  calm = record { within = λ p t a q z e k. k };
  complete = record { gets = λ p x z a k. absurd k };
  stops = record { means = λ p t e k. subst (Means R ⊥) (same_stop Stop.Syntax e k) tt };
}

pub exact_closed : (R : Readers) {A : Type 0} (g : Phrase R ⊥ A) → Exact R (reads nowhere g) (over nowhere never g) (parse nothing g)
exact_closed R g = exact R nowhere nothing never (exact_nothing R) g

pub agree_closed : {R : Readers} {A : Type 0} (g : Phrase R ⊥ A) → Agree (reads nowhere g) (reads nowhere g)
agree_closed g = agree nowhere nowhere (record { same = λ p x z y w a b k i e. absurd k }) g
