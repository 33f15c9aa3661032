-- The parts of a file that have a grammar of their own, as phrases.
use Rattle.std.specs.Prelude.{true, false, List}
use Rattle.ng_ast.specs.declared.Expr.{Expr}
use Rattle.ng_ast.specs.declared.Stmt.{Stmt}
use Rattle.ng_ast.specs.declared.Selector.{Selector}
use Rattle.ng_tokens.specs.declared.kinds.Sign.TheVariants as s
use Rattle.ng_tokens.specs.Lexis.{Text}
use Rattle.ng_exprs.specs.Grammar.{ReadsPiped}
use Rattle.ng_exprs.specs.Reading.{OverText}
use Rattle.ng_exprs.specs.Bodies.{ReadsWhole, OverBody}
use Rattle.ng_phrases.specs.Phrase.{Leaf, Phrase}
use Rattle.ng_declare.specs.declared.halt.Part.TheVariants as part
use Rattle.ng_declare.specs.Parts.{ReadsPart, parse_part}
use Rattle.ng_declare.specs.PartsLaws.{agree_part, exact_part}
use Rattle.ng_declare.specs.Expressions.{expr_of}
use Rattle.ng_declare.specs.ExpressionsLaws.{expression}
use Rattle.ng_declare.specs.Bodies.{body_of}
use Rattle.ng_declare.specs.BodiesLaws.{statements_part}
use Rattle.ng_declare.specs.Selectors.{ReadsWritten, parse_written}
use Rattle.ng_declare.specs.SelectorsLaws.{exact_written, agree_written}
use Rattle.ng_declare.specs.declared.entries.Source.{Source}
use Rattle.ng_declare.specs.Quotes.{ReadsQuoted, parse_quoted}
use Rattle.ng_declare.specs.QuotesLaws.{exact_quoted, agree_quoted}
use Rattle.ng_declare.specs.Readers.{ask, readers}

-- an expression, before its `;`
abbrev pub expression_leaf : Leaf readers Expr
expression_leaf = record {
  reads = ReadsPart s.Semicolon ReadsPiped;
  over = OverText true;
  parse = parse_part s.Semicolon expr_of (ask part.Expression);
  exact = exact_part expression readers (ask part.Expression) (λ p t u. u) (λ p t o. o);
  one = agree_part expression;
}

-- a body, before its `}`
abbrev pub body_leaf : Leaf readers (List Stmt)
body_leaf = record {
  reads = ReadsPart s.CloseBrace (ReadsWhole false);
  over = OverBody;
  parse = parse_part s.CloseBrace body_of (ask part.Body);
  exact = exact_part statements_part readers (ask part.Body) (λ p t u. u) (λ p t o. o);
  one = agree_part statements_part;
}

-- nothing, for the selector that a text is
abbrev pub selector_leaf : Text → Leaf readers Selector
selector_leaf t = record { reads = ReadsWritten t; over = λ p z. ⊥; parse = parse_written t; exact = exact_written readers t; one = agree_written t }

-- the text of a template in its backticks
abbrev pub quoted_leaf : Leaf readers Source
quoted_leaf = record { reads = ReadsQuoted; over = λ p t. ⊥; parse = parse_quoted; exact = exact_quoted readers; one = agree_quoted }

module _ {H : Type 0} where
  unfoldable pub expression_here : Phrase readers H Expr
  expression_here = Phrase.leaf expression_leaf

  unfoldable pub body_here : Phrase readers H (List Stmt)
  body_here = Phrase.leaf body_leaf

  unfoldable pub selector_here : Text → Phrase readers H Selector
  selector_here t = Phrase.leaf (selector_leaf t)

  unfoldable pub quoted_here : Phrase readers H Source
  quoted_here = Phrase.leaf quoted_leaf
