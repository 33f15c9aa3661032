-- What is read alike within a constant and elsewhere.
use Rattle.std.proofs.Common.{◌≡◌, Bool, true, false, refl, sym, ap}
use Rattle.std.specs.Prelude.{ℤ, Option, Some, None, Result, Ok, Err, IfOk, IfErr}
use Rattle.ng_ast.specs.declared.Place.{Place}
use Rattle.ng_values.specs.declared.value.Value.{Value}
use Rattle.ng_values.specs.declared.value.Value.TheVariants as v
use Rattle.ng_tokens.specs.declared.kinds.Sign.{Sign}
use Rattle.ng_tokens.specs.declared.kinds.Token.{Token}
use Rattle.ng_tokens.specs.Lexis.{Text}
use Rattle.ng_phrases.specs.Parser.{Outcome, Parser, and_then}
use Rattle.ng_phrases.specs.Phrase.{Phrase, ◌>>=◌, ◌>>◌, given, check}
use Rattle.ng_phrases.specs.Parse.{parse}
use Rattle.ng_phrases.specs.Tokens.{parse_token}
use Rattle.ng_phrases.specs.Words.{is_sign, number_of, token, sign, number}
use Rattle.ng_declare.specs.declared.halt.Halt.{Halt}
use Rattle.ng_declare.specs.declared.halt.Halt.TheVariants as h
use Rattle.ng_declare.specs.Readers.{Question, readers}
use Rattle.ng_declare.specs.Constants.{fits_text, negated, negative, text_constant}
use Rattle.ng_declare.specs.Weights.{Fits}
use Rattle.ng_declare.specs.Gives.{nothing, read, Gives}

module _ {H : Type 0} (inner : Parser Question H) where
  -- ---- a sign

  checked : (b : Bool) (p : Place) (t : Text) → parse {R = readers} inner (check b) p t ≡ parse {R = readers} nothing (check b) p t
  unfolding parse
  checked true p t = refl
  checked false p t = refl

  pub sign_read : (x : Sign) (p : Place) (t : Text) → parse {R = readers} inner (sign x) p t ≡ read (sign x) p t
  unfolding parse sign token
  sign_read x p t = by (parse_token p t)
    where
      by : (o : Outcome Question Token) → and_then o (λ k. parse {R = readers} inner (check (is_sign x k.kind))) ≡ and_then o (λ k. parse {R = readers} nothing (check (is_sign x k.kind)))
      by (Ok r) = checked (is_sign x r.0.kind) r.1 r.2
      by (Err e) = refl

  -- ---- a number after its minus

  abbrev number_after : {K : Type 0} → ℤ → Phrase readers K Value
  number_after n = given (negated n) >>= λ m. Phrase.pure (v.Int m)

  turned : (m : Option ℤ) (p : Place) (t : Text) → parse {R = readers} inner (given m >>= λ i. Phrase.pure (v.Int i)) p t ≡ parse {R = readers} nothing (given m >>= λ i. Phrase.pure (v.Int i)) p t
  unfolding parse
  turned (Some m) p t = refl
  turned None p t = refl

  numbered : (m : Option ℤ) (p : Place) (t : Text) → and_then (parse {R = readers} inner (given m) p t) (λ n. parse inner (number_after n)) ≡ and_then (parse {R = readers} nothing (given m) p t) (λ n. parse nothing (number_after n))
  unfolding parse
  numbered (Some n) p t = turned (negated n) p t
  numbered None p t = refl

  pub negative_read : (p : Place) (t : Text) → parse {R = readers} inner negative p t ≡ read negative p t
  unfolding parse token number negative
  negative_read p t = by (parse_token p t)
    where
      by : (o : Outcome Question Token) → and_then (and_then o (λ k. parse {R = readers} inner (given (number_of k.kind)))) (λ n. parse inner (number_after n))
          ≡ and_then (and_then o (λ k. parse {R = readers} nothing (given (number_of k.kind)))) (λ n. parse nothing (number_after n))
      by (Ok r) = numbered (number_of r.0.kind) r.1 r.2
      by (Err e) = refl

-- ---- a text

module _ (inner : Parser Question Value) (t : Text) (p : Place) (z : Text) where
  given_text : (b : Bool) (o : Result Value Halt) → IfOk o (λ w. (w ≡ v.Text t) × (b ≡ true)) → IfErr o (Fits b) → Gives (parse {R = readers} inner (Phrase.within b >> Phrase.pure (v.Text t)) p z) o p z
  unfolding parse
  given_text true (Ok w) f g = ap (λ (x : Value). let u : Outcome Question Value = Ok (x, p, z) in u) (sym f.0)
  given_text false (Ok w) f g = absurd (cc)
  given_text true (Err (h.Limit q)) f g = absurd (cc)
  given_text false (Err (h.Limit q)) f g = refl
  given_text b (Err h.Memory) f g = tt
  given_text b (Err (h.Syntax q)) f g = absurd g
  given_text b (Err (h.Refused what error)) f g = absurd g

  pub text_given : (o : Result Value Halt) → IfOk o (λ w. (w ≡ v.Text t) × (fits_text t ≡ true)) → IfErr o (Fits (fits_text t)) → Gives (parse {R = readers} inner (text_constant t) p z) o p z
  unfolding text_constant
  text_given o f g = given_text (fits_text t) o f g
