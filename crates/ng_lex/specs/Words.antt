-- Words for how texts are written: white space, names, and the first place of a word outside of quotes.
use Rattle.std.specs.Prelude.{◌≡◌, ℕ, Bool, true, false, ◌==◌, if◌then◌else◌, [], ◌∷◌, ◌++◌}
use Rattle.ng_tokens.specs.Lexis.{Text, is_blank, is_letter, is_word, is_quote, all, begins}
use Rattle.ng_lex.specs.declared.quotes.Quoting.{Quoting}
use Rattle.ng_lex.specs.declared.quotes.Quoting.TheVariants.{Outside, Within, Escaped}

-- white space, or nothing
abbrev pub IsBlank : Text → Type 0
IsBlank w = all is_blank w ≡ true

-- white space
abbrev pub IsGap : Text → Type 0
IsGap [] = ⊥
IsGap (b ∷ w) = all is_blank (b ∷ w) ≡ true

-- one byte that passes the first test, then bytes that pass the second
abbrev pub is_run : (ℕ → Bool) → (ℕ → Bool) → Text → Bool
is_run first more [] = false
is_run first more (b ∷ z) = if first b then all more z else false

-- a letter or `_`, then letters, digits and `_`
abbrev pub is_name : Text → Bool
is_name n = is_run is_letter is_word n

abbrev pub IsName : Text → Type 0
IsName n = is_name n ≡ true

-- a byte that passes the test stands at the front
abbrev pub at_front : (ℕ → Bool) → Text → Bool
at_front p [] = false
at_front p (b ∷ z) = p b

-- the first text is the second, with white space round it or without
abbrev pub Spaced : Text → Text → Type 0
Spaced t a = (w v : Text) × (t ≡ w ++ (a ++ v)) × IsBlank w × IsBlank v

-- the text is one name, with white space round it or without
abbrev pub IsOneName : Text → Text → Type 0
IsOneName t n = Spaced t n × IsName n

-- no word goes on there
abbrev pub EndsWord : Text → Type 0
EndsWord z = at_front is_word z ≡ false

-- ---- quotes

abbrev pub is_outside : Quoting → Bool
is_outside Outside = true
is_outside (Within q) = false
is_outside (Escaped q) = false

-- after a byte, where text literals count, with their escapes
abbrev pub literal : Quoting → ℕ → Quoting
literal Outside b = if is_quote b then Within b else Outside
literal (Within q) b = if b == 92 then Escaped q else (if b == q then Outside else Within q)
literal (Escaped q) b = Within q

-- after a byte, where the values of attributes count, which have no escapes
abbrev pub valued : Quoting → ℕ → Quoting
valued Outside b = if is_quote b then Within b else Outside
valued (Within q) b = if b == q then Outside else Within q
valued (Escaped q) b = Within q

-- where no quotes count
abbrev pub unquoted : Quoting → ℕ → Quoting
unquoted s b = s

-- after a text
abbrev pub after : (Quoting → ℕ → Quoting) → Quoting → Text → Quoting
after f s [] = s
after f s (b ∷ x) = after f (f s b) x

-- Outside of quotes the word begins nowhere in the first text, where the second comes after it.
abbrev pub Clear : (Quoting → ℕ → Quoting) → Text → Quoting → Text → Text → Type 0
Clear f w s [] y = Unit {0}
Clear f w s (b ∷ x) y = ((if is_outside s then begins w (b ∷ (x ++ y)) else false) ≡ false) × Clear f w (f s b) x y

-- Outside of quotes the word stands right after the text, and nowhere before.
abbrev pub First : (Quoting → ℕ → Quoting) → Text → Text → Type 0
First f w x = (after f Outside x ≡ Outside) × Clear f w Outside x w

-- `{{`
abbrev pub opening : Text
opening = 123 ∷ 123 ∷ []

-- `}}`
abbrev pub closing : Text
closing = 125 ∷ 125 ∷ []
