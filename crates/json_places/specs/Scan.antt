-- How the lexer goes on after a byte. Only private clauses cite it.
use Rattle.std.specs.Prelude.{ℕ, List, [], ◌∷◌}
use Rattle.json.specs.Lex.{Class, quote, backslash, operator, space, other, class, Mode, between, in_word, in_string, in_escape, lex_byte}
use Rattle.json_places.specs.Starts.{token_count}
use Rattle.json_places.specs.declared.scan.Mode.{Mode as Kept}
use Rattle.json_places.specs.declared.scan.Mode.TheVariants.{Between, InWord, InString, InEscape}
use Rattle.json_places.specs.declared.scan.Class.{Class as Kind}
use Rattle.json_places.specs.declared.scan.Class.TheVariants.{Quote, Backslash, Operator, Space, Other}

abbrev pub mode_of : Kept → Mode
mode_of Between = between
mode_of InWord = in_word
mode_of InString = in_string
mode_of InEscape = in_escape

abbrev pub class_of : Kind → Class
class_of Quote = quote
class_of Backslash = backslash
class_of Operator = operator
class_of Space = space
class_of Other = other

-- the mode after a byte of this class
abbrev pub next_mode : Mode → Class → Mode
next_mode between quote = in_string
next_mode between backslash = in_word
next_mode between operator = between
next_mode between space = between
next_mode between other = in_word
next_mode in_word quote = in_word
next_mode in_word backslash = in_word
next_mode in_word operator = between
next_mode in_word space = between
next_mode in_word other = in_word
next_mode in_string quote = between
next_mode in_string backslash = in_escape
next_mode in_string operator = in_string
next_mode in_string space = in_string
next_mode in_string other = in_string
next_mode in_escape c = in_string

-- the number of tokens that begin at this byte: none or one
abbrev pub begun : Mode → Class → ℕ → ℕ
begun m c x = token_count (lex_byte m c x [] (λ next. []))

-- the mode after these bytes
abbrev pub mode_after : Mode → List ℕ → Mode
mode_after m [] = m
mode_after m (x ∷ xs) = mode_after (next_mode m (class x)) xs
