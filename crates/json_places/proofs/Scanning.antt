-- How many tokens begin in a text with one byte more.
use Rattle.std.proofs.Common.{◌≡◌, ℕ, ◌+◌, ◌≤◌, ◌<◌, List, [], ◌∷◌, ◌++◌, length, take, get_or, refl, ap, ◌∙◌, arith}
use Rattle.std.proofs.lemmas.List.{take_more, take_all}
use Rattle.json.specs.Lex.{Lexeme, token, comma, colon, operator_lexeme, Class, quote, backslash, operator, space, other, class, Mode, between, in_word, in_string, in_escape, lex_byte, lex}
use Rattle.json_places.specs.Starts.{token_count, tokens_before}
use Rattle.json_places.specs.Scan.{next_mode, begun, mode_after}

one_lexeme : (l : Lexeme) (ls : List Lexeme) → token_count (l ∷ ls) ≡ token_count (l ∷ []) + token_count ls
one_lexeme (token t) ls = omega arith
one_lexeme comma ls = omega arith
one_lexeme colon ls = omega arith

one_byte : (m : Mode) (c : Class) (x : ℕ) (xs : List ℕ) (k : Mode → List Lexeme) → token_count (lex_byte m c x xs k) ≡ begun m c x + token_count (k (next_mode m c))
one_byte between quote x xs k = omega arith
one_byte between backslash x xs k = omega arith
one_byte between operator x xs k = one_lexeme (operator_lexeme x) (k between)
one_byte between space x xs k = omega arith
one_byte between other x xs k = omega arith
one_byte in_word quote x xs k = omega arith
one_byte in_word backslash x xs k = omega arith
one_byte in_word operator x xs k = one_lexeme (operator_lexeme x) (k between)
one_byte in_word space x xs k = omega arith
one_byte in_word other x xs k = omega arith
one_byte in_string quote x xs k = omega arith
one_byte in_string backslash x xs k = omega arith
one_byte in_string operator x xs k = omega arith
one_byte in_string space x xs k = omega arith
one_byte in_string other x xs k = omega arith
one_byte in_escape quote x xs k = omega arith
one_byte in_escape backslash x xs k = omega arith
one_byte in_escape operator x xs k = omega arith
one_byte in_escape space x xs k = omega arith
one_byte in_escape other x xs k = omega arith

lexed : (m : Mode) (x : ℕ) (xs : List ℕ) → token_count (lex m (x ∷ xs)) ≡ begun m (class x) x + token_count (lex (next_mode m (class x)) xs)
unfolding lex
lexed m x xs = one_byte m (class x) x xs (λ next. lex next xs)

no_bytes : (m : Mode) → token_count (lex m []) ≡ 0
unfolding lex
no_bytes m = refl

-- one byte more
pub more : (m : Mode) (xs : List ℕ) (x : ℕ) → token_count (lex m (xs ++ x ∷ [])) ≡ token_count (lex m xs) + begun (mode_after m xs) (class x) x
more m [] x = omega (arith, lexed m x [], no_bytes m, no_bytes (next_mode m (class x)))
more m (y ∷ ys) x = omega (arith, lexed m y (ys ++ x ∷ []), lexed m y ys, more (next_mode m (class y)) ys x)

pub mode_more : (m : Mode) (xs : List ℕ) (x : ℕ) → mode_after m (xs ++ x ∷ []) ≡ next_mode (mode_after m xs) (class x)
mode_more m [] x = refl
mode_more m (y ∷ ys) x = mode_more (next_mode m (class y)) ys x

-- the same of the first bytes of a text
pub before_more : (text : List ℕ) (i : ℕ) → i < length text → tokens_before (i + 1) text ≡ tokens_before i text + begun (mode_after between (take i text)) (class (get_or text i 0)) (get_or text i 0)
before_more text i h = ap (λ xs. token_count (lex between xs)) (take_more text i 0 h) ∙ more between (take i text) (get_or text i 0)

pub mode_before_more : (text : List ℕ) (i : ℕ) → i < length text → mode_after between (take (i + 1) text) ≡ next_mode (mode_after between (take i text)) (class (get_or text i 0))
mode_before_more text i h = ap (mode_after between) (take_more text i 0 h) ∙ mode_more between (take i text) (get_or text i 0)

pub none_before : (text : List ℕ) → tokens_before 0 text ≡ 0
none_before text = no_bytes between

pub all_before : (text : List ℕ) (i : ℕ) → length text ≤ i → tokens_before i text ≡ token_count (lex between text)
all_before text i h = ap (λ xs. token_count (lex between xs)) (take_all i text h)

pub begun_same : (m k : Mode) (c d : Class) (x n : ℕ) → m ≡ k → c ≡ d → n ≡ begun m c x → begun k d x ≡ n
begun_same m k c d x n e f h = cc
