-- The bytes at which the tokens of a JSON text begin. Tokens are counted from 0. Commas and colons are no
-- tokens.
use Rattle.std.specs.Prelude.{◌≡◌, ℕ, suc, ◌+◌, ◌<◌, List, [], ◌∷◌, length, take}
use Rattle.json.specs.Lex.{Lexeme, token, comma, colon, between, lex}

-- the number of tokens among these
abbrev pub token_count : List Lexeme → ℕ
token_count [] = 0
token_count (token t ∷ ls) = suc (token_count ls)
token_count (comma ∷ ls) = token_count ls
token_count (colon ∷ ls) = token_count ls

-- the number of tokens that begin among the first bytes of a text
abbrev pub tokens_before : ℕ → List ℕ → ℕ
tokens_before byte text = token_count (lex between (take byte text))

-- the token of this number begins at this byte: so many tokens begin before it, and one more with it
pub record BeginsAt (text : List ℕ) (number byte : ℕ) : Type 0 where
  pub within : byte < length text
  pub before : tokens_before byte text ≡ number
  pub with : tokens_before (byte + 1) text ≡ number + 1
