-- A text has a token for each node.
use Rattle.std.proofs.Common.{◌≡◌, ℕ, suc, ◌<◌, ◌≤◌, List, [], ◌∷◌, map, length, Bool, true, false, subst, arith, ⊎_elim}
use Rattle.std.proofs.lemmas.Bool.{cases_lt}
use Rattle.std.proofs.lemmas.List.{drop_all, length-map}
use Rattle.json.specs.Token.{Token, begin_object, end_object, begin_array, end_array, key, string, number, boolean, null, bad}
use Rattle.json.specs.Lex.{Lexeme, token, comma, colon, Place, fresh, after_value, after_comma, after_key, begins_colon, may_begin, may_close, if_allowed, place_token, punctuate}
use Rattle.json.specs.Json.{Json}
use Rattle.json.specs.Tape.{node_token}
use Rattle.json.specs.declared.tape.Node.{Node}
use Rattle.json.specs.declared.tape.Node.TheVariants.{Object, EndObject, Array, EndArray, Key, String, Number, Bool as Truth, Null}
use Rattle.json.specs.Find.{BeginsWith}
use Rattle.json.proofs.Found.{not_empty}
use Rattle.json_places.specs.Starts.{token_count}
use Rattle.json_places.specs.Walk.{tokens_from}

never_bad : (n : Node) → node_token n ≡ bad → ⊥
never_bad (Object a) h = cc
never_bad EndObject h = cc
never_bad (Array a) h = cc
never_bad EndArray h = cc
never_bad (Key s) h = cc
never_bad (String s) h = cc
never_bad (Number s) h = cc
never_bad (Truth b) h = cc
never_bad Null h = cc

-- nodes of these tokens are at most so many
Few : List Token → ℕ → Type 0
Few ts n = (ns : List Node) → map node_token ns ≡ ts → length ns ≤ n

none : (n : ℕ) → Few [] n
unfolding Few
none n [] e = omega arith
none n (m ∷ ms) e = cc

after_bad : (ts : List Token) (n : ℕ) → Few (bad ∷ ts) n
unfolding Few
after_bad ts n [] e = cc
after_bad ts n (m ∷ ms) e = let h : node_token m ≡ bad = cc in absurd (never_bad m h)

one_more : (t : Token) (ts : List Token) (n : ℕ) → Few ts n → Few (t ∷ ts) (suc n)
unfolding Few
one_more t ts n few [] e = cc
one_more t ts n few (m ∷ ms) e = let h : map node_token ms ≡ ts = cc in let k : length ms ≤ n = few ms h in omega arith

allowed : (b : Bool) (t : Token) (k : Place → List Token) (next : Place) (n : ℕ) → ((q : Place) → Few (k q) n) → Few (if_allowed b t k next) (suc n)
allowed true t k next n few = one_more t (k next) n (few next)
allowed false t k next n few = after_bad [] (suc n)

placed : (p : Place) (t : Token) (b : Bool) (k : Place → List Token) (n : ℕ) → ((q : Place) → Few (k q) n) → Few (place_token p t b k) (suc n)
placed p begin_object b k n few = allowed (may_begin p) begin_object k fresh n few
placed p end_object b k n few = allowed (may_close p) end_object k after_value n few
placed p begin_array b k n few = allowed (may_begin p) begin_array k fresh n few
placed p end_array b k n few = allowed (may_close p) end_array k after_value n few
placed p (key s) b k n few = after_bad [] (suc n)
placed p (string s) true k n few = allowed (may_begin p) (key s) k after_key n few
placed p (string s) false k n few = allowed (may_begin p) (string s) k after_value n few
placed p (number s) b k n few = allowed (may_begin p) (number s) k after_value n few
placed p (boolean c) b k n few = allowed (may_begin p) (boolean c) k after_value n few
placed p null b k n few = allowed (may_begin p) null k after_value n few
placed p bad b k n few = after_bad [] (suc n)

few_tokens : (ls : List Lexeme) (p : Place) → Few (punctuate p ls) (token_count ls)
unfolding punctuate
few_tokens [] fresh = none 0
few_tokens [] after_value = none 0
few_tokens [] after_comma = after_bad [] 0
few_tokens [] after_key = after_bad [] 0
few_tokens (token t ∷ ls) fresh = placed fresh t (begins_colon ls) (λ next. punctuate next ls) (token_count ls) (λ q. few_tokens ls q)
few_tokens (token t ∷ ls) after_value = placed after_value t (begins_colon ls) (λ next. punctuate next ls) (token_count ls) (λ q. few_tokens ls q)
few_tokens (token t ∷ ls) after_comma = placed after_comma t (begins_colon ls) (λ next. punctuate next ls) (token_count ls) (λ q. few_tokens ls q)
few_tokens (token t ∷ ls) after_key = placed after_key t (begins_colon ls) (λ next. punctuate next ls) (token_count ls) (λ q. few_tokens ls q)
few_tokens (comma ∷ ls) fresh = after_bad [] (token_count ls)
few_tokens (comma ∷ ls) after_value = few_tokens ls after_comma
few_tokens (comma ∷ ls) after_comma = after_bad [] (token_count ls)
few_tokens (comma ∷ ls) after_key = after_bad [] (token_count ls)
few_tokens (colon ∷ ls) fresh = after_bad [] (token_count ls)
few_tokens (colon ∷ ls) after_value = after_bad [] (token_count ls)
few_tokens (colon ∷ ls) after_comma = after_bad [] (token_count ls)
few_tokens (colon ∷ ls) after_key = few_tokens ls fresh

-- there are no more nodes than tokens
pub enough : (ns : List Node) (ls : List Lexeme) (p : Place) → map node_token ns ≡ punctuate p ls → length ns ≤ token_count ls
unfolding Few
enough ns ls p e = few_tokens ls p ns e

-- a value begins at a node
pub within : (ns : List Node) (i : ℕ) (j : Json) → BeginsWith (tokens_from i ns) j → i < length ns
within ns i j begins =
    let past : length ns ≤ i → i < length ns = λ h. absurd (not_empty j (subst (λ ts. BeginsWith ts j) (drop_all i (map node_token ns) (omega (arith, h, length-map ns node_token))) begins)) in
    ⊎_elim (λ h. h) past (cases_lt i (length ns))
