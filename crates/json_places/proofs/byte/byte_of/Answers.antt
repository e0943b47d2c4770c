use Rattle.std.proofs.Common.{rules, ◌≡◌, ℕ, ◌+◌, ◌<◌, ◌≤◌, List, map, Option, Some, None, IfSome, MatchOption, refl, sym, ◌∙◌, subst, arith}
use Rattle.json.specs.Lex.{between, fresh, lex, tokens}
use Rattle.json.specs.Json.{Json}
use Rattle.json.specs.Find.{BeginsWith}
use Rattle.json.specs.Tape.{node_token}
use Rattle.json_places.specs.Starts.{token_count, BeginsAt}
use Rattle.json_places.specs.Inside.{Found, value_at}
use Rattle.json_places.proofs.Counted.{enough, within}
use Rattle.json_places.proofs.byte.byte_of.Goals as goal

-- the byte of a token that there is
byte_found : (text : List ℕ) (number n : ℕ) (j : Json) (wanted : Found) (o : Option ℕ) → wanted ≡ Some (n, j) → number ≡ 0 + n → number < token_count (lex between text)
    → IfSome o (λ byte. BeginsAt text number byte) → (o ≡ None → token_count (lex between text) ≤ number)
    → MatchOption o (wanted ≡ None) (λ byte. (m : ℕ) × (i : Json) × (wanted ≡ Some (m, i)) × BeginsAt text m byte)
byte_found text number n j wanted None is same few begins none = let h = none refl in absurd (omega arith)
byte_found text number n j wanted (Some byte) is same few begins none = let e : number ≡ n = omega arith in (n, j, is, subst (λ k. BeginsAt text k byte) e begins)

pub returns-in-Some : goal.returns-in-Some
returns-in-Some c root doc =
    let text = c.args.text.now in
    let ns = c.nodes.result.now in
    let number = c.in-Some.number in
    let same : map node_token ns ≡ tokens text = c.nodes.ensures.tokens ∙ c.in-Ok.ensures.ok.0 in
    let begins : BeginsWith (map node_token ns) root = subst (λ ts. BeginsWith ts root) (sym c.nodes.ensures.tokens) (c.in-Ok.ensures.value root doc) in
    let found = c.in-Some.ensures root begins in
    let bytes : c.as_bytes.result.now ≡ text = search rules in
    let inside = within ns number found.1 found.4 in
    let count = enough ns (lex between text) fresh same in
    byte_found text number found.0 found.1 (value_at c.args.path.now root) c.byte_of_token.result found.2 found.3 (omega (arith, inside, count))
    (subst (λ xs. IfSome c.byte_of_token.result (λ byte. BeginsAt xs number byte)) bytes c.byte_of_token.ensures.begins)
    (subst (λ xs. c.byte_of_token.result ≡ None → token_count (lex between xs) ≤ number) bytes c.byte_of_token.ensures.none)
