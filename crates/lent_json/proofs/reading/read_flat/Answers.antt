use Rattle.std.proofs.Common.{rules, ◌≡◌, ◌∷◌, [], List, true, Option, Some, None, is_some, MatchOption, true≢false, option_map, sym, ap, ◌∙◌, arith}
use Rattle.std.specs.Option.{option_and_then}
use Rattle.json.specs.Lex.{tokens}
use Rattle.json.specs.Reads.{token_of}
use Rattle.json.specs.Token.{Token}
use Rattle.serde_json.specs.Data.{Data, object, no_members}
use Rattle.lent_json.specs.Flat.{member_data, put_all}
use Rattle.lent_json.specs.Reads.{value_read}
use Rattle.lent_json.proofs.Tokens.{as_object, if_alone, bad-value, empty-value, object-begins, read-is}
use Rattle.lent_json.proofs.reading.read_flat.Goals as goal

-- the value that a text with these tokens is
abbrev last : Option (Data × List Token) → Option Data
last r = option_and_then (λ (p : Data × List Token). if_alone p.0 p.1) r

-- where a token stands behind it, a value does not stand alone
followed : {T : Type 0} (token : Option T) (of : T → Token) (d : Data) (old new : List Token) → is_some token ≡ true
    → MatchOption token ((old ≡ []) × (new ≡ [])) (λ t. old ≡ of t ∷ new) → if_alone d old ≡ None
followed None of d old new there h = absurd (true≢false (sym there))
followed (Some t) of d old new there h = ap (if_alone d) h

pub returns-in_err-members-in-Some-BeginObject-clause-no_json : goal.returns-in_err-members-in-Some-BeginObject-clause-no_json
returns-in_err-members-in-Some-BeginObject-clause-no_json c =
    let ts = c.next.new.self in
    let begun : tokens c.args.text.now ≡ Token.begin_object ∷ ts = search rules in
    λ is. read-is c.args.text.now ∙ ap (λ all. last (value_read 127 all)) begun ∙ ap last (object-begins 127 ts (omega arith))
    ∙ ap (λ r. last (option_map as_object r)) (c.in_err-members-in-Some-BeginObject.ensures.no_json (search rules))

pub returns-then-is_some-clause-no_json : goal.returns-then-is_some-clause-no_json
returns-then-is_some-clause-no_json c =
    let ts = c.next.new.self in
    let rest = c.read_members.new.reader in
    let ms = put_all member_data c.in_ok-members-in-Some-BeginObject.members.items no_members in
    let begun : tokens c.args.text.now ≡ Token.begin_object ∷ ts = search rules in
    λ is. read-is c.args.text.now ∙ ap (λ all. last (value_read 127 all)) begun ∙ ap last (object-begins 127 ts (omega arith))
    ∙ ap (λ r. last (option_map as_object r)) c.in_ok-members-in-Some-BeginObject.ensures.read
    ∙ followed c.next-in-Some-BeginObject.result token_of (object ms) rest c.next-in-Some-BeginObject.new.self (sym c.is_some.ensures ∙ c.if-is_some.true) c.next-in-Some-BeginObject.ensures.value

pub returns-else-is_some-clause-read : goal.returns-else-is_some-clause-read
returns-else-is_some-clause-read c =
    let ts = c.next.new.self in
    let rest = c.read_members.new.reader in
    let ms = put_all member_data c.in_ok-members-in-Some-BeginObject.members.items no_members in
    let begun : tokens c.args.text.now ≡ Token.begin_object ∷ ts = search rules in
    let none : rest ≡ [] = search rules in
    read-is c.args.text.now ∙ ap (λ all. last (value_read 127 all)) begun ∙ ap last (object-begins 127 ts (omega arith))
    ∙ ap (λ r. last (option_map as_object r)) c.in_ok-members-in-Some-BeginObject.ensures.read
    ∙ ap (if_alone (object ms)) none

pub returns-in-Some-Bad-clause-no_json : goal.returns-in-Some-Bad-clause-no_json
returns-in-Some-Bad-clause-no_json c =
    let ts = c.next.new.self in
    let begun : tokens c.args.text.now ≡ Token.bad ∷ ts = search rules in
    λ is. read-is c.args.text.now ∙ ap (λ all. last (value_read 127 all)) begun ∙ ap last (bad-value 127 ts)

pub returns-in-None-clause-no_json : goal.returns-in-None-clause-no_json
returns-in-None-clause-no_json c =
    let begun : tokens c.args.text.now ≡ [] = search rules in
    λ is. read-is c.args.text.now ∙ ap (λ all. last (value_read 127 all)) begun ∙ ap last (empty-value 127)
