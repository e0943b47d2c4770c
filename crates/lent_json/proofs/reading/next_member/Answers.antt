use Rattle.std.proofs.Common.{rules, Some, sym, ◌≡◌, ◌∷◌, ◌-◌, option_map, ap, ◌∙◌}
use Rattle.serde_json.specs.Data.{Data}
use Rattle.json.specs.Reads.{token_of}
use Rattle.json.specs.Token.{Token}
use Rattle.lent_json.specs.Flat.{scalar_data}
use Rattle.lent_json.specs.Reads.{value_read}
use Rattle.lent_json.proofs.Tokens.{scalar-begins, bad-value, empty-value, object-begins, as_object, if-ok}
use Rattle.lent_json.proofs.reading.next_member.Goals as goal

pub returns-in_err-members-in-Some-BeginObject-clause-no_json : goal.returns-in_err-members-in-Some-BeginObject-clause-no_json
returns-in_err-members-in-Some-BeginObject-clause-no_json c =
    let ts = c.next.new.self in
    let begun : c.args.reader.now ≡ Token.begin_object ∷ ts = search rules in
    λ is depth deep. ap (value_read depth) begun ∙ object-begins depth ts deep
    ∙ ap (option_map as_object) (c.in_err-members-in-Some-BeginObject.ensures.no_json (search rules) (depth - 1))

pub returns-in_ok-members-in-Some-BeginObject-clause-read : goal.returns-in_ok-members-in-Some-BeginObject-clause-read
returns-in_ok-members-in-Some-BeginObject-clause-read c =
    let ts = c.next.new.self in
    let rest = c.read_scalars.new.reader in
    let begun : c.args.reader.now ≡ Token.begin_object ∷ ts = search rules in
    if-ok c.object_of.result (λ member is depth deep. ap (value_read depth) begun ∙ object-begins depth ts deep
    ∙ ap (option_map as_object) (c.in_ok-members-in-Some-BeginObject.ensures.read (depth - 1)) ∙ ap (λ (d : Data). Some (d, rest)) (sym is)) c.object_of.ensures.read

pub returns-in_err-scalar_of-in-Some : goal.returns-in_err-scalar_of-in-Some
returns-in_err-scalar_of-in-Some c =
    let rest = c.next.new.self in record {
      read = search rules;
      shorter = search rules;
      no_json = λ is depth deep. ap (value_read depth) c.in-Some.ensures.value
          ∙ ap (λ t. value_read depth (t ∷ rest)) (c.in_err-scalar_of-in-Some.ensures.no_json (search rules)) ∙ bad-value depth rest;
    }

pub returns-in_ok-scalar_of-in-Some : goal.returns-in_ok-scalar_of-in-Some
returns-in_ok-scalar_of-in-Some c =
    let rest = c.next.new.self in
    let token = token_of c.in-Some.token in
    let s = c.in_ok-scalar_of-in-Some.field-0 in record {
      read = λ depth deep. ap (value_read depth) c.in-Some.ensures.value ∙ scalar-begins depth token (scalar_data s) rest c.in_ok-scalar_of-in-Some.ensures.read;
      shorter = search rules;
      no_json = search rules;
    }

pub returns-in-None-clause-no_json : goal.returns-in-None-clause-no_json
returns-in-None-clause-no_json c = λ is depth deep. ap (value_read depth) c.in-None.ensures.value.0 ∙ empty-value depth
