use Rattle.std.proofs.Common.{◌∷◌, ap, ◌∙◌}
use Rattle.json.specs.Reads.{token_of}
use Rattle.lent_json.specs.Flat.{scalar_data}
use Rattle.lent_json.specs.Reads.{value_read}
use Rattle.lent_json.proofs.Tokens.{scalar-begins, bad-value, empty-value, if-ok}
use Rattle.lent_json.proofs.reading.next_scalar.Goals as goal

pub returns-in-Some-clause-read : goal.returns-in-Some-clause-read
returns-in-Some-clause-read c =
    let rest = c.next.new.self in
    let token = token_of c.in-Some.token in
    if-ok c.scalar_of.result (λ scalar is depth. ap (value_read depth) c.in-Some.ensures.value ∙ scalar-begins depth token (scalar_data scalar) rest is)
    c.scalar_of.ensures.read

pub returns-in-Some-clause-no_json : goal.returns-in-Some-clause-no_json
returns-in-Some-clause-no_json c =
    let rest = c.next.new.self in
    λ is depth. ap (value_read depth) c.in-Some.ensures.value ∙ ap (λ t. value_read depth (t ∷ rest)) (c.scalar_of.ensures.no_json is) ∙ bad-value depth rest

pub returns-in-None-clause-no_json : goal.returns-in-None-clause-no_json
returns-in-None-clause-no_json c = λ is depth. ap (value_read depth) c.in-None.ensures.value.0 ∙ empty-value depth
