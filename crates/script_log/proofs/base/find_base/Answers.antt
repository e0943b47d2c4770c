use Rattle.std.proofs.Common.{[], map, take, rules, refl}
use Rattle.std.proofs.lemmas.Bool.{false≢true}
use Rattle.durable_log.specs.Shown.{record_shown}
use Rattle.script_log.specs.Catalogues.{BeginsWithCatalogue}
use Rattle.script_log.proofs.Placed.{from_on, not-in-place, base-none, base-alone, lines-of-base, slice-found, slice-lost}
use Rattle.script_log.proofs.base.find_base.Goals as goal

pub returns-in-Some-clause-fault : goal.returns-in-Some-clause-fault
returns-in-Some-clause-fault c =
    let other : BeginsWithCatalogue (map record_shown c.args.records.now) → ⊥ = search rules in
    base-alone (map record_shown c.args.records.now) c.in-Some.number other c.in-Some.ensures

pub returns-in-Some-clause-in_place : goal.returns-in-Some-clause-in_place
returns-in-Some-clause-in_place c =
    let other : BeginsWithCatalogue (map record_shown c.args.records.now) → ⊥ = search rules in
    let alone = base-alone (map record_shown c.args.records.now) c.in-Some.number other c.in-Some.ensures in
    (λ ok. absurd (false≢true ok), λ is. absurd (not-in-place (map record_shown c.args.records.now) c.in-Some.number alone is))

pub returns-in-None-clause-lines : goal.returns-in-None-clause-lines
returns-in-None-clause-lines c =
    let other : BeginsWithCatalogue (map record_shown c.args.records.now) → ⊥ = search rules in
    lines-of-base (map record_shown c.args.records.now) [] (base-none (map record_shown c.args.records.now) other c.in-None.ensures)

pub returns-in-Some-first_of_base-clause-fault : goal.returns-in-Some-first_of_base-clause-fault
returns-in-Some-first_of_base-clause-fault c =
    let begins : BeginsWithCatalogue (map record_shown c.args.records.now) = search rules in
    let size = c.base_length-size.ensures in
    slice-lost c.args.records.now c.base_length-size.result c.in-Some-first_of_base.at begins size.bound size.length c.in-Some-first_of_base.ensures

pub returns-in-Some-first_of_base-clause-in_place : goal.returns-in-Some-first_of_base-clause-in_place
returns-in-Some-first_of_base-clause-in_place c =
    let begins : BeginsWithCatalogue (map record_shown c.args.records.now) = search rules in
    let size = c.base_length-size.ensures in
    let lost = slice-lost c.args.records.now c.base_length-size.result c.in-Some-first_of_base.at begins size.bound size.length c.in-Some-first_of_base.ensures in
    (λ ok. absurd (false≢true ok), λ is. absurd (not-in-place (map record_shown c.args.records.now) _ lost is))

pub returns-in-None-first_of_base-clause-base : goal.returns-in-None-first_of_base-clause-base
returns-in-None-first_of_base-clause-base c =
    let begins : BeginsWithCatalogue (map record_shown c.args.records.now) = search rules in
    slice-found c.args.records.now c.base_length-size.result begins c.base_length-size.ensures.length c.in-None-first_of_base.ensures

pub returns-in-None-first_of_base-clause-lines : goal.returns-in-None-first_of_base-clause-lines
returns-in-None-first_of_base-clause-lines c =
    let begins : BeginsWithCatalogue (map record_shown c.args.records.now) = search rules in
    let found = slice-found c.args.records.now c.base_length-size.result begins c.base_length-size.ensures.length c.in-None-first_of_base.ensures in
    lines-of-base (map record_shown c.args.records.now) (map record_shown (take c.base_length-size.result (from_on c.args.records.now 1))) found

pub returns-in-None-first_of_base-clause-in_place : goal.returns-in-None-first_of_base-clause-in_place
returns-in-None-first_of_base-clause-in_place c =
    let begins : BeginsWithCatalogue (map record_shown c.args.records.now) = search rules in
    let found = slice-found c.args.records.now c.base_length-size.result begins c.base_length-size.ensures.length c.in-None-first_of_base.ensures in
    (λ ok. (map record_shown (take c.base_length-size.result (from_on c.args.records.now 1)), found), λ is. refl)
