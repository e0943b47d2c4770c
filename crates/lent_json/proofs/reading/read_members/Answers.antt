use Rattle.std.proofs.Common.{rules, ◌≡◌, ◌∷◌, ◌-◌, ◌<◌, ◌++◌, [], Some, None, length, option_map, sym, ap, ◌∙◌, arith}
use Rattle.json.specs.Json.{read_key}
use Rattle.json.proofs.Grammar.{read_key-shorter}
use Rattle.serde_json.specs.Data.{no_members}
use Rattle.lent_json.specs.Flat.{member_data, put_all}
use Rattle.lent_json.specs.Reads.{members_read}
use Rattle.lent_json.specs.declared.reading.TheConstants.{DEPTH_INSIDE}
use Rattle.lent_json.proofs.Members.{put-behind}
use Rattle.lent_json.proofs.Tokens.{one-member, last-member, no-name, no-value}
use Rattle.lent_json.proofs.reading.read_members.Goals as goal

pub loop-found-init : goal.loop-found-init
loop-found-init c =
    let ts = c.args.reader.now in
    (length ts, omega arith, (ap (λ ms. members_read DEPTH_INSIDE (length ts) (put_all member_data ms no_members) ts) (sym c.in_ok-found.ensures.items)), omega arith)

pub returns-in_err-name-clause-no_json : goal.returns-in_err-name-clause-no_json
returns-in_err-name-clause-no_json c =
    let I = c.loop-found.invariant in
    λ is. I.2 ∙ no-name DEPTH_INSIDE I.0 (put_all member_data c.loop-found.found.items no_members) c.loop-found.reader c.in_err-name.ensures.value

pub returns-in_err-member-clause-no_json : goal.returns-in_err-member-clause-no_json
returns-in_err-member-clause-no_json c =
    let I = c.loop-found.invariant in
    let first = c.next_key.new.self in
    let name = c.in-Some.name.now in
    let named : read_key c.loop-found.reader ≡ Some (Some name, first) = c.in_ok-name.ensures.value ∙ ap (λ k. Some (option_map (λ s. s.now) k, first)) c.in-Some.is in
    λ is. I.2
    ∙ no-value DEPTH_INSIDE I.0 (put_all member_data c.loop-found.found.items no_members) name c.loop-found.reader first named (c.in_err-member.ensures.no_json (search rules) DEPTH_INSIDE (omega arith))

pub loop-found-preserved : goal.loop-found-preserved
loop-found-preserved c =
    let I = c.loop-found.invariant in
    let first = c.next_key.new.self in
    let rest = c.next_member.new.reader in
    let name = c.in-Some.name.now in
    let held = c.loop-found.found.items in
    let s = c.in_ok-member.member in
    let named : read_key c.loop-found.reader ≡ Some (Some name, first) = c.in_ok-name.ensures.value ∙ ap (λ k. Some (option_map (λ s. s.now) k, first)) c.in-Some.is in
    let shorter = read_key-shorter c.loop-found.reader (Some name) first named in
    let short : length rest < length first = search rules in
    let put : c.push_reserved.new.self.items ≡ held ++ (c.in-Some.name, s) ∷ [] = search rules in (
      I.0 - 1,
      omega (arith, I.1, short, shorter),
      (I.2 ∙ one-member DEPTH_INSIDE I.0 (put_all member_data held no_members) name c.loop-found.reader first rest (member_data s) I.1 named (c.in_ok-member.ensures.read DEPTH_INSIDE (omega arith))
          ∙ ap (λ ms. members_read DEPTH_INSIDE (I.0 - 1) ms rest) (sym (put-behind member_data held (c.in-Some.name, s) no_members))
          ∙ ap (λ ms. members_read DEPTH_INSIDE (I.0 - 1) (put_all member_data ms no_members) rest) (sym put)),
      omega (arith, I.3, short, shorter),
    )

pub returns-clause-read : goal.returns-clause-read
returns-clause-read c =
    let I = c.loop-found.invariant in
    let rest = c.next_key.new.self in
    let ended : read_key c.loop-found.reader ≡ Some (None, rest) = search rules in
    I.2 ∙ last-member DEPTH_INSIDE I.0 (put_all member_data c.loop-found.found.items no_members) c.loop-found.reader rest I.1 ended
