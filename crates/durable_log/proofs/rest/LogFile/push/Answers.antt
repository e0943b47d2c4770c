use Rattle.std.proofs.Common.{◌≡◌, ◌<◌, ◌^◌, ◌-◌, length, rules}
use Rattle.durable_log.specs.Shown.{record_shown}
use Rattle.durable_log.proofs.Pushed.{pushed-records, pushed-stands, pushed-rest}
use Rattle.durable_log.proofs.rest.LogFile.push.Goals as goal

pub returns-clause-records : goal.returns-clause-records
returns-clause-records c =
    let reply : c.args.added.reply_check < 2 ^ 32 = search rules in
    let bytes = c.in_ok-push_record.ensures.later c.requires.rest.at.base c.requires.rest.at.split in
    pushed-records c.args.self.now.bytes.items c.args.self.now.rest c.requires.rest (record_shown c.args.added) c.requires.small reply c.push_record.new.bytes.items bytes

pub returns-clause-stands : goal.returns-clause-stands
returns-clause-stands c =
    let reply : c.args.added.reply_check < 2 ^ 32 = search rules in
    let bytes = c.in_ok-push_record.ensures.later c.requires.rest.at.base c.requires.rest.at.split in
    pushed-stands c.args.self.now.bytes.items c.args.self.now.rest c.requires.rest (record_shown c.args.added) c.requires.small reply c.push_record.new.bytes.items bytes

pub returns-clause-rest : goal.returns-clause-rest
returns-clause-rest c =
    let reply : c.args.added.reply_check < 2 ^ 32 = search rules in
    let bytes = c.in_ok-push_record.ensures.later c.requires.rest.at.base c.requires.rest.at.split in
    let end : c.len.result - 3 ≡ length c.push_record.new.bytes.items - 3 = search rules in
    pushed-rest c.args.self.now.bytes.items c.args.self.now.rest c.requires.rest (record_shown c.args.added) c.requires.small reply c.push_record.new.bytes.items bytes
    (record { end = c.len.result - 3; link = c.link_after-next.result }) end c.link_after-next.ensures
