use Rattle.std.proofs.Common.{◌≡◌, ◌<◌, ◌^◌, ◌∙◌, subst, sym, rules}
use Rattle.durable_log.specs.Logs.{records_of}
use Rattle.durable_log.specs.Shown.{record_shown}
use Rattle.durable_log.proofs.Links.{IsLink, behind-fits}
use Rattle.durable_log.proofs.Waiting.{pushed, kept, behind-ends, settled-kept}
use Rattle.durable_log.proofs.log.Log.append.Goals as goal

pub push_record-requires-clause-ends : goal.push_record-requires-clause-ends
push_record-requires-clause-ends g c = behind-ends c.args.self.now.link c.args.self.now.waiting.items _ c.requires.settled.waits

pub returns-in_err-push_record-clause-settled : goal.returns-in_err-push_record-clause-settled
returns-in_err-push_record-clause-settled g c =
    let log = c.args.self.now in
    let s = c.requires.settled in
    let same : c.push_record.new.bytes.items ≡ log.waiting.items = search rules in
    let k = kept log.link log.last log.waiting.items c.push_record.new.bytes.items same (settled-kept _ _ _ log s) in
    record { rest = s.rest; link = s.link; last = k.last_is; waits = k.waits; small = k.small; short = k.short; durable = s.durable }

pub returns-clause-ok : goal.returns-clause-ok
returns-clause-ok g c =
    let log = c.args.self.now in
    let s = c.requires.settled in
    let e = c.in_ok-push_record.ensures in
    let reply : c.args.added.reply_check < 2 ^ 32 = search rules in
    let fits : IsLink log.link = subst IsLink (sym s.link) (behind-fits (records_of (g.H.Host.seen log.host))) in
    (pushed log.link log.last log.waiting.items c.push_record.new.bytes.items (record_shown c.args.added) fits (settled-kept _ _ _ log s) c.requires.room c.requires.small reply
    (record { first = e.first; later = e.later })).records

pub returns-clause-settled : goal.returns-clause-settled
returns-clause-settled g c =
    let log = c.args.self.now in
    let s = c.requires.settled in
    let e = c.in_ok-push_record.ensures in
    let reply : c.args.added.reply_check < 2 ^ 32 = search rules in
    let fits : IsLink log.link = subst IsLink (sym s.link) (behind-fits (records_of (g.H.Host.seen log.host))) in
    let k = (pushed log.link log.last log.waiting.items c.push_record.new.bytes.items (record_shown c.args.added) fits (settled-kept _ _ _ log s) c.requires.room c.requires.small reply
    (record { first = e.first; later = e.later })).kept in
    record {
      rest = s.rest;
      link = s.link;
      last = c.link_after-next.ensures ∙ k.last_is;
      waits = k.waits;
      small = k.small;
      short = k.short;
      durable = s.durable;
    }
