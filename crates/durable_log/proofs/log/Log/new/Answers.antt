use Rattle.durable_log.proofs.Waiting.{kept-nothing, nothing-waits}
use Rattle.durable_log.proofs.log.Log.new.Goals as goal

pub returns-clause-settled : goal.returns-clause-settled
returns-clause-settled g c =
    let k = kept-nothing c.args.rest.link c.new.result.items c.new.ensures.items in
    record {
      rest = c.requires.rest.at;
      link = c.requires.rest.link;
      last = k.last_is;
      waits = k.waits;
      small = k.small;
      short = k.short;
      durable = c.requires.durable;
    }

pub returns-clause-nothing_waits : goal.returns-clause-nothing_waits
returns-clause-nothing_waits g c = nothing-waits c.args.rest.link c.new.result.items c.new.ensures.items
