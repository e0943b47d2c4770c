use Rattle.std.specs.BTreeMap.{keys}
use Rattle.std.proofs.lemmas.Iterator.Consumers.{nth_from_yields_List, YieldsList-from_rest}
use Rattle.fault_places.proofs.site.nth_key.Goals as goal

pub returns : goal.returns
returns c = nth_from_yields_List c.nth.result c.nth.new.self c.args.number c.nth.ensures.ran (YieldsList-from_rest (keys c.args.members.now) c.keys.ensures.rest)
