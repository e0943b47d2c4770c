use Rattle.durable_log.specs.Logs.{records_of, Same}
use Rattle.durable_log.proofs.Moments.{begun, goes_on}
use Rattle.durable_log.proofs.Waiting.{settled-leaves}
use Rattle.durable_log.proofs.Sealing.{settled-gate, settled-sealed, sealed-by}
use Rattle.durable_log.proofs.log.Log.seal.Goals as goal

pub returns-clause-any_moment : goal.returns-clause-any_moment
returns-clause-any_moment g c =
    let log = c.args.self in
    let s = c.requires.settled in
    let P = Same (records_of (g.H.Host.seen log.host)) (g.H.Host.heard log.host) in
    let start = begun g.H.Host.moment g.H.Host.left_since log.host P (λ f o left. settled-leaves _ _ _ log s f o (g.met.H.Host.only_now log.host f o left)) in
    goes_on g.H.Host.moment g.H.Host.left_since log.host log.host c.write_at.new.self P _ start c.write_at.ensures.time
    (λ f o left. let was = c.write_at.ensures.crash f o left in settled-sealed _ _ _ log s was.0 f o was.1 was.2)

pub returns-clause-but_for_gate : goal.returns-clause-but_for_gate
returns-clause-but_for_gate g c f o left =
    let was = c.write_at.ensures.crash f o left in
    settled-gate _ _ _ c.args.self c.requires.settled was.0 f o was.1 was.2

pub returns-clause-sealed : goal.returns-clause-sealed
returns-clause-sealed g c same =
    sealed-by c.write_at.result (g.H.Host.file_faults c.args.self.host) _ (g.H.Host.seen c.args.self.host) _ _ c.requires.settled.rest c.write_at.ensures.written c.write_at.ensures.cause.failed same
