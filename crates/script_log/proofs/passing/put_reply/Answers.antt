use Rattle.std.proofs.Common.{◌++◌, refl}
use Rattle.durable_log.specs.Logs.{records_of}
use Rattle.durable_log.proofs.Moments.{begun, weaker, then_leaves}
use Rattle.script_log.specs.Passing.{standing, Passing}
use Rattle.script_log.proofs.Passed.{passing-longer, told-passing, settled-passing, told-behind, ok-map}
use Rattle.script_log.specs.Hosts.{hosting}
use Rattle.script_log.proofs.Failing.{goes-none, goes-two}
use Rattle.script_log.proofs.passing.put_reply.Goals as goal

pub returns-then-text-room-clause-any_moment : goal.returns-then-text-room-clause-any_moment
returns-then-text-room-clause-any_moment g c =
    let log = c.args.log.now in
    begun g.H.Host.moment g.H.Host.left_since log.host (Passing (standing g.H.Host.seen g.H.Host.heard log (c.args.output.now ++ c.args.text.now)))
    (λ f o left. settled-passing g.H.Host.seen g.H.Host.heard g.H.Host.may_leave log (c.args.output.now ++ c.args.text.now) f o c.requires (g.met.H.Host.only_now log.host f o left))

pub returns-in_err-commit_and_tell-clause-any_moment : goal.returns-in_err-commit_and_tell-clause-any_moment
returns-in_err-commit_and_tell-clause-any_moment g c =
    let s = standing g.H.Host.seen g.H.Host.heard c.args.log.now c.args.output.now in
    weaker g.H.Host.moment g.H.Host.left_since c.args.log.now.host c.commit_and_tell.new.log.host _ _ c.commit_and_tell.ensures.any_moment (λ f o at. passing-longer s c.args.text.now f o at)

pub returns-then-text-room-2-clause-any_moment : goal.returns-then-text-room-2-clause-any_moment
returns-then-text-room-2-clause-any_moment g c =
    let s = standing g.H.Host.seen g.H.Host.heard c.args.log.now c.args.output.now in
    weaker g.H.Host.moment g.H.Host.left_since c.args.log.now.host c.commit_and_tell.new.log.host _ _ c.commit_and_tell.ensures.any_moment (λ f o at. passing-longer s c.args.text.now f o at)

pub returns-clause-passed_on : goal.returns-clause-passed_on
returns-clause-passed_on g c =
    let all = c.in_ok-commit_and_tell.ensures in
    ok-map _ _ c.tell_all.result
    (λ told. told-behind g.H.Host.seen g.H.Host.heard g.H.Host.may_leave c.args.log.now c.commit_and_tell.new.log c.tell_all.new.log c.args.output.now c.commit_and_tell.new.output c.args.text.now
    all.records all.heard all.empty c.tell_all.ensures.seen c.tell_all.ensures.nothing_waits told) c.tell_all.ensures.told

pub returns-clause-any_moment : goal.returns-clause-any_moment
returns-clause-any_moment g c =
    let old = c.args.log.now.host in
    let mid = c.commit_and_tell.new.log.host in
    let all = c.in_ok-commit_and_tell.ensures in
    let s = standing g.H.Host.seen g.H.Host.heard c.args.log.now c.args.output.now in
    let t = standing g.H.Host.seen g.H.Host.heard c.args.log.now (c.args.output.now ++ c.args.text.now) in
    let before = weaker g.H.Host.moment g.H.Host.left_since old mid _ (Passing t) c.commit_and_tell.ensures.any_moment (λ f o at. passing-longer s c.args.text.now f o at) in
    let told = weaker g.H.Host.moment g.H.Host.left_since mid c.tell_all.new.log.host _ (Passing t) c.tell_all.ensures.any_moment
    (λ f o at. told-passing t (records_of (g.H.Host.seen mid)) (g.H.Host.heard mid) c.args.output.now c.args.text.now f o all.records all.heard refl at) in
    then_leaves g.H.Host.moment g.H.Host.left_since old mid c.tell_all.new.log.host (Passing t) before told

pub returns-then-text-room-clause-goes_on : goal.returns-then-text-room-clause-goes_on
returns-then-text-room-clause-goes_on g c = goes-none (hosting g.H.Host.seen g.H.Host.heard g.H.Host.may_leave g.H.Host.moment g.H.Host.left_since g.H.Host.origin g.H.Host.file_faults g.H.Host.listener_faults) c.args.log.now c.requires (g.met.H.Host.only_now c.args.log.now.host)

pub returns-clause-goes_on : goal.returns-clause-goes_on
returns-clause-goes_on g c =
    let d = hosting g.H.Host.seen g.H.Host.heard g.H.Host.may_leave g.H.Host.moment g.H.Host.left_since g.H.Host.origin g.H.Host.file_faults g.H.Host.listener_faults in
    goes-two d c.args.log.now.host c.commit_and_tell.new.log.host c.tell_all.new.log.host c.commit_and_tell.ensures.goes_on c.tell_all.ensures.goes_on
