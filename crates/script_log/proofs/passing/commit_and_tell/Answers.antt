use Rattle.std.proofs.Common.{◌∙◌, [], Err, sym, ap}
use Rattle.std.proofs.lemmas.List.{append-nil}
use Rattle.durable_log.specs.Logs.{records_of}
use Rattle.durable_log.proofs.Moments.{weaker, then_leaves}
use Rattle.script_log.specs.Passing.{standing, Passing}
use Rattle.script_log.proofs.Passed.{commit-passing, told-passing}
use Rattle.script_log.specs.Hosts.{hosting}
use Rattle.script_log.proofs.Failing.{commit-failed, goes-two, goes-written, none-short}
use Rattle.script_log.proofs.passing.commit_and_tell.Goals as goal

pub returns-in-Err-clause-any_moment : goal.returns-in-Err-clause-any_moment
returns-in-Err-clause-any_moment g c =
    let s = standing g.H.Host.seen g.H.Host.heard c.args.log.now c.args.output.now in
    weaker g.H.Host.moment g.H.Host.left_since c.args.log.now.host c.commit.new.self.host _ (Passing s) c.commit.ensures.any_moment (λ f o at. commit-passing s f o at)

pub returns-in_err-tell_all-clause-any_moment : goal.returns-in_err-tell_all-clause-any_moment
returns-in_err-tell_all-clause-any_moment g c =
    let old = c.args.log.now.host in
    let mid = c.commit.new.self.host in
    let s = standing g.H.Host.seen g.H.Host.heard c.args.log.now c.args.output.now in
    let before = weaker g.H.Host.moment g.H.Host.left_since old mid _ (Passing s) c.commit.ensures.any_moment (λ f o at. commit-passing s f o at) in
    let told = weaker g.H.Host.moment g.H.Host.left_since mid c.tell_all.new.log.host _ (Passing s) c.tell_all.ensures.any_moment
    (λ f o at. told-passing s (records_of (g.H.Host.seen mid)) (g.H.Host.heard mid) [] c.waiting.result.now f o c.in_default.ensures.acknowledged.1 (c.commit.ensures.heard ∙ sym (append-nil (g.H.Host.heard old))) c.waiting.ensures at) in
    then_leaves g.H.Host.moment g.H.Host.left_since old mid c.tell_all.new.log.host (Passing s) before told

pub returns-clause-any_moment : goal.returns-clause-any_moment
returns-clause-any_moment g c =
    let old = c.args.log.now.host in
    let mid = c.commit.new.self.host in
    let s = standing g.H.Host.seen g.H.Host.heard c.args.log.now c.args.output.now in
    let before = weaker g.H.Host.moment g.H.Host.left_since old mid _ (Passing s) c.commit.ensures.any_moment (λ f o at. commit-passing s f o at) in
    let told = weaker g.H.Host.moment g.H.Host.left_since mid c.tell_all.new.log.host _ (Passing s) c.tell_all.ensures.any_moment
    (λ f o at. told-passing s (records_of (g.H.Host.seen mid)) (g.H.Host.heard mid) [] c.waiting.result.now f o c.in_default.ensures.acknowledged.1 (c.commit.ensures.heard ∙ sym (append-nil (g.H.Host.heard old))) c.waiting.ensures at) in
    then_leaves g.H.Host.moment g.H.Host.left_since old mid c.tell_all.new.log.host (Passing s) before told

pub returns-in-Err-clause-cause : goal.returns-in-Err-clause-cause
returns-in-Err-clause-cause g c =
    commit-failed (hosting g.H.Host.seen g.H.Host.heard g.H.Host.may_leave g.H.Host.moment g.H.Host.left_since g.H.Host.origin g.H.Host.file_faults g.H.Host.listener_faults) c.args.log.now c.commit.new.self c.in-Err.fault c.requires
    (λ is. c.commit.ensures.failed (c.in-Err.is ∙ ap Err is)) (λ is. c.commit.ensures.full (c.in-Err.is ∙ ap Err is))

pub returns-in-Err-clause-goes_on : goal.returns-in-Err-clause-goes_on
returns-in-Err-clause-goes_on g c = goes-written (hosting g.H.Host.seen g.H.Host.heard g.H.Host.may_leave g.H.Host.moment g.H.Host.left_since g.H.Host.origin g.H.Host.file_faults g.H.Host.listener_faults) c.args.log.now.host c.commit.new.self.host c.commit.ensures.later c.commit.ensures.listener c.commit.ensures.origin c.commit.ensures.unsealed

pub returns-in_err-tell_all-clause-goes_on : goal.returns-in_err-tell_all-clause-goes_on
returns-in_err-tell_all-clause-goes_on g c =
    let d = hosting g.H.Host.seen g.H.Host.heard g.H.Host.may_leave g.H.Host.moment g.H.Host.left_since g.H.Host.origin g.H.Host.file_faults g.H.Host.listener_faults in
    goes-two d c.args.log.now.host c.commit.new.self.host c.tell_all.new.log.host (goes-written d c.args.log.now.host c.commit.new.self.host c.commit.ensures.later c.commit.ensures.listener c.commit.ensures.origin c.commit.ensures.unsealed) c.tell_all.ensures.goes_on

pub returns-clause-goes_on : goal.returns-clause-goes_on
returns-clause-goes_on g c =
    let d = hosting g.H.Host.seen g.H.Host.heard g.H.Host.may_leave g.H.Host.moment g.H.Host.left_since g.H.Host.origin g.H.Host.file_faults g.H.Host.listener_faults in
    goes-two d c.args.log.now.host c.commit.new.self.host c.tell_all.new.log.host (goes-written d c.args.log.now.host c.commit.new.self.host c.commit.ensures.later c.commit.ensures.listener c.commit.ensures.origin c.commit.ensures.unsealed) c.tell_all.ensures.goes_on

pub returns-clause-room : goal.returns-clause-room
returns-clause-room g c = none-short (hosting g.H.Host.seen g.H.Host.heard g.H.Host.may_leave g.H.Host.moment g.H.Host.left_since g.H.Host.origin g.H.Host.file_faults g.H.Host.listener_faults) c.tell_all.new.log c.in_ok-tell_all.ensures.settled c.tell_all.ensures.nothing_waits
