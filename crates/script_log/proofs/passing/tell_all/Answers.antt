use Rattle.std.proofs.Common.{◌∙◌, List, ℕ, sym, subst, arith}
use Rattle.std.proofs.lemmas.List.{append-nil}
use Rattle.durable_log.specs.Logs.{records_of, Told}
use Rattle.durable_log.proofs.Moments.{begun, weaker, then_leaves}
use Rattle.durable_log.proofs.Waiting.{settled-told}
use Rattle.script_log.specs.Hosts.{hosting}
use Rattle.script_log.proofs.Failing.{goes-none, goes-two, goes-told}
use Rattle.script_log.proofs.Telling.{range_from, told-whole, told-more, told-within}
use Rattle.script_log.proofs.passing.tell_all.Goals as goal

pub loop-at-init : goal.loop-at-init
loop-at-init g c =
    let log = c.args.log.now in
    record {
      within = omega arith;
      goes_on = goes-none (hosting g.H.Host.seen g.H.Host.heard g.H.Host.may_leave g.H.Host.moment g.H.Host.left_since g.H.Host.origin g.H.Host.file_faults g.H.Host.listener_faults) log c.requires.settled (g.met.H.Host.only_now log.host);
      told = sym (append-nil (g.H.Host.heard log.host));
      settled = c.requires.settled;
      nothing_waits = c.requires.nothing_waits;
      seen = λ i. g.H.Host.seen log.host;
      any_moment = begun g.H.Host.moment g.H.Host.left_since log.host _ (λ f o left. settled-told _ _ _ log c.requires.settled c.args.text.now f o (g.met.H.Host.only_now log.host f o left));
    }

pub returns-in-Err-clause-any_moment : goal.returns-in-Err-clause-any_moment
returns-in-Err-clause-any_moment g c =
    let i = c.loop-at.invariant in
    let start = c.args.log.now.host in
    let P = Told (records_of (g.H.Host.seen start)) (g.H.Host.heard start) c.args.text.now in
    let more = weaker g.H.Host.moment g.H.Host.left_since c.loop-at.log.host c.tell.new.self.host _ P c.tell.ensures.any_moment
    (λ f o told. told-whole _ (g.H.Host.heard start) (g.H.Host.heard c.loop-at.log.host) c.args.text.now c.loop-at.at f o i.told (subst (λ (l : List ℕ). Told (records_of l) (g.H.Host.heard c.loop-at.log.host) (range_from c.loop-at.at c.args.text.now) f o) i.seen told)) in
    then_leaves g.H.Host.moment g.H.Host.left_since start c.loop-at.log.host c.tell.new.self.host P i.any_moment more

pub returns-then-n-eq0-clause-any_moment : goal.returns-then-n-eq0-clause-any_moment
returns-then-n-eq0-clause-any_moment g c =
    let i = c.loop-at.invariant in
    let start = c.args.log.now.host in
    let P = Told (records_of (g.H.Host.seen start)) (g.H.Host.heard start) c.args.text.now in
    let more = weaker g.H.Host.moment g.H.Host.left_since c.loop-at.log.host c.tell.new.self.host _ P c.tell.ensures.any_moment
    (λ f o told. told-whole _ (g.H.Host.heard start) (g.H.Host.heard c.loop-at.log.host) c.args.text.now c.loop-at.at f o i.told (subst (λ (l : List ℕ). Told (records_of l) (g.H.Host.heard c.loop-at.log.host) (range_from c.loop-at.at c.args.text.now) f o) i.seen told)) in
    then_leaves g.H.Host.moment g.H.Host.left_since start c.loop-at.log.host c.tell.new.self.host P i.any_moment more

pub loop-at-preserved : goal.loop-at-preserved
loop-at-preserved g c =
    let i = c.loop-at.invariant in
    let start = c.args.log.now.host in
    let P = Told (records_of (g.H.Host.seen start)) (g.H.Host.heard start) c.args.text.now in
    let more = weaker g.H.Host.moment g.H.Host.left_since c.loop-at.log.host c.tell.new.self.host _ P c.tell.ensures.any_moment
    (λ f o told. told-whole _ (g.H.Host.heard start) (g.H.Host.heard c.loop-at.log.host) c.args.text.now c.loop-at.at f o i.told (subst (λ (l : List ℕ). Told (records_of l) (g.H.Host.heard c.loop-at.log.host) (range_from c.loop-at.at c.args.text.now) f o) i.seen told)) in
    record {
      within = told-within c.in-Ok.n c.loop-at.at c.args.text.now i.within c.in-Ok.ensures.bound;
      goes_on = goes-two (hosting g.H.Host.seen g.H.Host.heard g.H.Host.may_leave g.H.Host.moment g.H.Host.left_since g.H.Host.origin g.H.Host.file_faults g.H.Host.listener_faults) start c.loop-at.log.host c.tell.new.self.host i.goes_on (goes-told (hosting g.H.Host.seen g.H.Host.heard g.H.Host.may_leave g.H.Host.moment g.H.Host.left_since g.H.Host.origin g.H.Host.file_faults g.H.Host.listener_faults) c.loop-at.log.host c.tell.new.self.host c.tell.ensures.later c.tell.ensures.file c.tell.ensures.origin c.tell.ensures.unsealed);
      told = told-more (g.H.Host.heard start) (g.H.Host.heard c.loop-at.log.host) _ c.args.text.now c.loop-at.at c.in-Ok.n i.told c.in-Ok.ensures.told;
      settled = c.in-Ok.ensures.settled;
      nothing_waits = c.tell.ensures.nothing_waits;
      seen = c.tell.ensures.seen ∙ i.seen;
      any_moment = then_leaves g.H.Host.moment g.H.Host.left_since start c.loop-at.log.host c.tell.new.self.host P i.any_moment more;
    }

pub returns-in-Err-clause-goes_on : goal.returns-in-Err-clause-goes_on
returns-in-Err-clause-goes_on g c =
    let d = hosting g.H.Host.seen g.H.Host.heard g.H.Host.may_leave g.H.Host.moment g.H.Host.left_since g.H.Host.origin g.H.Host.file_faults g.H.Host.listener_faults in
    goes-two d c.args.log.now.host c.loop-at.log.host c.tell.new.self.host c.loop-at.invariant.goes_on (goes-told d c.loop-at.log.host c.tell.new.self.host c.tell.ensures.later c.tell.ensures.file c.tell.ensures.origin c.tell.ensures.unsealed)

pub returns-then-n-eq0-clause-goes_on : goal.returns-then-n-eq0-clause-goes_on
returns-then-n-eq0-clause-goes_on g c =
    let d = hosting g.H.Host.seen g.H.Host.heard g.H.Host.may_leave g.H.Host.moment g.H.Host.left_since g.H.Host.origin g.H.Host.file_faults g.H.Host.listener_faults in
    goes-two d c.args.log.now.host c.loop-at.log.host c.tell.new.self.host c.loop-at.invariant.goes_on (goes-told d c.loop-at.log.host c.tell.new.self.host c.tell.ensures.later c.tell.ensures.file c.tell.ensures.origin c.tell.ensures.unsealed)
