use Rattle.std.proofs.Common.{◌≡◌, List, ℕ, [], ◌++◌, ◌∙◌, ap, subst, sym, rules, arith, length, ◌+◌}
use Rattle.std.proofs.lemmas.List.{nil_from_length, append-nil}
use Rattle.std.proofs.lemmas.Bool.Decides.{nat_tests}
use Rattle.log_host.specs.Host.{LeavesOnly}
use Rattle.durable_log.specs.declared.link.Link.{Link}
use Rattle.durable_log.specs.Format.{LogRecord, links_after}
use Rattle.durable_log.specs.Logs.{records_of, link_of, batch_records, waiting_in, IsBatch, IsAtRest, BeforeOrAfter}
use Rattle.durable_log.proofs.Moments.{begun}
use Rattle.durable_log.proofs.Links.{link-grown}
use Rattle.durable_log.proofs.Waiting.{waiting-batch, nothing-waits, settled-both, settled-kept, kept-nothing}
use Rattle.durable_log.proofs.Sealing.{settled-unsealed}
use Rattle.durable_log.proofs.log.Log.commit.Goals as goal

pub returns-then-is_empty-clause-acknowledged : goal.returns-then-is_empty-clause-acknowledged
returns-then-is_empty-clause-acknowledged g c =
    let empty : length c.args.self.now.waiting.items ≡ 0 = grind (arith, nat_tests) in
    let none = nothing-waits c.args.self.now.link c.args.self.now.waiting.items (nil_from_length _ empty) in
    (c.requires, sym (append-nil _) ∙ ap (λ (rs : List LogRecord). records_of (g.H.Host.seen c.args.self.now.host) ++ rs) (sym none))

pub returns-then-is_empty-clause-nothing_waits : goal.returns-then-is_empty-clause-nothing_waits
returns-then-is_empty-clause-nothing_waits g c =
    let empty : length c.args.self.now.waiting.items ≡ 0 = grind (arith, nat_tests) in
    nothing-waits c.args.self.now.link c.args.self.now.waiting.items (nil_from_length _ empty)

pub returns-then-is_empty-clause-any_moment : goal.returns-then-is_empty-clause-any_moment
returns-then-is_empty-clause-any_moment g c =
    let log = c.args.self.now in
    begun g.H.Host.moment g.H.Host.left_since log.host _ (λ f o left. settled-both _ _ _ log c.requires (waiting_in log) f o (g.met.H.Host.only_now log.host f o left))

pub returns-then-len-ge-MAX_FILE-clause-any_moment : goal.returns-then-len-ge-MAX_FILE-clause-any_moment
returns-then-len-ge-MAX_FILE-clause-any_moment g c =
    let log = c.args.self.now in
    begun g.H.Host.moment g.H.Host.left_since log.host _ (λ f o left. settled-both _ _ _ log c.requires (waiting_in log) f o (g.met.H.Host.only_now log.host f o left))

pub returns-then-is_empty-clause-idle : goal.returns-then-is_empty-clause-idle
returns-then-is_empty-clause-idle g c none = λ i. c.args.self.now.host

pub put_batch-requires-clause-batch : goal.put_batch-requires-clause-batch
put_batch-requires-clause-batch g c =
    let log = c.args.self.now in
    let batch : c.deref.result.now ≡ log.waiting.items = search rules in
    let some : log.waiting.items ≡ [] → ⊥ = λ none. let zero : length log.waiting.items ≡ 0 = ap length none in grind (arith, nat_tests) in
    subst (λ (l : Link). IsBatch l c.deref.result.now) c.requires.link
    (subst (IsBatch log.link) (sym batch) (waiting-batch log.link log.last log.waiting.items (settled-kept _ _ _ log c.requires) some))

pub returns-in_err-put_batch-clause-any_moment : goal.returns-in_err-put_batch-clause-any_moment
returns-in_err-put_batch-clause-any_moment g c =
    let log = c.args.self.now in
    let batch : c.deref.result.now ≡ log.waiting.items = search rules in
    let same : batch_records (link_of (g.H.Host.seen log.host)) c.deref.result.now ≡ waiting_in log = λ i. batch_records (sym c.requires.link i) (batch i) in
    subst (λ (rs : List LogRecord). LeavesOnly g.H.Host.moment g.H.Host.left_since log.host c.put_batch.new.host (BeforeOrAfter (records_of (g.H.Host.seen log.host)) rs (g.H.Host.heard log.host))) same
    c.put_batch.ensures.any_moment

pub returns-clause-any_moment : goal.returns-clause-any_moment
returns-clause-any_moment g c =
    let log = c.args.self.now in
    let batch : c.deref.result.now ≡ log.waiting.items = search rules in
    let same : batch_records (link_of (g.H.Host.seen log.host)) c.deref.result.now ≡ waiting_in log = λ i. batch_records (sym c.requires.link i) (batch i) in
    subst (λ (rs : List LogRecord). LeavesOnly g.H.Host.moment g.H.Host.left_since log.host c.put_batch.new.host (BeforeOrAfter (records_of (g.H.Host.seen log.host)) rs (g.H.Host.heard log.host))) same
    c.put_batch.ensures.any_moment

pub returns-clause-acknowledged : goal.returns-clause-acknowledged
returns-clause-acknowledged g c =
    let log = c.args.self.now in
    let s = c.requires in
    let batch : c.deref.result.now ≡ log.waiting.items = search rules in
    let cleared : c.clear.new.self.items ≡ [] = search rules in
    let k = kept-nothing log.last c.clear.new.self.items cleared in
    let put = c.in_ok-put_batch.ensures in
    let same : batch_records (link_of (g.H.Host.seen log.host)) c.deref.result.now ≡ waiting_in log = λ i. batch_records (sym s.link i) (batch i) in
    let records : records_of (g.H.Host.seen c.put_batch.new.host) ≡ records_of (g.H.Host.seen log.host) ++ waiting_in log =
    put.records ∙ ap (λ (rs : List LogRecord). records_of (g.H.Host.seen log.host) ++ rs) same in
    let grown = link-grown (g.H.Host.seen log.host) (g.H.Host.seen c.put_batch.new.host) (waiting_in log) records in
    let long : length c.deref.result.now ≡ c.len-2.result = c.deref.ensures.len ∙ sym c.len-2.ensures in (
      record {
        rest = subst (λ (n : ℕ). IsAtRest (g.H.Host.seen c.put_batch.new.host) (log.end + n)) long put.rest;
        link = s.last ∙ ap (λ (l : Link). links_after l (waiting_in log)) s.link ∙ sym grown;
        last = k.last_is;
        waits = k.waits;
        small = k.small;
        short = k.short;
        durable = put.durable;
      },
      records,
    )

pub returns-clause-nothing_waits : goal.returns-clause-nothing_waits
returns-clause-nothing_waits g c =
    let none : c.clear.new.self.items ≡ [] = search rules in
    nothing-waits c.args.self.now.last c.clear.new.self.items none

pub returns-then-is_empty-clause-unsealed : goal.returns-then-is_empty-clause-unsealed
returns-then-is_empty-clause-unsealed g c =
    let log = c.args.self.now in
    begun g.H.Host.moment g.H.Host.left_since log.host _ (λ f o left. settled-unsealed _ _ _ log c.requires f o (g.met.H.Host.only_now log.host f o left))

pub returns-then-len-ge-MAX_FILE-clause-unsealed : goal.returns-then-len-ge-MAX_FILE-clause-unsealed
returns-then-len-ge-MAX_FILE-clause-unsealed g c =
    let log = c.args.self.now in
    begun g.H.Host.moment g.H.Host.left_since log.host _ (λ f o left. settled-unsealed _ _ _ log c.requires f o (g.met.H.Host.only_now log.host f o left))
