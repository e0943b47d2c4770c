use Rattle.std.proofs.Common.{◌∙◌, ◌++◌, List, not, eqb, ap}
use Rattle.log_host.specs.Past.{Call, Past}
use Rattle.file_host.specs.Calls.{file_calls}
use Rattle.file_host.specs.declared.host.FileHost.{FileHost}
use Rattle.batch_commands.specs.Logging.{seen_of, heard_of}
use Rattle.batch_commands.proofs.Answering.{answers-by}
use Rattle.batch_commands.proofs.logged.answer_in.Goals as goal

pub returns : goal.returns
returns g c =
    let Host = FileHost g.row.D.Denot g.row.W.Denot g.D.Disk g.W.Sink in
    let before = c.new-log.result.host in
    let after = c.answer_restored-outcome.result.1 in
    let same = c.new-log.ensures.host in
    let origin = ap (λ (p : Past). p.calls) c.answer_restored-outcome.ensures.origin ∙ ap (λ (h : Host). h.made.past.calls) same ∙ c.new-host.ensures.origin in
    answers-by (λ (h : Host). h.tape.past) (λ (h : Host). h.made.past) (not (eqb g.row.TAGS 0)) c.args.log.file.bytes.items _ _ _ _ _ before after c.answer_restored-outcome.result.0
    (ap (λ (h : Host). seen_of h.tape.past) same ∙ c.new-host.ensures.seen ∙ c.deref.ensures.value) (ap (λ (h : Host). heard_of h.tape.past) same ∙ c.new-host.ensures.heard)
    c.answer_restored-outcome.ensures.any_moment c.answer_restored-outcome.ensures.sealing c.answer_restored-outcome.ensures.outcome
    c.outcome_of.ensures (c.into_parts-disk.ensures.disk ∙ ap (λ (l : List Call). file_calls after.tape.past.calls ++ l) origin) c.into_parts-disk.ensures.listener
