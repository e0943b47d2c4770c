use Rattle.std.proofs.Common.{◌≡◌, Some, IfOk, sym, subst, ◌∙◌}
use Rattle.serde_json.specs.Read.{read}
use Rattle.lent_json.specs.Looks.{shown}
use Rattle.base_text.specs.Lines.{short_line_in, line_in_read}
use Rattle.base_text.proofs.Objects.{short_line}
use Rattle.base_text.proofs.line.line_of_object.Goals as goal

pub returns-else-has_job-clause-read : goal.returns-else-has_job-clause-read
returns-else-has_job-clause-read c =
    let same : line_in_read (read c.args.text.now) ≡ short_line_in (shown c.args.object) =
    short_line c.args.text.now (shown c.args.object) c.requires (sym c.has_job.ensures ∙ c.if-has_job.false) in
    subst (λ due. IfOk c.short_line_in.result (λ line. due ≡ Some line)) (sym same) c.short_line_in.ensures.read

pub returns-else-has_job-clause-wrong : goal.returns-else-has_job-clause-wrong
returns-else-has_job-clause-wrong c =
    let same : line_in_read (read c.args.text.now) ≡ short_line_in (shown c.args.object) =
    short_line c.args.text.now (shown c.args.object) c.requires (sym c.has_job.ensures ∙ c.if-has_job.false) in
    λ wrong. same ∙ c.short_line_in.ensures.wrong wrong
