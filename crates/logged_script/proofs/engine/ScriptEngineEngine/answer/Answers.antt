use Rattle.std.proofs.Common.{rules, ◌∙◌, ◌<◌, ◌≤◌, List, ℕ, length, not, eqb, sym, ap, ap₂, subst, arith}
use Rattle.std.specs.Prelude.{nat_lt}
use Rattle.batch_history.specs.Rows.{Rows}
use Rattle.script_engine.specs.ByRows.{line_rows_by, line_text_by}
use Rattle.script_log.specs.Runs.{History as LogHistory}
use Rattle.logged_script.specs.Histories.{Answers, rows_at}
use Rattle.logged_script.proofs.Keeping.{after_line, at_limit, long_line}
use Rattle.logged_script.proofs.engine.ScriptEngineEngine.answer.Goals as goal

pub returns-then-line-gt-MAX_LINE : goal.returns-then-line-gt-MAX_LINE
returns-then-line-gt-MAX_LINE g c = λ h stands.
    let tags = not (eqb g.row.TAGS 0) in
    let long : 16777216 < length c.args.line.now = search rules in
    let l = long_line tags h c.args.line.now long in
    (c.in_ok-text.ensures ∙ sym l.0, sym l.1, subst (λ (now : LogHistory). Answers tags g.J.RowRepository.limit g.J.RowRepository.rows c.args.self.now now) (sym l.2) stands)

pub returns : goal.returns
returns g c = λ h stands.
    let tags = not (eqb g.row.TAGS 0) in
    let limit = g.J.RowRepository.limit in
    let line = c.args.line.now in
    let whole : length line ≤ 16777216 = search rules in
    let shorter = c.command_in-command.ensures.short in
    let short : length c.command_in-command.result.now ≤ 16777216 = omega (arith, whole, shorter) in
    let command = c.command_in-command.ensures.command in
    -- the rows before the line are those of the log, and the command is that of the line
    let old = ap g.J.RowRepository.rows c.deref_mut-repository.ensures.value ∙ stands.rows_are in
    let next = c.in_ok-answered.ensures.after short ∙ at_limit line_rows_by limit _ _ _ _ stands.limit_is old command in
    let before = c.len-before.ensures ∙ ap (λ (r : Rows). r.count) old in
    let behind = c.len.ensures ∙ ap (λ (r : Rows). r.count) next in (
      c.in_ok-answered.ensures.text short ∙ at_limit line_text_by limit _ _ _ _ stands.limit_is old command,
      ap₂ nat_lt before behind,
      record { limit_is = stands.limit_is; rows_are = next ∙ sym (after_line tags h line) },
    )
