use Rattle.std.proofs.Common.{◌∙◌, ◌++◌, ◌∷◌, [], ℕ, ap, sym}
use Rattle.crc32c.specs.Check.{check_after}
use Rattle.crc32c.proofs.Laws.{parts}
use Rattle.durable_log.specs.Format.{digits}
use Rattle.durable_log.proofs.link.check_of_record.Goals as goal

pub returns : goal.returns
returns c =
    let r = c.args.given in
    let line = r.line.now in
    let check = c.args.link.check in
    let head = r.mark ∷ [] in
    let written = digits r.reply_check in
    c.check_after.ensures
    ∙ ap (λ (k : ℕ). check_after k line)
    (c.check_after-reply.ensures ∙ (λ i. check_after (c.check_after-head.ensures i) (c.digits.ensures i)) ∙ sym (parts check head written))
    ∙ sym (parts check (head ++ written) line)
