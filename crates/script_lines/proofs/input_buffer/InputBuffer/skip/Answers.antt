use Rattle.std.proofs.Common.{◌≤◌, ◌-◌, List, ℕ, length, ap, sym, subst}
use Rattle.script_lines.specs.Unread.{Unread}
use Rattle.script_lines.proofs.Skipping.{within_take, used_up_to}
use Rattle.script_lines.proofs.input_buffer.InputBuffer.skip.Goals as goal

pub returns : goal.returns
returns c =
    let p = c.self.inside in
    let enough = within_take (p.end - p.start) c.args.count _ (subst (λ (u : Unread). c.args.count ≤ length u.bytes) (sym c.self.view_is) c.requires) in
    let rest : List ℕ → Unread = λ bytes. record { bytes = bytes; ended = p.ended; reads_left = p.reads_left } in
    rw (← c.self.view_is) (ap rest (used_up_to p.chunk.items p.start p.end c.args.count enough))
