use Rattle.std.proofs.Common.{◌≡◌, ◌<◌, ◌^◌, ◌-◌, ◌∙◌, ◌++◌, ◌∷◌, [], ap, sym, length, rules, arith}
use Rattle.durable_log.specs.declared.link.Link.{Link}
use Rattle.durable_log.specs.Format.{LogRecord, link_after, frame, shut}
use Rattle.durable_log.specs.Files.{header, first_link}
use Rattle.durable_log.specs.Logs.{AreSmall}
use Rattle.durable_log.specs.Shown.{record_shown}
use Rattle.durable_log.proofs.Batches.{at-gate}
use Rattle.durable_log.proofs.NewLogs.{fresh-bytes, fresh-stands, fresh-link, fresh-rests}
use Rattle.durable_log.proofs.fresh.new_log.Goals as goal

small-one : (r : LogRecord) → length r.line < 2 ^ 32 → r.reply_check < 2 ^ 32 → AreSmall (r ∷ [])
small-one r line reply = (line, reply, tt)

pub returns : goal.returns
returns c =
    let r = record_shown c.args.added in
    let file = c.extend_from_slice.new.self.items in
    let begins : c.in_ok-bytes.bytes.items ≡ header ++ (49 ∷ 49 ∷ 49 ∷ []) = search rules in
    let link_is : c.first_link-link.result ≡ first_link = c.first_link-link.ensures in
    let first = c.deref.ensures.value ∙ c.in_ok-first.ensures ∙ ap (λ (l : Link). frame l r ++ shut) link_is in
    let written : file ≡ header ++ (49 ∷ 49 ∷ 49 ∷ (frame first_link r ++ shut)) =
    c.in_ok-extend_from_slice.ensures.items ∙ (λ i. begins i ++ first i) in
    let is = fresh-bytes r file written in
    let reply : c.args.added.reply_check < 2 ^ 32 = search rules in
    let small = small-one r (omega (arith, c.requires)) reply in
    let rests = fresh-rests (r ∷ []) small file is in
    let place : c.len.result - 3 ≡ length file - 3 = search rules in
    let next_is = c.link_after-next.ensures ∙ ap (λ (l : Link). link_after l r) link_is ∙ sym (fresh-link (r ∷ []) small file is) in
    record {
      bytes = is;
      records = fresh-stands (r ∷ []) small file is;
      rest = record { at = at-gate file rests.0 (c.len.result - 3) rests.1 place; link = next_is };
    }
