use Rattle.std.proofs.Common.{◌≡◌, ◌∙◌, ◌++◌, ◌∷◌, [], List, sym, ap, subst, arith, map}
use Rattle.std.proofs.lemmas.List.{map-append}
use Rattle.durable_log.specs.declared.link.Link.{Link}
use Rattle.durable_log.specs.Format.{LogRecord, next, Found}
use Rattle.durable_log.specs.Files.{link_behind}
use Rattle.durable_log.specs.Parts.{IsRead}
use Rattle.durable_log.specs.Shown.{record_shown}
use Rattle.durable_log.proofs.Found.{more-read, more-link, read-smaller}
use Rattle.durable_log.proofs.reading.read_records.Goals as goal

pub records-smaller : goal.records-smaller
records-smaller c =
    let is : next c.records.link c.records.rest.now ≡ Found (record_shown c.in-Found.entry) c.in-Found.behind c.in-Found.after.now = sym c.in-Found.ensures in
    read-smaller c.records.link c.records.rest.now (record_shown c.in-Found.entry) c.in-Found.behind c.in-Found.after.now is

pub records-preserved : goal.records-preserved
records-preserved c =
    let r = record_shown c.in-Found.entry in
    let link = c.in-Found.behind in
    let rest = c.in-Found.after.now in
    let before = map record_shown c.records.records.items in
    let here : next c.records.link c.records.rest.now ≡ Found r link rest = sym c.in-Found.ensures in
    let is : next (link_behind before) c.records.rest.now ≡ Found r link rest =
    ap (λ (l : Link). next l c.records.rest.now) (sym c.records.invariant.linked) ∙ here in
    let less = read-smaller c.records.link c.records.rest.now r link rest here in
    let pushed : map record_shown c.push.new.self.items ≡ before ++ r ∷ [] =
    ap (map record_shown) c.in_ok-push-in-Found.ensures.items
    ∙ map-append record_shown c.records.records.items (c.in-Found.entry ∷ []) in
    record {
      so_far = subst (λ (rs : List LogRecord). IsRead c.args.bytes.now rs rest) (sym pushed)
          (more-read c.args.bytes.now before c.records.rest.now r link rest c.records.invariant.so_far is);
      linked = more-link c.args.bytes.now before c.records.rest.now r link rest c.records.invariant.so_far is ∙ ap link_behind (sym pushed);
      within = omega (arith, less, c.records.invariant.within);
    }
