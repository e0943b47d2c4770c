use Rattle.std.proofs.Common.{[], Bor, List, Option, map, ℕ, ap, subst, sym, ◌∙◌}
use Rattle.durable_log.proofs.Fronts.{records-stand}
use Rattle.durable_log.specs.Shown.{record_shown}
use Rattle.script_log.specs.Catalogues.{IsLastCatalogue, last_shown}
use Rattle.script_log.specs.Runs.{last_catalogue}
use Rattle.logged_script.proofs.to_compact.own_line.Goals as goal

pub returns-in-Some : goal.returns-in-Some
returns-in-Some c =
    let records = map record_shown c.in-Ok.contents.records.items in
    let read = records-stand records c.args.file.now c.in-Ok.ensures.records ∙ sym (ap (map record_shown) c.deref.ensures.value) in
    let at = subst (λ (last : Option (ℕ × Bor (List ℕ))). IsLastCatalogue (map record_shown c.deref.result.now) (last_shown last)) c.in-Some.is c.find_catalogues-found.ensures.last in
    ap (last_catalogue []) read ∙ at.in_history
