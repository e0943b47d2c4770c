use Rattle.std.proofs.Common.{map, Option, ℕ, Bor, List, subst}
use Rattle.durable_log.specs.Shown.{record_shown}
use Rattle.script_log.specs.Catalogues.{IsLastCatalogue, last_shown}
use Rattle.logged_script.proofs.Growing.{unread_catalogue}
use Rattle.logged_script.proofs.catalogue.last_catalogue.Goals as goal

pub returns-in-Err-clause-fault : goal.returns-in-Err-clause-fault
returns-in-Err-clause-fault c =
    let records = map record_shown c.args.records.now in
    let at = subst (λ (last : Option (ℕ × Bor (List ℕ))). IsLastCatalogue records (last_shown last)) c.in-Some.is c.find_catalogues-found.ensures.last in
    rw c.unreadable.ensures (unread_catalogue records _ c.in-Err.fault at.in_history c.in-Err.ensures.fault)
