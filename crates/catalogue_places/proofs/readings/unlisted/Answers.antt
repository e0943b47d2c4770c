use Rattle.std.proofs.Common.{◌≡◌, ◌∙◌, false, cond, map, Some, None, ap, sym}
use Rattle.serde_json.specs.Find.{as_object}
use Rattle.serde_json.specs.View.{view}
use Rattle.json_members.specs.Members.{has_only}
use Rattle.catalogue_places.specs.declared.flaws.Flaw.{Flaw}
use Rattle.catalogue_places.specs.declared.flaws.Flaw.TheVariants.{Unlisted}
use Rattle.catalogue_places.specs.Flaws.{not_only}
use Rattle.catalogue_places.proofs.Unlisted.{first_key}
use Rattle.catalogue_places.proofs.readings.unlisted.Goals as goal

pub returns-in-Some : goal.returns-in-Some
returns-in-Some c =
    let names = map (λ n. n.now) c.args.names.now in
    let d = view c.args.value.now in
    let other : has_only names d ≡ false = sym c.has_only.ensures ∙ c.if-has_only.false in
    ap (λ n. Some (Unlisted n)) (c.first_other.ensures ∙ first_key c.args.names.now c.in-Some.members.now.entries)
    ∙ ap (λ o. Some (not_only names o)) c.in-Some.ensures
    ∙ ap (λ b. cond b None (Some (not_only names (as_object d)))) (sym other)
