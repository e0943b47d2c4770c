use Rattle.std.proofs.Common.{◌≡◌, ◌∙◌, Some, None, option_map, ap, sym}
use Rattle.serde_json.specs.View.{view}
use Rattle.fault_places.specs.Sites.{site_in}
use Rattle.fault_places.specs.SiteViews.{site_view}
use Rattle.fault_places.proofs.Placing.{given_by, at_site, not_nowhere, found_as_known}
use Rattle.fault_places.proofs.place.place_in.Goals as goal

pub returns-in-Some-2-clause-site : goal.returns-in-Some-2-clause-site
returns-in-Some-2-clause-site c =
    let text = c.args.text.now in
    let d = view c.args.value.now in
    let site = c.in-Some.site in
    let is : Some (site_view site) ≡ site_in c.args.fault d = sym (ap (option_map site_view) c.in-Some.is) ∙ c.in_ok-site.ensures.site in
    at_site text d c.args.fault site c.in-Some-2.byte is
    (given_by text d c.as_slice.result.now site.path.items c.in_ok-byte-in-Some.field-0 (Some c.in-Some-2.byte) c.as_slice.ensures.value c.in-Some-2.is c.requires.read c.in_ok-byte-in-Some.ensures)

pub returns-in-None-2-clause-site : goal.returns-in-None-2-clause-site
returns-in-None-2-clause-site c =
    let text = c.args.text.now in
    let d = view c.args.value.now in
    let site = c.in-Some.site in
    let is : Some (site_view site) ≡ site_in c.args.fault d = sym (ap (option_map site_view) c.in-Some.is) ∙ c.in_ok-site.ensures.site in
    absurd (not_nowhere text d c.args.fault site is
    (given_by text d c.as_slice.result.now site.path.items c.in_ok-byte-in-Some.field-0 None c.as_slice.ensures.value c.in-None-2.is c.requires.read c.in_ok-byte-in-Some.ensures))

pub returns-in-None-2-clause-known : goal.returns-in-None-2-clause-known
returns-in-None-2-clause-known c =
    let text = c.args.text.now in
    let d = view c.args.value.now in
    let site = c.in-Some.site in
    let is : Some (site_view site) ≡ site_in c.args.fault d = sym (ap (option_map site_view) c.in-Some.is) ∙ c.in_ok-site.ensures.site in
    absurd (not_nowhere text d c.args.fault site is
    (given_by text d c.as_slice.result.now site.path.items c.in_ok-byte-in-Some.field-0 None c.as_slice.ensures.value c.in-None-2.is c.requires.read c.in_ok-byte-in-Some.ensures))

pub returns-in-None-clause-known : goal.returns-in-None-clause-known
returns-in-None-clause-known c =
    let d = view c.args.value.now in
    λ fails. found_as_known c.args.text.now d c.args.fault None c.requires.read c.in_ok-site.ensures.few (sym (ap (option_map site_view) c.in-None.is) ∙ c.in_ok-site.ensures.site) fails
