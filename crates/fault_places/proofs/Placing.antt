-- A place that is found for a site.
use Rattle.std.proofs.Common.{◌≡◌, ◌∙◌, ℕ, List, [], ◌∷◌, map, string_bytes, is_some, Option, Some, None, option_and_then, Err, refl, sym, ap, subst}
use Rattle.std.proofs.lemmas.Option.{none-some}
use Rattle.serde_json.specs.Data.{Data}
use Rattle.serde_json.specs.Find.{get, at}
use Rattle.serde_json.specs.Read.{read}
use Rattle.jsl_json.specs.declared.fault.ReadFault.{ReadFault}
use Rattle.jsl_json.specs.Catalogues.{catalogue_of}
use Rattle.json_places.specs.declared.path.Step.{Step}
use Rattle.json_places.specs.declared.path.Step.TheVariants.{Item, Member}
use Rattle.element_numbers.specs.Numbering.{key_of, value_by}
use Rattle.fault_places.specs.declared.place.Place.{Place}
use Rattle.fault_places.specs.declared.site.Site.{Site as Held}
use Rattle.catalogue_places.specs.Paths.{data_at}
use Rattle.catalogue_places.specs.Places.{IsPlaced}
use Rattle.fault_places.specs.Sites.{Site, site_in, has_place}
use Rattle.fault_places.specs.SiteViews.{Few, site_view}
use Rattle.fault_places.specs.PlacesOfFaults.{IsAt, IsPlaceOf}
use Rattle.fault_places.proofs.Flawed.{Each}
use Rattle.fault_places.proofs.Sited.{Leads, site_leads, sited}

then_same : (f g : Data → Option Data) (o : Option Data) → ((d : Data) → f d ≡ g d) → option_and_then f o ≡ option_and_then g o
then_same f g None same = refl
then_same f g (Some d) same = same d

-- a path leads to what its keys lead to
by_keys : (path : List Step) (d : Data) → data_at path d ≡ value_by (map key_of path) d
by_keys [] d = refl
by_keys (Item n ∷ path) d = then_same (data_at path) (value_by (map key_of path)) (at n d) (λ e. by_keys path e)
by_keys (Member name ∷ path) d = then_same (data_at path) (value_by (map key_of path)) (get (string_bytes name) d) (λ e. by_keys path e)

-- a value that a path leads to is placed at this byte, if at all
abbrev pub Given : List ℕ → Data → List Step → Option ℕ → Type 0
Given text d path found = (e : Data) → data_at path d ≡ Some e → IsPlaced text path e found

pub given_by : (text : List ℕ) (d : Data) (slice path : List Step) (found there : Option ℕ) → slice ≡ path → found ≡ there → read text ≡ Some d
    → ((x e : Data) → read text ≡ Some x → data_at slice x ≡ Some e → IsPlaced text slice e found) → Given text d path there
given_by text d slice path found there same is given placed e leads =
    let here : IsPlaced text slice e found = placed d e given (ap (λ (p : List Step). data_at p d) same ∙ leads) in
    subst (IsPlaced text path e) is (subst (λ (p : List Step). IsPlaced text p e found) same here)

leads_to : (fault : ReadFault) (d : Data) (site : Site) → Some site ≡ site_in fault d → Leads d site
leads_to fault d site is = subst (Each (Leads d)) (sym is) (site_leads fault d)

pub at_site : (text : List ℕ) (d : Data) (fault : ReadFault) (site : Held) (byte : ℕ) → Some (site_view site) ≡ site_in fault d → Given text d site.path.items (Some byte)
    → IsPlaceOf text d (site_in fault d) (Some (record { path = site.path; lacks = site.lacks; byte = byte }))
at_site text d fault site byte is given =
    let led = leads_to fault d (site_view site) is in
    let place : Place = record { path = site.path; lacks = site.lacks; byte = byte } in
    let there : IsAt text d (site_view site) place = record { path = refl; lacks = refl; value = led.0; leads = led.1; begins = given led.0 (by_keys site.path.items d ∙ led.1) } in
    subst (λ o. IsPlaceOf text d o (Some place)) is (place, refl, there)

pub not_nowhere : (text : List ℕ) (d : Data) (fault : ReadFault) (site : Held) → Some (site_view site) ≡ site_in fault d → Given text d site.path.items None → ⊥
not_nowhere text d fault site is given =
    let led = leads_to fault d (site_view site) is in
    let placed = given led.0 (by_keys site.path.items d ∙ led.1) in
    none-some placed.byte placed.found_there

pub found_as_known : (text : List ℕ) (d : Data) (fault : ReadFault) (o : Option Site) → read text ≡ Some d → Few fault d → o ≡ site_in fault d → catalogue_of text ≡ Err fault → is_some o ≡ has_place fault
found_as_known text d fault o given few is h = ap is_some is ∙ sited text d fault given few h
