use Rattle.catalogue_places.proofs.Linked.{linked, whole, placed, if_ok}
use Rattle.catalogue_places.proofs.place.byte_in.Goals as goal

pub returns : goal.returns
returns c =
    let text = c.args.text.now in
    let path = c.args.path.now in
    if_ok c.byte_of.result
    (λ found given d e read leads.
    let doc = whole text d read in
    placed text path doc.0 e found doc.1 (linked path doc.0 d e doc.2 leads) (given doc.0 doc.1))
    c.byte_of.ensures
