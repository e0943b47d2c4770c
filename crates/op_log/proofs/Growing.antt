-- A book whose log grows by an entry.
use Rattle.std.proofs.Common.{◌≡◌, ℕ, false, Ok, List, [], ◌∷◌, ◌++◌, subst, sym, ◌∙◌, ap}
use Rattle.jsl_model.specs.Jobs.{JobTree}
use Rattle.batch_history.proofs.Legal.{legal_grown}
use Rattle.batch_history.specs.Legal.{IsLegal, grown}
use Rattle.batch_history.specs.Replies.{is_nothing, reply}
use Rattle.batch_history.specs.Rows.{History}
use Rattle.batch_history.specs.declared.call.Entry.{Entry}

-- what stands for a history and its entry, and that they are legal
pub log_grown : (limit : ℕ) (stands : History → Type 0) (catalogue : List JobTree) (h : History) (e : Entry) (items : List Entry)
    → IsLegal limit h → reply limit h e.who e.call ≡ Ok e.reply → is_nothing e.reply ≡ false → stands (grown h e) → catalogue ≡ h.catalogue → items ≡ h.log ++ e ∷ []
    → stands record { catalogue = catalogue; log = items } × IsLegal limit record { catalogue = catalogue; log = items }
log_grown limit stands catalogue h e items legal due entered now over is =
    let whole : grown h e ≡ record { catalogue = catalogue; log = items } =
    ap (λ (c : List JobTree). record { catalogue = c; log = h.log ++ e ∷ [] }) (sym over)
    ∙ ap (λ (l : List Entry). record { catalogue = catalogue; log = l }) (sym is) in
    (subst stands whole now, subst (IsLegal limit) whole (legal_grown limit h e legal due entered))
