-- Histories with the same rows: nothing that is asked or called tells them apart.
use Rattle.std.proofs.Common.{◌≡◌, ℕ, Ok, List, [], ◌∷◌, ◌++◌, refl, subst, sym, ◌∙◌, ap}
use Rattle.std.proofs.lemmas.List.{append_assoc, append-nil}
use Rattle.jsl_model.specs.Jobs.{JobTree}
use Rattle.batch_history.proofs.Legal.{legal_grown, legal-beginning}
use Rattle.batch_history.proofs.Legality.{rows_grown}
use Rattle.batch_history.specs.Answers.{answer, answer_by}
use Rattle.batch_history.specs.Legal.{IsLegal, grown}
use Rattle.batch_history.specs.NextRows.{rows_after}
use Rattle.batch_history.specs.Replies.{is_nothing, reply, reply_by}
use Rattle.batch_history.specs.Rows.{History, Rows, history, rows}
use Rattle.batch_history.specs.declared.call.Call.{Call}
use Rattle.batch_history.specs.declared.call.Entry.{Entry}
use Rattle.batch_history.specs.declared.query.Query.{Query}

pub same_reply : (limit : ℕ) (g h : History) → rows g ≡ rows h → (who : ℕ) (call : Call) → reply limit g who call ≡ reply limit h who call
same_reply limit g h same who call = ap (λ (r : Rows). reply_by limit r who call) same

pub same_answer : (g h : History) → rows g ≡ rows h → (query : Query) → answer g query ≡ answer h query
same_answer g h same query = ap (λ (r : Rows). answer_by r query) same

-- what two histories come to with more operations
record Alike (limit : ℕ) (g h : History) (more : List Entry) : Type 0 where
  legal : IsLegal limit (history h.catalogue (h.log ++ more))
  rows_are : rows (history g.catalogue (g.log ++ more)) ≡ rows (history h.catalogue (h.log ++ more))

-- with one operation more
alike-grown : (limit : ℕ) (g h : History) (e : Entry) → IsLegal limit h → rows g ≡ rows h → IsLegal limit (grown g e) → Alike limit g h (e ∷ [])
alike-grown limit g h e legal same legal_g =
    let due = legal_g.due g.log e [] refl in
    let ok : reply limit h e.who e.call ≡ Ok e.reply = sym (same_reply limit g h same e.who e.call) ∙ due.0 in
    let legal_h : IsLegal limit (grown h e) = legal_grown limit h e legal ok due.1 in
    record {
      legal = legal_h;
      rows_are = rows_grown limit g e legal_g ∙ (ap (λ (r : Rows). rows_after r e) same ∙ sym (rows_grown limit h e legal_h));
    }

alike : (limit : ℕ) (g h : History) (more : List Entry) → IsLegal limit h → rows g ≡ rows h → IsLegal limit (history g.catalogue (g.log ++ more)) → Alike limit g h more
alike limit g h [] legal same legal_g =
    record {
      legal = subst (λ (l : List Entry). IsLegal limit (history h.catalogue l)) (sym (append-nil h.log)) legal;
      rows_are = ap (λ (l : List Entry). rows (history g.catalogue l)) (append-nil g.log) ∙ (same ∙ sym (ap (λ (l : List Entry). rows (history h.catalogue l)) (append-nil h.log)));
    }
alike limit g h (e ∷ more) legal same legal_g =
    let cut : g.log ++ e ∷ more ≡ (g.log ++ e ∷ []) ++ more = sym (append_assoc g.log (e ∷ []) more) in
    let one : IsLegal limit (grown g e) = legal-beginning limit (history g.catalogue (g.log ++ e ∷ more)) legal_g (g.log ++ e ∷ []) more cut in
    let A : Alike limit g h (e ∷ []) = alike-grown limit g h e legal same one in
    let rest : Alike limit (grown g e) (grown h e) more =
    alike limit (grown g e) (grown h e) more A.legal A.rows_are (subst (λ (l : List Entry). IsLegal limit (history g.catalogue l)) cut legal_g) in
    let cut_h : (h.log ++ e ∷ []) ++ more ≡ h.log ++ e ∷ more = append_assoc h.log (e ∷ []) more in
    record {
      legal = subst (λ (l : List Entry). IsLegal limit (history h.catalogue l)) cut_h rest.legal;
      rows_are = ap (λ (l : List Entry). rows (history g.catalogue l)) cut ∙ (rest.rows_are ∙ ap (λ (l : List Entry). rows (history h.catalogue l)) cut_h);
    }

pub same_legal : (limit : ℕ) (g h : History) (more : List Entry) → IsLegal limit h → rows g ≡ rows h
    → IsLegal limit (history g.catalogue (g.log ++ more)) → IsLegal limit (history h.catalogue (h.log ++ more))
same_legal limit g h more legal same legal_g = (alike limit g h more legal same legal_g).legal

pub same_rows : (limit : ℕ) (g h : History) (more : List Entry) → IsLegal limit h → rows g ≡ rows h
    → IsLegal limit (history g.catalogue (g.log ++ more)) → rows (history g.catalogue (g.log ++ more)) ≡ rows (history h.catalogue (h.log ++ more))
same_rows limit g h more legal same legal_g = (alike limit g h more legal same legal_g).rows_are
