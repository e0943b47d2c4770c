-- Lines that are read one after another, behind lines that were read before.
use Rattle.std.proofs.Common.{◌≡◌, ◌∙◌, inl, inr, ℕ, List, [], ◌∷◌, ◌++◌, false, Some, Ok, refl, sym, ap, subst, append_assoc, arith}
use Rattle.std.proofs.lemmas.List.{append-nil, append_cancel_left}
use Rattle.script_lines.specs.declared.line.Line.{Line}
use Rattle.script_lines.specs.Cut.{has_feed, lines_of, script_lines}
use Rattle.script_lines.specs.Device.{Told}
use Rattle.script_lines.specs.Lines.{Cuts, LineRead}
use Rattle.script_lines.specs.Unread.{Unread}
use Rattle.script_lines.proofs.CutLaws.{lines_of-cut, lines_of-last}
use Rattle.script_lines.proofs.Cutting.{Cutting, cut_next}
use Rattle.batch_commands.specs.Reads.{AreRead}

-- nothing is read
pub read_none : (r : Told) (p : Unread) → AreRead r p [] r p
read_none r p = (refl, refl)

read_first : (r now next : Told) (p left after : Unread) (shown : Line) → now ≡ r → left ≡ p → (call : LineRead now next left after (Ok (Some shown))) → AreRead r p (call.outcome.0 ∷ []) next after
read_first r now next p left after shown e f call =
    let from = λ (t : Told) (u : Unread). (call : LineRead now next left after (Ok (Some shown))) → AreRead t u (call.outcome.0 ∷ []) next after in
    subst (λ (t : Told). from t p) e (subst (λ (u : Unread). from now u) f (λ c. (shown, next, after, c, refl, (refl, refl)))) call

-- one line more is read
pub read_one_more : (r now next : Told) (p left after : Unread) (lines : List (List ℕ)) (shown : Line)
    → AreRead r p lines now left → (call : LineRead now next left after (Ok (Some shown))) → AreRead r p (lines ++ call.outcome.0 ∷ []) next after
read_one_more r now next p left after [] shown (e, f) call = read_first r now next p left after shown e f call
read_one_more r now next p left after (first ∷ lines) shown before call =
    (before.0, before.1, before.2, before.3, before.4, read_one_more before.1 now next before.2 left after lines shown before.5 call)

-- the first line of what is cut is the line that is cut off
cut_line : (bytes line first : List ℕ) (left : Unread) → has_feed line ≡ false → Cuts bytes line left → first ∷ lines_of left.bytes ≡ lines_of bytes → first ≡ line
cut_line bytes line first left clean (inl e) same =
    let cut : first ∷ lines_of left.bytes ≡ line ∷ lines_of left.bytes = same ∙ ap lines_of e ∙ lines_of-cut line left.bytes clean in
    cc
cut_line bytes [] first left clean (inr e) same = absurd (omega (arith, e.1))
cut_line bytes (b ∷ bs) first left clean (inr e) same =
    let cut : first ∷ lines_of left.bytes ≡ (b ∷ bs) ∷ [] = same ∙ ap lines_of e.0 ∙ lines_of-last b bs clean in
    cc

-- the next line that is done is the one that its call cut off
next_done : (start now next : Told) (p q : Unread) (done : List (List ℕ)) (shown : Line) → Cutting start now p done → (call : LineRead now next p q (Ok (Some shown))) → Cutting start next q (done ++ call.outcome.0 ∷ [])
next_done start now next p q done shown C call =
    let cut = cut_next start now next p q done shown C call in
    let D = cut.2.0 in
    let before : script_lines (C.input ++ call.more) ≡ done ++ lines_of (p.bytes ++ call.more) = C.lines call.more (λ e. (call.quiet e).0) in
    let after : script_lines (C.input ++ call.more) ≡ done ++ (cut.0 ∷ lines_of q.bytes) =
    ap script_lines (sym cut.2.1 ∙ sym (append-nil D.input)) ∙ D.lines [] (λ _. refl) ∙ ap (λ b. (done ++ cut.0 ∷ []) ++ lines_of b) (append-nil q.bytes) ∙ append_assoc done (cut.0 ∷ []) (lines_of q.bytes) in
    let same : cut.0 ∷ lines_of q.bytes ≡ lines_of (p.bytes ++ call.more) = append_cancel_left done (cut.0 ∷ lines_of q.bytes) (lines_of (p.bytes ++ call.more)) (sym after ∙ before) in
    let line = cut_line (p.bytes ++ call.more) call.outcome.0 cut.0 q call.outcome.2 call.outcome.3 same in
    subst (λ l. Cutting start next q (done ++ l ∷ [])) line D

-- what was read behind lines that are done is done
pub read_done : (start r r' : Told) (p p' : Unread) (done lines : List (List ℕ)) → Cutting start r p done → AreRead r p lines r' p' → Cutting start r' p' (done ++ lines)
read_done start r r' p p' done [] C (e, f) =
    subst (λ ls. Cutting start r' p' ls) (sym (append-nil done)) (subst (λ (t : Told). Cutting start t p' done) (sym e) (subst (λ (u : Unread). Cutting start r u done) (sym f) C))
read_done start r r' p p' done (line ∷ lines) C read =
    let next = next_done start r read.1 p read.2 done read.0 C read.3 in
    let here = subst (λ l. Cutting start read.1 read.2 (done ++ l ∷ [])) (sym read.4) next in
    subst (λ ls. Cutting start r' p' ls) (append_assoc done (line ∷ []) lines) (read_done start read.1 r' read.2 p' (done ++ line ∷ []) lines here read.5)
