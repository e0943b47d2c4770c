use Rattle.std.proofs.Common.{◌≡◌, ◌∙◌, ◌++◌, ◌∷◌, ap, sym, [], List, ℕ, length, append_assoc}
use Rattle.durable_log.specs.declared.link.Link.{Link}
use Rattle.durable_log.specs.Format.{column, columns, shut}
use Rattle.durable_log.proofs.frame.frame.Goals as goal

pieces : (mark n number check reply_check : ℕ) (line b0 b1 b2 b3 b4 b5 b6 b7 : List ℕ) → b0 ≡ 32 ∷ mark ∷ 32 ∷ [] → b1 ≡ b0 ++ column n [] → b2 ≡ b1 ++ column n []
    → b3 ≡ b2 ++ column number [] → b4 ≡ b3 ++ column check [] → b5 ≡ b4 ++ column reply_check [] → b6 ≡ b5 ++ line → b7 ≡ b6 ++ (10 ∷ shut)
    → b7 ≡ columns mark n number check reply_check ((line ++ 10 ∷ []) ++ shut)
pieces mark n number check reply_check line b0 b1 b2 b3 b4 b5 b6 b7 e0 e1 e2 e3 e4 e5 e6 e7 =
    e7 ∙ ap (λ (l : List ℕ). l ++ (10 ∷ shut)) (e6 ∙ ap (λ (l : List ℕ). l ++ line) (e5 ∙ ap (λ (l : List ℕ). l ++ column reply_check []) (e4 ∙ ap (λ (l : List ℕ). l ++ column check [])
    (e3 ∙ ap (λ (l : List ℕ). l ++ column number []) (e2 ∙ ap (λ (l : List ℕ). l ++ column n []) (e1 ∙ ap (λ (l : List ℕ). l ++ column n []) e0))))))
    ∙ ap (λ (l : List ℕ). columns mark n number check reply_check l) (sym (append_assoc line (10 ∷ []) shut))

pub returns : goal.returns
returns c =
    let r = c.args.added in
    let link = c.args.link in
    let n = length r.line.now in
    let e0 = c.in_ok-extend_from_slice.ensures.items ∙ ap (λ (l : List ℕ). l ++ (32 ∷ r.mark ∷ 32 ∷ [])) c.in_ok-bytes.ensures.items in
    let e7 = c.in_ok-extend_from_slice-3.ensures.items in
    pieces r.mark n link.number c.args.next.check r.reply_check r.line.now _ _ _ _ _ _ _ _ e0 c.in_ok-push_column.ensures c.in_ok-push_column-2.ensures c.in_ok-push_column-3.ensures
    c.in_ok-push_column-4.ensures c.in_ok-push_column-5.ensures c.in_ok-extend_from_slice-2.ensures.items e7
    ∙ ap (λ (l : Link). columns r.mark n link.number l.check r.reply_check ((r.line.now ++ 10 ∷ []) ++ shut)) c.requires.next
