-- Beginnings of one log.
use Rattle.std.proofs.Common.{◌≡◌, ℕ, suc, ◌≤◌, List, [], ◌∷◌, ◌++◌, length, take, drop, refl, ap, sym, ◌∙◌, arith, append_assoc, length-append}
use Rattle.std.proofs.lemmas.List.{append-nil, take-append-drop}
use Rattle.std.proofs.lemmas.List.Elements.{filter-append}
use Rattle.std.specs.Prelude.{◌==◌, filter, Bool, true, false, cond}
use mathlib.Core.List.{IsPrefix}
use Rattle.batch_history.proofs.Legal.{legal-beginning}
use Rattle.batch_history.specs.Legal.{entries_by, most_operations}
use Rattle.batch_history.specs.Rows.{history}
use Rattle.batch_history.specs.declared.call.Entry.{Entry}
use Rattle.jsl_model.specs.Jobs.{JobTree}
use Rattle.seat_rules.specs.Places.{IsLegalLog}

-- each list begins with itself
pub prefix_self : {A : Type 0} (xs : List A) → IsPrefix xs xs
prefix_self xs = ([], append-nil xs)

pub prefix_trans : {A : Type 0} (xs ys zs : List A) → IsPrefix xs ys → IsPrefix ys zs → IsPrefix xs zs
prefix_trans xs ys zs p q = (p.0 ++ q.0, sym (append_assoc xs p.0 q.0) ∙ (ap (λ w. w ++ q.0) p.1 ∙ q.1))

pub prefix_push : {A : Type 0} (xs ys more : List A) → IsPrefix xs ys → IsPrefix xs (ys ++ more)
prefix_push xs ys more p = (p.0 ++ more, sym (append_assoc xs p.0 more) ∙ ap (λ w. w ++ more) p.1)

-- of two beginnings of one list the shorter begins the longer
pub prefix_shorter : {A : Type 0} (xs ys zs : List A) → IsPrefix xs zs → IsPrefix ys zs → length xs ≤ length ys → IsPrefix xs ys
prefix_shorter [] ys zs p q le = (ys, refl)
prefix_shorter (x ∷ xs) [] zs p q le = absurd (omega arith)
prefix_shorter (x ∷ xs) (y ∷ ys) [] p q le = absurd (cc (p.1))
prefix_shorter (x ∷ xs) (y ∷ ys) (z ∷ zs) p q le =
    let heads : x ≡ y = cc (p.1, q.1) in
    let rest = prefix_shorter xs ys zs (p.0, cc (p.1)) (q.0, cc (q.1)) (omega arith) in
    (rest.0, cc (heads, rest.1))

-- a beginning as long as the whole is the whole
pub prefix_whole : {A : Type 0} (xs ys : List A) → IsPrefix xs ys → length ys ≤ length xs → xs ≡ ys
prefix_whole [] [] p le = refl
prefix_whole [] (y ∷ ys) p le = absurd (omega arith)
prefix_whole (x ∷ xs) [] p le = absurd (cc (p.1))
prefix_whole (x ∷ xs) (y ∷ ys) p le =
    let rest = prefix_whole xs ys (p.0, cc (p.1)) (omega arith) in cc (p.1, rest)

pub prefix_length : {A : Type 0} (xs ys : List A) → IsPrefix xs ys → length xs ≤ length ys
prefix_length xs ys p = omega (arith, sym (ap length p.1) ∙ length-append xs p.0)

pub prefix_filter : {A : Type 0} (test : A → Bool) (xs ys : List A) → IsPrefix xs ys → IsPrefix (filter test xs) (filter test ys)
prefix_filter test xs ys p = (filter test p.0, sym (filter-append test xs p.0) ∙ ap (filter test) p.1)

-- a log between a log and its beginning, where these have the same operations of one session, has those too
pub entries_between : (who : ℕ) (xs ys zs mine : List Entry) → IsPrefix xs ys → IsPrefix ys zs → entries_by who xs ≡ mine → entries_by who zs ≡ mine → entries_by who ys ≡ mine
entries_between who xs ys zs mine p q first last =
    let a = prefix_length _ _ (prefix_filter (λ (e : Entry). e.who == who) ys zs q) in
    let b : length (entries_by who zs) ≡ length (entries_by who xs) = ap length (last ∙ sym first) in
    sym (prefix_whole _ _ (prefix_filter (λ (e : Entry). e.who == who) xs ys p) (omega (arith, a, b))) ∙ first

cond_short : (b : Bool) (e : Entry) (xs : List Entry) (n : ℕ) → length xs ≤ n → length (cond b (e ∷ xs) xs) ≤ suc n
cond_short true e xs n h = omega arith
cond_short false e xs n h = omega arith

pub entries_short : (who : ℕ) (log : List Entry) → length (entries_by who log) ≤ length log
entries_short who [] = omega arith
entries_short who (e ∷ es) = cond_short (e.who == who) e (entries_by who es) (length es) (entries_short who es)

pub prefix_take : {A : Type 0} (n : ℕ) (xs : List A) → IsPrefix (take n xs) xs
prefix_take n xs = (drop n xs, take-append-drop n xs)

-- ---- Legal logs

-- a beginning of a legal log is legal
pub legal_prefix : (catalogue : List JobTree) (xs ys : List Entry) → IsPrefix xs ys → IsLegalLog catalogue ys → IsLegalLog catalogue xs
legal_prefix catalogue xs ys p legal = legal-beginning most_operations (history catalogue ys) legal xs p.0 (sym p.1)
