-- The place of an element whose id stands once.
use Rattle.std.proofs.Common.{◌≡◌, ℕ, zero, suc, ◌+◌, ◌<◌, ◌≤◌, not, nat_lt, Bool, true, false, cond, Some, None, List, [], ◌∷◌, length, map, get_or, refl, sym, ◌∙◌, ap, arith}
use Rattle.std.specs.List.{position, prefix_len}
use Rattle.std.specs.Str.{bytes_eq}
use Rattle.std.proofs.lemmas.Bool.{lt-ltb}
use Rattle.jsl_model.specs.declared.element.Element.{Element, fold_out-Element}
use Rattle.walk_rules.specs.Counts.{one_if, body_count, element_count, flow_count, count_in, count_in_body, count_of, total}

-- what is counted of one of these is no more than what is counted of all
pub within : {X : Type 0} (count : X → ℕ) (xs : List X) (j : ℕ) (d : X) → j < length xs → count (get_or xs j d) ≤ total (map count xs)
within count [] j d lt = absurd (omega (arith, lt))
within count (x ∷ xs) zero d lt = omega arith
within count (x ∷ xs) (suc j) d lt = let more = within count xs j d (omega (arith, lt)) in omega (arith, more)

count-self : (id : List ℕ) (e : Element) → one_if (bytes_eq e.id id) ≤ count_in id e
count-self id e =
    let parts : count_in id e ≡ one_if (bytes_eq e.id id) + count_in_body id e.body = fold_out-Element ℕ ℕ ℕ body_count (element_count id) (flow_count id) e in
    omega (arith, parts)

holds-at : (es : List Element) (id : List ℕ) (k : ℕ) (e : Element) → k < length es → e ≡ get_or es k e → bytes_eq e.id id ≡ true → 1 ≤ count_of id es
holds-at es id k e lt is on =
    let self = count-self id e in
    let one = ap one_if on in
    let same : count_in id e ≡ count_in id (get_or es k e) = ap (count_in id) is in
    let part = within (count_in id) es k e lt in
    omega (arith, self, one, same, part)

none-if : (b : Bool) → one_if b ≡ 0 → b ≡ false
none-if true h = absurd (omega (arith, h))
none-if false h = refl

others-first : (es : List Element) (id : List ℕ) (k : ℕ) (e : Element) → count_of id es ≤ 1 → k < length es → e ≡ get_or es k e → bytes_eq e.id id ≡ true
    → prefix_len (λ (x : Element). not (bytes_eq x.id id)) es ≡ k
others-first [] id k e once lt is on = absurd (omega (arith, lt))
others-first (x ∷ es) id zero e once lt is on =
    let here : bytes_eq x.id id ≡ true = ap (λ (y : Element). bytes_eq y.id id) (sym is) ∙ on in
    rw here refl
others-first (x ∷ es) id (suc k) e once lt is on =
    let there = holds-at es id k e (omega (arith, lt)) is on in
    let self = count-self id x in
    let none : one_if (bytes_eq x.id id) ≡ 0 = omega (arith, once, there, self) in
    let off : bytes_eq x.id id ≡ false = none-if (bytes_eq x.id id) none in
    let more : prefix_len (λ (y : Element). not (bytes_eq y.id id)) es ≡ k = others-first es id k e (omega (arith, once)) (omega (arith, lt)) is on in
    ap (λ b. cond (not b) (1 + prefix_len (λ (y : Element). not (bytes_eq y.id id)) es) 0) off ∙ omega (arith, more)

-- an element with this id is the first that has it
pub place_once : (es : List Element) (id : List ℕ) (k : ℕ) (e : Element) → count_of id es ≤ 1 → k < length es → e ≡ get_or es k e → bytes_eq e.id id ≡ true
    → Some k ≡ position (λ (x : Element). bytes_eq x.id id) es
place_once es id k e once lt is on =
    let first = others-first es id k e once lt is on in
    let all : position (λ (x : Element). bytes_eq x.id id) es ≡ cond (nat_lt k (length es)) (Some k) None = ap (λ n. cond (nat_lt n (length es)) (Some n) None) first in
    sym (all ∙ ap (λ b. cond b (Some k) None) (lt-ltb k (length es) lt))

-- where each id stands once in a list, it does in each element
pub at-once : (es : List Element) (k : ℕ) (e : Element) → ((id : List ℕ) → count_of id es ≤ 1) → k < length es → e ≡ get_or es k e → (id : List ℕ) → count_in id e ≤ 1
at-once es k e once lt is id =
    let all = once id in
    let same : count_in id e ≡ count_in id (get_or es k e) = ap (count_in id) is in
    let part = within (count_in id) es k e lt in
    omega (arith, all, same, part)
