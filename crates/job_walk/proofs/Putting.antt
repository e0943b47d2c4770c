-- One change put into what is kept.
use Rattle.std.proofs.Common.{◌≡◌, ℕ, zero, suc, ◌+◌, ◌<◌, ◌≤◌, List, [], ◌∷◌, ◌++◌, length, length-append, take, drop, set, get_or, refl, sym, ◌∙◌, ap, arith}
use Rattle.std.proofs.lemmas.List.{append_assoc}
use Rattle.jsl_model.specs.Trees.{joined}
use Rattle.job_walk.specs.declared.kept_list.KeptList.{KeptList}
use Rattle.job_walk.specs.declared.kept_list.ListChange.{ListChange}
use Rattle.job_walk.specs.KeptLists.{put_in, put_at, put_all, Puts, starts_from}

-- where its list is there
pub put_here : (lists : List KeptList) (n : ℕ) (change : ListChange) (d : KeptList) → n < length lists → put_at n change lists ≡ set lists n (put_in change (get_or lists n d))
put_here [] n change d lt = absurd (omega (arith, lt))
put_here (x ∷ lists) zero change d lt = refl
put_here (x ∷ lists) (suc n) change d lt = ap (λ r. x ∷ r) (put_here lists n change d (omega (arith, lt)))

-- where it is not
pub put_past : (lists : List KeptList) (n : ℕ) (change : ListChange) → length lists ≤ n → put_at n change lists ≡ lists
put_past [] n change le = refl
put_past (x ∷ lists) zero change le = absurd (omega (arith, le))
put_past (x ∷ lists) (suc n) change le = ap (λ r. x ∷ r) (put_past lists n change (omega (arith, le)))

-- the last of several
pub put_last : (changes : List ListChange) (change : ListChange) (lists : List KeptList) → put_all (changes ++ change ∷ []) lists ≡ put_all changes (put_at change.list change lists)
put_last [] change lists = refl
put_last (l ∷ changes) change lists = ap (put_at l.list l) (put_last changes change lists)

-- ---- THE LAW OF A WAY UP: the changes inside an element, and then its list's own

put-middle : (before : List KeptList) (change : ListChange) (kept : KeptList) (rest : List KeptList) → put_at (length before) change (before ++ kept ∷ rest) ≡ before ++ put_in change kept ∷ rest
put-middle [] change kept rest = refl
put-middle (x ∷ before) change kept rest = ap (λ r. x ∷ r) (put-middle before change kept rest)

apart : (before pre inner post after : List KeptList) (head : KeptList)
    → (before ++ (head ∷ (pre ++ (inner ++ post)))) ++ after ≡ ((before ++ (head ∷ pre)) ++ inner) ++ (post ++ after)
apart before pre inner post after head =
    append_assoc before (head ∷ (pre ++ (inner ++ post))) after
    ∙ (ap (λ r. before ++ (head ∷ r)) (append_assoc pre (inner ++ post) after ∙ ap (λ r. pre ++ r) (append_assoc inner post after))
    ∙ (sym (append_assoc before (head ∷ pre) (inner ++ (post ++ after)))
    ∙ sym (append_assoc (before ++ (head ∷ pre)) inner (post ++ after))))

pub puts-list : (others inner : List ListChange) (change : ListChange) (base : ℕ) (head : KeptList) (pre old new post : List KeptList) → change.list ≡ base
    → Puts others inner ((base + 1) + length pre) old new
    → Puts others (inner ++ change ∷ []) base (head ∷ (pre ++ (old ++ post))) (put_in change head ∷ (pre ++ (new ++ post)))
puts-list others inner change base head pre old new post named puts before after here =
    let at : change.list ≡ length before = named ∙ sym here in
    let whole : List KeptList = before ++ (head ∷ (pre ++ (old ++ post))) in
    let a = length-append before (put_in change head ∷ pre) in
    let b : length (put_in change head ∷ pre) ≡ length pre + 1 = omega arith in
    let far : length (before ++ (put_in change head ∷ pre)) ≡ (base + 1) + length pre = omega (arith, here, a, b) in
    put_last inner change (whole ++ after)
    ∙ (ap (put_all inner)
    (ap (λ n. put_at n change (whole ++ after)) at
    ∙ (ap (put_at (length before) change) (append_assoc before (head ∷ (pre ++ (old ++ post))) after)
    ∙ (put-middle before change head ((pre ++ (old ++ post)) ++ after)
    ∙ (sym (append_assoc before (put_in change head ∷ (pre ++ (old ++ post))) after) ∙ apart before pre old post after (put_in change head)))))
    ∙ (puts (before ++ (put_in change head ∷ pre)) (post ++ after) far ∙ ap (put_all others) (sym (apart before pre new post after (put_in change head)))))

-- nothing is put
pub puts-none : (others : List ListChange) (base : ℕ) (lists : List KeptList) → Puts others others base lists lists
puts-none others base lists before after here = refl

-- nor where the lists are the same
pub puts-same : (others : List ListChange) (base : ℕ) (old new : List KeptList) → new ≡ old → Puts others others base old new
puts-same others base old new same before after here = ap (λ lists. put_all others ((before ++ lists) ++ after)) (sym same)

-- what is put into the first lists leaves those behind them
pub puts-first : (others changes : List ListChange) (base : ℕ) (old new same : List KeptList) → Puts others changes base old new
    → Puts others changes base (old ++ same) (new ++ same)
puts-first others changes base old new same puts before after here =
    ap (put_all changes) (ap (λ r. r ++ after) (sym (append_assoc before old same)) ∙ append_assoc (before ++ old) same after)
    ∙ (puts before (same ++ after) here
    ∙ ap (put_all others) (sym (append_assoc (before ++ new) same after) ∙ ap (λ r. r ++ after) (append_assoc before new same)))

-- and then something into the lists behind them
pub puts-more : (others middle changes : List ListChange) (base : ℕ) (old new more more2 : List KeptList) → Puts others middle base old new
    → Puts middle changes (base + length old) more more2 → Puts others changes base (old ++ more) (new ++ more2)
puts-more others middle changes base old new more more2 first second before after here =
    let l = length-append before old in
    let far : length (before ++ old) ≡ base + length old = omega (arith, here, l) in
    ap (λ r. put_all changes (r ++ after)) (sym (append_assoc before old more))
    ∙ (second (before ++ old) after far
    ∙ (ap (λ r. put_all middle (r ++ after)) (append_assoc before old more2)
    ∙ puts-first others middle base old new more2 first before after here))

put-length : (n : ℕ) (change : ListChange) (lists : List KeptList) → length (put_at n change lists) ≡ length lists
put-length n change [] = refl
put-length zero change (x ∷ lists) = refl
put-length (suc n) change (x ∷ lists) = ap suc (put-length n change lists)

all-length : (changes : List ListChange) (lists : List KeptList) → length (put_all changes lists) ≡ length lists
all-length [] lists = refl
all-length (change ∷ changes) lists = put-length change.list change (put_all changes lists) ∙ all-length changes lists

abbrev some-lists : KeptList → ℕ → List KeptList
some-lists d zero = []
some-lists d (suc n) = d ∷ some-lists d n

some-length : (d : KeptList) (n : ℕ) → length (some-lists d n) ≡ n
some-length d zero = refl
some-length d (suc n) = ap suc (some-length d n)

-- the new lists are as many as the old ones
pub puts-length : (others changes : List ListChange) (base : ℕ) (old new : List KeptList) (d : KeptList) → Puts others changes base old new → length new ≡ length old
puts-length others changes base old new d puts =
    let before : List KeptList = some-lists d base in
    let same : length (put_all changes ((before ++ old) ++ [])) ≡ length (put_all others ((before ++ new) ++ [])) = ap length (puts before [] (some-length d base)) in
    let a = all-length changes ((before ++ old) ++ []) in
    let b = all-length others ((before ++ new) ++ []) in
    let c = length-append (before ++ old) [] in
    let e = length-append (before ++ new) [] in
    let f = length-append before old in
    let g = length-append before new in
    omega (arith, same, a, b, c, e, f, g)

-- what stands inside one element of a list, and its change
pub joined-set : (xs : List (List KeptList)) (k : ℕ) (y : List KeptList) → k < length xs
    → joined (set xs k y) ≡ joined (take k xs) ++ (y ++ joined (drop (k + 1) xs))
joined-set [] k y lt = absurd (omega (arith, lt))
joined-set (x ∷ xs) zero y lt = refl
joined-set (x ∷ xs) (suc k) y lt =
    let e : suc k + 1 ≡ suc (k + 1) = omega arith in
    ap (λ r. x ++ r) (joined-set xs k y (omega (arith, lt)))
    ∙ (sym (append_assoc x (joined (take k xs)) (y ++ joined (drop (k + 1) xs)))
    ∙ ap (λ n. (x ++ joined (take k xs)) ++ (y ++ joined (drop n (x ∷ xs)))) (sym e))

pub start-at : (n : ℕ) (xs : List (List KeptList)) (k : ℕ) (d : ℕ) → k < length xs → get_or (starts_from n xs) k d ≡ n + length (joined (take k xs))
start-at n [] k d lt = absurd (omega (arith, lt))
start-at n (x ∷ xs) zero d lt = omega arith
start-at n (x ∷ xs) (suc k) d lt =
    let l = length-append x (joined (take k xs)) in
    let more = start-at (n + length x) xs k d (omega (arith, lt)) in
    omega (arith, more, l)
