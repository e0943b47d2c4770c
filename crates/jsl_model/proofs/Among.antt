-- Names that are gone over one by one, beside the set of those before.
use Rattle.std.proofs.Common.{◌≡◌, ◌||◌, ◌&&◌, ℕ, ◌+◌, ◌<◌, Bool, Bor, true, false, cond, not, List, [], ◌∷◌, ◌++◌, length, map, take, drop, get_or, bytes_eq, refl, sym, ◌∙◌, ap, arith}
use Rattle.std.specs.List.{list_any}
use Rattle.std.proofs.lemmas.List.{append_assoc, drop_more, take_more, map-append}
use Rattle.std.proofs.lemmas.List.Folds.{list_any-append}
use Rattle.std.proofs.lemmas.Slice.Eq.{bytes_eq-Decides}
use Rattle.jsl_model.specs.Names.{is_among, has_twice, are_among, unheld}

-- the texts of borrowed names
abbrev pub texts : List (Bor (List ℕ)) → List (List ℕ)
texts names = map (λ name. name.now) names

-- a name is held, or it stands twice among these
abbrev pub repeats : (List ℕ → Bool) → List (List ℕ) → Bool
repeats held names = list_any held names || has_twice names

pub bytes_eq-sym : (xs ys : List ℕ) → bytes_eq xs ys ≡ bytes_eq ys xs
bytes_eq-sym xs ys = grind (arith, bytes_eq-Decides)

or-shuffle : (a b c d : Bool) → ((a || b) || (c || d)) ≡ ((a || c) || (b || d))
or-shuffle true b c d = refl
or-shuffle false true true d = refl
or-shuffle false false true d = refl
or-shuffle false b false d = refl

or-swap : (a b c : Bool) → ((a || b) || c) ≡ (b || (a || c))
or-swap true true c = refl
or-swap true false c = refl
or-swap false b c = refl

or-last : (a b c : Bool) → b ≡ c → (a || (b || false)) ≡ cond c true a
or-last true true c e = ap (λ (x : Bool). cond x true true) e
or-last true false c e = ap (λ (x : Bool). cond x true true) e
or-last false true c e = ap (λ (x : Bool). cond x true false) e
or-last false false c e = ap (λ (x : Bool). cond x true false) e

cond-or : (a b : Bool) → cond a true b ≡ (a || b)
cond-or true b = refl
cond-or false b = refl

-- a set with one name more holds one of these, if it is that name or was held before
any-added : (held new : List ℕ → Bool) (name : List ℕ) → ((q : List ℕ) → new q ≡ cond (bytes_eq name q) true (held q)) → (rest : List (List ℕ))
    → list_any new rest ≡ (is_among rest name || list_any held rest)
any-added held new name adds [] = refl
any-added held new name adds (x ∷ rest) =
    let here : new x ≡ (bytes_eq name x || held x) = adds x ∙ cond-or (bytes_eq name x) (held x) in
    let more : list_any new rest ≡ (is_among rest name || list_any held rest) = any-added held new name adds rest in
    let both : (new x || list_any new rest) ≡ ((bytes_eq name x || held x) || (is_among rest name || list_any held rest)) = cc in
    both ∙ or-shuffle (bytes_eq name x) (held x) (is_among rest name) (list_any held rest)

-- the next name is held
pub repeats-here : (held : List ℕ → Bool) (names : List (Bor (List ℕ))) (i : ℕ) (d : Bor (List ℕ)) → i < length names
    → held (get_or names i d).now ≡ true → repeats held (texts (drop i names)) ≡ true
repeats-here held names i d h is = ap (λ (ns : List (Bor (List ℕ))). repeats held (texts ns)) (drop_more names i d h)
    ∙ ap (λ (b : Bool). (b || list_any held (texts (drop (i + 1) names))) || has_twice (texts (get_or names i d ∷ drop (i + 1) names))) is

-- the next name is not held, and is from then on
pub repeats-next : (held new : List ℕ → Bool) (names : List (Bor (List ℕ))) (i : ℕ) (d : Bor (List ℕ)) → i < length names
    → ((q : List ℕ) → new q ≡ cond (bytes_eq (get_or names i d).now q) true (held q))
    → held (get_or names i d).now ≡ false → repeats new (texts (drop (i + 1) names)) ≡ repeats held (texts (drop i names))
repeats-next held new names i d h adds is =
    let rest : List (List ℕ) = texts (drop (i + 1) names) in
    let name : List ℕ = (get_or names i d).now in
    ap (λ (b : Bool). b || has_twice rest) (any-added held new name adds rest)
    ∙ (or-swap (is_among rest name) (list_any held rest) (has_twice rest)
    ∙ (ap (λ (b : Bool). (b || list_any held rest) || (is_among rest name || has_twice rest)) (sym is)
    ∙ sym (ap (λ (ns : List (Bor (List ℕ))). repeats held (texts ns)) (drop_more names i d h))))

none-held : (held : List ℕ → Bool) → ((q : List ℕ) → held q ≡ false) → (names : List (List ℕ)) → list_any held names ≡ false
none-held held none [] = refl
none-held held none (name ∷ rest) = ap (λ (b : Bool). b || list_any held rest) (none name) ∙ none-held held none rest

-- no name is held at first
pub repeats-first : (held : List ℕ → Bool) → ((q : List ℕ) → held q ≡ false) → (names : List (List ℕ)) → repeats held names ≡ has_twice names
repeats-first held none names = ap (λ (b : Bool). b || has_twice names) (none-held held none names)

-- what it tells whether a name was added
pub was-new : (added held : Bool) → added ≡ not held → added ≡ true → held ≡ false
was-new added true e is = cc
was-new added false e is = refl

pub was-held : (added held : Bool) → added ≡ not held → added ≡ false → held ≡ true
was-held added true e is = refl
was-held added false e is = cc

-- one more of those taken, with its name
pub among-taken : {X : Type 0} (name_in : X → List ℕ) (xs : List X) (k : ℕ) (d : X) (q : List ℕ) → k < length xs
    → is_among (map name_in (take (k + 1) xs)) q ≡ cond (bytes_eq (name_in (get_or xs k d)) q) true (is_among (map name_in (take k xs)) q)
among-taken name_in xs k d q h =
    let name : List ℕ = name_in (get_or xs k d) in
    ap (λ ys. is_among (map name_in ys) q) (take_more xs k d h)
    ∙ (ap (λ ns. is_among ns q) (map-append name_in (take k xs) (get_or xs k d ∷ []))
    ∙ (list_any-append (bytes_eq q) (map name_in (take k xs)) (name ∷ [])
    ∙ or-last (is_among (map name_in (take k xs)) q) (bytes_eq q name) (bytes_eq name q) (bytes_eq-sym q name)))

-- one more name that is held
pub among-more : (names : List (Bor (List ℕ))) (i : ℕ) (d : Bor (List ℕ)) (q : List ℕ) → i < length names
    → is_among (texts (take (i + 1) names)) q ≡ cond (bytes_eq (get_or names i d).now q) true (is_among (texts (take i names)) q)
among-more names i d q h = among-taken (λ n. n.now) names i d q h

-- the next name is among those held, and so are the others
pub are_among-next : (held : List (List ℕ)) (names : List (Bor (List ℕ))) (i : ℕ) (d : Bor (List ℕ)) → i < length names
    → is_among held (get_or names i d).now ≡ true → are_among held (texts (drop (i + 1) names)) ≡ are_among held (texts (drop i names))
are_among-next held names i d h is =
    sym (ap (λ (ns : List (Bor (List ℕ))). are_among held (texts ns)) (drop_more names i d h)
    ∙ ap (λ (b : Bool). b && are_among held (texts (drop (i + 1) names))) is)

-- the next name is not among those held
pub are_among-not : (held : List (List ℕ)) (names : List (Bor (List ℕ))) (i : ℕ) (d : Bor (List ℕ)) → i < length names
    → is_among held (get_or names i d).now ≡ false → are_among held (texts (drop i names)) ≡ false
are_among-not held names i d h is =
    ap (λ (ns : List (Bor (List ℕ))). are_among held (texts ns)) (drop_more names i d h)
    ∙ ap (λ (b : Bool). b && are_among held (texts (drop (i + 1) names))) is

-- with the same names held, the same ones are not
pub unheld-same : (held new : List ℕ → Bool) → ((q : List ℕ) → new q ≡ held q) → (names : List (List ℕ)) → unheld new names ≡ unheld held names
unheld-same held new same [] = refl
unheld-same held new same (name ∷ rest) =
    let here : new name ≡ held name = same name in
    let skipped : unheld new rest ≡ unheld held rest = unheld-same held new same rest in
    let kept : unheld (λ other. bytes_eq other name || new other) rest ≡ unheld (λ other. bytes_eq other name || held other) rest =
    unheld-same (λ other. bytes_eq other name || held other) (λ other. bytes_eq other name || new other)
    (λ q. ap (λ (b : Bool). bytes_eq q name || b) (same q)) rest in
    cc

held-already : (held : List ℕ → Bool) (name q : List ℕ) → held name ≡ true → cond (bytes_eq name q) true (held q) ≡ held q
held-already held name q is = grind (arith, bytes_eq-Decides)

-- a name that was held already changes nothing
pub unheld-seen : (held new : List ℕ → Bool) (name : List ℕ) → ((q : List ℕ) → new q ≡ cond (bytes_eq name q) true (held q))
    → held name ≡ true → (rest : List (List ℕ)) → unheld new rest ≡ unheld held (name ∷ rest)
unheld-seen held new name adds is rest =
    let same : unheld new rest ≡ unheld held rest = unheld-same held new (λ q. adds q ∙ held-already held name q is) rest in
    cc

-- a name that was not held is kept, and is held from then on
pub unheld-new : (held new : List ℕ → Bool) (name : List ℕ) → ((q : List ℕ) → new q ≡ cond (bytes_eq name q) true (held q))
    → held name ≡ false → (rest : List (List ℕ)) → name ∷ unheld new rest ≡ unheld held (name ∷ rest)
unheld-new held new name adds is rest =
    let same : unheld new rest ≡ unheld (λ other. bytes_eq other name || held other) rest =
    unheld-same (λ other. bytes_eq other name || held other) new
    (λ q. adds q ∙ (cond-or (bytes_eq name q) (held q) ∙ ap (λ (b : Bool). b || held q) (bytes_eq-sym name q))) rest in
    cc

-- one more name that is kept
pub kept-more : (kept more : List (Bor (List ℕ))) (name : Bor (List ℕ)) → more ≡ kept ++ name ∷ []
    → (xs ys : List (List ℕ)) → name.now ∷ xs ≡ ys → texts more ++ xs ≡ texts kept ++ ys
kept-more kept more name is xs ys same =
    ap (λ (ns : List (Bor (List ℕ))). texts ns ++ xs) is
    ∙ (ap (λ (ns : List (List ℕ)). ns ++ xs) (map-append (λ (n : Bor (List ℕ)). n.now) kept (name ∷ []))
    ∙ (append_assoc (texts kept) (name.now ∷ []) xs
    ∙ ap (λ (ns : List (List ℕ)). texts kept ++ ns) same))
