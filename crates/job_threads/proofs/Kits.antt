-- A list of named artifacts, seen as their names and meanings.
use Rattle.std.proofs.Common.{◌≡◌, ℕ, zero, suc, add-one, ◌<◌, ◌+◌, List, [], ◌∷◌, map, length, get_or, drop, nat_eq, refl, sym, ap, ◌∙◌, subst, arith, Some, Bool, true, false, cond}
use Rattle.std.proofs.lemmas.List.{length-map}
use Rattle.std.proofs.Math.ListN.{set}
use Rattle.std.specs.Cmp.Lexicographic.{pointwise}
use Rattle.job_threads.specs.Meaning.{Meaning, Known, known, means_at, put_at, place_from, names}
use Rattle.job_threads.specs.Calls.{Turned}

pub means-map : {E : Type 0} (nm : E → List ℕ) (mn : E → Meaning) (es : List E) (at : ℕ) (d : E) → at < length es → means_at at (map (λ e. known (nm e) (mn e)) es) ≡ mn (get_or es at d)
means-map nm mn [] at d lt = absurd (omega arith)
means-map nm mn (e ∷ es) zero d lt = refl
means-map nm mn (e ∷ es) (suc at) d lt = means-map nm mn es at d (omega arith)

pub put-map : {E : Type 0} (nm : E → List ℕ) (mn : E → Meaning) (es : List E) (at : ℕ) (d n : E) → at < length es → nm n ≡ nm (get_or es at d) → map (λ e. known (nm e) (mn e)) (set es at n) ≡ put_at at (mn n) (map (λ e. known (nm e) (mn e)) es)
put-map nm mn [] at d n lt same = absurd (omega arith)
put-map nm mn (e ∷ es) zero d n lt same = ap (λ (x : List ℕ). known x (mn n) ∷ map (λ e. known (nm e) (mn e)) es) same
put-map nm mn (e ∷ es) (suc at) d n lt same = ap (λ (ks : List Known). known (nm e) (mn e) ∷ ks) (put-map nm mn es at d n (omega arith) same)

-- a call of one artifact in a list
pub turned : {E : Type 0} (nm : E → List ℕ) (mn : E → Meaning) (R : Meaning → Meaning → Type 0) (es : List E) (at : ℕ) (e n : E) → at < length (map (λ e. known (nm e) (mn e)) es) → e ≡ get_or es at e → nm n ≡ nm e → R (mn e) (mn n)
    → Turned at R (map (λ e. known (nm e) (mn e)) es) (map (λ e. known (nm e) (mn e)) (set es at n))
turned nm mn R es at e n lt is same h =
    let P : Meaning → Type 0 = λ m. R m (mn n) in
    let within : at < length es = omega (arith, length-map es (λ e. known (nm e) (mn e))) in
    (mn n, subst P (sym (means-map nm mn es at e within ∙ ap mn (sym is))) h, put-map nm mn es at e n within (same ∙ ap nm is))

-- the names of what is seen of a list
pub names-map : {E : Type 0} (nm : E → List ℕ) (mn : E → Meaning) (es : List E) → names (map (λ e. known (nm e) (mn e)) es) ≡ map nm es
names-map nm mn [] = refl
names-map nm mn (e ∷ es) = ap (λ (ns : List (List ℕ)). nm e ∷ ns) (names-map nm mn es)

-- a search comes to one more name
pub place-step : {E : Type 0} (nm : E → List ℕ) (j i : ℕ) (name : List ℕ) (d : E) (es : List E) → i < length es → place_from j name (drop i (map nm es)) ≡ cond (pointwise nat_eq (nm (get_or es i d)) name) (Some j) (place_from (j + 1) name (drop (suc i) (map nm es)))
place-step nm j i name d [] lt = absurd (omega arith)
place-step nm j zero name d (e ∷ es) lt = refl
place-step nm j (suc i) name d (e ∷ es) lt = place-step nm j i name d es (omega arith)

pub place-found : {E : Type 0} (nm : E → List ℕ) (i : ℕ) (name y : List ℕ) (x : E) (es : List E) (b : Bool) → i < length es → x ≡ get_or es i x → y ≡ nm x → b ≡ pointwise nat_eq y name → b ≡ true → place_from i name (drop i (map nm es)) ≡ Some i
place-found nm i name y x es b lt is same told held =
    let t : pointwise nat_eq (nm (get_or es i x)) name ≡ true = ap (λ (e : _). pointwise nat_eq (nm e) name) (sym is) ∙ (ap (λ (z : List ℕ). pointwise nat_eq z name) (sym same) ∙ (sym told ∙ held)) in
    place-step nm i i name x es lt ∙ ap (λ (c : Bool). cond c (Some i) (place_from (i + 1) name (drop (suc i) (map nm es)))) t

pub place-passed : {E : Type 0} (nm : E → List ℕ) (i : ℕ) (name y : List ℕ) (x : E) (es : List E) (b : Bool) → i < length es → x ≡ get_or es i x → y ≡ nm x → b ≡ pointwise nat_eq y name → b ≡ false → place_from i name (drop i (map nm es)) ≡ place_from (i + 1) name (drop (i + 1) (map nm es))
place-passed nm i name y x es b lt is same told held =
    let t : pointwise nat_eq (nm (get_or es i x)) name ≡ false = ap (λ (e : _). pointwise nat_eq (nm e) name) (sym is) ∙ (ap (λ (z : List ℕ). pointwise nat_eq z name) (sym same) ∙ (sym told ∙ held)) in
    place-step nm i i name x es lt ∙ (ap (λ (c : Bool). cond c (Some i) (place_from (i + 1) name (drop (suc i) (map nm es)))) t ∙ ap (λ (k : ℕ). place_from (i + 1) name (drop k (map nm es))) (sym (add-one i)))
