-- A pair put in its place among pairs by rising keys, over the texts that hold them.
use Rattle.std.proofs.Common.{◌≡◌, ℕ, ◌-◌, ◌<◌, true, List, [], ◌∷◌, ◌++◌, length, take, drop, get_or, set, map, String, string_bytes, refl, sym, ap, ◌∙◌, arith, true≢false, Ordering, Less, Equal, Greater, nat_cmp}
use Rattle.std.specs.declared.alloc.Global.{Global}
use Rattle.std.specs.List.{insert}
use Rattle.std.specs.Ordering.{is_lt}
use Rattle.std.specs.Cmp.Lexicographic.{slice_cmp, nat_list_cmp_total}
use Rattle.std.proofs.Math.ListN.{get_or-map}
use Rattle.std.proofs.lemmas.List.{length-map, map-set, take-map, drop-map, map-append}
use Rattle.std.proofs.lemmas.List.Edits.{insert_end}
use Rattle.batch_ids.specs.Parameters.{Pair, key_cmp, IsRising, by_order, with_pair, pair_of, pairs_of}

abbrev pub Texts : Type 0
Texts = String Global × String Global

-- how the key at a place compares with another
pub compared : (pairs : List Texts) (i : ℕ) (pair : Texts) (key text : List ℕ) (o : Ordering) → get_or pairs i pair ≡ pair → slice_cmp nat_cmp (string_bytes pair.0) key ≡ o
    → key_cmp (get_or (pairs_of pairs) i (pair_of pair)) (key, text) ≡ o
compared pairs i pair key text o at is = ap (λ p. key_cmp p (key, text)) (get_or-map pair_of pairs i pair ∙ ap pair_of at) ∙ is

less-is : (o : Ordering) → is_lt o ≡ true → o ≡ Less
less-is Less h = refl
less-is Equal h = absurd (true≢false (sym h))
less-is Greater h = absurd (true≢false (sym h))

above-last : (held : Pair) (rest : List Pair) (d new : Pair) → IsRising (held ∷ rest) → key_cmp (get_or (held ∷ rest) (length rest) d) new ≡ Less
    → (key_cmp held new ≡ Less) × (with_pair (held ∷ rest) new ≡ held ∷ (rest ++ new ∷ []))
above-last held [] d new rising lower = (lower, ap (λ o. by_order o (held ∷ new ∷ []) (new ∷ []) (new ∷ held ∷ [])) lower)
above-last held (next ∷ more) d new rising lower =
    let deeper = above-last next more d new rising.1 lower in
    let here : key_cmp held new ≡ Less = nat_list_cmp_total.trans held.0 next.0 new.0 rising.0 deeper.0 in
    (here, ap (λ o. by_order o (held ∷ with_pair (next ∷ more) new) (new ∷ next ∷ more) (new ∷ held ∷ next ∷ more)) here ∙ ap (λ pairs. held ∷ pairs) deeper.1)

-- a pair whose key is above the last one stands behind all
pub above-all : (pairs : List Texts) (last : Texts) (key text : List ℕ) → IsRising (pairs_of pairs) → 0 < length pairs → get_or pairs (length pairs - 1) last ≡ last
    → is_lt (slice_cmp nat_cmp (string_bytes last.0) key) ≡ true → with_pair (pairs_of pairs) (key, text) ≡ insert (pairs_of pairs) (length pairs) (key, text)
above-all [] last key text rising some at lower = absurd (omega arith)
above-all (held ∷ rest) last key text rising some at lower =
    let behind : length (held ∷ rest) - 1 ≡ length rest = omega arith in
    let compare = compared (held ∷ rest) (length rest) last key text Less (ap (λ n. get_or (held ∷ rest) n last) (sym behind) ∙ at) (less-is (slice_cmp nat_cmp (string_bytes last.0) key) lower) in
    let is = ap (λ n. key_cmp (get_or (pairs_of (held ∷ rest)) n (pair_of last)) (key, text)) (length-map rest pair_of) ∙ compare in
    (above-last (pair_of held) (pairs_of rest) (pair_of last) (key, text) rising is).1
    ∙ sym (insert_end (pairs_of (held ∷ rest)) (key, text))
    ∙ ap (λ n. insert (pairs_of (held ∷ rest)) n (key, text)) (length-map (held ∷ rest) pair_of)

-- a pair written over the one of its key
pub written : (pairs : List Texts) (at : ℕ) (name value : String Global) (key text : List ℕ) → string_bytes name ≡ key → string_bytes value ≡ text
    → with_pair (pairs_of pairs) (key, text) ≡ set (pairs_of pairs) at (key, text) → pairs_of (set pairs at (name, value)) ≡ with_pair (pairs_of pairs) (key, text)
written pairs at name value key text name_is value_is due =
    map-set pair_of pairs at (name, value) ∙ ap (λ k. set (pairs_of pairs) at (k, string_bytes value)) name_is ∙ ap (λ v. set (pairs_of pairs) at (key, v)) value_is ∙ sym due

-- a pair inserted where it has to stand
pub inserted : (pairs : List Texts) (at : ℕ) (name value : String Global) (key text : List ℕ) → string_bytes name ≡ key → string_bytes value ≡ text
    → with_pair (pairs_of pairs) (key, text) ≡ insert (pairs_of pairs) at (key, text) → pairs_of (insert pairs at (name, value)) ≡ with_pair (pairs_of pairs) (key, text)
inserted pairs at name value key text name_is value_is due =
    map-append pair_of (take at pairs) ((name, value) ∷ drop at pairs)
    ∙ ap (λ front. front ++ pair_of (name, value) ∷ map pair_of (drop at pairs)) (sym (take-map pair_of at pairs))
    ∙ ap (λ back. take at (pairs_of pairs) ++ pair_of (name, value) ∷ back) (sym (drop-map pair_of at pairs))
    ∙ ap (λ k. insert (pairs_of pairs) at (k, string_bytes value)) name_is ∙ ap (λ v. insert (pairs_of pairs) at (key, v)) value_is ∙ sym due
