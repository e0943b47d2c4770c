-- A pair put in its place among pairs whose keys rise.
use Rattle.std.proofs.Common.{◌≡◌, ℕ, suc, ◌+◌, ◌<◌, ◌≤◌, Bool, true, false, ◌||◌, List, [], ◌∷◌, ◌++◌, length, take, drop, get_or, set, String, string_bytes, refl, sym, ◌∙◌, ap, subst, arith, add-one, append_assoc}
use Rattle.std.specs.List.{insert, list_any}
use Rattle.std.specs.Ordering.{ordering_reverse}
use Rattle.std.specs.Prelude.{nat_lt}
use Rattle.std.specs.Cmp.Lexicographic.{nat_list_cmp_total}
use Rattle.std.specs.declared.cmp.Ordering.{Ordering}
use Rattle.std.specs.declared.cmp.Ordering.TheVariants.{Less, Equal, Greater}
use Rattle.std.proofs.lemmas.Bool.{or_left, or_right, ltb-true, lt-ltb}
use Rattle.std.proofs.lemmas.List.{drop_more, set_split, take_more, length-set}
use Rattle.std.proofs.lemmas.List.Edits.{length-insert}
use Rattle.std.specs.declared.alloc.Global.{Global}
use Rattle.batch_ids.specs.Parameters.{Pair, key_cmp, ComesBefore, IsRising, AreParameters, by_order, with_pair, with_all, parameters_of, is_long, is_too_large, pair_of, pairs_of}

-- how the next key compares says where the pair goes
next_at : (pairs : List Pair) (i : ℕ) (d new : Pair) (o : Ordering) → i < length pairs → key_cmp (get_or pairs i d) new ≡ o
    → with_pair pairs new ≡ take i pairs ++ with_pair (drop i pairs) new
    → with_pair pairs new ≡ take i pairs ++ by_order o (get_or pairs i d ∷ with_pair (drop (i + 1) pairs) new) (new ∷ drop (i + 1) pairs) (new ∷ get_or pairs i d ∷ drop (i + 1) pairs)
next_at pairs i d new o lt compared so_far =
    so_far
    ∙ (ap (λ (rest : List Pair). take i pairs ++ with_pair rest new) (drop_more pairs i d lt)
    ∙ ap (λ (p : Ordering). take i pairs ++ by_order p (get_or pairs i d ∷ with_pair (drop (i + 1) pairs) new) (new ∷ drop (i + 1) pairs) (new ∷ get_or pairs i d ∷ drop (i + 1) pairs)) compared)

-- where the next key is the new one, in its place
pub held_at : (pairs : List Pair) (i : ℕ) (d new : Pair) → i < length pairs → key_cmp (get_or pairs i d) new ≡ Equal
    → with_pair pairs new ≡ take i pairs ++ with_pair (drop i pairs) new → with_pair pairs new ≡ set pairs i new
held_at pairs i d new lt same so_far =
    next_at pairs i d new Equal lt same so_far ∙ (ap (λ (k : ℕ). take i pairs ++ new ∷ drop k pairs) (add-one i) ∙ sym (set_split pairs i new lt))

-- where the next key is higher, before it
pub absent_at : (pairs : List Pair) (i : ℕ) (d new : Pair) → i < length pairs → key_cmp (get_or pairs i d) new ≡ Greater
    → with_pair pairs new ≡ take i pairs ++ with_pair (drop i pairs) new → with_pair pairs new ≡ insert pairs i new
absent_at pairs i d new lt higher so_far =
    next_at pairs i d new Greater lt higher so_far ∙ ap (λ (rest : List Pair). take i pairs ++ new ∷ rest) (sym (drop_more pairs i d lt))

-- where the next key is lower, behind it
pub behind_at : (pairs : List Pair) (i : ℕ) (d new : Pair) → i < length pairs → key_cmp (get_or pairs i d) new ≡ Less
    → with_pair pairs new ≡ take i pairs ++ with_pair (drop i pairs) new
    → with_pair pairs new ≡ take (i + 1) pairs ++ with_pair (drop (i + 1) pairs) new
behind_at pairs i d new lt lower so_far =
    next_at pairs i d new Less lt lower so_far
    ∙ (sym (append_assoc (take i pairs) (get_or pairs i d ∷ []) (with_pair (drop (i + 1) pairs) new))
    ∙ ap (λ (front : List Pair). front ++ with_pair (drop (i + 1) pairs) new) (sym (take_more pairs i d lt)))

-- two keys the other way round
pub key_cmp-back : (a b : Pair) → key_cmp a b ≡ Greater → key_cmp b a ≡ Less
key_cmp-back a b e = nat_list_cmp_total.antisymm b.0 a.0 ∙ ap ordering_reverse e

before-by : (first next new : Pair) (rest : List Pair) (o : Ordering) → key_cmp first new ≡ Less → key_cmp first next ≡ Less
    → ComesBefore first (by_order o (next ∷ with_pair rest new) (new ∷ rest) (new ∷ next ∷ rest))
before-by first next new rest Less lower before = before
before-by first next new rest Equal lower before = lower
before-by first next new rest Greater lower before = lower

-- what comes before all of them and before the new one comes before them with the new one
comes_before-with : (first new : Pair) (rest : List Pair) → key_cmp first new ≡ Less → ComesBefore first rest → ComesBefore first (with_pair rest new)
comes_before-with first new [] lower before = lower
comes_before-with first new (next ∷ rest) lower before = before-by first next new rest (key_cmp next new) lower before

-- a pair with the same key comes before the same ones
comes_before-same : (held new : Pair) (rest : List Pair) → key_cmp held new ≡ Equal → ComesBefore held rest → ComesBefore new rest
comes_before-same held new [] same before = tt
comes_before-same held new (next ∷ rest) same before = sym (nat_list_cmp_total.congr held.0 new.0 next.0 same) ∙ before

rising-by : (held new : Pair) (rest : List Pair) (o : Ordering) → key_cmp held new ≡ o → ComesBefore held rest → IsRising rest → IsRising (with_pair rest new)
    → IsRising (by_order o (held ∷ with_pair rest new) (new ∷ rest) (new ∷ held ∷ rest))
rising-by held new rest Less e before rising more = (comes_before-with held new rest e before, more)
rising-by held new rest Equal e before rising more = (comes_before-same held new rest e before, rising)
rising-by held new rest Greater e before rising more = (key_cmp-back held new e, (before, rising))

-- the keys still rise
pub rising-with_pair : (pairs : List Pair) (new : Pair) → IsRising pairs → IsRising (with_pair pairs new)
rising-with_pair [] new rising = (tt, tt)
rising-with_pair (held ∷ rest) new rising = rising-by held new rest (key_cmp held new) refl rising.0 rising.1 (rising-with_pair rest new rising.1)

longer-by : (held new : Pair) (rest : List Pair) (o : Ordering) → length rest ≤ length (with_pair rest new)
    → suc (length rest) ≤ length (by_order o (held ∷ with_pair rest new) (new ∷ rest) (new ∷ held ∷ rest))
longer-by held new rest Less longer = omega arith
longer-by held new rest Equal longer = omega arith
longer-by held new rest Greater longer = omega arith

-- there are no fewer pairs
length-with_pair : (pairs : List Pair) (new : Pair) → length pairs ≤ length (with_pair pairs new)
length-with_pair [] new = omega arith
length-with_pair (held ∷ rest) new = longer-by held new rest (key_cmp held new) (length-with_pair rest new)

-- nor with more of them
length-with_all : (held given : List Pair) → length held ≤ length (with_all held given)
length-with_all held [] = omega arith
length-with_all held (new ∷ rest) = omega (arith, length-with_pair held new, length-with_all (with_pair held new) rest)

-- a pair written over one with its key, over the fields that hold them
pub kept_in_place : (items pairs : List Pair) (i : ℕ) (k v key value : List ℕ) → items ≡ pairs → k ≡ key → v ≡ value
    → AreParameters pairs → with_pair pairs (key, value) ≡ set pairs i (key, value) → AreParameters (set items i (k, v))
kept_in_place items pairs i k v key value same key_is value_is are put =
    rw (same, key_is, value_is) (record {
      rising = subst IsRising put (rising-with_pair pairs (key, value) are.rising);
      few = omega (arith, length-set pairs i (key, value), are.few);
    })

-- a pair inserted where there is room, over the fields that hold them
pub kept_with_one : (items pairs : List Pair) (i : ℕ) (k v key value : List ℕ) → items ≡ pairs → k ≡ key → v ≡ value
    → AreParameters pairs → length pairs < 64 → i ≤ length pairs → with_pair pairs (key, value) ≡ insert pairs i (key, value) → AreParameters (insert items i (k, v))
kept_with_one items pairs i k v key value same key_is value_is are room le put =
    rw (same, key_is, value_is) (record {
      rising = subst IsRising put (rising-with_pair pairs (key, value) are.rising);
      few = omega (arith, length-insert pairs i (key, value) le);
    })

over-by : (given made rest : List Pair) (new : Pair) → with_all made (new ∷ rest) ≡ parameters_of given → 64 < length (with_pair made new) → nat_lt 64 (length (parameters_of given)) ≡ true
over-by given made rest new same more = lt-ltb 64 (length (parameters_of given)) (omega (arith, length-with_all (with_pair made new) rest, ap length same))

-- pairs that go beyond the bounds
pub too_large-by : (given made rest : List Pair) (new : Pair) → with_all made (new ∷ rest) ≡ parameters_of given → list_any is_long (new ∷ rest) ≡ list_any is_long given
    → (is_long new || nat_lt 64 (length (with_pair made new))) ≡ true → is_too_large given ≡ true
too_large-by given made rest new same long over =
    elim (is_long new) as (λ b. is_long new ≡ b → is_too_large given ≡ true) [
      | true ↦ λ e. or_left (list_any is_long given) (nat_lt 64 (length (parameters_of given))) (sym long ∙ or_left (is_long new) (list_any is_long rest) e)
      | false ↦ λ e. or_right (list_any is_long given) (nat_lt 64 (length (parameters_of given)))
          (over-by given made rest new same (ltb-true 64 (length (with_pair made new)) (sym (ap (λ (b : Bool). b || nat_lt 64 (length (with_pair made new))) e) ∙ over)))
    ] refl

-- the given pair at a place takes the parameters beyond the bounds
pub too_large-here : (given : List (String Global × String Global)) (i : ℕ) (d : String Global × String Global) (made : List Pair) (key value : List ℕ) → i < length given
    → with_all made (pairs_of (drop i given)) ≡ parameters_of (pairs_of given) → list_any is_long (pairs_of (drop i given)) ≡ list_any is_long (pairs_of given)
    → d ≡ get_or given i d → key ≡ string_bytes d.0 → value ≡ string_bytes d.1
    → (is_long (key, value) || nat_lt 64 (length (with_pair made (key, value)))) ≡ true → is_too_large (pairs_of given) ≡ true
too_large-here given i d made key value lt same long here key_is value_is over =
    let next : pairs_of (drop i given) ≡ (key, value) ∷ pairs_of (drop (i + 1) given) =
    ap pairs_of (drop_more given i d lt)
    ∙ (ap (λ (p : String Global × String Global). pair_of p ∷ pairs_of (drop (i + 1) given)) (sym here)
    ∙ (ap (λ (k : List ℕ). (k, string_bytes d.1) ∷ pairs_of (drop (i + 1) given)) (sym key_is)
    ∙ ap (λ (v : List ℕ). (key, v) ∷ pairs_of (drop (i + 1) given)) (sym value_is))) in
    too_large-by (pairs_of given) made (pairs_of (drop (i + 1) given)) (key, value) (ap (with_all made) (sym next) ∙ same) (ap (list_any is_long) (sym next) ∙ long) over
