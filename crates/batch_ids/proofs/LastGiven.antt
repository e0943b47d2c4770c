-- The value of a key among parameters: the one that was given last with it.
use Rattle.std.proofs.Common.{◌≡◌, ℕ, Bool, true, false, cond, Option, None, Some, List, [], ◌∷◌, filter, find, refl, sym, ◌∙◌, ap}
use Rattle.std.specs.List.{last_or}
use Rattle.std.specs.Prelude.{option_map}
use Rattle.std.specs.Str.{bytes_eq}
use Rattle.std.specs.Ordering.{is_eq}
use Rattle.std.specs.Cmp.Lexicographic.{bytes_decides, nat_list_cmp_total, texts_ties}
use Rattle.std.specs.declared.cmp.Ordering.{Ordering}
use Rattle.std.specs.declared.cmp.Ordering.TheVariants.{Less, Equal, Greater}
use Rattle.batch_ids.specs.Parameters.{Pair, key_cmp, ComesBefore, IsRising, by_order, with_pair, with_all, parameters_of, value_of, value_given_last}
use Rattle.batch_ids.proofs.Placed.{key_cmp-back, rising-with_pair}

-- ---- Keys

-- whether a pair has this key
abbrev has : List ℕ → Pair → Bool
has key pair = bytes_eq pair.0 key

-- keys are the same where they compare so
ties : (one other : Pair) (o : Ordering) → key_cmp one other ≡ o → bytes_eq one.0 other.0 ≡ is_eq o
ties one other o e = texts_ties one.0 other.0 ∙ ap is_eq e

same-key : (one other : Pair) → key_cmp one other ≡ Equal → one.0 ≡ other.0
same-key one other e = (bytes_decides one.0 other.0).0 (ties one other Equal e)

-- of two pairs in order one at most has a key
apart : (one other : Pair) (key : List ℕ) → key_cmp one other ≡ Less → has key one ≡ true → has key other ≡ false
apart one other key e here =
    (elim (has key other) as (λ b. has key other ≡ b → b ≡ false) [
      | true ↦ λ there.
          let same : one.0 ≡ other.0 = (bytes_decides one.0 key).0 here ∙ sym ((bytes_decides other.0 key).0 there) in
          sym ((bytes_decides one.0 other.0).1 same) ∙ ties one other Less e
      | false ↦ λ there. refl
    ]) refl

-- ---- What a pair changes

by-order : (held new : Pair) (rest : List Pair) (key : List ℕ) (o : Ordering) → key_cmp held new ≡ o
    → find (has key) (with_pair rest new) ≡ cond (has key new) (Some new) (find (has key) rest)
    → find (has key) (by_order o (held ∷ with_pair rest new) (new ∷ rest) (new ∷ held ∷ rest)) ≡ cond (has key new) (Some new) (cond (has key held) (Some held) (find (has key) rest))
by-order held new rest key Less e later =
    (elim (has key held) as (λ b. has key held ≡ b → cond b (Some held) (find (has key) (with_pair rest new))
    ≡ cond (has key new) (Some new) (cond b (Some held) (find (has key) rest))) [
      | true ↦ λ here. ap (λ b. cond b (Some new) (Some held)) (sym (apart held new key e here))
      | false ↦ λ here. later
    ]) refl
by-order held new rest key Equal e later =
    let same : has key held ≡ has key new = ap (λ k. bytes_eq k key) (same-key held new e) in
    (elim (has key new) as (λ b. has key held ≡ b → cond b (Some new) (find (has key) rest) ≡ cond b (Some new) (cond (has key held) (Some held) (find (has key) rest))) [
      | true ↦ λ here. refl
      | false ↦ λ here. ap (λ b. cond b (Some held) (find (has key) rest)) (sym here)
    ]) same
by-order held new rest key Greater e later = refl

-- the pair with a key is the new one, if that has the key, and else the one that was there
found-with_pair : (pairs : List Pair) (new : Pair) (key : List ℕ) → find (has key) (with_pair pairs new) ≡ cond (has key new) (Some new) (find (has key) pairs)
found-with_pair [] new key = refl
found-with_pair (held ∷ rest) new key = by-order held new rest key (key_cmp held new) refl (found-with_pair rest new key)

last-by : (new : Pair) (rest : List Pair) (found : Option Pair) (key : List ℕ)
    → last_or (cond (has key new) (Some new) found) (filter (has key) rest) ≡ last_or found (filter (has key) (new ∷ rest))
last-by new rest found key =
    elim (has key new) as (λ b. last_or (cond b (Some new) found) (filter (has key) rest) ≡ last_or found (cond b (new ∷ filter (has key) rest) (filter (has key) rest))) [
      | true ↦ refl
      | false ↦ refl
    ]

-- the pair with a key is the last one that was given with it, and else the one that was there
found-with_all : (held given : List Pair) (key : List ℕ) → find (has key) (with_all held given) ≡ last_or (find (has key) held) (filter (has key) given)
found-with_all held [] key = refl
found-with_all held (new ∷ rest) key =
    found-with_all (with_pair held new) rest key
    ∙ (ap (λ found. last_or found (filter (has key) rest)) (found-with_pair held new key) ∙ last-by new rest (find (has key) held) key)

pub last-counts : (given : List Pair) (key : List ℕ) → value_of (parameters_of given) key ≡ value_given_last given key
last-counts given key = ap (λ (found : Option Pair). option_map (λ (pair : Pair). pair.1) found) (found-with_all [] given key)

rising-all : (held given : List Pair) → IsRising held → IsRising (with_all held given)
rising-all held [] rising = rising
rising-all held (new ∷ rest) rising = rising-all (with_pair held new) rest (rising-with_pair held new rising)

pub rising-given : (given : List Pair) → IsRising (parameters_of given)
rising-given given = rising-all [] given tt

-- ---- One list of pairs by rising keys has these values

-- what comes before the first of these, which comes before the rest, comes before the rest
lower-all : (first next : Pair) (rest : List Pair) → key_cmp first next ≡ Less → ComesBefore next rest → ComesBefore first rest
lower-all first next [] lower before = tt
lower-all first next (other ∷ rest) lower before = nat_list_cmp_total.trans first.0 next.0 other.0 lower before

value-here : (pair : Pair) (rest : List Pair) → value_of (pair ∷ rest) pair.0 ≡ Some pair.1
value-here pair rest =
    ap (λ b. option_map (λ (p : Pair). p.1) (cond b (Some pair) (find (has pair.0) rest))) ((bytes_decides pair.0 pair.0).1 refl)

value-later : (pair : Pair) (rest : List Pair) (key : List ℕ) → has key pair ≡ false → value_of (pair ∷ rest) key ≡ value_of rest key
value-later pair rest key off = ap (λ b. option_map (λ (p : Pair). p.1) (cond b (Some pair) (find (has key) rest))) off

-- others that a pair comes before do not have its key
before-all : (first : Pair) (rest : List Pair) → ComesBefore first rest → IsRising rest → value_of rest first.0 ≡ None
before-all first [] before rising = refl
before-all first (next ∷ rest) before rising =
    value-later next rest first.0 (apart first next first.0 before ((bytes_decides first.0 first.0).1 refl))
    ∙ before-all first rest (lower-all first next rest before rising.0) rising.1

-- the values of both, where the first of one has a key that the other has not
none-there : (first : Pair) (rest others : List Pair) → ComesBefore first others → IsRising others → value_of (first ∷ rest) first.0 ≡ value_of others first.0 → true ≡ false
none-there first rest others before rising same =
    let no : Some first.1 ≡ None = sym (value-here first rest) ∙ (same ∙ before-all first others before rising) in cc

rest-values : (a b : Pair) (xs ys : List Pair) → a.0 ≡ b.0 → IsRising (a ∷ xs) → IsRising (b ∷ ys)
    → ((key : List ℕ) → value_of (a ∷ xs) key ≡ value_of (b ∷ ys) key) → (key : List ℕ) → value_of xs key ≡ value_of ys key
rest-values a b xs ys same ra rb values key =
    (elim (has key a) as (λ h. has key a ≡ h → value_of xs key ≡ value_of ys key) [
      | true ↦ λ here.
          let at : a.0 ≡ key = (bytes_decides a.0 key).0 here in
          (ap (value_of xs) (sym at) ∙ before-all a xs ra.0 ra.1) ∙ sym (ap (value_of ys) (sym at ∙ same) ∙ before-all b ys rb.0 rb.1)
      | false ↦ λ off. sym (value-later a xs key off) ∙ (values key ∙ value-later b ys key (ap (λ k. bytes_eq k key) (sym same) ∙ off))
    ]) refl

first-same : (a b : Pair) (xs ys : List Pair) → a.0 ≡ b.0 → ((key : List ℕ) → value_of (a ∷ xs) key ≡ value_of (b ∷ ys) key) → a ≡ b
first-same a b xs ys same values =
    let both : Some a.1 ≡ Some b.1 = sym (value-here a xs) ∙ (values a.0 ∙ (ap (value_of (b ∷ ys)) same ∙ value-here b ys)) in
    let value : a.1 ≡ b.1 = cc in
    λ i. (same i, value i)

one-rising : (one other : List Pair) → IsRising one → IsRising other → ((key : List ℕ) → value_of one key ≡ value_of other key) → one ≡ other
one-rising [] [] ra rb values = refl
one-rising [] (b ∷ ys) ra rb values = absurd (let no : true ≡ false = none-there b ys [] tt tt (sym (values b.0)) in cc)
one-rising (a ∷ xs) [] ra rb values = absurd (let no : true ≡ false = none-there a xs [] tt tt (values a.0) in cc)
one-rising (a ∷ xs) (b ∷ ys) ra rb values =
    (elim (key_cmp a b) as (λ o. key_cmp a b ≡ o → (a ∷ xs) ≡ (b ∷ ys)) [
      | Less ↦ λ e. absurd (let no : true ≡ false = none-there a xs (b ∷ ys) e rb (values a.0) in cc)
      | Equal ↦ λ e.
          let same : a.0 ≡ b.0 = same-key a b e in
          ap (λ p. p ∷ xs) (first-same a b xs ys same values)
          ∙ ap (λ ps. b ∷ ps) (one-rising xs ys ra.1 rb.1 (rest-values a b xs ys same ra rb values))
      | Greater ↦ λ e. absurd (let no : true ≡ false = none-there b ys (a ∷ xs) (key_cmp-back a b e) ra (sym (values b.0)) in cc)
    ]) refl

pub one-given : (given pairs : List Pair) → IsRising pairs → ((key : List ℕ) → value_of pairs key ≡ value_given_last given key) → pairs ≡ parameters_of given
one-given given pairs rising values = one-rising pairs (parameters_of given) rising (rising-given given) (λ key. values key ∙ sym (last-counts given key))
