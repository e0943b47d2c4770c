-- What is known of a work key, once something is learnt of one.
use Rattle.std.proofs.Common.{◌≡◌, ◌≢◌, ℕ, zero, suc, ◌+◌, ◌<◌, ◌||◌, true, false, cond, List, [], ◌∷◌, length, get_or, set, refl, sym, ◌∙◌, ap, subst, inl, inr, arith, drop, ◌≤◌}
use Rattle.std.proofs.lemmas.Bool.{cases_lt}
use Rattle.std.proofs.lemmas.List.{get_or_default, at_drop_more, drop_all}
use Rattle.walk_rules.specs.declared.facts.Fact.{Fact}
use Rattle.walk_rules.specs.declared.facts.Known.{Known}
use Rattle.walk_rules.specs.declared.work_key.WorkKey.{WorkKey}
use Rattle.walk_rules.specs.Keys.{is_same_key, has_key}
use Rattle.job_plans.specs.Cursors.{CursorState, known_keys, put_fact, with_fact}
use Rattle.walk_rules.specs.Walk.{fact_of}
use Rattle.walk_rules.proofs.SameKeys.{same-one, differing-keys, same-sym}

pub put-one : (known : List Known) (key : WorkKey) (fact : Fact) → has_key (known_keys known) key ≡ true → fact_of (put_fact known key fact) key ≡ fact
put-one [] key fact h = cc
put-one (k ∷ ks) key fact h =
    (elim (is_same_key key k.key) as (λ b. is_same_key k.key key ≡ b → (b || has_key (known_keys ks) key) ≡ true
    → fact_of (cond b (record { key = k.key; fact = fact } ∷ ks) (k ∷ put_fact ks key fact)) key ≡ fact) [
      | true ↦ λ e among. rw e refl
      | false ↦ λ e among. rw e (put-one ks key fact among)
    ]) (same-sym k.key key) h

pub put-others : (known : List Known) (key : WorkKey) (fact : Fact) (other : WorkKey) → key ≢ other → fact_of (put_fact known key fact) other ≡ fact_of known other
put-others [] key fact other differ = refl
put-others (k ∷ ks) key fact other differ =
    (elim (is_same_key key k.key) as (λ b. is_same_key key k.key ≡ b
    → fact_of (cond b (record { key = k.key; fact = fact } ∷ ks) (k ∷ put_fact ks key fact)) other ≡ cond (is_same_key k.key other) k.fact (fact_of ks other)) [
      | true ↦ λ e. let off : is_same_key k.key other ≡ false = subst (λ i. is_same_key i other ≡ false) (same-one key k.key e) (differing-keys key other differ) in rw off refl
      | false ↦ λ e. ap (cond (is_same_key k.key other) k.fact) (put-others ks key fact other differ)
    ]) refl

-- of the key that it names, it is what is known
pub newest-one : (cursor : CursorState) (key : WorkKey) (fact : Fact) → has_key (known_keys cursor.facts) key ≡ true → fact_of (with_fact cursor key fact).facts key ≡ fact
newest-one cursor key fact among = put-one cursor.facts key fact among

-- of any other key, what was known stays
pub newest-others : (cursor : CursorState) (key : WorkKey) (fact : Fact) (other : WorkKey) → key ≢ other
    → fact_of (with_fact cursor key fact).facts other ≡ fact_of cursor.facts other
newest-others cursor key fact other differ = put-others cursor.facts key fact other differ

-- the work keys of which something is known stay
pub put-keys : (known : List Known) (key : WorkKey) (fact : Fact) → known_keys (put_fact known key fact) ≡ known_keys known
put-keys [] key fact = refl
put-keys (k ∷ ks) key fact =
    elim (is_same_key key k.key) as (λ b. known_keys (cond b (record { key = k.key; fact = fact } ∷ ks) (k ∷ put_fact ks key fact)) ≡ k.key ∷ known_keys ks) [
      | true ↦ refl
      | false ↦ ap (λ keys. k.key ∷ keys) (put-keys ks key fact)
    ]

-- ---- The place at which it is put

-- none before this place has the key
abbrev pub AreOther : List Known → WorkKey → ℕ → Type 0
AreOther known key place = (j : ℕ) (d : Known) → j < place → is_same_key key (get_or known j d).key ≡ false

pub other-more : (known : List Known) (key : WorkKey) (place : ℕ) (one : Known) → place < length known → one ≡ get_or known place one → is_same_key key one.key ≡ false
    → AreOther known key place → AreOther known key (place + 1)
other-more known key place one lt is off others j d h = elim (cases_lt j place) [
  | inl below ↦ others j d below
  | inr at ↦ let same : j ≡ place = omega arith in
      ap (λ n. is_same_key key (get_or known n d).key) same ∙ (ap (λ (k : Known). is_same_key key k.key) (get_or_default known place d one lt ∙ sym is) ∙ off)
]

-- then it stands behind this place
pub has-later : (known : List Known) (key : WorkKey) (place : ℕ) (one : Known) → place < length known → one ≡ get_or known place one → is_same_key key one.key ≡ false
    → has_key (known_keys (drop place known)) key ≡ true → has_key (known_keys (drop (place + 1) known)) key ≡ true
has-later known key place one lt is off rest =
    ap (λ here. here || has_key (known_keys (drop (place + 1) known)) key) (sym off ∙ ap (λ (k : Known). is_same_key key k.key) is)
    ∙ (sym (at_drop_more (λ ks. has_key (known_keys ks) key) known place one lt) ∙ rest)

pub has-nowhere : (known : List Known) (key : WorkKey) (place : ℕ) → length known ≤ place → has_key (known_keys (drop place known)) key ≡ true → false ≡ true
has-nowhere known key place past rest = ap (λ ks. has_key (known_keys ks) key) (sym (drop_all place known past)) ∙ rest

-- what is put at the first place that has the key
pub put-at : (known : List Known) (key : WorkKey) (fact : Fact) (place : ℕ) (one : Known) → place < length known → AreOther known key place
    → one ≡ get_or known place one → is_same_key key one.key ≡ true → put_fact known key fact ≡ set known place record { key = one.key; fact = fact }
put-at [] key fact place one lt others is on = absurd (omega arith)
put-at (k ∷ ks) key fact zero one lt others is on =
    let same : k ≡ one = sym is in rw same (rw on refl)
put-at (k ∷ ks) key fact (suc place) one lt others is on =
    let off : is_same_key key k.key ≡ false = others 0 k (omega arith) in
    rw off (ap (λ (rest : List Known). k ∷ rest) (put-at ks key fact place one (omega arith) (λ j d h. others (suc j) d (omega arith)) is on))

-- and what was known, put back
pub put-back : (known : List Known) (key : WorkKey) (fact : Fact) (place : ℕ) (one : Known) → place < length known → AreOther known key place
    → one ≡ get_or known place one → is_same_key key one.key ≡ true → put_fact (set known place record { key = one.key; fact = fact }) key one.fact ≡ known
put-back [] key fact place one lt others is on = absurd (omega arith)
put-back (k ∷ ks) key fact zero one lt others is on =
    rw on (ap (λ (first : Known). first ∷ ks) is)
put-back (k ∷ ks) key fact (suc place) one lt others is on =
    let off : is_same_key key k.key ≡ false = others 0 k (omega arith) in
    rw off (ap (λ (rest : List Known). k ∷ rest) (put-back ks key fact place one (omega arith) (λ j d h. others (suc j) d (omega arith)) is on))

-- the same place, read twice
read-twice : (known : List Known) (key : WorkKey) (place : ℕ) (read one : Known) → place < length known → read ≡ get_or known place read → one ≡ get_or known place one
    → is_same_key key read.key ≡ true → is_same_key key one.key ≡ true
read-twice known key place read one lt was is on =
    let same : one ≡ read = is ∙ (get_or_default known place one read lt ∙ sym was) in ap (λ (k : Known). is_same_key key k.key) same ∙ on

pub put-read : (known now : List Known) (key : WorkKey) (fact put : Fact) (place : ℕ) (read one : Known) → place < length known → known ≡ now → AreOther known key place
    → read ≡ get_or known place read → one ≡ get_or known place one → is_same_key key read.key ≡ true → put ≡ fact
    → set known place record { key = one.key; fact = put } ≡ put_fact now key fact
put-read known now key fact put place read one lt same others was is on gives =
    ap (λ (f : Fact). set known place record { key = one.key; fact = f }) gives
    ∙ (sym (put-at known key fact place one lt others is (read-twice known key place read one lt was is on)) ∙ ap (λ ks. put_fact ks key fact) same)

pub put-back-read : (known now : List Known) (key : WorkKey) (put before : Fact) (place : ℕ) (read one : Known) → place < length known → known ≡ now → AreOther known key place
    → read ≡ get_or known place read → one ≡ get_or known place one → is_same_key key read.key ≡ true → before ≡ one.fact
    → put_fact (set known place record { key = one.key; fact = put }) key before ≡ now
put-back-read known now key put before place read one lt same others was is on gives =
    ap (put_fact (set known place record { key = one.key; fact = put }) key) gives
    ∙ (put-back known key put place one lt others is (read-twice known key place read one lt was is on) ∙ same)
