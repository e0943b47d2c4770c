-- Counts that are put by their names stand as those that are told in rising order.
use Rattle.std.proofs.Common.{◌≡◌, ◌==◌, ◌&&◌, ℕ, List, [], ◌∷◌, Bool, true, false, cond, not, map, filter, Ordering, Less, Equal, Greater, nat_cmp, refl, sym, ap, ◌∙◌, true≢false}
use Rattle.std.specs.Cmp.Lexicographic.{slice_cmp}
use Rattle.std.specs.Ordering.{match_ordering}
use Rattle.serde_json.specs.Data.{Data, object, Members, member, put}
use Rattle.batch_ids.specs.declared.metrics.Metrics.{Metrics}
use Rattle.batch_history.specs.declared.query.CountsByStatus.{CountsByStatus}
use Rattle.script_text.specs.Written.{count, with_members, is_shown, count_named, counts_data}
use Rattle.script_text.specs.Metrics.{metric_counts, metrics_data}
use Rattle.script_text.specs.Answers.{status_counts}
use Rattle.script_text.specs.Telling.{told_counts, rising_counts, rising_statuses}

abbrev Counts : Type 0
Counts = List (List ℕ × ℕ)

both : (a b : Bool) → (a && b) ≡ true → (a ≡ true) × (b ≡ true)
both true b h = (refl, h)
both false b h = absurd (true≢false (sym h))

abbrev is_less : Ordering → Bool
is_less Less = true
is_less Equal = false
is_less Greater = false

less-is : (o : Ordering) → is_less o ≡ true → o ≡ Less
less-is Less h = refl
less-is Equal h = absurd (true≢false (sym h))
less-is Greater h = absurd (true≢false (sym h))

-- whether a name is below each of these
abbrev below : List ℕ → Counts → Bool
below k [] = true
below k (named ∷ rest) = is_less (slice_cmp nat_cmp k named.0) && below k rest

-- whether a name has one place among these
abbrev fits : List ℕ → Counts → Bool
fits k [] = true
fits k (named ∷ rest) = match_ordering (slice_cmp nat_cmp k named.0) (below k rest) false (fits k rest)

-- a count in its place
abbrev inserted : List ℕ → ℕ → Counts → Counts
inserted k n [] = (k, n) ∷ []
inserted k n (named ∷ rest) = match_ordering (slice_cmp nat_cmp k named.0) ((k, n) ∷ named ∷ rest) ((k, n) ∷ rest) (named ∷ inserted k n rest)

abbrev put_if : List ℕ → ℕ → Members → Members
put_if k n ms = cond (n == 0) ms (put k (count n) ms)

front_at : (k : List ℕ) (d : Data) (named : List ℕ × ℕ) (rest : Counts) (b : Bool) → slice_cmp nat_cmp k named.0 ≡ Less
    → put k d (told_counts rest) ≡ member k d (told_counts rest)
    → put k d (cond b (told_counts rest) (member named.0 (count named.1) (told_counts rest))) ≡ member k d (cond b (told_counts rest) (member named.0 (count named.1) (told_counts rest)))
front_at k d named rest true is later = later
front_at k d named rest false is later =
    ap (λ o. match_ordering o (member k d (member named.0 (count named.1) (told_counts rest))) (member named.0 d (told_counts rest)) (member named.0 (count named.1) (put k d (told_counts rest)))) is

front : (k : List ℕ) (d : Data) (r : Counts) → below k r ≡ true → put k d (told_counts r) ≡ member k d (told_counts r)
front k d [] h = refl
front k d (named ∷ rest) h =
    let parts = both (is_less (slice_cmp nat_cmp k named.0)) (below k rest) h in
    front_at k d named rest (named.1 == 0) (less-is (slice_cmp nat_cmp k named.0) parts.0) (front k d rest parts.1)

inside : (k : List ℕ) (n : ℕ) (named : List ℕ × ℕ) (y : Members) (b : Bool) → slice_cmp nat_cmp k named.0 ≡ Greater
    → cond b (member named.0 (count named.1) y) (put k (count n) (member named.0 (count named.1) y)) ≡ member named.0 (count named.1) (cond b y (put k (count n) y))
inside k n named y true is = refl
inside k n named y false is =
    ap (λ o. match_ordering o (member k (count n) (member named.0 (count named.1) y)) (member named.0 (count n) y) (member named.0 (count named.1) (put k (count n) y))) is

behind : (k : List ℕ) (n : ℕ) (named : List ℕ × ℕ) (rest : Counts) (b : Bool) → slice_cmp nat_cmp k named.0 ≡ Greater
    → put_if k n (told_counts rest) ≡ told_counts (inserted k n rest)
    → put_if k n (cond b (told_counts rest) (member named.0 (count named.1) (told_counts rest))) ≡ cond b (told_counts (inserted k n rest)) (member named.0 (count named.1) (told_counts (inserted k n rest)))
behind k n named rest true is later = later
behind k n named rest false is later = inside k n named (told_counts rest) (n == 0) is ∙ ap (member named.0 (count named.1)) later

placed_at : (k : List ℕ) (n : ℕ) (named : List ℕ × ℕ) (rest : Counts) (o : Ordering) → slice_cmp nat_cmp k named.0 ≡ o
    → match_ordering o (below k rest) false (fits k rest) ≡ true
    → (fits k rest ≡ true → put_if k n (told_counts rest) ≡ told_counts (inserted k n rest))
    → put_if k n (told_counts (named ∷ rest)) ≡ told_counts (match_ordering o ((k, n) ∷ named ∷ rest) ((k, n) ∷ rest) (named ∷ inserted k n rest))
placed_at k n named rest Less is h later =
    ap (λ ms. cond (n == 0) (told_counts (named ∷ rest)) ms) (front k (count n) (named ∷ rest) (ap (λ o. is_less o && below k rest) is ∙ h))
placed_at k n named rest Equal is h later = absurd (true≢false (sym h))
placed_at k n named rest Greater is h later = behind k n named rest (named.1 == 0) is (later h)

placed : (k : List ℕ) (n : ℕ) (r : Counts) → fits k r ≡ true → put_if k n (told_counts r) ≡ told_counts (inserted k n r)
placed k n [] h = refl
placed k n (named ∷ rest) h = placed_at k n named rest (slice_cmp nat_cmp k named.0) refl h (placed k n rest)

shown-next : (ms : Members) (named : List ℕ × ℕ) (rest : Counts) (b : Bool)
    → with_members ms (map count_named (cond (not b) (named ∷ filter is_shown rest) (filter is_shown rest)))
    ≡ with_members (cond b ms (put named.0 (count named.1) ms)) (map count_named (filter is_shown rest))
shown-next ms named rest true = refl
shown-next ms named rest false = refl

abbrev all_inserted : Counts → Counts → Counts
all_inserted r [] = r
all_inserted r (named ∷ rest) = all_inserted (inserted named.0 named.1 r) rest

abbrev all_fit : Counts → Counts → Bool
all_fit r [] = true
all_fit r (named ∷ rest) = fits named.0 r && all_fit (inserted named.0 named.1 r) rest

all_placed : (r counts : Counts) → all_fit r counts ≡ true → with_members (told_counts r) (map count_named (filter is_shown counts)) ≡ told_counts (all_inserted r counts)
all_placed r [] h = refl
all_placed r (named ∷ rest) h =
    let parts = both (fits named.0 r) (all_fit (inserted named.0 named.1 r) rest) h in
    shown-next (told_counts r) named rest (named.1 == 0)
    ∙ ap (λ ms. with_members ms (map count_named (filter is_shown rest))) (placed named.0 named.1 r parts.0)
    ∙ all_placed (inserted named.0 named.1 r) rest parts.1

pub metrics_rise : (m : Metrics) → object (told_counts (rising_counts m)) ≡ metrics_data m
metrics_rise m = sym (ap object (all_placed [] (metric_counts m) refl))

pub statuses_rise : (c : CountsByStatus) → object (told_counts (rising_statuses c)) ≡ counts_data (status_counts c)
statuses_rise c = sym (ap object (all_placed [] (status_counts c) refl))
