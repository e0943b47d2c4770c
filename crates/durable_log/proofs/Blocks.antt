-- What blocks of records are read as.
use Rattle.std.proofs.Common.{◌≡◌, ℕ, zero, suc, ◌<◌, ◌≤◌, ◌^◌, List, [], ◌∷◌, ◌++◌, length, Bool, true, false, refl, ◌∙◌, ap, arith, append_assoc, length-append}
use Rattle.std.specs.Prelude.{nat_lt, if◌then◌else◌}
use Rattle.std.proofs.lemmas.Bool.Decides.{nat_tests}
use Rattle.durable_log.specs.declared.link.Link.{Link}
use Rattle.durable_log.specs.Format.{LogRecord, max_batch, link_after, links_after, Next, End, Damaged, Found, Behind, after_front, after_gate, next, whole, with_record, then_read, read_within, read, prepended, frame, blocks, shut, is_open}
use Rattle.durable_log.specs.Logs.{AreSmall}
use Rattle.durable_log.proofs.Links.{IsLink, next-fits}
use Rattle.durable_log.proofs.Places.{front-reads, front-found, gate-reads}

-- what is read leaves less behind it
abbrev pub IsShorter : Next → ℕ → Type 0
IsShorter End n = Unit {0}
IsShorter Damaged n = Unit {0}
IsShorter (Found r link rest) n = length rest < n

front-shorter : (link : Link) (bytes : List ℕ) (k : ℕ) → length bytes < k → (x : Next) → after_front link bytes ≡ x → IsShorter x k
front-shorter link bytes k less End is = tt
front-shorter link bytes k less Damaged is = tt
front-shorter link bytes k less (Found r after rest) is =
    let f = front-found link bytes r after rest is in
    omega (arith, less, ap length f.split, length-append (frame link r) rest)

gate-shorter : (link : Link) (opens : Bool) (rest : List ℕ) (k : ℕ) → length rest < k → IsShorter (after_gate link (Behind opens rest)) k
gate-shorter link false rest k less = elim (nat_lt max_batch (length rest)) as (λ v. IsShorter (if v then Damaged else End) k) [ true ↦ tt | false ↦ tt ]
gate-shorter link true rest k less = front-shorter link rest k less (after_front link rest) refl

pub next-shorter : (link : Link) (bytes : List ℕ) → IsShorter (next link bytes) (length bytes)
unfolding next
next-shorter link [] = tt
next-shorter link (a ∷ []) = tt
next-shorter link (a ∷ b ∷ []) = tt
next-shorter link (a ∷ b ∷ c ∷ rest) = gate-shorter link (is_open a b c) rest (length (a ∷ b ∷ c ∷ rest)) (omega arith)

-- more records than there are bytes are not needed
enough : (n m : ℕ) (link : Link) (bytes : List ℕ) → length bytes ≤ n → length bytes ≤ m → read_within n link bytes ≡ read_within m link bytes
unfolding next
enough zero zero link bytes le le' = refl
enough zero (suc m) link [] le le' = refl
enough zero (suc m) link (b ∷ bytes) le le' = absurd (omega arith)
enough (suc n) zero link [] le le' = refl
enough (suc n) zero link (b ∷ bytes) le le' = absurd (omega arith)
enough (suc n) (suc m) link bytes le le' =
    (elim (next link bytes) as (λ x. IsShorter x (length bytes) → then_read (read_within n) x ≡ then_read (read_within m) x) [
      | End ↦ λ _. refl
      | Damaged ↦ λ _. refl
      | Found r after rest ↦ λ less. ap (with_record r) (enough n m after rest (omega (arith, less)) (omega (arith, less)))
    ]) (next-shorter link bytes)

-- THE STEP OF READING
pub read-step : (link : Link) (bytes : List ℕ) → read link bytes ≡ then_read read (next link bytes)
unfolding read
read-step link bytes =
    enough (length bytes) (suc (length bytes)) link bytes (omega arith) (omega arith)
    ∙ (elim (next link bytes) as (λ x. IsShorter x (length bytes) → then_read (read_within (length bytes)) x ≡ then_read read x) [
      | End ↦ λ _. refl
      | Damaged ↦ λ _. refl
      | Found r after rest ↦ λ less. ap (with_record r) (enough (length bytes) (length rest) after rest (omega (arith, less)) (omega arith))
    ]) (next-shorter link bytes)

-- a block is read as its record
pub read-block : (link : Link) (a b c : ℕ) (r : LogRecord) (x : List ℕ) → is_open a b c ≡ true → length r.line < 2 ^ 32 → r.reply_check < 2 ^ 32 → IsLink link
    → read link (a ∷ b ∷ c ∷ (frame link r ++ x)) ≡ with_record r (read (link_after link r) x)
read-block link a b c r x opens small reply_small fits =
    read-step link (a ∷ b ∷ c ∷ (frame link r ++ x))
    ∙ ap (then_read read) (gate-reads link a b c (frame link r ++ x) opens ∙ front-reads link r x small reply_small fits)

-- records behind open gates, and then whatever the rest stands for
pub read-blocks : (link : Link) (records : List LogRecord) (x : List ℕ) → AreSmall records → IsLink link
    → read link (blocks link records ++ x) ≡ prepended records (read (links_after link records) x)
read-blocks link [] x small fits = refl
read-blocks link (r ∷ records) x small fits =
    ap (λ (l : List ℕ). read link (49 ∷ 49 ∷ 49 ∷ l)) (append_assoc (frame link r) (blocks (link_after link r) records) x)
    ∙ read-block link 49 49 49 r (blocks (link_after link r) records ++ x) refl small.0 small.1 fits
    ∙ ap (with_record r) (read-blocks (link_after link r) records x small.2 (next-fits link r fits))

pub read-end : (link : Link) (bytes : List ℕ) → next link bytes ≡ End → read link bytes ≡ whole []
read-end link bytes ends = read-step link bytes ∙ ap (then_read read) ends

not-less : (n m : ℕ) → m ≤ n → nat_lt n m ≡ false
not-less n m le = grind (arith, nat_tests)

-- a gate that is not open ends them, whatever a batch may leave behind it
pub next-not_open : (link : Link) (a b c : ℕ) (x : List ℕ) → is_open a b c ≡ false → length x ≤ max_batch → next link (a ∷ b ∷ c ∷ x) ≡ End
unfolding next
next-not_open link a b c x is few =
    ap (λ (v : Bool). after_gate link (Behind v x)) is ∙ ap (λ (v : Bool). if v then Damaged else End) (not-less max_batch (length x) few)

pub read-shut : (link : Link) (x : List ℕ) → length x ≤ max_batch → read link (shut ++ x) ≡ whole []
read-shut link x few = read-end link (shut ++ x) (next-not_open link 48 48 48 x refl few)

-- nothing stands behind the last gate
pub read-last : (link : Link) → read link shut ≡ whole []
read-last link = read-shut link [] (omega arith)

-- at most three bytes stand for nothing
pub next-few : (link : Link) (bytes : List ℕ) → length bytes ≤ 3 → next link bytes ≡ End
unfolding next
next-few link [] few = refl
next-few link (a ∷ []) few = refl
next-few link (a ∷ b ∷ []) few = refl
next-few link (a ∷ b ∷ c ∷ []) few = elim (is_open a b c) as (λ v. after_gate link (Behind v []) ≡ End) [ true ↦ refl | false ↦ refl ]
next-few link (a ∷ b ∷ c ∷ d ∷ bytes) few = absurd (omega arith)
