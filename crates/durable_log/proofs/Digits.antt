-- The values of digits, by their table.
use Rattle.std.proofs.Common.{◌≡◌, ℕ, zero, suc, ◌+◌, ◌*◌, ◌/◌, ◌%◌, ◌<◌, ◌≤◌, List, [], ◌∷◌, Bool, true, false, None, Some, get_or, refl, sym, ◌∙◌, ap, arith}
use Rattle.std.specs.Prelude.{◌==◌, ◌&&◌, if◌then◌else◌}
use Rattle.durable_log.specs.Format.{digit, value, half, is_half}
use Rattle.durable_log.specs.declared.columns.TheConstants.{DIGITS, VALUES}
use Rattle.durable_log.proofs.Numbers.{value-small}

-- the entry of a byte: its value, if it is a digit, and else 16
abbrev pub entry : ℕ → ℕ
entry b = if b == digit (value b) then value b else 16

-- the entries of so many bytes, from this one on
entries : ℕ → ℕ → List ℕ
entries zero b = []
entries (suc n) b = entry b ∷ entries n (b + 1)

entries-at : (n b k : ℕ) → k < n → get_or (entries n b) k 0 ≡ entry (b + k)
unfolding entries
entries-at zero b k less = absurd (omega arith)
entries-at (suc n) b zero less = let same : b ≡ b + 0 = omega arith in ap entry same
entries-at (suc n) b (suc k) less =
    let same : b + 1 + k ≡ b + suc k = omega arith in
    entries-at n (b + 1) k (omega arith) ∙ ap entry same

table : VALUES ≡ entries 256 0
unfolding entries
table = refl

pub at : (b : ℕ) → b < 256 → get_or VALUES b 0 ≡ entry b
at b less =
    let same : 0 + b ≡ b = omega arith in
    ap (λ (l : List ℕ). get_or l b 0) table ∙ entries-at 256 0 b less ∙ ap entry same

-- the digits of so many values, from this one on
written : ℕ → ℕ → List ℕ
written zero d = []
written (suc n) d = digit d ∷ written n (d + 1)

written-at : (n d k : ℕ) → k < n → get_or (written n d) k 0 ≡ digit (d + k)
unfolding written
written-at zero d k less = absurd (omega arith)
written-at (suc n) d zero less = let same : d ≡ d + 0 = omega arith in ap digit same
written-at (suc n) d (suc k) less =
    let same : d + 1 + k ≡ d + suc k = omega arith in
    written-at n (d + 1) k (omega arith) ∙ ap digit same

all-digits : DIGITS ≡ written 16 0
unfolding written
all-digits = refl

pub digit-at : (d : ℕ) → d < 16 → get_or DIGITS d 0 ≡ digit d
digit-at d less =
    let same : 0 + d ≡ d = omega arith in
    ap (λ (l : List ℕ). get_or l d 0) all-digits ∙ written-at 16 0 d less ∙ ap digit same

-- the digits of a half are those of its four values
pub by-values : (a b c d : ℕ) → is_half (half a b c d) a b c d ≡ (a == digit (value a) && (b == digit (value b) && (c == digit (value c) && d == digit (value d))))
by-values a b c d =
    let as_ = value-small a in
    let bs = value-small b in
    let cs = value-small c in
    let ds = value-small d in
    let one : half a b c d / 4096 % 16 ≡ value a = omega (arith, as_, bs, cs, ds) in
    let two : half a b c d / 256 % 16 ≡ value b = omega (arith, as_, bs, cs, ds) in
    let three : half a b c d / 16 % 16 ≡ value c = omega (arith, as_, bs, cs, ds) in
    let four : half a b c d % 16 ≡ value d = omega (arith, as_, bs, cs, ds) in
    λ i. a == digit (one i) && (b == digit (two i) && (c == digit (three i) && d == digit (four i)))

-- an entry below 16 is the value of a digit
below : (same : Bool) (v : ℕ) → (if same then v else 16) < 16 → (same ≡ true) × ((if same then v else 16) ≡ v)
below true v less = (refl, refl)
below false v less = absurd (omega (arith, less))

above : (same : Bool) (v : ℕ) → v < 16 → 16 ≤ (if same then v else 16) → same ≡ false
above true v small more = absurd (omega (arith, small, more))
above false v small more = refl

pub found : (b n v : ℕ) → b < 256 → n ≡ b → v ≡ get_or VALUES n 0 → get_or VALUES n 0 < 16 → Some v ≡ (if b == digit (value b) then Some (value b) else None)
found b n v less is has small =
    let e : v ≡ entry b = has ∙ ap (λ (k : ℕ). get_or VALUES k 0) is ∙ at b less in
    let two = below (b == digit (value b)) (value b) (omega (arith, e, has, small)) in
    ap Some (e ∙ two.1) ∙ ap (λ (same : Bool). if same then Some (value b) else None) (sym two.0)

pub missing : (b n : ℕ) → b < 256 → n ≡ b → 16 ≤ get_or VALUES n 0 → None ≡ (if b == digit (value b) then Some (value b) else None)
missing b n less is more =
    let e : get_or VALUES n 0 ≡ entry b = ap (λ (k : ℕ). get_or VALUES k 0) is ∙ at b less in
    ap (λ (same : Bool). if same then Some (value b) else None) (sym (above (b == digit (value b)) (value b) (value-small b) (omega (arith, e, more))))

-- a value that was read is that of a digit
pub read : (same : Bool) (v w : ℕ) → Some v ≡ (if same then Some w else None) → (same ≡ true) × (v ≡ w)
read true v w is = (refl, grind (arith, is))
read false v w is = absurd (grind (arith, is))

pub unread : (same : Bool) (w : ℕ) → None ≡ (if same then Some w else None) → same ≡ false
unread true w is = absurd (grind (arith, is))
unread false w is = refl

-- four bytes of which the last is no digit
pub no-fourth : (a b c d : ℕ) → None ≡ (if d == digit (value d) then Some (value d) else None) → None ≡ (if is_half (half a b c d) a b c d then Some (half a b c d) else None)
no-fourth a b c d is =
    let last = unread (d == digit (value d)) (value d) is in
    ap (λ (same : Bool). if same then Some (half a b c d) else None)
    (sym (by-values a b c d ∙ ap (λ (same : Bool). a == digit (value a) && (b == digit (value b) && (c == digit (value c) && same))) last
    ∙ none (a == digit (value a)) (b == digit (value b)) (c == digit (value c))))
  where
    none : (x y z : Bool) → (x && (y && (z && false))) ≡ false
    none false y z = refl
    none true false z = refl
    none true true false = refl
    none true true true = refl

-- four digits
pub four-digits : (a b c d p q r s : ℕ) → Some p ≡ (if a == digit (value a) then Some (value a) else None) → Some q ≡ (if b == digit (value b) then Some (value b) else None)
    → Some r ≡ (if c == digit (value c) then Some (value c) else None) → Some s ≡ (if d == digit (value d) then Some (value d) else None)
    → Some (((p * 16 + q) * 16 + r) * 16 + s) ≡ (if is_half (half a b c d) a b c d then Some (half a b c d) else None)
four-digits a b c d p q r s as_ bs cs ds =
    let one = read (a == digit (value a)) p (value a) as_ in
    let two = read (b == digit (value b)) q (value b) bs in
    let three = read (c == digit (value c)) r (value c) cs in
    let four = read (d == digit (value d)) s (value d) ds in
    (λ i. Some (((one.1 i * 16 + two.1 i) * 16 + three.1 i) * 16 + four.1 i))
    ∙ ap (λ (same : Bool). if same then Some (half a b c d) else None)
    (sym (by-values a b c d ∙ (λ i. one.0 i && (two.0 i && (three.0 i && four.0 i)))))
