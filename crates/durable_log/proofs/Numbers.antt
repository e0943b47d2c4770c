-- Digits give back the number that they were made of, and a column that was read is one.
use Rattle.std.proofs.Common.{◌≡◌, ℕ, ◌+◌, ◌*◌, ◌/◌, ◌%◌, ◌^◌, ◌<◌, List, [], ◌∷◌, ◌++◌, Bool, true, false, refl, sym, ◌∙◌, ap, arith}
use Rattle.std.specs.Prelude.{◌==◌, ◌&&◌, if◌then◌else◌}
use Rattle.std.proofs.lemmas.Bool.Decides.{nat_tests}
use Rattle.durable_log.specs.Format.{digit, half_digits, digits, column, value, half, is_half, is_column, Absent, Number, column_by, column_of}

pub eq-same : (x : ℕ) → (x == x) ≡ true
eq-same x = grind (arith, nat_tests)

value-digit : (d : ℕ) → d < 16 → value (digit d) ≡ d
value-digit d small = grind (arith, nat_tests)

pub value-small : (b : ℕ) → value b < 16
value-small b = grind (arith, nat_tests)

half-of : (p q r s : ℕ) → p < 16 → q < 16 → r < 16 → s < 16 → ((p * 16 + q) * 16 + r) * 16 + s < 65536
half-of p q r s ps qs rs ss = omega arith

pub half-small : (a b c d : ℕ) → half a b c d < 65536
half-small a b c d = half-of (value a) (value b) (value c) (value d) (value-small a) (value-small b) (value-small c) (value-small d)

four-digits : (n : ℕ) → n < 65536 → ((n / 4096 % 16 * 16 + n / 256 % 16) * 16 + n / 16 % 16) * 16 + n % 16 ≡ n
four-digits n small = omega arith

half-digits : (n : ℕ) → n < 65536 → half (digit (n / 4096 % 16)) (digit (n / 256 % 16)) (digit (n / 16 % 16)) (digit (n % 16)) ≡ n
half-digits n small =
    let a : n / 4096 % 16 < 16 = omega arith in
    let b : n / 256 % 16 < 16 = omega arith in
    let c : n / 16 % 16 < 16 = omega arith in
    let d : n % 16 < 16 = omega arith in
    (λ i. ((value-digit (n / 4096 % 16) a i * 16 + value-digit (n / 256 % 16) b i) * 16 + value-digit (n / 16 % 16) c i) * 16 + value-digit (n % 16) d i)
    ∙ four-digits n small

half-same : (n : ℕ) → is_half n (digit (n / 4096 % 16)) (digit (n / 256 % 16)) (digit (n / 16 % 16)) (digit (n % 16)) ≡ true
half-same n = λ i. eq-same (digit (n / 4096 % 16)) i && (eq-same (digit (n / 256 % 16)) i && (eq-same (digit (n / 16 % 16)) i && eq-same (digit (n % 16)) i))

-- a column is read as its number
pub column-read : (n : ℕ) (rest : List ℕ) → n < 2 ^ 32 → column_of (column n rest) ≡ Number n rest
column-read n rest small = at (n / 65536) (n % 65536) (omega arith) (omega arith) ∙ ap (λ (k : ℕ). Number k rest) (omega arith)
  where
    at : (high low : ℕ) → high < 65536 → low < 65536 → column_of (half_digits high ++ (half_digits low ++ 32 ∷ rest)) ≡ Number (high * 65536 + low) rest
    at high low hs ls =
        (λ i. column_by (half-digits high hs i) (half-digits low ls i) (digit (high / 4096 % 16)) (digit (high / 256 % 16)) (digit (high / 16 % 16)) (digit (high % 16))
        (digit (low / 4096 % 16)) (digit (low / 256 % 16)) (digit (low / 16 % 16)) (digit (low % 16)) 32 rest)
        ∙ (λ i. if half-same high i && (half-same low i && true) then Number (high * 65536 + low) rest else Absent)

-- a column that was read is one
pub record ColumnFound (bytes : List ℕ) (n : ℕ) (rest : List ℕ) : Type 0 where
  pub is : bytes ≡ column n rest
  pub small : n < 2 ^ 32

four-same : (a b c d p q r s : ℕ) → (a == p && (b == q && (c == r && d == s))) ≡ true → (a ≡ p) × (b ≡ q) × (c ≡ r) × (d ≡ s)
four-same a b c d p q r s is = (grind (arith, nat_tests), grind (arith, nat_tests), grind (arith, nat_tests), grind (arith, nat_tests))

half-is : (n a b c d : ℕ) (rest : List ℕ) → is_half n a b c d ≡ true → a ∷ b ∷ c ∷ d ∷ rest ≡ half_digits n ++ rest
half-is n a b c d rest is =
    let same = four-same a b c d (digit (n / 4096 % 16)) (digit (n / 256 % 16)) (digit (n / 16 % 16)) (digit (n % 16)) is in
    λ i. same.0 i ∷ same.1 i ∷ same.2 i ∷ same.3 i ∷ rest

parts : (x y : Bool) (space : ℕ) → (x && (y && space == 32)) ≡ true → (x ≡ true) × (y ≡ true) × (space ≡ 32)
parts false y space is = absurd (cc)
parts true false space is = absurd (cc)
parts true true space is = (refl, refl, grind (arith, nat_tests))

column-by : (high low a b c d e f g h space : ℕ) (more : List ℕ) (v : Bool) (n : ℕ) (rest : List ℕ) → high < 65536 → low < 65536
    → is_column high low a b c d e f g h space ≡ v → (if v then Number (high * 65536 + low) more else Absent) ≡ Number n rest
    → ColumnFound (a ∷ b ∷ c ∷ d ∷ e ∷ f ∷ g ∷ h ∷ space ∷ more) n rest
column-by high low a b c d e f g h space more false n rest hs ls test is = absurd (cc)
column-by high low a b c d e f g h space more true n rest hs ls test is =
    let n_is : high * 65536 + low ≡ n = cc in
    let rest_is : more ≡ rest = cc in
    let p = parts (is_half high a b c d) (is_half low e f g h) space test in
    let high_is : high ≡ n / 65536 = omega (arith, n_is) in
    let low_is : low ≡ n % 65536 = omega (arith, n_is) in
    record {
      is = half-is high a b c d (e ∷ f ∷ g ∷ h ∷ space ∷ more) p.0
          ∙ ap (λ (l : List ℕ). half_digits high ++ l) (half-is low e f g h (space ∷ more) p.1)
          ∙ (λ i. half_digits (high_is i) ++ (half_digits (low_is i) ++ p.2 i ∷ rest_is i));
      small = omega (arith, n_is);
    }

pub column-found : (bytes : List ℕ) (n : ℕ) (rest : List ℕ) → column_of bytes ≡ Number n rest → ColumnFound bytes n rest
column-found (a ∷ b ∷ c ∷ d ∷ e ∷ f ∷ g ∷ h ∷ space ∷ more) n rest is =
    column-by (half a b c d) (half e f g h) a b c d e f g h space more (is_column (half a b c d) (half e f g h) a b c d e f g h space) n rest (half-small a b c d) (half-small e f g h) refl is
column-found bytes n rest is = absurd (cc)

-- numbers with the same digits are the same
pub digits-same : (n m : ℕ) → n < 2 ^ 32 → m < 2 ^ 32 → digits n ≡ digits m → n ≡ m
digits-same n m ns ms same = number-same (sym (column-read n [] ns) ∙ ap (λ (l : List ℕ). column_of (l ++ 32 ∷ [])) same ∙ column-read m [] ms)
  where
    number-same : Number n [] ≡ Number m [] → n ≡ m
    number-same is = cc
