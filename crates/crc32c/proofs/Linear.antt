-- A step of the state is linear: the state after a sum is the sum of the states.
use Rattle.std.proofs.Common.{◌≡◌, ℕ, zero, suc, ◌+◌, ◌*◌, ◌/◌, ◌%◌, ◌^◌, ◌<◌, refl, sym, ◌∙◌, ap, arith}
use Rattle.std.specs.Prelude.{◌==◌, bit_xor, if◌then◌else◌}
use Rattle.std.specs.Int.Bits.{xor_self, xor_zero_l, xor_zero_r}
use Rattle.std.specs.Int.{bit_at}
use Rattle.std.proofs.Math.Nat.{pow-suc, mul_assoc}
use Rattle.std.proofs.lemmas.Nat.{xor_comm, xor_of_8, xor_shr, xor_mod, xor_block}
use Rattle.std.proofs.lemmas.Nat.Bits.{bit_at_xor, same_from_bits}
use Rattle.crc32c.specs.Check.{polynomial, after_bit, after_bits, after_byte}

sum_assoc : (x y z : ℕ) → ((x + y) % 2 + z) % 2 ≡ (x + (y + z) % 2) % 2
sum_assoc x y z = omega arith

pub xor_assoc : (a b c : ℕ) → bit_xor (bit_xor a b) c ≡ bit_xor a (bit_xor b c)
xor_assoc a b c = same_from_bits (bit_xor (bit_xor a b) c) (bit_xor a (bit_xor b c)) (
    λ i. bit_at_xor (bit_xor a b) c i ∙ ap (λ (v : ℕ). (v + bit_at c i) % 2) (bit_at_xor a b i)
    ∙ sum_assoc (bit_at a i) (bit_at b i) (bit_at c i)
    ∙ ap (λ (v : ℕ). (bit_at a i + v) % 2) (sym (bit_at_xor b c i)) ∙ sym (bit_at_xor a (bit_xor b c) i)
    )

pub xor_pairs : (a b c d : ℕ) → bit_xor (bit_xor a b) (bit_xor c d) ≡ bit_xor (bit_xor a c) (bit_xor b d)
xor_pairs a b c d =
    xor_assoc a b (bit_xor c d)
    ∙ ap (bit_xor a) (sym (xor_assoc b c d) ∙ ap (λ (v : ℕ). bit_xor v d) (xor_comm b c) ∙ xor_assoc c b d)
    ∙ sym (xor_assoc a c (bit_xor b d))

pub xor_twice : (a b : ℕ) → bit_xor (bit_xor a b) b ≡ a
xor_twice a b = xor_assoc a b b ∙ ap (bit_xor a) (xor_self b) ∙ xor_zero_r a

-- what was added to both may be left out
pub xor_cancel : (a b c : ℕ) → bit_xor a c ≡ bit_xor b c → a ≡ b
xor_cancel a b c is = sym (xor_twice a c) ∙ ap (λ (v : ℕ). bit_xor v c) is ∙ xor_twice b c

bit-by : (half rest : ℕ) → rest < 2 → (if rest == 1 then bit_xor half polynomial else half) ≡ bit_xor half (rest * polynomial)
bit-by half zero less = sym (xor_zero_r half)
bit-by half (suc zero) less = refl
bit-by half (suc (suc rest)) less = absurd (omega arith)

pub bit-is : (state : ℕ) → after_bit state ≡ bit_xor (state / 2) (state % 2 * polynomial)
unfolding after_bit
bit-is state = bit-by (state / 2) (state % 2) (omega arith)

times : (x y : ℕ) → x < 2 → y < 2 → bit_xor x y * polynomial ≡ bit_xor (x * polynomial) (y * polynomial)
times zero zero xs ys = refl
times zero (suc zero) xs ys = refl
times (suc zero) zero xs ys = refl
times (suc zero) (suc zero) xs ys = refl
times (suc (suc x)) y xs ys = absurd (omega arith)
times x (suc (suc y)) xs ys = absurd (omega arith)

pub bit-linear : (a b : ℕ) → after_bit (bit_xor a b) ≡ bit_xor (after_bit a) (after_bit b)
bit-linear a b =
    bit-is (bit_xor a b)
    ∙ (λ i. bit_xor (xor_shr a b 1 i) (xor_mod a b 1 i * polynomial))
    ∙ ap (bit_xor (bit_xor (a / 2) (b / 2))) (times (a % 2) (b % 2) (omega arith) (omega arith))
    ∙ xor_pairs (a / 2) (b / 2) (a % 2 * polynomial) (b % 2 * polynomial)
    ∙ (λ i. bit_xor (sym (bit-is a) i) (sym (bit-is b) i))

pub bits-linear : (n a b : ℕ) → after_bits n (bit_xor a b) ≡ bit_xor (after_bits n a) (after_bits n b)
bits-linear zero a b = refl
bits-linear (suc n) a b = ap (after_bits n) (bit-linear a b) ∙ bits-linear n (after_bit a) (after_bit b)

-- zeros that are shifted out add nothing
even : (n m : ℕ) → n ≡ m * 2 → after_bit n ≡ m
even n m is =
    let half : n / 2 ≡ m = omega arith in
    let rest : n % 2 ≡ 0 = omega arith in
    bit-is n ∙ (λ i. bit_xor (half i) (rest i * polynomial)) ∙ xor_zero_r m

pub bits-shifted : (n m : ℕ) → after_bits n (m * 2 ^ n) ≡ m
bits-shifted zero m = omega arith
bits-shifted (suc n) m =
    let twice : 2 ^ suc n ≡ 2 ^ n * 2 = pow-suc 2 n in
    let more : m * 2 ^ suc n ≡ m * 2 ^ n * 2 = ap (λ (k : ℕ). m * k) twice ∙ sym (mul_assoc m (2 ^ n) 2) in
    ap (after_bits n) (even (m * 2 ^ suc n) (m * 2 ^ n) more) ∙ bits-shifted n m

pub bits-more : (n m state : ℕ) → after_bits (n + m) state ≡ after_bits m (after_bits n state)
bits-more zero m state =
    let same : 0 + m ≡ m = omega arith in
    ap (λ (k : ℕ). after_bits k state) same
bits-more (suc n) m state =
    let more : suc n + m ≡ suc (n + m) = omega arith in
    ap (λ (k : ℕ). after_bits k state) more ∙ bits-more n m (after_bit state)

-- numbers without a bit in common are added bit by bit
pub apart : (high low : ℕ) → low < 2 ^ 8 → bit_xor (high * 2 ^ 8) low ≡ high * 256 + low
apart high low less =
    let over : high * 2 ^ 8 ≡ high * 2 ^ 8 + 0 = omega arith in
    let under : low ≡ 0 * 2 ^ 8 + low = omega arith in
    (λ i. bit_xor (over i) (under i))
    ∙ xor_block 8 high 0 0 low (omega arith) less
    ∙ (λ i. xor_zero_r high i * 2 ^ 8 + xor_zero_l low i)

-- a number is the sum of its high bits and its low bits
pub low-and-high : (state : ℕ) → bit_xor (state / 256 * 2 ^ 8) (state % 256) ≡ state
low-and-high state = apart (state / 256) (state % 256) (omega arith) ∙ omega arith

-- eight steps, by the low byte
pub eight-steps : (state : ℕ) → after_bits 8 state ≡ bit_xor (state / 256) (after_bits 8 (state % 256))
eight-steps state =
    ap (after_bits 8) (sym (low-and-high state))
    ∙ bits-linear 8 (state / 256 * 2 ^ 8) (state % 256)
    ∙ ap (λ (v : ℕ). bit_xor v (after_bits 8 (state % 256))) (bits-shifted 8 (state / 256))

-- a byte more, by the state after the lowest byte
pub byte-by : (state byte low : ℕ) → byte < 2 ^ 8 → low ≡ bit_xor (state % 256) byte → bit_xor (state / 256) (after_bits 8 low) ≡ after_byte state byte
unfolding after_byte
byte-by state byte low less is =
    let same : byte % 256 ≡ byte = omega arith in
    let none : byte / 256 ≡ 0 = omega arith in
    let sum = bit_xor state (byte % 256) in
    let high : sum / 256 ≡ state / 256 = ap (λ (v : ℕ). bit_xor state v / 256) same ∙ xor_shr state byte 8 ∙ ap (bit_xor (state / 256)) none ∙ xor_zero_r (state / 256) in
    let rest : sum % 256 ≡ low = ap (λ (v : ℕ). bit_xor state v % 256) same ∙ xor_mod state byte 8 ∙ ap (bit_xor (state % 256)) same ∙ sym is in
    (λ i. bit_xor (sym high i) (after_bits 8 (sym rest i))) ∙ sym (eight-steps sum)

pub low-small : (state byte low : ℕ) → byte < 2 ^ 8 → low ≡ bit_xor (state % 256) byte → low < 256
low-small state byte low less is = let small = xor_of_8 (state % 256) byte (omega arith) less in omega (arith, small, is)
