-- Checks that differ stay apart.
use Rattle.std.proofs.Common.{◌≡◌, ℕ, zero, suc, ◌+◌, ◌*◌, ◌/◌, ◌%◌, ◌^◌, ◌<◌, List, [], ◌∷◌, ◌++◌, refl, sym, ◌∙◌, ap, arith}
use Rattle.std.specs.Prelude.{bit_xor}
use Rattle.std.specs.Int.{bit_at}
use Rattle.std.proofs.lemmas.Nat.{xor_comm, xor_lt}
use Rattle.std.proofs.lemmas.Nat.Bits.{bit_at_xor, bit_at_above}
use Rattle.crc32c.specs.Check.{polynomial, after_bit, after_bits, after_byte, after_bytes, inverted, check_after, check_of}
use Rattle.crc32c.proofs.Linear.{xor_cancel, xor_twice, bit-is}

-- a state has 32 bits

times-small : (x : ℕ) → x < 2 → x * polynomial < 2 ^ 32
times-small x less = omega arith

bit-small : (state : ℕ) → state < 2 ^ 32 → after_bit state < 2 ^ 32
bit-small state small =
    let less = xor_lt 32 (state / 2) (state % 2 * polynomial) (omega arith) (times-small (state % 2) (omega arith)) in
    omega (arith, less, bit-is state)

pub bits-small : (n state : ℕ) → state < 2 ^ 32 → after_bits n state < 2 ^ 32
bits-small zero state small = small
bits-small (suc n) state small = bits-small n (after_bit state) (bit-small state small)

with-byte : (state byte : ℕ) → state < 2 ^ 32 → bit_xor state (byte % 256) < 2 ^ 32
with-byte state byte small = xor_lt 32 state (byte % 256) small (omega arith)

pub byte-small : (state byte : ℕ) → state < 2 ^ 32 → after_byte state byte < 2 ^ 32
unfolding after_byte
byte-small state byte small = bits-small 8 (bit_xor state (byte % 256)) (with-byte state byte small)

bytes-small : (state : ℕ) (bytes : List ℕ) → state < 2 ^ 32 → after_bytes state bytes < 2 ^ 32
bytes-small state [] small = small
bytes-small state (byte ∷ bytes) small = bytes-small (after_byte state byte) bytes (byte-small state byte small)

inverted-small : (state : ℕ) → state < 2 ^ 32 → inverted state < 2 ^ 32
inverted-small state small = xor_lt 32 state 0xFFFF_FFFF small (omega arith)

pub check-small : (check : ℕ) (bytes : List ℕ) → check < 2 ^ 32 → check_after check bytes < 2 ^ 32
unfolding check_after
check-small check bytes small = inverted-small (after_bytes (inverted check) bytes) (bytes-small (inverted check) bytes (inverted-small check small))

-- The highest bit of a state is the bit that was shifted out, since the polynomial has that bit.

highest : (half rest : ℕ) → half < 2 ^ 31 → rest < 2 → bit_at (bit_xor half (rest * polynomial)) 31 ≡ rest
highest half zero small less = bit_at_xor half 0 31 ∙ ap (λ (v : ℕ). (v + 0) % 2) (bit_at_above half 31 31 small (omega arith))
highest half (suc zero) small less = bit_at_xor half polynomial 31 ∙ ap (λ (v : ℕ). (v + 1) % 2) (bit_at_above half 31 31 small (omega arith))
highest half (suc (suc rest)) small less = absurd (omega arith)

shifted-out : (state : ℕ) → state < 2 ^ 32 → bit_at (after_bit state) 31 ≡ state % 2
shifted-out state small =
    ap (λ (v : ℕ). bit_at v 31) (bit-is state) ∙ highest (state / 2) (state % 2) (omega arith) (omega arith)

bit-same : (a b : ℕ) → a < 2 ^ 32 → b < 2 ^ 32 → after_bit a ≡ after_bit b → a ≡ b
bit-same a b as_ bs is =
    let rest : a % 2 ≡ b % 2 = sym (shifted-out a as_) ∙ ap (λ (v : ℕ). bit_at v 31) is ∙ shifted-out b bs in
    let halves : bit_xor (a / 2) (a % 2 * polynomial) ≡ bit_xor (b / 2) (a % 2 * polynomial) =
    sym (bit-is a) ∙ is ∙ bit-is b ∙ ap (λ (v : ℕ). bit_xor (b / 2) (v * polynomial)) (sym rest) in
    let half : a / 2 ≡ b / 2 = xor_cancel (a / 2) (b / 2) (a % 2 * polynomial) halves in
    omega arith

bits-same : (n a b : ℕ) → a < 2 ^ 32 → b < 2 ^ 32 → after_bits n a ≡ after_bits n b → a ≡ b
bits-same zero a b as_ bs is = is
bits-same (suc n) a b as_ bs is =
    bit-same a b as_ bs (bits-same n (after_bit a) (after_bit b) (bit-small a as_) (bit-small b bs) is)

state-same : (a b byte : ℕ) → a < 2 ^ 32 → b < 2 ^ 32 → after_byte a byte ≡ after_byte b byte → a ≡ b
unfolding after_byte
state-same a b byte as_ bs is =
    xor_cancel a b (byte % 256)
    (bits-same 8 (bit_xor a (byte % 256)) (bit_xor b (byte % 256)) (with-byte a byte as_) (with-byte b byte bs) is)

byte-same : (state a b : ℕ) → state < 2 ^ 32 → after_byte state a ≡ after_byte state b → a % 256 ≡ b % 256
unfolding after_byte
byte-same state a b small is =
    xor_cancel (a % 256) (b % 256) state
    (xor_comm (a % 256) state
    ∙ bits-same 8 (bit_xor state (a % 256)) (bit_xor state (b % 256)) (with-byte state a small) (with-byte state b small) is
    ∙ xor_comm state (b % 256))

states-same : (a b : ℕ) (bytes : List ℕ) → a < 2 ^ 32 → b < 2 ^ 32 → after_bytes a bytes ≡ after_bytes b bytes → a ≡ b
states-same a b [] as_ bs is = is
states-same a b (byte ∷ bytes) as_ bs is =
    state-same a b byte as_ bs
    (states-same (after_byte a byte) (after_byte b byte) bytes (byte-small a byte as_) (byte-small b byte bs) is)

bytes-same : (state : ℕ) (front back : List ℕ) (a b : ℕ) → state < 2 ^ 32
    → after_bytes state (front ++ a ∷ back) ≡ after_bytes state (front ++ b ∷ back) → a % 256 ≡ b % 256
bytes-same state [] back a b small is =
    byte-same state a b small (states-same (after_byte state a) (after_byte state b) back (byte-small state a small) (byte-small state b small) is)
bytes-same state (x ∷ front) back a b small is = bytes-same (after_byte state x) front back a b (byte-small state x small) is

inverted-same : (a b : ℕ) → inverted a ≡ inverted b → a ≡ b
inverted-same a b is = xor_cancel a b 0xFFFF_FFFF is

pub checks-same : (check other : ℕ) (bytes : List ℕ) → check < 2 ^ 32 → other < 2 ^ 32 → check_after check bytes ≡ check_after other bytes → check ≡ other
unfolding check_after
checks-same check other bytes small also is =
    inverted-same check other
    (states-same (inverted check) (inverted other) bytes (inverted-small check small) (inverted-small other also)
    (inverted-same (after_bytes (inverted check) bytes) (after_bytes (inverted other) bytes) is))

pub one-byte : (check : ℕ) (front back : List ℕ) (a b : ℕ) → check < 2 ^ 32 → a < 256 → b < 256
    → check_after check (front ++ a ∷ back) ≡ check_after check (front ++ b ∷ back) → a ≡ b
unfolding check_after
one-byte check front back a b small as_ bs is =
    let same : a % 256 ≡ b % 256 =
    bytes-same (inverted check) front back a b (inverted-small check small)
    (inverted-same (after_bytes (inverted check) (front ++ a ∷ back)) (after_bytes (inverted check) (front ++ b ∷ back)) is) in
    omega arith

-- bytes in parts

bytes-parts : (state : ℕ) (front back : List ℕ) → after_bytes state (front ++ back) ≡ after_bytes (after_bytes state front) back
bytes-parts state [] back = refl
bytes-parts state (x ∷ front) back = bytes-parts (after_byte state x) front back

inverted-twice : (state : ℕ) → inverted (inverted state) ≡ state
inverted-twice state = xor_twice state 0xFFFF_FFFF

pub parts : (check : ℕ) (front back : List ℕ) → check_after check (front ++ back) ≡ check_after (check_after check front) back
unfolding check_after
parts check front back =
    ap inverted
    (bytes-parts (inverted check) front back
    ∙ ap (λ (v : ℕ). after_bytes v back) (sym (inverted-twice (after_bytes (inverted check) front))))

pub known : check_of (49 ∷ 50 ∷ 51 ∷ 52 ∷ 53 ∷ 54 ∷ 55 ∷ 56 ∷ 57 ∷ []) ≡ 0xE306_9283
unfolding check_after after_byte after_bit
known = refl
