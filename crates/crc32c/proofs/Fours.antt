-- Four bytes at a time.
use Rattle.std.proofs.Common.{◌≡◌, ℕ, ◌+◌, ◌-◌, ◌*◌, ◌/◌, ◌%◌, ◌^◌, ◌<◌, ◌≤◌, List, [], ◌∷◌, length, get_or, take, drop, sym, ◌∙◌, ap, arith}
use Rattle.std.specs.Prelude.{bit_xor}
use Rattle.std.specs.Int.Bits.{xor_zero_r}
use Rattle.std.proofs.lemmas.Nat.{xor_comm}
use Rattle.std.proofs.lemmas.List.{take_all}
use Rattle.crc32c.specs.Check.{after_bits, after_byte, after_bytes}
use Rattle.crc32c.proofs.Linear.{xor_assoc, bits-linear, bits-shifted, bits-more, low-and-high, apart}

-- a byte, and then a number that is added to the state
joined : (n state byte more : ℕ) → byte < 2 ^ 8 → after_bits n (bit_xor (after_byte state byte) more) ≡ after_bits (8 + n) (bit_xor state (byte + more * 256))
unfolding after_byte
joined n state byte more less =
    let same : byte % 256 ≡ byte = omega arith in
    let sum : bit_xor byte (more * 2 ^ 8) ≡ byte + more * 256 = xor_comm byte (more * 2 ^ 8) ∙ apart more byte less ∙ omega arith in
    let both : bit_xor (after_bits 8 (bit_xor state (byte % 256))) more ≡ after_bits 8 (bit_xor state (byte + more * 256)) =
    (λ i. bit_xor (after_bits 8 (bit_xor state (same i))) (sym (bits-shifted 8 more) i))
    ∙ sym (bits-linear 8 (bit_xor state byte) (more * 2 ^ 8))
    ∙ ap (after_bits 8) (xor_assoc state byte (more * 2 ^ 8) ∙ ap (bit_xor state) sum) in
    ap (after_bits n) both ∙ sym (bits-more 8 n (bit_xor state (byte + more * 256)))

-- the steps of a number, by its low byte
peeled : (n x : ℕ) → after_bits (8 + n) x ≡ bit_xor (after_bits n (x / 256)) (after_bits (8 + n) (x % 256))
peeled n x =
    ap (after_bits (8 + n)) (sym (low-and-high x))
    ∙ bits-linear (8 + n) (x / 256 * 2 ^ 8) (x % 256)
    ∙ ap (λ (v : ℕ). bit_xor v (after_bits (8 + n) (x % 256)))
    (bits-more 8 n (x / 256 * 2 ^ 8) ∙ ap (after_bits n) (bits-shifted 8 (x / 256)))

pub spread : (m w : ℕ) → bit_xor (bit_xor (bit_xor (after_bits (8 + m) (w / 16777216)) (after_bits (8 + (8 + m)) (w / 65536 % 256))) (after_bits (8 + (8 + (8 + m))) (w / 256 % 256))) (after_bits (8 + (8 + (8 + (8 + m)))) (w % 256))
    ≡ after_bits (8 + (8 + (8 + (8 + m)))) w
spread m w =
    let third : w / 65536 / 256 ≡ w / 16777216 = omega arith in
    let second : w / 256 / 256 ≡ w / 65536 = omega arith in
    sym (
    peeled (8 + (8 + (8 + m))) w
    ∙ ap (λ (v : ℕ). bit_xor v (after_bits (8 + (8 + (8 + (8 + m)))) (w % 256)))
    (peeled (8 + (8 + m)) (w / 256)
    ∙ ap (λ (v : ℕ). bit_xor v (after_bits (8 + (8 + (8 + m))) (w / 256 % 256)))
    (ap (after_bits (8 + (8 + m))) second ∙ peeled (8 + m) (w / 65536) ∙ ap (λ (v : ℕ). bit_xor (after_bits (8 + m) v) (after_bits (8 + (8 + m)) (w / 65536 % 256))) third))
    )

together : (state a b c d : ℕ) → a < 2 ^ 8 → b < 2 ^ 8 → c < 2 ^ 8 → d < 2 ^ 8
    → after_bytes state (a ∷ b ∷ c ∷ d ∷ []) ≡ after_bits 32 (bit_xor state (a + (b + (c + d * 256) * 256) * 256))
together state a b c d as_ bs cs ds =
    let one = after_byte state a in
    let two = after_byte one b in
    let three = after_byte two c in
    let last : d + 0 * 256 ≡ d = omega arith in
    sym (xor_zero_r (after_byte three d))
    ∙ joined 0 three d 0 ds
    ∙ ap (λ (v : ℕ). after_bits 8 (bit_xor three v)) last
    ∙ joined 8 two c d cs
    ∙ joined 16 one b (c + d * 256) bs
    ∙ joined 24 state a (b + (c + d * 256) * 256) as_

pub four-by : (state a b c d : ℕ) → a < 2 ^ 8 → b < 2 ^ 8 → c < 2 ^ 8 → d < 2 ^ 8
    → after_bits 32 (bit_xor state (a + (b + (c + d * 256) * 256) * 256)) ≡ after_bytes state (a ∷ b ∷ c ∷ d ∷ [])
four-by state a b c d as_ bs cs ds = sym (together state a b c d as_ bs cs ds)

-- eight bytes: the first four are shifted out by 64 bits, and the others by 32
pub eight-by : (state first second : ℕ) → bit_xor (after_bits 64 (bit_xor state first)) (after_bits 32 second) ≡ after_bits 32 (bit_xor (after_bits 32 (bit_xor state first)) second)
eight-by state first second =
    ap (λ (v : ℕ). bit_xor v (after_bits 32 second)) (bits-more 32 32 (bit_xor state first)) ∙ sym (bits-linear 32 (after_bits 32 (bit_xor state first)) second)

abbrev pub at : List ℕ → ℕ → ℕ
at bytes n = get_or bytes n 0

-- the first four of some bytes, and the others
pub split-four : (bytes : List ℕ) → 4 ≤ length bytes → at bytes 0 ∷ at bytes 1 ∷ at bytes 2 ∷ at bytes 3 ∷ take (length bytes - 4) (drop 4 bytes) ≡ bytes
split-four [] some = absurd (omega (arith, some))
split-four (a ∷ []) some = absurd (omega (arith, some))
split-four (a ∷ b ∷ []) some = absurd (omega (arith, some))
split-four (a ∷ b ∷ c ∷ []) some = absurd (omega (arith, some))
split-four (a ∷ b ∷ c ∷ d ∷ bytes) some =
    ap (λ (xs : List ℕ). a ∷ b ∷ c ∷ d ∷ xs) (take_all (length (a ∷ b ∷ c ∷ d ∷ bytes) - 4) bytes (omega arith))

-- the first eight of some bytes, and the others
pub split-eight : (bytes : List ℕ) → 8 ≤ length bytes → at bytes 0 ∷ at bytes 1 ∷ at bytes 2 ∷ at bytes 3 ∷ at bytes 4 ∷ at bytes 5 ∷ at bytes 6 ∷ at bytes 7 ∷ take (length bytes - 8) (drop 8 bytes) ≡ bytes
split-eight [] some = absurd (omega (arith, some))
split-eight (a ∷ []) some = absurd (omega (arith, some))
split-eight (a ∷ b ∷ []) some = absurd (omega (arith, some))
split-eight (a ∷ b ∷ c ∷ []) some = absurd (omega (arith, some))
split-eight (a ∷ b ∷ c ∷ d ∷ []) some = absurd (omega (arith, some))
split-eight (a ∷ b ∷ c ∷ d ∷ e ∷ []) some = absurd (omega (arith, some))
split-eight (a ∷ b ∷ c ∷ d ∷ e ∷ f ∷ []) some = absurd (omega (arith, some))
split-eight (a ∷ b ∷ c ∷ d ∷ e ∷ f ∷ g ∷ []) some = absurd (omega (arith, some))
split-eight (a ∷ b ∷ c ∷ d ∷ e ∷ f ∷ g ∷ h ∷ bytes) some =
    ap (λ (xs : List ℕ). a ∷ b ∷ c ∷ d ∷ e ∷ f ∷ g ∷ h ∷ xs) (take_all (length (a ∷ b ∷ c ∷ d ∷ e ∷ f ∷ g ∷ h ∷ bytes) - 8) bytes (omega arith))
