-- The tables have the state after some bits, for each byte.
use Rattle.std.proofs.Common.{◌≡◌, ℕ, zero, suc, ◌+◌, ◌<◌, List, [], ◌∷◌, get_or, refl, ◌∙◌, ap, arith}
use Rattle.crc32c.specs.Check.{after_bit, after_bits}
use Rattle.crc32c.specs.declared.table.TheConstants.{AFTER_8, AFTER_16, AFTER_24, AFTER_32, AFTER_40, AFTER_48, AFTER_56, AFTER_64}

-- the states after some bits, from this byte on
states : ℕ → ℕ → ℕ → List ℕ
states bits zero byte = []
states bits (suc n) byte = after_bits bits byte ∷ states bits n (byte + 1)

states-at : (bits n byte k : ℕ) → k < n → get_or (states bits n byte) k 0 ≡ after_bits bits (byte + k)
unfolding states
states-at bits zero byte k less = absurd (omega arith)
states-at bits (suc n) byte zero less = let same : byte ≡ byte + 0 = omega arith in ap (after_bits bits) same
states-at bits (suc n) byte (suc k) less =
    let same : byte + 1 + k ≡ byte + suc k = omega arith in
    states-at bits n (byte + 1) k (omega arith) ∙ ap (after_bits bits) same

by-table : (table : List ℕ) (bits byte : ℕ) → table ≡ states bits 256 0 → byte < 256 → get_or table byte 0 ≡ after_bits bits byte
by-table table bits byte is less =
    let same : 0 + byte ≡ byte = omega arith in
    ap (λ (l : List ℕ). get_or l byte 0) is ∙ states-at bits 256 0 byte less ∙ ap (after_bits bits) same

table-8 : AFTER_8 ≡ states 8 256 0
unfolding states after_bit
table-8 = refl

table-16 : AFTER_16 ≡ states 16 256 0
unfolding states after_bit
table-16 = refl

table-24 : AFTER_24 ≡ states 24 256 0
unfolding states after_bit
table-24 = refl

table-32 : AFTER_32 ≡ states 32 256 0
unfolding states after_bit
table-32 = refl

table-40 : AFTER_40 ≡ states 40 256 0
unfolding states after_bit
table-40 = refl

table-48 : AFTER_48 ≡ states 48 256 0
unfolding states after_bit
table-48 = refl

table-56 : AFTER_56 ≡ states 56 256 0
unfolding states after_bit
table-56 = refl

table-64 : AFTER_64 ≡ states 64 256 0
unfolding states after_bit
table-64 = refl

pub at-8 : (byte : ℕ) → byte < 256 → get_or AFTER_8 byte 0 ≡ after_bits 8 byte
at-8 byte less = by-table AFTER_8 8 byte table-8 less

pub at-16 : (byte : ℕ) → byte < 256 → get_or AFTER_16 byte 0 ≡ after_bits 16 byte
at-16 byte less = by-table AFTER_16 16 byte table-16 less

pub at-24 : (byte : ℕ) → byte < 256 → get_or AFTER_24 byte 0 ≡ after_bits 24 byte
at-24 byte less = by-table AFTER_24 24 byte table-24 less

pub at-32 : (byte : ℕ) → byte < 256 → get_or AFTER_32 byte 0 ≡ after_bits 32 byte
at-32 byte less = by-table AFTER_32 32 byte table-32 less

pub at-40 : (byte : ℕ) → byte < 256 → get_or AFTER_40 byte 0 ≡ after_bits 40 byte
at-40 byte less = by-table AFTER_40 40 byte table-40 less

pub at-48 : (byte : ℕ) → byte < 256 → get_or AFTER_48 byte 0 ≡ after_bits 48 byte
at-48 byte less = by-table AFTER_48 48 byte table-48 less

pub at-56 : (byte : ℕ) → byte < 256 → get_or AFTER_56 byte 0 ≡ after_bits 56 byte
at-56 byte less = by-table AFTER_56 56 byte table-56 less

pub at-64 : (byte : ℕ) → byte < 256 → get_or AFTER_64 byte 0 ≡ after_bits 64 byte
at-64 byte less = by-table AFTER_64 64 byte table-64 less
