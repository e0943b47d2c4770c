-- CRC-32C, the check of bytes by Castagnoli's polynomial (RFC 3720), bit by bit.
use Rattle.std.specs.Prelude.{ℕ, zero, suc, ◌/◌, ◌%◌, ◌==◌, bit_xor, List, [], ◌∷◌, if◌then◌else◌}

-- the polynomial: one bit a power, that of x^31 in the lowest bit; that of x^32 is left out
abbrev pub polynomial : ℕ
polynomial = 0x82F63B78

-- The state is 32 bits. One step shifts it right, and adds the polynomial if a one was shifted out.
unfoldable pub after_bit : ℕ → ℕ
after_bit state = if state % 2 == 1 then bit_xor (state / 2) polynomial else state / 2

-- this many steps
abbrev pub after_bits : ℕ → ℕ → ℕ
after_bits zero state = state
after_bits (suc n) state = after_bits n (after_bit state)

-- a byte is added to the lowest eight bits of the state, and shifted out
unfoldable pub after_byte : ℕ → ℕ → ℕ
after_byte state byte = after_bits 8 (bit_xor state (byte % 256))

-- bytes, one after another
abbrev pub after_bytes : ℕ → List ℕ → ℕ
after_bytes state [] = state
after_bytes state (byte ∷ bytes) = after_bytes (after_byte state byte) bytes

-- each of the 32 bits inverted
abbrev pub inverted : ℕ → ℕ
inverted state = bit_xor state 0xFFFF_FFFF

-- THE CHECK OF BYTES, begun from the check of the bytes before them
unfoldable pub check_after : ℕ → List ℕ → ℕ
check_after check bytes = inverted (after_bytes (inverted check) bytes)

-- THE CHECK OF BYTES
abbrev pub check_of : List ℕ → ℕ
check_of bytes = check_after 0 bytes
