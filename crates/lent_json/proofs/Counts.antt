-- The whole number that a number's text writes.
use Rattle.std.proofs.Common.{◌≡◌, ℕ, ◌^◌, ◌<◌, ◌&&◌, ◌==◌, length, Bool, true, false, not, nat_lt, nat_le, Option, Some, None, cond, true≢false, refl, sym, ap, ◌∙◌}
use Rattle.std.specs.Option.{SomeIff, option_and_then}
use Rattle.std.specs.Float.{binary64, float_is_finite}
use Rattle.std.proofs.lemmas.Bool.{lt-ltb, ltb-true, eqb-true, eq-eqb}
use Rattle.fast_float.specs.Text.{Parts, digits_of, nearest, with_sign, IsInteger}
use Rattle.serde_json.specs.Data.{unsigned, negative, float}
use Rattle.serde_json.specs.Read.{is_integer, float_of, number_from}
use Rattle.serde_json.specs.Find.{as_u64}

no-float : (sign : Bool) (p : Parts) → option_and_then as_u64 (float_of sign p) ≡ None
no-float sign p =
    elim (float_is_finite (nearest binary64 sign p)) as (λ b. option_and_then as_u64 (cond b (Some (float (nearest binary64 sign p))) None) ≡ None) [
      | true ↦ refl
      | false ↦ refl
    ]

no-point : (b : Bool) → not b ≡ true → b ≡ false
no-point true h = sym h
no-point false h = refl

-- a number with a minus is no count
pub no-negative : (p : Parts) → option_and_then as_u64 (number_from true p) ≡ None
no-negative p =
    elim (is_integer p && nat_lt 0 (digits_of p) && nat_le (digits_of p) (2 ^ 63)) as (λ b. option_and_then as_u64 (cond b (Some (negative (with_sign true (digits_of p)))) (float_of true p)) ≡ None) [
      | true ↦ refl
      | false ↦ no-float true p
    ]

both : (a b : Bool) → (a && b) ≡ true → (a ≡ true) × (b ≡ true)
both true b h = (refl, h)
both false b h = absurd (true≢false (sym h))

integer : (p : Parts) → is_integer p ≡ true → IsInteger p
integer p h =
    let one = both (nat_lt 0 (length p.whole) && not p.point) (length p.exponent == 0) h in
    let two = both (nat_lt 0 (length p.whole)) (not p.point) one.0 in
    (ltb-true 0 (length p.whole) two.0, no-point p.point two.1, eqb-true (length p.exponent) 0 one.1)

is-integer : (p : Parts) → IsInteger p → is_integer p ≡ true
is-integer p h = rw (lt-ltb 0 (length p.whole) h.0, h.1, eq-eqb (length p.exponent) 0 h.2) refl

tested : (p : Parts) (b : Bool) → (is_integer p && nat_lt (digits_of p) (2 ^ 64)) ≡ b → (r : Option ℕ) → SomeIff r (IsInteger p × (digits_of p < 2 ^ 64)) (digits_of p)
    → r ≡ option_and_then as_u64 (cond b (Some (unsigned (digits_of p))) (float_of false p))
tested p true e None h = (
    let one = both (is_integer p) (nat_lt (digits_of p) (2 ^ 64)) e in
    absurd (h (integer p one.0, ltb-true (digits_of p) (2 ^ 64) one.1))
    )
tested p true e (Some x) h = ap Some h.1
tested p false e None h = sym (no-float false p)
tested p false e (Some x) h =
    absurd (true≢false (sym (rw (is-integer p h.0.0) (lt-ltb (digits_of p) (2 ^ 64) h.0.1)) ∙ e))

-- what is read of a number without one
pub positive : (p : Parts) (r : Option ℕ) → SomeIff r (IsInteger p × (digits_of p < 2 ^ 64)) (digits_of p) → r ≡ option_and_then as_u64 (number_from false p)
positive p r h = tested p _ refl r h
