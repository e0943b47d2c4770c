-- Values that were found, after more tokens.
use Rattle.std.proofs.Common.{◌≡◌, ℕ, ◌+◌, Some, None, refl, ap, arith}
use Rattle.std.specs.Option.{option_or}
use Rattle.json.specs.Json.{Json}
use Rattle.json_places.specs.Inside.{Found, after}

pub after_both : (a b : ℕ) (o : Found) → after a (after b o) ≡ after (a + b) o
after_both a b None = refl
after_both a b (Some p) = let e : a + (b + p.0) ≡ (a + b) + p.0 = omega arith in ap (λ (n : ℕ). Some (n, p.1)) e

pub after_none : (o : Found) → o ≡ after 0 o
after_none None = refl
after_none (Some p) = let e : p.0 ≡ 0 + p.0 = omega arith in ap (λ (n : ℕ). Some (n, p.1)) e

pub or_none : (o : Found) → o ≡ option_or o None
or_none None = refl
or_none (Some p) = refl

-- a member of the name is found before those that are left
pub turn_same : (k l : ℕ) (later earlier : Found) (j : Json) → option_or (after k (option_or (after l later) (Some (1, j)))) earlier ≡ option_or (after (k + l) later) (Some (k + 1, j))
turn_same k l None earlier j = refl
turn_same k l (Some p) earlier j = let e : k + (l + p.0) ≡ (k + l) + p.0 = omega arith in ap (λ (n : ℕ). Some (n, p.1)) e

pub turn_other : (k l : ℕ) (later earlier : Found) → option_or (after k (option_or (after l later) None)) earlier ≡ option_or (after (k + l) later) earlier
turn_other k l None earlier = refl
turn_other k l (Some p) earlier = let e : k + (l + p.0) ≡ (k + l) + p.0 = omega arith in ap (λ (n : ℕ). Some (n, p.1)) e
