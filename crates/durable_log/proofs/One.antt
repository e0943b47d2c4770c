-- One byte of a file that is changed is found, or changes nothing.
use Rattle.std.proofs.Common.{◌≡◌, ◌⊎◌, inl, inr, ⊎_elim, ℕ, ◌^◌, ◌<◌, List, [], ◌∷◌, ◌++◌, length, true, false, refl, sym, ◌∙◌, ap, subst, arith, append_assoc}
use Rattle.std.specs.Prelude.{◌==◌, ◌&&◌, ◌||◌, if◌then◌else◌}
use Rattle.crc32c.specs.Check.{check_after}
use Rattle.crc32c.proofs.Laws.{one-byte}
use Rattle.durable_log.specs.Format.{is_open}
use Rattle.durable_log.specs.Damage.{OneOff}

-- Bytes of which one may be changed

pub off-same : (bytes : List ℕ) → OneOff bytes bytes
off-same [] = tt
off-same (x ∷ bytes) = inr (refl, off-same bytes)

pub off-is : (bytes changed : List ℕ) → changed ≡ bytes → OneOff bytes changed
off-is bytes changed is = subst (OneOff bytes) (sym is) (off-same bytes)

-- by a place: the change is before it or behind it
pub record Off (front body changed : List ℕ) : Type 0 where
  pub es : List ℕ
  pub rest : List ℕ
  pub split : changed ≡ es ++ rest
  pub size : length es ≡ length front
  pub off : OneOff front es
  pub rest_off : OneOff body rest
  pub one : (es ≡ front) ⊎ (rest ≡ body)

pub split-off : (front body changed : List ℕ) → OneOff (front ++ body) changed → Off front body changed
split-off [] body changed off = record { es = []; rest = changed; split = refl; size = refl; off = tt; rest_off = off; one = inl refl }
split-off (x ∷ front) body [] off = absurd off
split-off (x ∷ front) body (y ∷ changed) (inl here) = record {
  es = y ∷ front;
  rest = body;
  split = ap (λ (l : List ℕ). y ∷ l) (sym here.2);
  size = refl;
  off = inl (here.0, here.1, refl);
  rest_off = off-same body;
  one = inr refl;
}
split-off (x ∷ front) body (y ∷ changed) (inr there) =
    let s = split-off front body changed there.1 in
    record {
      es = y ∷ s.es;
      rest = s.rest;
      split = ap (λ (l : List ℕ). y ∷ l) s.split;
      size = omega (arith, s.size);
      off = inr (there.0, s.off);
      rest_off = s.rest_off;
      one = ⊎_elim (λ (same : s.es ≡ front). inl (λ i. sym there.0 i ∷ same i)) (λ (same : s.rest ≡ body). inr same) s.one;
    }

-- one changed byte with the same check is none
pub changed-at : (check : ℕ) (prefix bytes changed : List ℕ) → check < 2 ^ 32 → OneOff bytes changed → check_after check (prefix ++ changed) ≡ check_after check (prefix ++ bytes) → changed ≡ bytes
changed-at check prefix [] [] small off same = refl
changed-at check prefix [] (y ∷ changed) small off same = absurd off
changed-at check prefix (x ∷ bytes) [] small off same = absurd off
changed-at check prefix (x ∷ bytes) (y ∷ changed) small (inl here) same =
    let y_is : y ≡ x =
    one-byte check prefix bytes y x small here.1 here.0 (ap (λ (l : List ℕ). check_after check (prefix ++ y ∷ l)) here.2 ∙ same) in
    λ i. y_is i ∷ sym here.2 i
changed-at check prefix (x ∷ bytes) (y ∷ changed) small (inr there) same =
    let longer : check_after check ((prefix ++ x ∷ []) ++ changed) ≡ check_after check ((prefix ++ x ∷ []) ++ bytes) =
    ap (check_after check) (append_assoc prefix (x ∷ []) changed) ∙ ap (λ (z : ℕ). check_after check (prefix ++ z ∷ changed)) there.0 ∙ same
    ∙ ap (check_after check) (sym (append_assoc prefix (x ∷ []) bytes)) in
    let tail = changed-at check (prefix ++ x ∷ []) bytes changed small there.1 longer in
    λ i. sym there.0 i ∷ tail i

nil-off : (es : List ℕ) → OneOff [] es → es ≡ []
nil-off [] off = refl
nil-off (x ∷ es) off = absurd off

pub open-first : (a : ℕ) → is_open a 49 49 ≡ true
open-first a = elim (a == 49) as (λ v. (if v then 49 == 49 || 49 == 49 else 49 == 49 && 49 == 49) ≡ true) [ true ↦ refl | false ↦ refl ]

open-second : (b : ℕ) → is_open 49 b 49 ≡ true
open-second b = elim (b == 49) as (λ v. v || 49 == 49 ≡ true) [ true ↦ refl | false ↦ refl ]

-- a gate in which one byte was changed is open
pub record Opened (es : List ℕ) : Type 0 where
  pub a : ℕ
  pub b : ℕ
  pub c : ℕ
  pub is : es ≡ a ∷ b ∷ c ∷ []
  pub opens : is_open a b c ≡ true

pub gate-off : (es : List ℕ) → OneOff (49 ∷ 49 ∷ 49 ∷ []) es → Opened es
gate-off [] off = absurd off
gate-off (a ∷ es) (inl here) = record { a = a; b = 49; c = 49; is = ap (λ (l : List ℕ). a ∷ l) (sym here.2); opens = open-first a }
gate-off (a ∷ es) (inr there) = second es there.1
  where
    first_is : a ≡ 49
    first_is = sym there.0

    third : (b c : ℕ) (es : List ℕ) → b ≡ 49 → ((49 < 256) × (c < 256) × ([] ≡ es)) ⊎ ((49 ≡ c) × OneOff [] es) → Opened (a ∷ b ∷ c ∷ es)
    third b c es b_is (inl here) = record { a = 49; b = 49; c = c; is = (λ i. first_is i ∷ b_is i ∷ c ∷ sym here.2 i); opens = refl }
    third b c es b_is (inr more) = record { a = 49; b = 49; c = 49; is = (λ i. first_is i ∷ b_is i ∷ sym more.0 i ∷ nil-off es more.1 i); opens = refl }

    third-in : (b : ℕ) (es : List ℕ) → b ≡ 49 → OneOff (49 ∷ []) es → Opened (a ∷ b ∷ es)
    third-in b [] b_is off = absurd off
    third-in b (c ∷ es) b_is off = third b c es b_is off

    second : (es : List ℕ) → OneOff (49 ∷ 49 ∷ []) es → Opened (a ∷ es)
    second [] off = absurd off
    second (b ∷ es) (inl here) = record { a = 49; b = b; c = 49; is = (λ i. first_is i ∷ b ∷ sym here.2 i); opens = open-second b }
    second (b ∷ es) (inr more) = third-in b es (sym more.0) more.1
