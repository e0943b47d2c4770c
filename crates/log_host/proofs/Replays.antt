-- What the calls of a host that notes them do, as its trait has it.
use Rattle.std.proofs.Common.{◌≡◌, inl, inr, ⊎_elim, ℕ, zero, suc, ◌+◌, ◌-◌, ◌≤◌, List, [], ◌∷◌, ◌++◌, length, take, drop, refl, sym, ◌∙◌, ap, subst, arith, length-append, length-drop}
use Rattle.std.proofs.lemmas.List.{take_at, length-take-le, append-nil, append_assoc}
use Rattle.std.proofs.lemmas.Slice.{drop-append-drop}
use Rattle.log_host.specs.Host.{Outcomes, Holds, Torn, Follows, Hearing, Elapses}
use Rattle.log_host.specs.Past.{Past, Call, seen_after, heard_after, leaves_after, left_after}
use Rattle.log_host.specs.Laws.{now_left}

-- one way to tear a write: to write a front of it, or as many other bytes
pub torn_by : (old bytes new : List ℕ) (at n : ℕ) → at ≤ length old → length bytes ≤ n → Holds old at bytes new → Torn at n old new
torn_by old bytes new at n le few holds =
    let here = take at old in
    let front : length here ≡ at = length-take-le at old le in
    let rest = drop (at + length bytes) old in
    let parts : length new ≡ length here + length bytes + length rest = ap length holds ∙ length-append (here ++ bytes) rest ∙ ap (λ (k : ℕ). k + length rest) (length-append here bytes) in
    let left : length rest ≡ length old - (at + length bytes) = length-drop (at + length bytes) old in
    record {
      before = ap (take at) (holds ∙ append_assoc here bytes rest) ∙ take_at here (bytes ++ rest) at front;
      after = ap (drop (at + n)) holds
          ∙ drop-append-drop (at + length bytes) old (here ++ bytes) (at + n) (omega (arith, few)) (omega (arith, front, length-append here bytes));
      no_shorter = omega (arith, front, parts, left);
      no_longer = omega (arith, front, parts, left);
    }

torn-same : (old : List ℕ) (at n : ℕ) → Torn at n old old
torn-same old at n = record { before = refl; after = refl; no_shorter = omega arith; no_longer = omega arith }

-- the past with one call more
abbrev pub longer : Past → Call → Past
longer was call = record { start = was.start; calls = call ∷ was.calls }

abbrev pub leaves : Past → Outcomes
leaves past c o = leaves_after past.start past.calls c o

module _ (was : Past) where
  abbrev seen : List ℕ
  seen = seen_after was.start was.calls

  abbrev heard : List ℕ
  heard = heard_after was.calls

  -- what is there now may be left, with what was heard
  there : (o : List ℕ) → o ≡ heard → leaves was seen o
  there o is = subst (λ (l : List ℕ). leaves was seen l) (sym is) (now_left was.start was.calls)

  there-both : (c o : List ℕ) → c ≡ seen → o ≡ heard → leaves was c o
  there-both c o is is_heard = subst (λ (l : List ℕ). leaves was l o) (sym is) (there o is_heard)

  write-follows : (k at : ℕ) (bytes : List ℕ) → at ≤ length seen → Follows (Torn at (length bytes)) (leaves was) (leaves (longer was (0, (at, (bytes, k)))))
  write-follows k at bytes le c o (inl torn) = torn
  write-follows zero at bytes le c o (inr now) = (seen, there o now.1, subst (Torn at (length bytes) seen) (sym now.0) (torn-same seen at (length bytes)))
  write-follows (suc k) at bytes le c o (inr now) = (seen, there o now.1, torn_by seen bytes c at (length bytes) le (omega arith) now.0)

  sync-follows : (k : ℕ) (c o : List ℕ) → leaves (longer was (1, (0, ([], k)))) c o → leaves was c o
  sync-follows zero c o (inl old) = old
  sync-follows (suc k) c o (inl old) = old.0
  sync-follows zero c o (inr now) = there-both c o now.0 now.1
  sync-follows (suc k) c o (inr now) = there-both c o now.0 now.1

  refused-leaves : (c o : List ℕ) → leaves (longer was (3, (0, ([], 0)))) c o → leaves was c o
  refused-leaves c o (inl old) = old
  refused-leaves c o (inr now) = there-both c o now.0 now.1

  refused-follows : (at n : ℕ) → Follows (Torn at n) (leaves was) (leaves (longer was (3, (0, ([], 0)))))
  refused-follows at n c o left = (c, refused-leaves c o left, torn-same c at n)

  silent-leaves : (c o : List ℕ) → leaves (longer was (4, (0, ([], 0)))) c o → leaves was c o
  silent-leaves c o (inl old) = old
  silent-leaves c o (inr now) = there-both c o now.0 now.1

  silent-elapses : (piece : List ℕ) → Elapses (length was.calls) (length ((4, (0, ([], 0))) ∷ was.calls)) (left_after was.start was.calls)
      (left_after was.start ((4, (0, ([], 0))) ∷ was.calls)) (Hearing piece (leaves was))
  silent-elapses piece = record {
    later = omega arith;
    nothing_else = λ t c o le left. ⊎_elim (λ now. inr (o, silent-leaves c o now, (0, sym (append-nil o)))) (λ more. ⊎_elim (λ in_call. absurd in_call) (λ was. inl was) more.1) left;
    keeps = λ t c o le was. inr (le, inr was);
  }

  tell-hears : (k n : ℕ) (piece : List ℕ) (c o : List ℕ) → leaves (longer was (2, (n, (piece, k)))) c o → Hearing piece (leaves was) c o
  tell-hears zero n piece c o (inl hears) = hears
  tell-hears (suc k) n piece c o (inl hears) = hears.0
  tell-hears zero n piece c o (inr now) = (heard, there-both c heard now.0 refl, (0, now.1 ∙ sym (append-nil heard)))
  tell-hears (suc k) n piece c o (inr now) = (heard, there-both c heard now.0 refl, (n, now.1))

  tell-leaves : (n : ℕ) (piece : List ℕ) (c o : List ℕ) → leaves (longer was (2, (n, (piece, 1)))) c o → (o ≡ heard ++ take n piece) × ((p : List ℕ) × leaves was c p)
  tell-leaves n piece c o (inl hears) = (hears.1, hears.2)
  tell-leaves n piece c o (inr now) = (now.1, (heard, there-both c heard now.0 refl))

  tell-elapses : (k n : ℕ) (piece : List ℕ) → Elapses (length was.calls) (length ((2, (n, (piece, k))) ∷ was.calls)) (left_after was.start was.calls)
      (left_after was.start ((2, (n, (piece, k))) ∷ was.calls)) (Hearing piece (leaves was))
  tell-elapses k n piece = record {
    later = omega arith;
    nothing_else = λ t c o le left. ⊎_elim (λ now. inr (tell-hears k n piece c o now)) (λ more. ⊎_elim (λ in_call. inr in_call) (λ was. inl was) more.1) left;
    keeps = λ t c o le was. inr (le, inr was);
  }

-- a host whose past is now this one
pub write-noted : (was now : Past) (k at : ℕ) (bytes : List ℕ) → now ≡ longer was (0, (at, (bytes, k))) → at ≤ length (seen_after was.start was.calls)
    → Follows (Torn at (length bytes)) (leaves was) (leaves now)
write-noted was now k at bytes is le = subst (λ (p : Past). Follows (Torn at (length bytes)) (leaves was) (leaves p)) (sym is) (write-follows was k at bytes le)

pub sync-noted : (was now : Past) (k : ℕ) → now ≡ longer was (1, (0, ([], k))) → (c o : List ℕ) → leaves now c o → leaves was c o
sync-noted was now k is c o left = sync-follows was k c o (subst (λ (p : Past). leaves p c o) is left)

pub tell-noted : (was now : Past) (n : ℕ) (piece : List ℕ) → now ≡ longer was (2, (n, (piece, 1))) → (c o : List ℕ) → leaves now c o
    → (o ≡ heard_after now.calls) × ((p : List ℕ) × leaves was c p)
tell-noted was now n piece is =
    subst (λ (p : Past). (c o : List ℕ) → leaves p c o → (o ≡ heard_after p.calls) × ((q : List ℕ) × leaves was c q)) (sym is) (tell-leaves was n piece)

pub tell-time : (was now : Past) (k n : ℕ) (piece : List ℕ) → now ≡ longer was (2, (n, (piece, k)))
    → Elapses (length was.calls) (length now.calls) (left_after was.start was.calls) (left_after now.start now.calls) (Hearing piece (leaves was))
tell-time was now k n piece is =
    subst (λ (p : Past). Elapses (length was.calls) (length p.calls) (left_after was.start was.calls) (left_after p.start p.calls) (Hearing piece (leaves was))) (sym is) (tell-elapses was k n piece)

-- a call of the file that was not made
pub refused-noted : (was now : Past) → now ≡ longer was (3, (0, ([], 0))) → (c o : List ℕ) → leaves now c o → leaves was c o
refused-noted was now is c o left = refused-leaves was c o (subst (λ (p : Past). leaves p c o) is left)

pub refused-write-noted : (was now : Past) (at : ℕ) (bytes : List ℕ) → now ≡ longer was (3, (0, ([], 0))) → Follows (Torn at (length bytes)) (leaves was) (leaves now)
refused-write-noted was now at bytes is = subst (λ (p : Past). Follows (Torn at (length bytes)) (leaves was) (leaves p)) (sym is) (refused-follows was at (length bytes))

-- a piece that was not sent
pub silent-time : (was now : Past) (piece : List ℕ) → now ≡ longer was (4, (0, ([], 0)))
    → Elapses (length was.calls) (length now.calls) (left_after was.start was.calls) (left_after now.start now.calls) (Hearing piece (leaves was))
silent-time was now piece is =
    subst (λ (p : Past). Elapses (length was.calls) (length p.calls) (left_after was.start was.calls) (left_after p.start p.calls) (Hearing piece (leaves was))) (sym is) (silent-elapses was piece)
