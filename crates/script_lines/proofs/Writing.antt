-- What a writer holds while a piece of text is written.
use Rattle.std.proofs.Common.{◌≡◌, ◌≢◌, ◌∙◌, ℕ, ◌+◌, ◌-◌, ◌&&◌, ◌==◌, List, [], ◌++◌, false, cond, nat_lt, length, take, drop, Ok, refl, sym, ap, subst, append_assoc, arith}
use Rattle.std.proofs.Math.Seq.{take-add, take-append_seam}
use Rattle.std.proofs.lemmas.Grind.{common_steps}
use Rattle.std.proofs.lemmas.List.{take-append-drop}
use Rattle.std.specs.Io.KnownBytes.{Appends}
use Rattle.script_lines.specs.Device.{Held, Takes, after_write}
use Rattle.script_lines.proofs.Telling.{takes_nothing, takes_more}

not_zero : (n : ℕ) → n ≢ 0 → (n == 0) ≡ false
not_zero n nz = grind arith

-- a write that takes n more bytes of those from a place on
pub wrote : (start old new : Held) (bytes piece : List ℕ) (at n : ℕ) → n ≢ 0 → piece ≡ drop at bytes → Takes start old (take at bytes) → new ≡ after_write old (Ok n) piece new.contents → Appends old.contents new.contents (take n piece)
    → Takes start new (take (at + n) bytes) × (new.failures ≡ old.failures)
wrote start old new bytes piece at n nz p h e gained =
    let both : take at bytes ++ take n piece ≡ take (at + n) bytes = ap (λ p. take at bytes ++ take n p) p ∙ sym (take-add at n bytes) in
    let more : Takes old new (take n piece) = record { bytes = ap (λ (t : Held). t.bytes) e; gained = gained } in (
      subst (λ b. Takes start new b) both (takes_more start old new (take at bytes) (take n piece) h more),
      ap (λ (t : Held). t.failures) e ∙ ap (λ b. cond (b && nat_lt 0 (length piece)) (old.failures + 1) old.failures) (not_zero n nz),
    )

-- `&bytes[at..]`
pub rest_of : (bytes : List ℕ) (at : ℕ) → take (length bytes - at) (drop at bytes) ≡ drop at bytes
rest_of bytes at = grind (arith, common_steps)

-- what was sent on while a text is put behind what waited
pub record Sending (start now : Held) (whole waiting rest : List ℕ) : Type 0 where
  pub sent : List ℕ
  pub written : Takes start now sent
  pub all : sent ++ (waiting ++ rest) ≡ whole
  pub failures : now.failures ≡ start.failures

-- the writer failed while it took a full buffer
pub cut_short : (start now next : Held) (whole waiting rest full : List ℕ) (room n : ℕ) → Sending start now whole waiting rest
    → full ≡ waiting ++ take room rest → Takes now next (take n full)
    → (m : ℕ) × Takes start next (take m whole)
cut_short start now next whole waiting rest full room n S e wrote =
    let front = S.sent ++ take n full in
    let back = drop n full ++ drop room rest in
    let both : full ++ drop room rest ≡ waiting ++ rest = ap (λ x. x ++ drop room rest) e ∙ append_assoc waiting (take room rest) (drop room rest) ∙ ap (λ x. waiting ++ x) (take-append-drop room rest) in
    let parts : front ++ back ≡ whole = append_assoc S.sent (take n full) back
    ∙ ap (λ x. S.sent ++ x) (sym (append_assoc (take n full) (drop n full) (drop room rest)) ∙ ap (λ x. x ++ drop room rest) (take-append-drop n full) ∙ both) ∙ S.all in (
      length front,
      subst (λ b. Takes start next b) (sym (take-append_seam front back) ∙ ap (take (length front)) parts)
          (takes_more start now next S.sent (take n full) S.written wrote),
    )

-- nothing is sent yet
pub unsent : (start : Held) (waiting rest : List ℕ) → Sending start start (waiting ++ rest) waiting rest
unsent start waiting rest = record { sent = []; written = takes_nothing start; all = refl; failures = refl }

-- a full buffer was written
pub sent_on : (start now next : Held) (whole waiting rest full : List ℕ) (room : ℕ) → Sending start now whole waiting rest
    → full ≡ waiting ++ take room rest → Takes now next full → next.failures ≡ now.failures
    → Sending start next whole [] (drop room rest)
sent_on start now next whole waiting rest full room S e wrote quiet =
    let both : full ++ drop room rest ≡ waiting ++ rest = ap (λ x. x ++ drop room rest) e ∙ append_assoc waiting (take room rest) (drop room rest) ∙ ap (λ x. waiting ++ x) (take-append-drop room rest) in
    record {
      sent = S.sent ++ full;
      written = takes_more start now next S.sent full S.written wrote;
      all = append_assoc S.sent full (drop room rest) ∙ ap (λ x. S.sent ++ x) both ∙ S.all;
      failures = quiet ∙ S.failures;
    }
