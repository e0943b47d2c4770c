-- What was written and what waits, while replies are put behind each other.
use Rattle.std.proofs.Common.{◌≡◌, ◌∙◌, ℕ, List, [], ◌++◌, Option, Some, None, take, drop, refl, sym, ap, subst, append_assoc}
use Rattle.std.proofs.lemmas.List.{append_cancel_left, take-append-drop}
use Rattle.std.specs.Io.KnownBytes.{Appends, append_known}
use Rattle.script_lines.specs.Device.{Held, Takes}
use Rattle.script_lines.specs.Lines.{IsPassedOn}
use Rattle.script_lines.proofs.Telling.{takes_nothing, takes_more}
use Rattle.script_engine.specs.Ran.{RepliesInTurn, with_all}
use Rattle.script_engine.proofs.Turning.{turn_none, turn_more}

-- since a beginning an output was sent but for what waits, in turn with an input, and the writer didn't fail
pub record Passing (begun held : Held) (waits output input : List ℕ) : Type 0 where
  pub sent : List ℕ
  pub written : Takes begun held sent
  pub all : sent ++ waits ≡ output
  pub failures : held.failures ≡ begun.failures
  pub turn : RepliesInTurn input sent

-- what the writer took more in a call
abbrev pub Grew : Held → Held → Type 0
Grew old new = (sent : List ℕ) × Takes old new sent

pub nothing_sent : (w : Held) (waits : List ℕ) → waits ≡ [] → Passing w w waits [] []
nothing_sent w waits e = record { sent = []; written = takes_nothing w; all = e; failures = refl; turn = turn_none [] }

appends_known : (known : Option (List ℕ)) (more : List ℕ) → Appends known (append_known known more) more
appends_known None more = tt
appends_known (Some bytes) more = refl

takes_waiting : (held : Held) (waits : List ℕ) → Takes held (with_all held waits) waits
takes_waiting held waits = record { bytes = refl; gained = appends_known held.contents waits }

-- the writer holds the output as soon as it takes what waits
pub all_written : (begun held : Held) (waits output input : List ℕ) → Passing begun held waits output input → Takes begun (with_all held waits) output
all_written begun held waits output input P =
    subst (λ b. Takes begun (with_all held waits) b) P.all (takes_more begun held (with_all held waits) P.sent waits P.written (takes_waiting held waits))

-- with what waits, the replies come in turn too
pub turn_whole : (begun held : Held) (waits output input : List ℕ) → Passing begun held waits output input → RepliesInTurn input output
turn_whole begun held waits output input P = subst (λ b. RepliesInTurn input b) P.all (turn_more input P.sent waits P.turn)

-- a text is put behind what waited, and some of it all was sent
pub put_behind : (begun held new : Held) (waited waits output text input : List ℕ) → Passing begun held waited output input → new.bytes ++ waits ≡ (held.bytes ++ waited) ++ text → Grew held new → new.failures ≡ held.failures
    → Passing begun new waits (output ++ text) input
put_behind begun held new waited waits output text input P e more quiet =
    let sent : List ℕ = P.sent ++ more.0 in
    let written = takes_more begun held new P.sent more.0 P.written more.1 in
    let before : held.bytes ++ waited ≡ begun.bytes ++ output = (all_written begun held waited output input P).bytes in
    let both : begun.bytes ++ (sent ++ waits) ≡ begun.bytes ++ (output ++ text) =
    sym (append_assoc begun.bytes sent waits) ∙ ap (λ b. b ++ waits) (sym written.bytes) ∙ e ∙ ap (λ b. b ++ text) before ∙ append_assoc begun.bytes output text in
    record {
      sent = sent;
      written = written;
      all = append_cancel_left begun.bytes (sent ++ waits) (output ++ text) both;
      failures = quiet ∙ P.failures;
      turn = turn_more input P.sent more.0 P.turn;
    }

-- some of what waited was sent, in turn with an input that grew
pub passed_on : (begun held new : Held) (waited waits output input next : List ℕ) (P : Passing begun held waited output input) → IsPassedOn held new waited waits → Grew held new
    → ((more : List ℕ) → (P.sent ++ more) ++ waits ≡ output → RepliesInTurn next (P.sent ++ more)) → Passing begun new waits output next
passed_on begun held new waited waits output input next P on more turn =
    let sent : List ℕ = P.sent ++ more.0 in
    let written = takes_more begun held new P.sent more.0 P.written more.1 in
    let before : held.bytes ++ waited ≡ begun.bytes ++ output = (all_written begun held waited output input P).bytes in
    let both : begun.bytes ++ (sent ++ waits) ≡ begun.bytes ++ output =
    sym (append_assoc begun.bytes sent waits) ∙ ap (λ b. b ++ waits) (sym written.bytes) ∙ on.0 ∙ before in
    let all = append_cancel_left begun.bytes (sent ++ waits) output both in
    record { sent = sent; written = written; all = all; failures = on.1 ∙ P.failures; turn = turn more.0 all }

-- what the writer holds after it failed while a text was put behind what waited
pub record Broken (begun new : Held) (whole input : List ℕ) : Type 0 where
  pub front : List ℕ
  pub rest : List ℕ
  pub written : Takes begun new front
  pub both : front ++ rest ≡ whole
  pub turn : RepliesInTurn input front

pub broken : (begun held new : Held) (waited output text input : List ℕ) (n : ℕ) → Passing begun held waited output input → Takes held new (take n (waited ++ text)) → Broken begun new (output ++ text) input
broken begun held new waited output text input n P e =
    let all : List ℕ = waited ++ text in
    record {
      front = P.sent ++ take n all;
      rest = drop n all;
      written = takes_more begun held new P.sent (take n all) P.written e;
      both = append_assoc P.sent (take n all) (drop n all) ∙ ap (λ b. P.sent ++ b) (take-append-drop n all) ∙ sym (append_assoc P.sent waited text) ∙ ap (λ b. b ++ text) P.all;
      turn = turn_more input P.sent (take n all) P.turn;
    }

-- the input grew by nothing
pub same_input : (begun held : Held) (waits output input next : List ℕ) → next ≡ input → Passing begun held waits output input → Passing begun held waits output next
same_input begun held waits output input next e P = subst (λ i. Passing begun held waits output i) (sym e) P
