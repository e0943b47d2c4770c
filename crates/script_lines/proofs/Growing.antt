-- What is known while a line grows.
use Rattle.std.proofs.Common.{◌≡◌, ◌∙◌, ◌⊎◌, inl, inr, ℕ, ◌+◌, ◌*◌, ◌≤◌, ◌<◌, List, [], ◌∷◌, ◌++◌, ◌||◌, ◌==◌, true, false, length, take, drop, Some, Ok, Err, refl, sym, ap, subst, append_assoc, length-append, arith}
use Rattle.std.proofs.lemmas.Bool.{false≢true, false_from_ne_true}
use Rattle.std.proofs.lemmas.List.{take-append-drop}
use Rattle.std.proofs.lemmas.List.Folds.{list_any-append}
use Rattle.script_lines.specs.declared.line.Line.{Line}
use Rattle.script_lines.specs.declared.line_fault.LineFault.TheVariants.{Read}
use Rattle.script_lines.specs.declared.input_buffer.TheConstants.{CHUNK}
use Rattle.script_lines.specs.Device.{Told, Held, Tells, Takes}
use Rattle.script_lines.specs.Cut.{has_feed}
use Rattle.script_lines.specs.Unread.{Unread, skipped, weight}
use Rattle.script_lines.specs.Lines.{Shows, HasEnded, InTurn, LineRead, IsPartRead, IsPassedOn}
use Rattle.script_lines.proofs.Telling.{tells_more, tells_no_more}

-- the line so far, and all that was read for it
pub record Growing (old now : Told) (before after : Unread) (grown : Line) : Type 0 where
  pub line : List ℕ
  pub more : List ℕ
  pub shows : Shows grown line
  pub no_feed : has_feed line ≡ false
  pub told : Tells old now more
  pub turn : InTurn before.bytes more
  pub bytes : before.bytes ++ more ≡ line ++ after.bytes
  pub failures : now.failures ≡ old.failures
  pub calls : now.calls + after.reads_left ≡ old.calls + before.reads_left
  pub quiet : before.ended ≡ true → (more ≡ []) × (now ≡ old)
  pub still : before.ended ≡ true → after.ended ≡ true
  pub later : old.ends ≤ now.ends
  pub ended : after.ended ≡ true → (before.ended ≡ true) ⊎ HasEnded old now
  pub going : after.ended ≡ false → now.ends ≡ old.ends
  pub lighter : weight after + length line ≤ weight before

-- what the writer's side keeps while a line grows
pub record Passing (old now : Told) (start held : Held) (waited waits : List ℕ) : Type 0 where
  pub kept : IsPassedOn start held waited waits
  pub prompt : ((now ≡ old) × (held ≡ start) × (waits ≡ waited)) ⊎ (waits ≡ [])
  pub grown : (sent : List ℕ) × Takes start held sent

no_feed-append : (xs ys : List ℕ) → has_feed xs ≡ false → has_feed ys ≡ false → has_feed (xs ++ ys) ≡ false
no_feed-append xs ys h k = list_any-append (λ b. b == 10) xs ys ∙ ap (λ b. b || has_feed ys) h ∙ k

-- fewer reads left weigh less, whatever a read gave
fewer_weigh_less : (a b k u : ℕ) → a < b → u ≤ k → a * (k + 1) + u < b * (k + 1)
fewer_weigh_less a b k u l h = grind arith

-- all that was read is used, and more was read
pub grew : (old now next : Told) (before mid after : Unread) (grown longer : Line) → Growing old now before mid grown
    → has_feed mid.bytes ≡ false → mid.ended ≡ false
    → ((line : List ℕ) → Shows grown line → Shows longer (line ++ mid.bytes))
    → Tells now next after.bytes
    → (after.ended ≡ true → (after.bytes ≡ []) × HasEnded now next)
    → (after.ended ≡ false → next.ends ≡ now.ends)
    → now.ends ≤ next.ends
    → next.calls + after.reads_left ≡ now.calls + mid.reads_left
    → next.failures ≡ now.failures
    → after.reads_left < mid.reads_left
    → length after.bytes ≤ CHUNK
    → Growing old next before after longer
grew old now next before mid after grown longer G clean running adds told ended going later calls failures fewer small = record {
  line = G.line ++ mid.bytes;
  more = G.more ++ after.bytes;
  shows = adds G.line G.shows;
  no_feed = no_feed-append G.line mid.bytes G.no_feed clean;
  told = tells_more old now next G.more after.bytes G.told told;
  turn = inr (G.more, after.bytes, refl, small, ap has_feed G.bytes ∙ no_feed-append G.line mid.bytes G.no_feed clean);
  bytes = sym (append_assoc before.bytes G.more after.bytes) ∙ ap (λ b. b ++ after.bytes) G.bytes;
  failures = failures ∙ G.failures;
  calls = calls ∙ G.calls;
  quiet = λ e. absurd (false≢true (sym running ∙ G.still e));
  still = λ e. absurd (false≢true (sym running ∙ G.still e));
  later = omega (arith, later, G.later);
  ended = λ e. inr ((ended e).1.0 ∙ ap (λ n. n + 1) (G.going running), (ended e).1.1);
  going = λ e. going e ∙ G.going running;
  lighter = omega (arith, fewer_weigh_less after.reads_left mid.reads_left CHUNK (length after.bytes) fewer small, G.lighter, length-append G.line mid.bytes);
}

-- the line feed stands at a place of what is there
pub found : (old now : Told) (before mid after : Unread) (grown longer : Line) (at : ℕ) → Growing old now before mid grown
    → has_feed (take at mid.bytes) ≡ false → drop at mid.bytes ≡ 10 ∷ drop (at + 1) mid.bytes → mid.ended ≡ false
    → ((line : List ℕ) → Shows grown line → Shows longer (line ++ take at mid.bytes))
    → after ≡ skipped (at + 1) mid
    → LineRead old now before after (Ok (Some longer))
found old now before mid after grown longer at G clean feed running adds rest =
    let whole : mid.bytes ≡ take at mid.bytes ++ 10 ∷ drop (at + 1) mid.bytes = sym (take-append-drop at mid.bytes) ∙ ap (λ r. take at mid.bytes ++ r) feed in
    rw rest (record {
      more = G.more;
      told = G.told;
      turn = G.turn;
      outcome = (
        G.line ++ take at mid.bytes,
        adds G.line G.shows,
        no_feed-append G.line (take at mid.bytes) G.no_feed clean,
        inl (G.bytes ∙ ap (λ r. G.line ++ r) whole ∙ sym (append_assoc G.line (take at mid.bytes) (10 ∷ drop (at + 1) mid.bytes))),
      );
      cause = G.failures;
      calls = G.calls;
      quiet = G.quiet;
      later = G.later;
      ended = λ e. absurd (false≢true (sym running ∙ e));
      going = G.going;
      drained = λ e. absurd (false≢true (sym running ∙ e));
    })

caused : (now old next : ℕ) → now ≡ old → (left : ℕ) → (next ≡ now + 1) ⊎ ((next ≡ now) × (left ≡ 0)) → (next ≡ old + 1) ⊎ ((next ≡ old) × (left ≡ 0))
caused now old next e left (inl h) = inl (h ∙ ap (λ n. n + 1) e)
caused now old next e left (inr h) = inr (h.0 ∙ e, h.1)

-- all that was read is used, and the reader failed or may not be called again
pub failed : (old now next : Told) (before mid after : Unread) (grown : Line) → Growing old now before mid grown
    → has_feed mid.bytes ≡ false → mid.ended ≡ false
    → Tells now next []
    → after.ended ≡ mid.ended
    → (after.ended ≡ false → next.ends ≡ now.ends)
    → now.ends ≤ next.ends
    → next.calls + after.reads_left ≡ now.calls + mid.reads_left
    → (next.failures ≡ now.failures + 1) ⊎ ((next.failures ≡ now.failures) × (after.reads_left ≡ 0))
    → LineRead old next before after (Err Read)
failed old now next before mid after grown G clean running told still going later calls cause =
    let begun : before.ended ≡ false = false_from_ne_true before.ended (λ e. false≢true (sym running ∙ G.still e)) in
    let open_end : after.ended ≡ false = still ∙ running in
    record {
      more = G.more;
      told = tells_no_more old now next G.more G.told told;
      turn = G.turn;
      outcome = ap has_feed G.bytes ∙ no_feed-append G.line mid.bytes G.no_feed clean;
      cause = (caused now.failures old.failures next.failures G.failures after.reads_left cause, begun, open_end);
      calls = calls ∙ G.calls;
      quiet = λ e. absurd (false≢true (sym begun ∙ e));
      drained = λ e. absurd (false≢true (sym open_end ∙ e));
      ended = λ e. absurd (false≢true (sym open_end ∙ e));
      going = λ e. going e ∙ G.going running;
      later = omega (arith, later, G.later);
    }

-- no line is whole so far
pub part_read : (old now : Told) (before mid : Unread) (grown : Line) → Growing old now before mid grown → mid.ended ≡ false → has_feed mid.bytes ≡ false → IsPartRead old now before
part_read old now before mid grown G running clean = record {
  more = G.more;
  told = G.told;
  no_feed = ap has_feed G.bytes ∙ no_feed-append G.line mid.bytes G.no_feed clean;
  running = false_from_ne_true before.ended (λ e. false≢true (sym running ∙ G.still e));
  going = G.going running;
  quiet = G.failures;
}

-- the writer took what waited, and so all that waited at the begin
pub asks_more : (old now : Told) (before mid : Unread) (grown : Line) (start held new : Held) (waited waits : List ℕ) (may_read : Told → List ℕ → Type 0) → Growing old now before mid grown → mid.ended ≡ false → has_feed mid.bytes ≡ false
    → IsPassedOn start held waited waits → Takes held new waits → ((to : Told) → IsPartRead old to before → may_read to (start.bytes ++ waited)) → may_read now new.bytes
asks_more old now before mid grown start held new waited waits may_read G running clean on took may =
    subst (λ (b : List ℕ). may_read now b) (sym (took.bytes ∙ on.0)) (may now (part_read old now before mid grown G running clean))
