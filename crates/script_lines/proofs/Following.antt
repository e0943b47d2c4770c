-- The lines behind the bytes that were at hand: the laws that a loop over the lines of a buffer needs that others used before.
use Rattle.std.proofs.Common.{◌≡◌, ◌∙◌, ◌⊎◌, inl, inr, ℕ, ◌+◌, ◌<◌, ◌≤◌, List, [], ◌∷◌, ◌++◌, ◌||◌, Bool, true, false, length, drop, nat_lt, Option, Some, None, Result, Ok, Err, refl, sym, ap, subst, append_assoc, arith}
use Rattle.std.proofs.Math.Seq.{drop-append_seam}
use Rattle.std.proofs.Math.Bool.{or-true}
use Rattle.std.proofs.lemmas.Bool.{false≢true, false_from_ne_true, or_parts}
use Rattle.std.proofs.lemmas.Bool.Decides.{nat_tests}
use Rattle.std.proofs.lemmas.List.{append-nil}
use Rattle.script_lines.specs.declared.line.Line.{Line}
use Rattle.script_lines.specs.declared.line_fault.LineFault.{LineFault}
use Rattle.script_lines.specs.declared.line_fault.LineFault.TheVariants.{Read}
use Rattle.script_lines.specs.Device.{Told, Tells}
use Rattle.script_lines.specs.Cut.{lines_of, whole_lines}
use Rattle.script_lines.specs.Unread.{Unread}
use Rattle.script_lines.specs.Lines.{Shows, HasEnded, LineRead, LinesRead, told_since, has_told_end, complete_lines, lines_since}
use Rattle.script_lines.proofs.Telling.{tells_nothing, tells_more}
use Rattle.script_lines.proofs.CutLaws.{lines_of-nil, whole_lines-none}
use Rattle.script_lines.proofs.Cutting.{cut_off, cut_off_whole, something, ends_after}

-- the reader told an input since, and of the bytes at hand before and that input these lines are done, whatever it tells from now on
pub record Following (start now : Told) (before p : Unread) (done : List (List ℕ)) : Type 0 where
  pub begun : before.ended ≡ false
  pub input : List ℕ
  pub read : Tells start now input
  pub lines : (more : List ℕ) → (p.ended ≡ true → more ≡ []) → lines_of (before.bytes ++ (input ++ more)) ≡ done ++ lines_of (p.bytes ++ more)
  pub whole : p.ended ≡ false → (more : List ℕ) → whole_lines (before.bytes ++ (input ++ more)) ≡ done ++ whole_lines (p.bytes ++ more)
  pub failures : now.failures ≡ start.failures
  pub calls : now.calls + p.reads_left ≡ start.calls + before.reads_left
  pub ends : p.ended ≡ true → HasEnded start now
  pub going : p.ended ≡ false → now.ends ≡ start.ends
  pub later : start.ends ≤ now.ends
  pub drained : p.ended ≡ true → p.bytes ≡ []

-- no line is done
pub follow_none : (start : Told) (before : Unread) → before.ended ≡ false → Following start start before before []
follow_none start before begun = record {
  begun = begun;
  input = [];
  read = tells_nothing start;
  lines = λ more h. refl;
  whole = λ e more. refl;
  failures = refl;
  calls = refl;
  ends = λ e. absurd (false≢true (sym begun ∙ e));
  going = λ e. refl;
  later = omega arith;
  drained = λ e. absurd (false≢true (sym begun ∙ e));
}

-- the next line
pub follow_next : (start now next : Told) (before p q : Unread) (done : List (List ℕ)) (l : Line) (C : Following start now before p done) (t : LineRead now next p q (Ok (Some l)))
    → (line : List ℕ) × Shows l line × Following start next before q (done ++ line ∷ [])
follow_next start now next before p q done l C t =
    let line = t.outcome.0 in
    let running : p.ended ≡ true → ⊥ = λ e. something (p.bytes ++ t.more) line q t.outcome.3 (ap (λ x. x ++ t.more) (C.drained e) ∙ (t.quiet e).0) in (
      line,
      t.outcome.1,
      record {
        begun = C.begun;
        input = C.input ++ t.more;
        read = tells_more start now next C.input t.more C.read t.told;
        lines = λ more h. ap (λ x. lines_of (before.bytes ++ x)) (append_assoc C.input t.more more) ∙ C.lines (t.more ++ more) (λ e. absurd (running e))
            ∙ ap (λ x. done ++ lines_of x) (sym (append_assoc p.bytes t.more more)) ∙ ap (λ x. done ++ x) (cut_off (p.bytes ++ t.more) line q t.outcome.2 t.outcome.3 more h)
            ∙ sym (append_assoc done (line ∷ []) (lines_of (q.bytes ++ more)));
        whole = λ e more. ap (λ x. whole_lines (before.bytes ++ x)) (append_assoc C.input t.more more) ∙ C.whole (false_from_ne_true p.ended running) (t.more ++ more)
            ∙ ap (λ x. done ++ whole_lines x) (sym (append_assoc p.bytes t.more more)) ∙ ap (λ x. done ++ x) (cut_off_whole (p.bytes ++ t.more) line q t.outcome.2 t.outcome.3 e more)
            ∙ sym (append_assoc done (line ∷ []) (whole_lines (q.bytes ++ more)));
        failures = t.cause ∙ C.failures;
        calls = t.calls ∙ C.calls;
        ends = λ e. ends_after start now next p C.ends C.going (λ h. (t.quiet h).1) (t.ended e);
        going = λ e. t.going e ∙ C.going (false_from_ne_true p.ended running);
        later = omega (arith, C.later, t.later);
        drained = t.drained;
      },
    )

-- what was told since is the input
pub told_is : (start next : Told) (input : List ℕ) → Tells start next input → told_since start next ≡ input
told_is start next input told = ap (drop (length start.bytes)) told.bytes ∙ drop-append_seam start.bytes input

since_told : (start next : Told) (input : List ℕ) → Tells start next input → Tells start next (told_since start next)
since_told start next input told = subst (λ (x : List ℕ). Tells start next x) (sym (told_is start next input told)) told

-- the complete lines, once it is known whether the reader told its end
lines_by : (start next : Told) (before : Unread) (input : List ℕ) (ended : Bool) → Tells start next input → has_told_end start next before ≡ ended
    → lines_since start next before ≡ complete_lines ended (before.bytes ++ input)
lines_by start next before input ended told e =
    ap (λ b. complete_lines b (before.bytes ++ told_since start next)) e ∙ ap (λ x. complete_lines ended (before.bytes ++ x)) (told_is start next input told)

-- a reader that hasn't told its end by now had not told it before
not_ended : (start now next : Told) (before p : Unread) (done : List (List ℕ)) → Following start now before p done → now.ends ≤ next.ends → has_told_end start next before ≡ false → p.ended ≡ false
not_ended start now next before p done C later e =
    let none : nat_lt start.ends next.ends ≡ false = (or_parts before.ended (nat_lt start.ends next.ends) e).1 in
    false_from_ne_true p.ended (λ t.
    let told : now.ends ≡ start.ends + 1 = (C.ends t).0 in
    absurd (grind (arith, nat_tests)))

follow_by : (start now next : Told) (before p : Unread) (done : List (List ℕ)) (C : Following start now before p done) (more : List ℕ) → Tells now next more → (p.ended ≡ true → more ≡ []) → now.ends ≤ next.ends
    → (ended : Bool) → has_told_end start next before ≡ ended → (rest : List (List ℕ)) × (lines_since start next before ≡ done ++ rest)
follow_by start now next before p done C more told none later true e = (
  lines_of (p.bytes ++ more),
  lines_by start next before (C.input ++ more) true (tells_more start now next C.input more C.read told) e ∙ C.lines more none,
)
follow_by start now next before p done C more told none later false e = (
  whole_lines (p.bytes ++ more),
  lines_by start next before (C.input ++ more) false (tells_more start now next C.input more C.read told) e ∙ C.whole (not_ended start now next before p done C later e) more,
)

-- between two lines, these are done, and others may stand behind them
pub follow_so_far : (start now : Told) (before p : Unread) (done : List (List ℕ)) → Following start now before p done → (rest : List (List ℕ)) × (lines_since start now before ≡ done ++ rest)
follow_so_far start now before p done C = follow_by start now now before p done C [] (tells_nothing now) (λ _. refl) (omega arith) (has_told_end start now before) refl

-- whatever the answer of a call for the next line
pub follow_short : (start now next : Told) (before p q : Unread) (done : List (List ℕ)) (r : Result (Option Line) LineFault) → Following start now before p done → LineRead now next p q r
    → (rest : List (List ℕ)) × (lines_since start next before ≡ done ++ rest)
follow_short start now next before p q done r C t = follow_by start now next before p done C t.more t.told (λ e. (t.quiet e).0) t.later (has_told_end start next before) refl

told_by : (start next : Told) (before : Unread) → start.ends < next.ends → has_told_end start next before ≡ true
told_by start next before told =
    let yes : nat_lt start.ends next.ends ≡ true = grind (arith, nat_tests) in
    ap (λ b. before.ended || b) yes ∙ or-true before.ended

not_told_by : (start next : Told) (before : Unread) → before.ended ≡ false → next.ends ≡ start.ends → has_told_end start next before ≡ false
not_told_by start next before begun same =
    let no : nat_lt start.ends next.ends ≡ false = grind (arith, nat_tests) in
    ap (λ b. b || nat_lt start.ends next.ends) begun ∙ no

failed_since : (a b c left : ℕ) → b ≡ a → (c ≡ b + 1) ⊎ ((c ≡ b) × (left ≡ 0)) → (c ≡ a + 1) ⊎ ((c ≡ a) × (left ≡ 0))
failed_since a b c left same (inl h) = inl (h ∙ ap (λ n. n + 1) same)
failed_since a b c left same (inr h) = inr (h.0 ∙ same, h.1)

once_by : (ended : Bool) (a b : ℕ) → (ended ≡ true → b ≡ a + 1) → (ended ≡ false → b ≡ a) → b ≤ a + 1
once_by true a b ends going = omega (arith, ends refl)
once_by false a b ends going = omega (arith, going refl)

next_once : (ended : Bool) (a b c : ℕ) → (ended ≡ true → c ≡ a + 1) → (ended ≡ false → c ≡ b) → b ≤ a + 1 → c ≤ a + 1
next_once true a b c ends going before = omega (arith, ends refl)
next_once false a b c ends going before = omega (arith, going refl, before)

-- at the end, these lines are all
pub follow_all : (start now next : Told) (before p q : Unread) (done : List (List ℕ)) → Following start now before p done → LineRead now next p q (Ok None)
    → (lines_since start next before ≡ done) × HasEnded start next
follow_all start now next before p q done C t =
    let ended = ends_after start now next p C.ends C.going (λ e. (t.quiet e).1) (t.ended t.outcome.2) in (
      lines_by start next before (C.input ++ t.more) true (tells_more start now next C.input t.more C.read t.told) (told_by start next before (omega (arith, ended.0)))
          ∙ C.lines t.more (λ e. (t.quiet e).0) ∙ ap (λ x. done ++ lines_of x) t.outcome.0 ∙ ap (λ x. done ++ x) lines_of-nil ∙ append-nil done,
      ended,
    )

-- at a fault of the reader, these lines are all that have their line feed
pub follow_fault : (start now next : Told) (before p q : Unread) (done : List (List ℕ)) → Following start now before p done → LineRead now next p q (Err Read)
    → (lines_since start next before ≡ done) × ((next.failures ≡ start.failures + 1) ⊎ ((next.failures ≡ start.failures) × (q.reads_left ≡ 0))) × (next.ends ≡ start.ends)
follow_fault start now next before p q done C t =
    let same : next.ends ≡ start.ends = t.going t.cause.2 ∙ C.going t.cause.1 in (
      lines_by start next before (C.input ++ t.more) false (tells_more start now next C.input t.more C.read t.told) (not_told_by start next before C.begun same)
          ∙ C.whole t.cause.1 t.more ∙ ap (λ x. done ++ x) (whole_lines-none (p.bytes ++ t.more) t.outcome) ∙ append-nil done,
      failed_since start.failures now.failures next.failures q.reads_left C.failures t.cause.0,
      same,
    )

read_by : (start next : Told) (before q : Unread) (input : List ℕ) → Tells start next input → next.calls + q.reads_left ≡ start.calls + before.reads_left → start.ends ≤ next.ends → next.ends ≤ start.ends + 1 → LinesRead start next before q
read_by start next before q input told calls later once = record { told = since_told start next input told; calls = calls; later = later; once = once }

-- what was read between two lines
pub read_so_far : (start now : Told) (before p : Unread) (done : List (List ℕ)) → Following start now before p done → LinesRead start now before p
read_so_far start now before p done C = read_by start now before p C.input C.read C.calls C.later (once_by p.ended start.ends now.ends (λ e. (C.ends e).0) C.going)

-- what was read by a call for the next line, whatever it answered
pub read_short : (start now next : Told) (before p q : Unread) (done : List (List ℕ)) (r : Result (Option Line) LineFault) → Following start now before p done → LineRead now next p q r → LinesRead start next before q
read_short start now next before p q done r C t =
    read_by start next before q (C.input ++ t.more) (tells_more start now next C.input t.more C.read t.told) (t.calls ∙ C.calls) (omega (arith, C.later, t.later))
    (next_once q.ended start.ends now.ends next.ends (λ e. (ends_after start now next p C.ends C.going (λ h. (t.quiet h).1) (t.ended e)).0) t.going (once_by p.ended start.ends now.ends (λ e. (C.ends e).0) C.going))
