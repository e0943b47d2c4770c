-- What was read so far, as lines and the bytes behind them: the laws that a loop over the lines of a script needs.
use Rattle.std.proofs.Common.{◌≡◌, ◌∙◌, ◌⊎◌, inl, inr, ℕ, ◌+◌, ◌<◌, ◌≤◌, List, [], ◌∷◌, ◌++◌, Bool, true, false, length, Option, Some, None, Result, Ok, Err, refl, sym, ap, subst, append_assoc, length-append, arith}
use Rattle.std.proofs.lemmas.Bool.{false≢true, false_from_ne_true}
use Rattle.std.proofs.lemmas.List.{append-nil}
use Rattle.script_lines.specs.declared.line.Line.{Line}
use Rattle.script_lines.specs.declared.line_fault.LineFault.{LineFault}
use Rattle.script_lines.specs.declared.line_fault.LineFault.TheVariants.{Read}
use Rattle.script_lines.specs.declared.input_buffer.TheConstants.{MAX_READS}
use Rattle.script_lines.specs.Device.{Told, Tells}
use Rattle.script_lines.specs.Cut.{lines_of, whole_lines, has_feed, at_least_one, script_lines}
use Rattle.script_lines.specs.Unread.{Unread, nothing_read}
use Rattle.script_lines.specs.Lines.{Shows, ShowsFirst, Cuts, HasEnded, AreComplete, LineRead, IsReadFault, IsBounded}
use Rattle.script_lines.proofs.Telling.{tells_more}
use Rattle.script_lines.proofs.CutLaws.{lines_of-cut, lines_of-last, lines_of-nil, whole_lines-cut, whole_lines-none}

-- the reader told an input, of which these lines are done, whatever it tells from now on
pub record Cutting (start now : Told) (p : Unread) (done : List (List ℕ)) : Type 0 where
  pub input : List ℕ
  pub read : Tells start now input
  pub lines : (more : List ℕ) → (p.ended ≡ true → more ≡ []) → script_lines (input ++ more) ≡ done ++ lines_of (p.bytes ++ more)
  pub whole : p.ended ≡ false → (more : List ℕ) → whole_lines (input ++ more) ≡ done ++ whole_lines (p.bytes ++ more)
  pub failures : now.failures ≡ start.failures
  pub calls : now.calls + p.reads_left ≡ start.calls + MAX_READS
  pub ends : p.ended ≡ true → HasEnded start now
  pub going : p.ended ≡ false → now.ends ≡ start.ends
  pub later : start.ends ≤ now.ends
  pub drained : p.ended ≡ true → p.bytes ≡ []

-- a line was cut off, whatever comes
pub cut_off : (bytes line : List ℕ) (q : Unread) → has_feed line ≡ false → Cuts bytes line q → (more : List ℕ) → (q.ended ≡ true → more ≡ []) → lines_of (bytes ++ more) ≡ line ∷ lines_of (q.bytes ++ more)
cut_off bytes line q clean (inl e) more h =
    ap (λ b. lines_of (b ++ more)) e ∙ ap lines_of (append_assoc line (10 ∷ q.bytes) more) ∙ lines_of-cut line (q.bytes ++ more) clean
cut_off bytes [] q clean (inr e) more h = absurd (omega (arith, e.1))
cut_off bytes (b ∷ bs) q clean (inr e) more h =
    let none = h e.3 in
    let last = ap (λ x. lines_of (x ++ more)) e.0 ∙ ap (λ x. lines_of ((b ∷ bs) ++ x)) none ∙ ap lines_of (append-nil (b ∷ bs)) ∙ lines_of-last b bs clean in
    last ∙ sym (ap (λ x. (b ∷ bs) ∷ lines_of (x ++ more)) e.2 ∙ ap (λ x. (b ∷ bs) ∷ lines_of x) none ∙ ap (λ x. (b ∷ bs) ∷ x) lines_of-nil)

pub cut_off_whole : (bytes line : List ℕ) (q : Unread) → has_feed line ≡ false → Cuts bytes line q → q.ended ≡ false → (more : List ℕ) → whole_lines (bytes ++ more) ≡ line ∷ whole_lines (q.bytes ++ more)
cut_off_whole bytes line q clean (inl e) open_end more =
    ap (λ b. whole_lines (b ++ more)) e ∙ ap whole_lines (append_assoc line (10 ∷ q.bytes) more) ∙ whole_lines-cut line (q.bytes ++ more) clean
cut_off_whole bytes line q clean (inr e) open_end more = absurd (false≢true (sym open_end ∙ e.3))

-- of nothing no line is cut off
pub something : (bytes line : List ℕ) (q : Unread) → Cuts bytes line q → bytes ≡ [] → ⊥
something bytes line q (inl e) none =
    let l : length bytes ≡ length line + length (10 ∷ q.bytes) = ap length e ∙ length-append line (10 ∷ q.bytes) in
    let z : length bytes ≡ 0 = ap length none in
    omega arith
something bytes line q (inr e) none =
    let l : length bytes ≡ length line = ap length e.0 in
    let z : length bytes ≡ 0 = ap length none in
    let pos : 0 < length line = e.1 in
    omega arith

-- the end was told before, and nothing since; or it was told now
ends_by : (start now next : Told) (p : Unread) (ended : Bool) → p.ended ≡ ended → (p.ended ≡ true → HasEnded start now) → (p.ended ≡ false → now.ends ≡ start.ends) → (p.ended ≡ true → next ≡ now) → (p.ended ≡ true) ⊎ HasEnded now next → HasEnded start next
ends_by start now next p true e before going still h = subst (λ (t : Told). HasEnded start t) (sym (still e)) (before e)
ends_by start now next p false e before going still (inl t) = absurd (false≢true (sym e ∙ t))
ends_by start now next p false e before going still (inr h) = (h.0 ∙ ap (λ n. n + 1) (going e), h.1)

pub ends_after : (start now next : Told) (p : Unread) → (p.ended ≡ true → HasEnded start now) → (p.ended ≡ false → now.ends ≡ start.ends) → (p.ended ≡ true → next ≡ now) → (p.ended ≡ true) ⊎ HasEnded now next → HasEnded start next
ends_after start now next p = ends_by start now next p p.ended refl

caused : (start now next : Told) (p q : Unread) → now.failures ≡ start.failures → now.calls + p.reads_left ≡ start.calls + MAX_READS → next.calls + q.reads_left ≡ now.calls + p.reads_left
    → (next.failures ≡ now.failures + 1) ⊎ ((next.failures ≡ now.failures) × (q.reads_left ≡ 0)) → IsReadFault start next
caused start now next p q f c d (inl h) = inl (h ∙ ap (λ n. n + 1) f)
caused start now next p q f c d (inr h) =
    let none : q.reads_left ≡ 0 = h.1 in
    inr (h.0 ∙ f, omega (arith, none, c, d))

-- the first line: no line is an empty one
pub cut_first : (start next : Told) (q : Unread) (first : Option Line) (t : LineRead start next nothing_read q (Ok first))
    → (line : List ℕ) × ShowsFirst first line × ((C : Cutting start next q (line ∷ [])) × (C.input ≡ t.more))
cut_first start next q None t = (
  [],
  refl,
  (
    record {
      input = t.more;
      read = t.told;
      lines = λ more h. ap (λ x. script_lines (x ++ more)) t.outcome.0 ∙ ap script_lines (h t.outcome.2) ∙ ap at_least_one lines_of-nil
          ∙ sym (ap (λ x. [] ∷ lines_of (x ++ more)) t.outcome.1 ∙ ap (λ x. [] ∷ lines_of x) (h t.outcome.2) ∙ ap (λ x. [] ∷ x) lines_of-nil);
      whole = λ e. absurd (false≢true (sym e ∙ t.outcome.2));
      failures = t.cause;
      calls = t.calls;
      ends = λ e. ends_after start start next nothing_read (λ h. absurd (false≢true h)) (λ _. refl) (λ h. absurd (false≢true h)) (t.ended e);
      going = t.going;
      later = t.later;
      drained = t.drained;
    },
    refl,
  ),
)
cut_first start next q (Some l) t =
    let line = t.outcome.0 in (
      line,
      t.outcome.1,
      (
        record {
          input = t.more;
          read = t.told;
          lines = λ more h. ap at_least_one (cut_off t.more line q t.outcome.2 t.outcome.3 more h);
          whole = λ e more. cut_off_whole t.more line q t.outcome.2 t.outcome.3 e more;
          failures = t.cause;
          calls = t.calls;
          ends = λ e. ends_after start start next nothing_read (λ h. absurd (false≢true h)) (λ _. refl) (λ h. absurd (false≢true h)) (t.ended e);
          going = t.going;
          later = t.later;
          drained = t.drained;
        },
        refl,
      ),
    )

-- the next line
pub cut_next : (start now next : Told) (p q : Unread) (done : List (List ℕ)) (l : Line) (C : Cutting start now p done) (t : LineRead now next p q (Ok (Some l)))
    → (line : List ℕ) × Shows l line × ((D : Cutting start next q (done ++ line ∷ [])) × (D.input ≡ C.input ++ t.more))
cut_next start now next p q done l C t =
    let line = t.outcome.0 in
    let running : p.ended ≡ true → ⊥ = λ e. something (p.bytes ++ t.more) line q t.outcome.3 (ap (λ x. x ++ t.more) (C.drained e) ∙ (t.quiet e).0) in (
      line,
      t.outcome.1,
      (
        record {
          input = C.input ++ t.more;
          read = tells_more start now next C.input t.more C.read t.told;
          lines = λ more h. ap script_lines (append_assoc C.input t.more more) ∙ C.lines (t.more ++ more) (λ e. absurd (running e))
              ∙ ap (λ x. done ++ lines_of x) (sym (append_assoc p.bytes t.more more)) ∙ ap (λ x. done ++ x) (cut_off (p.bytes ++ t.more) line q t.outcome.2 t.outcome.3 more h)
              ∙ sym (append_assoc done (line ∷ []) (lines_of (q.bytes ++ more)));
          whole = λ e more. ap whole_lines (append_assoc C.input t.more more) ∙ C.whole (false_from_ne_true p.ended running) (t.more ++ more)
              ∙ ap (λ x. done ++ whole_lines x) (sym (append_assoc p.bytes t.more more)) ∙ ap (λ x. done ++ x) (cut_off_whole (p.bytes ++ t.more) line q t.outcome.2 t.outcome.3 e more)
              ∙ sym (append_assoc done (line ∷ []) (whole_lines (q.bytes ++ more)));
          failures = t.cause ∙ C.failures;
          calls = t.calls ∙ C.calls;
          ends = λ e. ends_after start now next p C.ends C.going (λ h. (t.quiet h).1) (t.ended e);
          going = λ e. t.going e ∙ C.going (false_from_ne_true p.ended running);
          later = omega (arith, C.later, t.later);
          drained = t.drained;
        },
        refl,
      ),
    )

-- lines that are complete stay so, whatever is told from now on
complete : (start now next : Told) (p : Unread) (done : List (List ℕ)) (C : Cutting start now p done) (more : List ℕ) → (p.ended ≡ true → more ≡ []) → (p.ended ≡ true → next ≡ now) → (ended : Bool) → p.ended ≡ ended
    → (rest : List (List ℕ)) × AreComplete start next (C.input ++ more) (done ++ rest)
complete start now next p done C more none still true e =
    let told : start.ends < next.ends = subst (λ (t : Told). start.ends < t.ends) (sym (still e)) (omega (arith, (C.ends e).0)) in
    (lines_of (p.bytes ++ more), inr (told, sym (C.lines more none)))
complete start now next p done C more none still false e = (whole_lines (p.bytes ++ more), inl (sym (C.whole e more)))

-- whatever the answer, these lines are done, and others may stand behind them
pub cut_short : (start now next : Told) (p q : Unread) (done : List (List ℕ)) (r : Result (Option Line) LineFault) (C : Cutting start now p done) (t : LineRead now next p q r)
    → Tells start next (C.input ++ t.more) × ((rest : List (List ℕ)) × AreComplete start next (C.input ++ t.more) (done ++ rest))
cut_short start now next p q done r C t =
    (tells_more start now next C.input t.more C.read t.told, complete start now next p done C t.more (λ e. (t.quiet e).0) (λ e. (t.quiet e).1) p.ended refl)

-- between two lines, these are done, and others may stand behind them
pub cut_so_far : (start now : Told) (p : Unread) (done : List (List ℕ)) (C : Cutting start now p done) → (rest : List (List ℕ)) × AreComplete start now C.input (done ++ rest)
cut_so_far start now p done C =
    let all = complete start now now p done C [] (λ e. refl) (λ e. refl) p.ended refl in
    (all.0, subst (λ input. AreComplete start now input (done ++ all.0)) (append-nil C.input) all.1)

-- at the end, these lines are all
pub cut_all : (start now next : Told) (p q : Unread) (done : List (List ℕ)) (C : Cutting start now p done) (t : LineRead now next p q (Ok None))
    → Tells start next (C.input ++ t.more) × (script_lines (C.input ++ t.more) ≡ done) × HasEnded start next
cut_all start now next p q done C t = (
  tells_more start now next C.input t.more C.read t.told,
  C.lines t.more (λ e. (t.quiet e).0) ∙ ap (λ x. done ++ lines_of x) t.outcome.0 ∙ ap (λ x. done ++ x) lines_of-nil ∙ append-nil done,
  ends_after start now next p C.ends C.going (λ e. (t.quiet e).1) (t.ended t.outcome.2),
)

-- at a fault of the reader, these lines are all that have their line feed
pub cut_fault : (start now next : Told) (p q : Unread) (done : List (List ℕ)) (C : Cutting start now p done) (t : LineRead now next p q (Err Read))
    → Tells start next (C.input ++ t.more) × (whole_lines (C.input ++ t.more) ≡ done) × IsReadFault start next × (next.ends ≡ start.ends)
cut_fault start now next p q done C t = (
  tells_more start now next C.input t.more C.read t.told,
  C.whole t.cause.1 t.more ∙ ap (λ x. done ++ x) (whole_lines-none (p.bytes ++ t.more) t.outcome) ∙ append-nil done,
  caused start now next p q C.failures C.calls t.calls t.cause.0,
  t.going t.cause.2 ∙ C.going t.cause.1,
)

-- a fault of the reader ahead of the first line
pub first_fault : (start next : Told) (q : Unread) → (t : LineRead start next nothing_read q (Err Read)) → (whole_lines t.more ≡ []) × IsReadFault start next × (next.ends ≡ start.ends)
first_fault start next q t =
    (whole_lines-none t.more t.outcome, caused start start next nothing_read q refl refl t.calls t.cause.0, t.going t.cause.2)

-- where a read told more behind these lines, they are all that were whole before it
pub whole_before : (start now next : Told) (p q : Unread) (done : List (List ℕ)) (r : Result (Option Line) LineFault) (C : Cutting start now p done) (t : LineRead now next p q r) (first last : List ℕ)
    → t.more ≡ first ++ last → has_feed (p.bytes ++ first) ≡ false → p.ended ≡ false
    → whole_lines (C.input ++ first) ≡ done
whole_before start now next p q done r C t first last split clean open_end =
    C.whole open_end first ∙ ap (λ x. done ++ x) (whole_lines-none (p.bytes ++ first) clean) ∙ append-nil done

bounded_by : (start now : Told) (p : Unread) (ended : Bool) → p.ended ≡ ended → (p.ended ≡ true → HasEnded start now) → (p.ended ≡ false → now.ends ≡ start.ends) → now.calls + p.reads_left ≡ start.calls + MAX_READS → IsBounded start now
bounded_by start now p true e ends going calls = (omega (arith, (ends e).0), omega (arith, calls))
bounded_by start now p false e ends going calls = (omega (arith, going e), omega (arith, calls))

-- between two lines, the reader told its end once at most, and was called at most as often as it may be
pub cut_bounded : (start now : Told) (p : Unread) (done : List (List ℕ)) → Cutting start now p done → IsBounded start now
cut_bounded start now p done C = bounded_by start now p p.ended refl C.ends C.going C.calls

-- the same of the call for the first line
pub first_bounded : (start next : Told) (q : Unread) (r : Result (Option Line) LineFault) → LineRead start next nothing_read q r → IsBounded start next
first_bounded start next q r t =
    bounded_by start next q q.ended refl (λ e. ends_after start start next nothing_read (λ h. absurd (false≢true h)) (λ _. refl) (λ h. absurd (false≢true h)) (t.ended e)) t.going t.calls

next_bounded_by : (start now next : Told) (p q : Unread) (done : List (List ℕ)) (r : Result (Option Line) LineFault) (C : Cutting start now p done) (t : LineRead now next p q r) (ended : Bool) → q.ended ≡ ended → IsBounded start next
next_bounded_by start now next p q done r C t true e =
    let told = ends_after start now next p C.ends C.going (λ h. (t.quiet h).1) (t.ended e) in
    (omega (arith, told.0), omega (arith, t.calls, C.calls))
next_bounded_by start now next p q done r C t false e =
    let before = cut_bounded start now p done C in
    (omega (arith, t.going e, before.0), omega (arith, t.calls, C.calls))

-- and of the call for a later line
pub next_bounded : (start now next : Told) (p q : Unread) (done : List (List ℕ)) (r : Result (Option Line) LineFault) → Cutting start now p done → LineRead now next p q r → IsBounded start next
next_bounded start now next p q done r C t = next_bounded_by start now next p q done r C t q.ended refl
