-- A line that grows while what waits is passed on.
use Rattle.std.proofs.Common.{◌≡◌, inl, inr, ℕ, List, [], ◌++◌, true, false, Option, Some, None, Ok, Err, refl, sym, ◌∙◌, ap, subst, append_assoc}
use Rattle.std.proofs.lemmas.Bool.{false≢true, false_from_ne_true}
use Rattle.std.proofs.lemmas.List.{append-nil}
use Rattle.log_host.specs.Host.{LeavesOnly}
use Rattle.durable_log.specs.Logs.{records_of, waiting_in, IsSettled}
use Rattle.durable_log.specs.declared.log.Log.{Log}
use Rattle.durable_log.proofs.Moments.{begun, weaker, then_leaves}
use Rattle.script_lines.specs.declared.line.Line.{Line}
use Rattle.script_lines.specs.declared.line_fault.LineFault.{LineFault}
use Rattle.script_lines.specs.declared.line_fault.LineFault.TheVariants as line_faults
use Rattle.script_lines.specs.declared.at_hand.AtHand.TheVariants as given
use Rattle.script_lines.specs.Device.{Told}
use Rattle.script_lines.specs.Unread.{Unread, emptied}
use Rattle.script_lines.specs.AtHand.{IsLast, IsAtHand, Filled}
use Rattle.script_lines.specs.Lines.{LineRead, IsPartRead}
use Rattle.script_lines.proofs.Growing.{Growing, grew, found, failed, part_read}
use Rattle.script_log.specs.Passing.{Standing, standing, Passing, IsPassedOn}
use Rattle.script_log.specs.Hosts.{Hosting, state_of, GoesOn}
use Rattle.script_log.specs.Reading.{reading}
use Rattle.script_log.specs.Faults.{line_result, is_broken, all_records, HasBroken}
use Rattle.script_log.specs.InTurn.{HasRoom, IsCutShort, IsCutShortIf, LineInTurn}
use Rattle.script_log.specs.declared.fault.RunFault.{RunFault}
use Rattle.script_log.specs.declared.fault.RunFault.TheVariants as faults
use Rattle.script_log.proofs.Passed.{all-kept, passed-two, passing-two, settled-passing}
use Rattle.script_log.proofs.Going.{line-broken, broken-unless}
use Rattle.script_log.proofs.Failing.{goes-none, goes-two, broken-later}

-- the reader told its end, and nothing is left
line-ended : (old now : Told) (before mid : Unread) (grown : Line) (last : Option Line) → Growing old now before mid grown
    → mid.ended ≡ true → mid.bytes ≡ [] → IsLast grown last → LineRead old now before mid (Ok last)
line-ended old now before mid grown None G end none last = record {
  more = G.more;
  told = G.told;
  turn = G.turn;
  outcome = (G.bytes ∙ ap (λ l. l ++ mid.bytes) (last G.line G.shows) ∙ none, none, end);
  cause = G.failures;
  calls = G.calls;
  quiet = G.quiet;
  later = G.later;
  ended = G.ended;
  going = G.going;
  drained = λ _. none;
}
line-ended old now before mid grown (Some line) G end none last =
    let left = last G.line G.shows in
    record {
      more = G.more;
      told = G.told;
      turn = G.turn;
      outcome = (G.line, left.0, G.no_feed, inr (G.bytes ∙ ap (λ l. G.line ++ l) none ∙ append-nil G.line, left.1, none, end));
      cause = G.failures;
      calls = G.calls;
      quiet = G.quiet;
      later = G.later;
      ended = G.ended;
      going = G.going;
      drained = λ _. none;
    }

-- memory was refused for the line
abbrev line-refused : (old now : Told) (before mid : Unread) (grown : Line) → Growing old now before mid grown → mid.ended ≡ false → LineRead old now before mid (Err line_faults.OutOfMemory)
line-refused old now before mid grown G running = record {
  more = G.more;
  told = G.told;
  turn = G.turn;
  outcome = tt;
  cause = G.failures;
  calls = G.calls;
  quiet = G.quiet;
  later = G.later;
  ended = λ e. absurd (false≢true (sym running ∙ e));
  going = G.going;
  drained = λ e. absurd (false≢true (sym running ∙ e));
}

-- what waits could not be passed on
line-stopped : (old now : Told) (before mid : Unread) (grown : Line) → Growing old now before mid grown → mid.ended ≡ false → LineRead old now before (emptied mid) (Err line_faults.Write)
line-stopped old now before mid grown G running = record {
  more = G.more;
  told = G.told;
  turn = G.turn;
  outcome = tt;
  cause = G.failures;
  calls = G.calls;
  quiet = G.quiet;
  later = G.later;
  ended = λ e. absurd (false≢true (sym running ∙ e));
  going = G.going;
  drained = λ _. refl;
}

-- the rest of a line whose memory was refused is at hand
line-short : (old now : Told) (before mid : Unread) (grown : Line) (G : Growing old now before mid grown) → mid.ended ≡ false → IsCutShort (before.bytes ++ G.more) before mid
line-short old now before mid grown G running = record {
  part = G.line;
  no_feed = G.no_feed;
  split = G.bytes;
  begun = false_from_ne_true before.ended (λ e. false≢true (sym running ∙ G.still e));
  running = running;
}

-- passing on loses no byte that was heard or waits
heard-all : (a b : Standing) → IsPassedOn a b → b.heard ++ b.text ≡ a.heard ++ a.text
heard-all a b (inl same) = ap (λ (s : Standing). s.heard ++ s.text) same
heard-all a b (inr D) = ap (λ (l : List ℕ). l ++ b.text) D.heard ∙ append_assoc a.heard D.front b.text ∙ ap (λ (l : List ℕ). a.heard ++ l) D.text

module _ {D : Type 0} (d : Hosting D) where
  -- all that waits was passed on
  pub all-passed : (log log1 : Log D) (out out1 : List ℕ) → records_of (d.seen log1.host) ≡ records_of (d.seen log.host) ++ waiting_in log → waiting_in log1 ≡ [] → d.heard log1.host ≡ d.heard log.host ++ out → out1 ≡ []
      → IsPassedOn (standing d.seen d.heard log out) (standing d.seen d.heard log1 out1)
  all-passed log log1 out out1 records none told empty = inr (record {
    records = records;
    waits = none;
    front = out;
    text = ap (λ (x : List ℕ). out ++ x) empty ∙ append-nil out;
    heard = told;
  })

  -- the line so far, and what was passed on meanwhile
  pub record Turning (start now : Told) (p q : Unread) (part : Line) (log0 log : Log D) (out0 out : List ℕ) : Type 0 where
    pub growing : Growing start now p q part
    pub settled : IsSettled d.seen d.heard d.may_leave log
    pub room : HasRoom log0 → HasRoom log
    pub passed_on : IsPassedOn (standing d.seen d.heard log0 out0) (standing d.seen d.heard log out)
    pub any_moment : LeavesOnly d.moment d.left_since log0.host log.host (Passing (standing d.seen d.heard log0 out0))
    pub goes_on : GoesOn d log0.host log.host

  pub turning-begun : (start : Told) (p : Unread) (part : Line) (log0 : Log D) (out0 : List ℕ) → Growing start start p p part → IsSettled d.seen d.heard d.may_leave log0
      → ((f o : List ℕ) → d.left_since log0.host (d.moment log0.host) f o → d.may_leave log0.host f o) → Turning start start p p part log0 log0 out0 out0
  turning-begun start p part log0 out0 growing settled only = record {
    growing = growing;
    settled = settled;
    room = λ room. room;
    passed_on = inl refl;
    any_moment = begun d.moment d.left_since log0.host (Passing (standing d.seen d.heard log0 out0)) (λ f o left. settled-passing d.seen d.heard d.may_leave log0 out0 f o settled (only f o left));
    goes_on = goes-none d log0 settled only;
  }

  -- the reader may be called for more of the line
  pub asks-more : (start now : Told) (p q q1 : Unread) (part longer : Line) (log0 log log1 : Log D) (out0 out : List ℕ) (may_read : Told → List ℕ → Type 0) → Turning start now p q part log0 log out0 out → IsAtHand part q q1 (given.Part longer)
      → d.heard log1.host ≡ d.heard log.host ++ out → ((to : Told) → IsPartRead start to p → may_read to (d.heard log0.host ++ out0)) → may_read now (d.heard log1.host)
  asks-more start now p q q1 part longer log0 log log1 out0 out may_read T t told may =
      subst (λ (h : List ℕ). may_read now h) (sym (told ∙ heard-all (standing d.seen d.heard log0 out0) (standing d.seen d.heard log out) T.passed_on))
      (may now (part_read start now p q part T.growing t.0 t.2))

  pub turn-line : (start now : Told) (p q q' : Unread) (part line : Line) (log0 log : Log D) (out0 out : List ℕ) → Turning start now p q part log0 log out0 out → IsAtHand part q q' (given.Line line)
      → LineInTurn d (reading start now p q') log0 log out0 out (Ok (Some line))
  turn-line start now p q q' part line log0 log out0 out T t = record {
    line = found start now p q q' part line t.1.0 T.growing t.1.2 t.1.3 t.0 t.1.5 t.1.4;
    wants = tt;
    settled = T.settled;
    room = T.room;
    passed_on = T.passed_on;
    any_moment = T.any_moment;
    goes_on = T.goes_on;
    cause = tt;
  }

  pub turn-end : (start now : Told) (p q q' : Unread) (part : Line) (last : Option Line) (log0 log : Log D) (out0 out : List ℕ) → Turning start now p q part log0 log out0 out → IsAtHand part q q' (given.End last)
      → LineInTurn d (reading start now p q') log0 log out0 out (Ok last)
  turn-end start now p q q' part last log0 log out0 out T t = record {
    line = subst (λ (u : Unread). LineRead start now p u (Ok last)) (sym t.1) (line-ended start now p q part last T.growing t.0 t.2 t.3);
    wants = tt;
    settled = T.settled;
    room = T.room;
    passed_on = T.passed_on;
    any_moment = T.any_moment;
    goes_on = T.goes_on;
    cause = tt;
  }

  turn-short : (start now : Told) (p q : Unread) (part : Line) (log0 log : Log D) (out0 out : List ℕ) → Turning start now p q part log0 log out0 out → q.ended ≡ false
      → LineInTurn d (reading start now p q) log0 log out0 out (Err faults.OutOfMemory)
  turn-short start now p q part log0 log out0 out T running = record {
    line = line-refused start now p q part T.growing running;
    wants = line-short start now p q part T.growing running;
    settled = λ _. T.settled;
    room = λ _. T.room;
    passed_on = λ _. T.passed_on;
    any_moment = T.any_moment;
    goes_on = T.goes_on;
    cause = tt;
  }

  pub turn-refused : (start now : Told) (p q q' : Unread) (part : Line) (log0 log : Log D) (out0 out : List ℕ) → Turning start now p q part log0 log out0 out → q' ≡ q → q.ended ≡ false
      → LineInTurn d (reading start now p q') log0 log out0 out (Err faults.OutOfMemory)
  turn-refused start now p q q' part log0 log out0 out T same running =
      subst (λ (u : Unread). LineInTurn d (reading start now p u) log0 log out0 out (Err faults.OutOfMemory)) (sym same) (turn-short start now p q part log0 log out0 out T running)

  leaves-two : (log0 log log1 : Log D) (out0 out : List ℕ) → IsPassedOn (standing d.seen d.heard log0 out0) (standing d.seen d.heard log out) → LeavesOnly d.moment d.left_since log0.host log.host (Passing (standing d.seen d.heard log0 out0))
      → LeavesOnly d.moment d.left_since log.host log1.host (Passing (standing d.seen d.heard log out)) → LeavesOnly d.moment d.left_since log0.host log1.host (Passing (standing d.seen d.heard log0 out0))
  leaves-two log0 log log1 out0 out on before step =
      let s0 = standing d.seen d.heard log0 out0 in
      let s = standing d.seen d.heard log out in
      then_leaves d.moment d.left_since log0.host log.host log1.host (Passing s0) before (weaker d.moment d.left_since log.host log1.host (Passing s) (Passing s0) step (λ f o at. passing-two s0 s f o on at))

  no-want : (f : RunFault) (bytes : List ℕ) (before left : Unread) → is_broken f ≡ true → IsCutShortIf bytes before left (Err f)
  no-want faults.Read bytes before left broken = tt
  no-want faults.Write bytes before left broken = tt
  no-want (faults.Log fault) bytes before left broken = tt
  no-want faults.OutOfMemory bytes before left broken = absurd (false≢true broken)

  pub turn-stopped : (start now : Told) (p q q' : Unread) (part longer : Line) (log0 log log1 : Log D) (out0 out out1 : List ℕ) (f : RunFault) → Turning start now p q part log0 log out0 out → IsAtHand part q q' (given.Part longer)
      → LeavesOnly d.moment d.left_since log.host log1.host (Passing (standing d.seen d.heard log out)) → GoesOn d log.host log1.host → is_broken f ≡ true
      → HasBroken (all_records d.seen log) (state_of d log.host) (state_of d log1.host) f
      → LineInTurn d (reading start now p q') log0 log1 out0 out1 (Err f)
  turn-stopped start now p q q' part longer log0 log log1 out0 out out1 f T t leaves later broken cause = record {
    line = subst (λ (u : Unread). LineRead start now p u (line_result (Err f))) (sym t.1) (line-broken start now p (emptied q) f broken (line-stopped start now p q part T.growing t.0));
    wants = no-want f _ p q' broken;
    settled = broken-unless _ f broken;
    room = broken-unless _ f broken;
    passed_on = broken-unless _ f broken;
    any_moment = leaves-two log0 log log1 out0 out T.passed_on T.any_moment leaves;
    goes_on = goes-two d log0.host log.host log1.host T.goes_on later;
    cause = broken-later d log0.host log.host log1.host (all_records d.seen log0) (all_records d.seen log) f T.goes_on (all-kept (standing d.seen d.heard log0 out0) (standing d.seen d.heard log out) T.passed_on) cause;
  }

  pub turn-failed : (start now next : Told) (p q q1 q' : Unread) (part longer : Line) (log0 log log1 : Log D) (out0 out out1 : List ℕ) (e : LineFault) → Turning start now p q part log0 log out0 out → IsAtHand part q q1 (given.Part longer)
      → LeavesOnly d.moment d.left_since log.host log1.host (Passing (standing d.seen d.heard log out)) → GoesOn d log.host log1.host → IsPassedOn (standing d.seen d.heard log out) (standing d.seen d.heard log1 out1)
      → IsSettled d.seen d.heard d.may_leave log1 → HasRoom log1
      → Filled now next q1 q' (Err e) → LineInTurn d (reading start next p q') log0 log1 out0 out1 (Err faults.Read)
  turn-failed start now next p q q1 q' part longer log0 log log1 out0 out out1 e T t leaves later on settled room filled =
      let F = subst (λ (u : Unread). Filled now next u q' (Err e)) t.1 filled in
      record {
        line = failed start now next p q q' part T.growing t.2 t.0 F.err.told F.err.ended F.ends.going F.ends.later F.calls F.err.cause;
        wants = tt;
        settled = λ _. settled;
        room = λ _ _. room;
        passed_on = λ _. passed-two (standing d.seen d.heard log0 out0) (standing d.seen d.heard log out) (standing d.seen d.heard log1 out1) T.passed_on on;
        any_moment = leaves-two log0 log log1 out0 out T.passed_on T.any_moment leaves;
        goes_on = goes-two d log0.host log.host log1.host T.goes_on later;
        cause = tt;
      }

  pub turn-on : (start now next : Told) (p q q1 q' : Unread) (part longer : Line) (log0 log log1 : Log D) (out0 out out1 : List ℕ) → Turning start now p q part log0 log out0 out → IsAtHand part q q1 (given.Part longer)
      → LeavesOnly d.moment d.left_since log.host log1.host (Passing (standing d.seen d.heard log out)) → GoesOn d log.host log1.host → IsPassedOn (standing d.seen d.heard log out) (standing d.seen d.heard log1 out1)
      → IsSettled d.seen d.heard d.may_leave log1 → HasRoom log1
      → Filled now next q1 q' (Ok tt) → Turning start next p q' longer log0 log1 out0 out1
  turn-on start now next p q q1 q' part longer log0 log log1 out0 out out1 T t leaves later on settled room filled =
      let F = subst (λ (u : Unread). Filled now next u q' (Ok tt)) t.1 filled in
      record {
        growing = grew start now next p q q' part longer T.growing t.2 t.0 t.3 F.ok.told F.ok.ended F.ends.going F.ends.later F.calls F.ok.quiet F.ok.fewer F.ok.small;
        settled = settled;
        room = λ _. room;
        passed_on = passed-two (standing d.seen d.heard log0 out0) (standing d.seen d.heard log out) (standing d.seen d.heard log1 out1) T.passed_on on;
        any_moment = leaves-two log0 log log1 out0 out T.passed_on T.any_moment leaves;
        goes_on = goes-two d log0.host log.host log1.host T.goes_on later;
      }
