-- A run over the lines of a reader, one line after another.
use Rattle.std.proofs.Common.{◌≡◌, ℕ, List, [], ◌∷◌, ◌++◌, Bool, true, false, Option, Some, None, Result, Ok, Err, refl, sym, ◌∙◌, ap, subst, append_assoc, arith}
use Rattle.std.proofs.lemmas.Bool.{false≢true}
use Rattle.log_host.specs.Host.{Outcomes, LeavesOnly}
use Rattle.durable_log.specs.Format.{LogRecord}
use Rattle.script_lines.specs.declared.line.Line.{Line}
use Rattle.script_lines.specs.declared.line_fault.LineFault.{LineFault}
use Rattle.script_lines.specs.declared.line_fault.LineFault.TheVariants as line_faults
use Rattle.script_lines.specs.Cut.{whole_lines}
use Rattle.script_lines.specs.Device.{Told}
use Rattle.script_lines.specs.Unread.{Unread}
use Rattle.script_lines.specs.Lines.{LineRead, IsPartRead, complete_lines, lines_since}
use Rattle.script_lines.proofs.Following.{Following, follow_none, follow_next, follow_so_far, follow_short, follow_all, follow_fault}
use Rattle.script_log.specs.Runs.{History, answering, Answering, after_all, replies, records_of_line, history_of}
use Rattle.script_log.specs.Hosts.{Account, account}
use Rattle.script_log.specs.Reading.{Reading, reading, MayReadInTurn}
use Rattle.script_log.specs.InTurn.{IsCutShort, IsCutShortIf}
use Rattle.script_log.specs.Covered.{Covered}
use Rattle.script_log.specs.Passing.{Standing, Passing, IsPassedOn}
use Rattle.script_log.specs.Outcomes.{AreAnswered, HasAnswered, HasWanted}
use Rattle.script_log.specs.Faults.{line_result, is_broken}
use Rattle.script_log.specs.declared.fault.RunFault.{RunFault}
use Rattle.script_log.specs.declared.fault.RunFault.TheVariants as faults
use Rattle.script_log.proofs.Passed.{grown}
use Rattle.script_log.proofs.Wanting.{left-lines, lines-at-hand, lines-so-far, lines-done-yet}
use Rattle.script_log.proofs.Steps.{Steady, steady-none, steady-covers, steady-passed, steady-line, steady-answered, covered-longer, leaves-longer, leaves-passing}

-- a call for the next line that failed for the log's sake
pub line-broken : (old new : Told) (before after : Unread) (f : RunFault) → is_broken f ≡ true → LineRead old new before after (Err line_faults.Write) → LineRead old new before after (line_result (Err f))
line-broken old new before after faults.Read broken t = absurd (false≢true broken)
line-broken old new before after faults.Write broken t = t
line-broken old new before after (faults.Log fault) broken t = t
line-broken old new before after faults.OutOfMemory broken t = absurd (false≢true broken)

-- of a log that broke nothing more is said
pub broken-unless : (P : Type 0) (f : RunFault) → is_broken f ≡ true → is_broken f ≡ false → P
broken-unless P f broken whole = absurd (false≢true (sym whole ∙ broken))

pub broken-answered : (e : Answering) (old new : Account) (x : Reading) (f : RunFault) → is_broken f ≡ true → HasAnswered e old x new (Err f)
broken-answered e old new x faults.Read broken = absurd (false≢true broken)
broken-answered e old new x faults.Write broken = tt
broken-answered e old new x (faults.Log fault) broken = tt
broken-answered e old new x faults.OutOfMemory broken = absurd (false≢true broken)

module _ (keeps : History → List ℕ → Bool) (reply : History → List ℕ → List ℕ) (records : List LogRecord) (heard : List ℕ) where
  module _ {D : Type 0} (moment : D → ℕ) (left_since : D → ℕ → Outcomes) (begun : D) (start : Told) (before : Unread) where
    -- these lines were cut off and answered
    pub record Going (now : Told) (p : Unread) (host : D) (s : Standing) : Type 0 where
      pub done : List (List ℕ)
      pub following : Following start now before p done
      pub steady : Steady keeps reply records heard done s
      pub any_moment : LeavesOnly moment left_since begun host (Covered keeps reply records done heard)

    abbrev pub going-none : (s : Standing) → before.ended ≡ false → s.records ≡ records → s.waits ≡ [] → s.heard ≡ heard → s.text ≡ [] → LeavesOnly moment left_since begun begun (Covered keeps reply records [] heard) → Going start before begun s
    going-none s running records_are none heard_is empty leaves = record {
      done = [];
      following = follow_none start before running;
      steady = steady-none keeps reply records heard s records_are none heard_is empty;
      any_moment = leaves;
    }

    -- a line was cut off and answered
    abbrev pub going-line : (now next : Told) (p q : Unread) (host host1 host2 : D) (s s1 t : Standing) (l : Line) (line : List ℕ) (G : Going now p host s)
        → Following start next before q (G.done ++ line ∷ [])
        → IsPassedOn s s1 → LeavesOnly moment left_since host host1 (Passing s) → host2 ≡ host1
        → t ≡ grown s1 (records_of_line keeps reply (after_all keeps (history_of records) G.done) line) (reply (after_all keeps (history_of records) G.done) line)
        → Going next q host2 t
    going-line now next p q host host1 host2 s s1 t l line G following on leaves same is =
        let S1 = steady-passed keeps reply records heard G.done s s1 G.steady on in
        let L1 = leaves-passing keeps reply records heard moment left_since begun G.done s host host1 G.steady G.any_moment leaves in
        record {
          done = G.done ++ line ∷ [];
          following = following;
          steady = steady-line keeps reply records heard G.done line s1 t S1 is;
          any_moment = subst (λ (d : D). LeavesOnly moment left_since begun d (Covered keeps reply records (G.done ++ line ∷ []) heard)) (sym same)
              (leaves-longer keeps reply records heard moment left_since begun G.done (G.done ++ line ∷ []) (line ∷ []) host1 refl L1);
        }

    -- what waits was passed on
    abbrev pub going-passed : (now : Told) (p : Unread) (host host1 : D) (s s1 : Standing) (G : Going now p host s) → IsPassedOn s s1 → LeavesOnly moment left_since host host1 (Passing s) → Going now p host1 s1
    going-passed now p host host1 s s1 G on leaves = record {
      done = G.done;
      following = G.following;
      steady = steady-passed keeps reply records heard G.done s s1 G.steady on;
      any_moment = leaves-passing keeps reply records heard moment left_since begun G.done s host host1 G.steady G.any_moment leaves;
    }

    -- at each moment so far, and in a step that passes on what waits
    pub going-leaves : (now : Told) (p : Unread) (host host1 : D) (s : Standing) → Going now p host s → LeavesOnly moment left_since host host1 (Passing s)
        → LeavesOnly moment left_since begun host1 (Covered keeps reply records (lines_since start now before) heard)
    going-leaves now p host host1 s G leaves =
        let all = follow_so_far start now before p G.done G.following in
        leaves-longer keeps reply records heard moment left_since begun G.done (lines_since start now before) all.0 host1 all.1
        (leaves-passing keeps reply records heard moment left_since begun G.done s host host1 G.steady G.any_moment leaves)

    -- also if a call for the next line read more
    pub short-leaves : (now next : Told) (p q : Unread) (r : Result (Option Line) LineFault) (host host1 : D) (s : Standing) → Going now p host s → LineRead now next p q r → LeavesOnly moment left_since host host1 (Passing s)
        → LeavesOnly moment left_since begun host1 (Covered keeps reply records (lines_since start next before) heard)
    short-leaves now next p q r host host1 s G t leaves =
        let all = follow_short start now next before p q G.done r G.following t in
        leaves-longer keeps reply records heard moment left_since begun G.done (lines_since start next before) all.0 host1 all.1
        (leaves-passing keeps reply records heard moment left_since begun G.done s host host1 G.steady G.any_moment leaves)

    pub short-covers : (now next : Told) (p q : Unread) (r : Result (Option Line) LineFault) (host : D) (s s1 : Standing) → Going now p host s → LineRead now next p q r → IsPassedOn s s1
        → (f o : List ℕ) → Passing s1 f o → Covered keeps reply records (lines_since start next before) heard f o
    short-covers now next p q r host s s1 G t on f o at =
        let all = follow_short start now next before p q G.done r G.following t in
        covered-longer keeps reply records heard G.done (lines_since start next before) all.0 f o all.1
        (steady-covers keeps reply records heard G.done s1 f o (steady-passed keeps reply records heard G.done s s1 G.steady on) at)

    -- all lines were answered
    pub all-answered : (now next : Told) (p q : Unread) (host : D) (s s1 : Standing) → Going now p host s → LineRead now next p q (Ok None) → IsPassedOn s s1
        → AreAnswered (answering keeps reply) (account records heard) (lines_since start next before) (account (s1.records ++ s1.waits) (s1.heard ++ s1.text))
    all-answered now next p q host s s1 G t on =
        let all = follow_all start now next before p q G.done G.following t in
        subst (λ (ls : List (List ℕ)). AreAnswered (answering keeps reply) (account records heard) ls (account (s1.records ++ s1.waits) (s1.heard ++ s1.text))) (sym all.0)
        (steady-answered keeps reply records heard G.done s1 (steady-passed keeps reply records heard G.done s s1 G.steady on))

    -- memory was refused for the next line
    pub short-answered : (now next : Told) (p q : Unread) (host : D) (s s1 : Standing) → Going now p host s → (t : LineRead now next p q (Err line_faults.OutOfMemory)) → IsCutShort (p.bytes ++ t.more) p q → IsPassedOn s s1
        → HasWanted (answering keeps reply) (account records heard) (reading start next before q) (account (s1.records ++ s1.waits) (s1.heard ++ s1.text))
    short-answered now next p q host s s1 G t short on =
        let left = left-lines short.part q.bytes short.no_feed in
        let lines = lines-so-far start now next before p G.done t.more G.following t.told short.begun (t.going short.running) in
        record {
          done = G.done;
          answered = steady-answered keeps reply records heard G.done s1 (steady-passed keeps reply records heard G.done s s1 G.steady on);
          left = record {
            wants = left.wants;
            one = left.one;
            others = left.others;
            split = ap (λ (ls : List (List ℕ)). G.done ++ ls) (sym left.whole ∙ ap whole_lines (sym short.split)) ∙ sym lines;
            at_hand = (left.last.0, left.last.1 ∙ ap (λ (b : Bool). complete_lines b q.bytes) (sym short.running));
          };
        }

    -- memory was refused for the reply to a line that was cut off
    pub want-answered : (now next : Told) (p q : Unread) (l : Line) (host : D) (s s1 : Standing) → Going now p host s → LineRead now next p q (Ok (Some l)) → IsPassedOn s s1
        → HasWanted (answering keeps reply) (account records heard) (reading start next before q) (account (s1.records ++ s1.waits) (s1.heard ++ s1.text))
    want-answered now next p q l host s s1 G t on =
        let cut = follow_next start now next before p q G.done l G.following t in
        let others = complete_lines q.ended q.bytes in
        record {
          done = G.done;
          answered = steady-answered keeps reply records heard G.done s1 (steady-passed keeps reply records heard G.done s s1 G.steady on);
          left = record {
            wants = cut.0 ∷ [];
            one = omega arith;
            others = others;
            split = sym (append_assoc G.done (cut.0 ∷ []) others) ∙ sym (lines-at-hand start next before q (G.done ++ cut.0 ∷ []) cut.2);
            at_hand = ([], refl);
          };
        }

    -- what was answered when there is no next line
    pub line-answered : (now next : Told) (p q : Unread) (host : D) (s s1 : Standing) (f : RunFault) → Going now p host s → (t : LineRead now next p q (line_result (Err f))) → IsCutShortIf (p.bytes ++ t.more) p q (Err f)
        → (is_broken f ≡ false → IsPassedOn s s1) → HasAnswered (answering keeps reply) (account records heard) (reading start next before q) (account (s1.records ++ s1.waits) (s1.heard ++ s1.text)) (Err f)
    line-answered now next p q host s s1 faults.Read G t short on =
        let all = follow_fault start now next before p q G.done G.following t in
        subst (λ (ls : List (List ℕ)). AreAnswered (answering keeps reply) (account records heard) ls (account (s1.records ++ s1.waits) (s1.heard ++ s1.text))) (sym all.0)
        (steady-answered keeps reply records heard G.done s1 (steady-passed keeps reply records heard G.done s s1 G.steady (on refl)))
    line-answered now next p q host s s1 faults.Write G t short on = tt
    line-answered now next p q host s s1 (faults.Log fault) G t short on = tt
    line-answered now next p q host s s1 faults.OutOfMemory G t short on = short-answered now next p q host s s1 G t short (on refl)

    -- the reader may be called for the next line
    pub asks-next : (now : Told) (p : Unread) (host : D) (s : Standing) (may_read : Told → List ℕ → Type 0) → Going now p host s → MayReadInTurn (answering keeps reply) (account records heard) start before may_read
        → (to : Told) → IsPartRead now to p → may_read to (s.heard ++ s.text)
    asks-next now p host s may_read G may to part =
        let lines = lines-done-yet start now to before p G.done part.more G.following part.told part.running part.going part.no_feed in
        may to (s.heard ++ s.text) (subst (λ (ls : List (List ℕ)). s.heard ++ s.text ≡ heard ++ replies keeps reply (history_of records) ls) (sym lines)
        (steady-answered keeps reply records heard G.done s G.steady).heard_is)
