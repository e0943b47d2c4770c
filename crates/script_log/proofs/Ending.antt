-- How a run over the lines of a reader ends, before what waits is passed on.
use Rattle.std.proofs.Common.{◌≡◌, inl, inr, ℕ, List, [], ◌∷◌, ◌++◌, ◌||◌, Bool, true, false, nat_lt, Some, None, Ok, Err, refl, sym, ◌∙◌, ap, subst, arith}
use Rattle.std.proofs.lemmas.Bool.{false≢true}
use Rattle.std.proofs.lemmas.List.{append-nil}
use Rattle.log_host.specs.Host.{LeavesOnly}
use Rattle.durable_log.specs.Format.{LogRecord}
use Rattle.durable_log.specs.Files.{StandsFor}
use Rattle.durable_log.specs.Logs.{records_of, waiting_in, IsSettled}
use Rattle.durable_log.specs.declared.log.Log.{Log}
use Rattle.durable_log.specs.declared.log.CommitFault.TheVariants as commits
use Rattle.durable_log.proofs.Moments.{begun}
use Rattle.durable_log.proofs.Waiting.{settled-leaves}
use Rattle.script_lines.specs.declared.line.Line.{Line}
use Rattle.script_lines.specs.declared.line_fault.LineFault.TheVariants as line_faults
use Rattle.script_lines.specs.Device.{Told, Tells}
use Rattle.script_lines.specs.Cut.{lines_of}
use Rattle.script_lines.specs.Unread.{Unread}
use Rattle.script_lines.specs.Lines.{Shows, LineRead, LinesRead, told_since, complete_lines, lines_since}
use Rattle.script_lines.proofs.Telling.{tells_nothing}
use Rattle.script_lines.proofs.CutLaws.{lines_of-nil}
use Rattle.script_lines.proofs.Following.{told_is, follow_next, follow_so_far, follow_short, follow_all, follow_fault, read_so_far, read_short}
use Rattle.script_log.specs.Runs.{History, answering, after, after_all, records_of_line, history_of}
use Rattle.script_log.specs.Hosts.{Hosting, state_of, account, GoesOn}
use Rattle.script_log.specs.Reading.{reading}
use Rattle.script_log.specs.InTurn.{LineInTurn}
use Rattle.script_log.specs.Covered.{Covered}
use Rattle.script_log.specs.Passing.{Standing, standing, Passing, IsPassedOn}
use Rattle.script_log.specs.Outcomes.{AreAnswered}
use Rattle.script_log.specs.Faults.{line_result, is_broken, all_records, IsFullWith, IsFullBy, HasBroken, HasCause}
use Rattle.script_log.specs.SoFar.{RanSoFar}
use Rattle.script_log.specs.declared.fault.RunFault.{RunFault}
use Rattle.script_log.specs.declared.fault.RunFault.TheVariants as faults
use Rattle.script_log.proofs.Lines.{after_all-append}
use Rattle.script_log.proofs.Failing.{goes-none, goes-two}
use Rattle.script_log.proofs.Passed.{standing-same, standing-grown}
use Rattle.script_log.proofs.Steps.{steady-none, steady-covers, steady-answered, covered-longer}
use Rattle.script_log.proofs.Going.{Going, going-none, going-line, going-leaves, short-leaves, short-covers, want-answered, all-answered, line-answered, broken-answered, broken-unless}

-- nothing was told
nothing-since : (t : Told) → told_since t t ≡ []
nothing-since t = told_is t t [] (tells_nothing t)

no-lines : (t : Told) (p : Unread) → p.ended ≡ true → p.bytes ≡ [] → lines_since t t p ≡ []
no-lines t p ended none =
    ap (λ b. complete_lines (b || nat_lt t.ends t.ends) (p.bytes ++ told_since t t)) ended ∙ ap (λ x. lines_of (x ++ told_since t t)) none ∙ ap lines_of (nothing-since t) ∙ lines_of-nil

pub none-read : (t : Told) (p : Unread) → LinesRead t t p p
none-read t p = record {
  told = subst (λ (x : List ℕ). Tells t t x) (sym (nothing-since t)) (tells_nothing t);
  calls = refl;
  later = omega arith;
  once = omega arith;
}

module _ {D : Type 0} (d : Hosting D) (keeps : History → List ℕ → Bool) (reply : History → List ℕ → List ℕ) (start : Told) (before : Unread) (log0 : Log D) where
  abbrev known : List LogRecord
  known = records_of (d.seen log0.host)

  abbrev told0 : List ℕ
  told0 = d.heard log0.host

  abbrev GoingTo : Told → Unread → Log D → List ℕ → Type 0
  GoingTo now p log out = Going keeps reply known told0 d.moment d.left_since log0.host start before now p log.host (standing d.seen d.heard log out)

  abbrev Began : Type 0
  Began = (f o : List ℕ) → d.left_since log0.host (d.moment log0.host) f o → d.may_leave log0.host f o

  -- at the begin
  pub covered-begun : (lines : List (List ℕ)) → IsSettled d.seen d.heard d.may_leave log0 → Began → LeavesOnly d.moment d.left_since log0.host log0.host (Covered keeps reply known lines told0)
  covered-begun lines settled only = begun d.moment d.left_since log0.host (Covered keeps reply known lines told0) (λ f o left.
      let now = settled-leaves d.seen d.heard d.may_leave log0 settled f o (only f o left) in
      record {
        done = [];
        others = lines;
        first = refl;
        stands = subst (λ (r : List LogRecord). StandsFor r f) (sym (append-nil known)) now.0;
        answers = ([], [], refl, now.1 ∙ sym (append-nil told0));
      })

  -- the reader had told its end before
  pub ended-before : (out : List ℕ) (stands : History → Type 0) → before.ended ≡ true → before.bytes ≡ [] → IsSettled d.seen d.heard d.may_leave log0 → waiting_in log0 ≡ [] → out ≡ [] → stands (history_of known) → Began
      → RanSoFar d (answering keeps reply) stands (reading start start before before) log0 log0 out (Ok tt)
  ended-before out stands ended none settled waits empty stands_now only =
      let lines = lines_since start start before in
      let no = no-lines start before ended none in
      let s = standing d.seen d.heard log0 out in
      let steady = steady-none keeps reply known told0 s refl waits refl empty in
      record {
        run = record {
          read = none-read start before;
          answered = subst (λ (ls : List (List ℕ)). AreAnswered (answering keeps reply) (account known told0) ls (account (known ++ waiting_in log0) (told0 ++ out))) (sym no) (steady-answered keeps reply known told0 [] s steady);
          ended = inl ended;
          cause = tt;
        };
        crashes = record {
          any_moment = covered-begun lines settled only;
          covers = λ f o at. covered-longer keeps reply known told0 [] lines lines f o refl (steady-covers keeps reply known told0 [] s f o steady at);
        };
        goes_on = goes-none d log0 settled only;
        settled = settled;
        stands_now = subst (λ (ls : List (List ℕ)). stands (after_all keeps (history_of known) ls)) (sym no) stands_now;
      }

  -- the reader has not told its end yet
  abbrev pub going-begun : (out : List ℕ) → before.ended ≡ false → IsSettled d.seen d.heard d.may_leave log0 → waiting_in log0 ≡ [] → out ≡ [] → Began → GoingTo start before log0 out
  going-begun out running settled waits empty only =
      going-none keeps reply known told0 d.moment d.left_since log0.host start before (standing d.seen d.heard log0 out) running refl waits refl empty (covered-begun [] settled only)

  -- the file is full with the lines before
  full-by : (now : Told) (others lines : List (List ℕ)) (p : Unread) (log : Log D) (file out : List ℕ) (G : GoingTo now p log out)
      → lines ≡ G.done ++ others → IsFullWith (all_records d.seen log) file → IsFullBy (answering keeps reply) known lines file
  full-by now others lines p log file out G split full = (G.done, others, sym split, subst (λ (rs : List LogRecord). IsFullWith rs file) G.steady.records_are full)

  -- why there is no next line
  line-cause : (now next : Told) (p q : Unread) (log new : Log D) (out : List ℕ) (f : RunFault) (G : GoingTo now p log out)
      → LineRead now next p q (line_result (Err f)) → GoesOn d log0.host log.host → HasBroken (all_records d.seen log) (state_of d log.host) (state_of d new.host) f
      → HasCause (answering keeps reply) (state_of d log0.host) (reading start next before q) (state_of d new.host) f
  line-cause now next p q log new out faults.Read G t later cause = (follow_fault start now next before p q G.done G.following t).1
  line-cause now next p q log new out faults.Write G t later cause = omega (arith, later.listener, cause)
  line-cause now next p q log new out (faults.Log commits.Failed) G t later cause = omega (arith, later.file, cause)
  line-cause now next p q log new out (faults.Log commits.Full) G t later cause =
      let all = follow_short start now next before p q G.done (Err line_faults.Write) G.following t in
      full-by now all.0 (lines_since start next before) p log (d.seen new.host) out G all.1 cause
  line-cause now next p q log new out faults.OutOfMemory G t later cause = tt

  -- why a reply was not passed on
  put-cause : (now : Told) (p : Unread) (log new : Log D) (out : List ℕ) (f : RunFault) (G : GoingTo now p log out)
      → is_broken f ≡ true → GoesOn d log0.host log.host → HasBroken (all_records d.seen log) (state_of d log.host) (state_of d new.host) f
      → HasCause (answering keeps reply) (state_of d log0.host) (reading start now before p) (state_of d new.host) f
  put-cause now p log new out faults.Read G broken later cause = absurd (false≢true broken)
  put-cause now p log new out faults.Write G broken later cause = omega (arith, later.listener, cause)
  put-cause now p log new out (faults.Log commits.Failed) G broken later cause = omega (arith, later.file, cause)
  put-cause now p log new out (faults.Log commits.Full) G broken later cause =
      let all = follow_so_far start now before p G.done G.following in
      full-by now all.0 (lines_since start now before) p log (d.seen new.host) out G all.1 cause
  put-cause now p log new out faults.OutOfMemory G broken later cause = absurd (false≢true broken)

  -- there is no next line
  pub line-failed : (now next : Told) (p q : Unread) (log log1 : Log D) (out out1 : List ℕ) (stands : History → Type 0) (f : RunFault) (G : GoingTo now p log out)
      → LineInTurn d (reading now next p q) log log1 out out1 (Err f) → GoesOn d log0.host log.host
      → RanSoFar d (answering keeps reply) stands (reading start next before q) log0 log1 out1 (Err f)
  line-failed now next p q log log1 out out1 stands f G T before_it =
      let s = standing d.seen d.heard log out in
      let s1 = standing d.seen d.heard log1 out1 in
      record {
        run = record {
          read = read_short start now next before p q G.done (line_result (Err f)) G.following T.line;
          answered = line-answered keeps reply known told0 d.moment d.left_since log0.host start before now next p q log.host s s1 f G T.line T.wants T.passed_on;
          ended = tt;
          cause = line-cause now next p q log log1 out f G T.line before_it T.cause;
        };
        crashes = record {
          any_moment = short-leaves keeps reply known told0 d.moment d.left_since log0.host start before now next p q (line_result (Err f)) log.host log1.host s G T.line T.any_moment;
          covers = λ whole f' o at. short-covers keeps reply known told0 d.moment d.left_since log0.host start before now next p q (line_result (Err f)) log.host s s1 G T.line (T.passed_on whole) f' o at;
        };
        goes_on = goes-two d log0.host log.host log1.host before_it T.goes_on;
        settled = T.settled;
        stands_now = tt;
      }

  -- there are no more lines
  pub lines-done : (now next : Told) (p q : Unread) (log log1 : Log D) (out out1 : List ℕ) (stands : History → Type 0) (G : GoingTo now p log out)
      → stands (after_all keeps (history_of known) G.done) → LineInTurn d (reading now next p q) log log1 out out1 (Ok None) → GoesOn d log0.host log.host
      → RanSoFar d (answering keeps reply) stands (reading start next before q) log0 log1 out1 (Ok tt)
  lines-done now next p q log log1 out out1 stands G stands_now T before_it =
      let s = standing d.seen d.heard log out in
      let s1 = standing d.seen d.heard log1 out1 in
      let all = follow_all start now next before p q G.done G.following T.line in
      record {
        run = record {
          read = read_short start now next before p q G.done (Ok None) G.following T.line;
          answered = all-answered keeps reply known told0 d.moment d.left_since log0.host start before now next p q log.host s s1 G T.line T.passed_on;
          ended = inr all.1;
          cause = tt;
        };
        crashes = record {
          any_moment = short-leaves keeps reply known told0 d.moment d.left_since log0.host start before now next p q (Ok None) log.host log1.host s G T.line T.any_moment;
          covers = λ f o at. short-covers keeps reply known told0 d.moment d.left_since log0.host start before now next p q (Ok None) log.host s s1 G T.line T.passed_on f o at;
        };
        goes_on = goes-two d log0.host log.host log1.host before_it T.goes_on;
        settled = T.settled;
        stands_now = subst (λ (ls : List (List ℕ)). stands (after_all keeps (history_of known) ls)) (sym all.0) stands_now;
      }

  -- a line was cut off, and memory was refused for its answer
  pub no-memory : (now next : Told) (p q : Unread) (log log1 log2 : Log D) (out out1 : List ℕ) (stands : History → Type 0) (l : Line) (G : GoingTo now p log out)
      → LineInTurn d (reading now next p q) log log1 out out1 (Ok (Some l))
      → log2.host ≡ log1.host → waiting_in log2 ≡ waiting_in log1 → IsSettled d.seen d.heard d.may_leave log2 → GoesOn d log0.host log.host
      → RanSoFar d (answering keeps reply) stands (reading start next before q) log0 log2 out1 (Err faults.OutOfMemory)
  no-memory now next p q log log1 log2 out out1 stands l G T same waits settled before_it =
      let s = standing d.seen d.heard log out in
      let s2 = standing d.seen d.heard log2 out1 in
      let on2 : IsPassedOn s s2 = subst (λ (x : Standing). IsPassedOn s x) (sym (standing-same d.seen d.heard d.may_leave log1 log2 out1 same waits)) T.passed_on in
      record {
        run = record {
          read = read_short start now next before p q G.done (Ok (Some l)) G.following T.line;
          answered = want-answered keeps reply known told0 d.moment d.left_since log0.host start before now next p q l log.host s s2 G T.line on2;
          ended = tt;
          cause = tt;
        };
        crashes = record {
          any_moment = subst (λ (h : D). LeavesOnly d.moment d.left_since log0.host h (Covered keeps reply known (lines_since start next before) told0)) (sym same)
              (short-leaves keeps reply known told0 d.moment d.left_since log0.host start before now next p q (Ok (Some l)) log.host log1.host s G T.line T.any_moment);
          covers = λ whole f o at. short-covers keeps reply known told0 d.moment d.left_since log0.host start before now next p q (Ok (Some l)) log.host s s2 G T.line on2 f o at;
        };
        goes_on = subst (λ (h : D). GoesOn d log0.host h) (sym same) (goes-two d log0.host log.host log1.host before_it T.goes_on);
        settled = λ whole. settled;
        stands_now = tt;
      }

  -- a reply could not be passed on
  pub put-failed : (now : Told) (p : Unread) (log log1 : Log D) (out out1 : List ℕ) (stands : History → Type 0) (f : RunFault) (G : GoingTo now p log out)
      → LeavesOnly d.moment d.left_since log.host log1.host (Passing (standing d.seen d.heard log out)) → is_broken f ≡ true → GoesOn d log0.host log.host → GoesOn d log.host log1.host
      → HasBroken (all_records d.seen log) (state_of d log.host) (state_of d log1.host) f
      → RanSoFar d (answering keeps reply) stands (reading start now before p) log0 log1 out1 (Err f)
  put-failed now p log log1 out out1 stands f G leaves broken before_it later cause =
      let s = standing d.seen d.heard log out in
      record {
        run = record {
          read = read_so_far start now before p G.done G.following;
          answered = broken-answered (answering keeps reply) (account known told0) (account (all_records d.seen log1) (d.heard log1.host ++ out1)) (reading start now before p) f broken;
          ended = tt;
          cause = put-cause now p log log1 out f G broken before_it cause;
        };
        crashes = record {
          any_moment = going-leaves keeps reply known told0 d.moment d.left_since log0.host start before now p log.host log1.host s G leaves;
          covers = broken-unless _ f broken;
        };
        goes_on = goes-two d log0.host log.host log1.host before_it later;
        settled = broken-unless _ f broken;
        stands_now = tt;
      }

  -- what the engine stands for after a line
  pub stands-after : (stands : History → Type 0) (done : List (List ℕ)) (line : List ℕ) → stands (after_all keeps (after_all keeps (history_of known) done) (line ∷ []))
      → stands (after_all keeps (history_of known) (done ++ line ∷ []))
  stands-after stands done line now = subst stands (sym (after_all-append keeps reply (history_of known) done (line ∷ []))) now

  -- a line was cut off and answered
  pub answered-on : (now next : Told) (p q : Unread) (log log1 log2 : Log D) (out out1 text items : List ℕ) (stands stands2 : History → Type 0) (l : Line) (G : GoingTo now p log out)
      → stands (after_all keeps (history_of known) G.done) → LineInTurn d (reading now next p q) log log1 out out1 (Ok (Some l)) → log2.host ≡ log1.host
      → ((h : History) (bytes : List ℕ) → Shows l bytes → stands h → (items ≡ reply h bytes) × (waiting_in log2 ≡ waiting_in log1 ++ records_of_line keeps reply h bytes) × stands2 (after keeps h bytes))
      → text ≡ items → (G2 : GoingTo next q log2 (out1 ++ text)) × stands2 (after_all keeps (history_of known) G2.done)
  answered-on now next p q log log1 log2 out out1 text items stands stands2 l G stands_now T same due is =
      let cut = follow_next start now next before p q G.done l G.following T.line in
      let h = after_all keeps (history_of known) G.done in
      let answer = due h cut.0 cut.1 stands_now in
      let grown_is = standing-grown d.seen d.heard d.may_leave log1 log2 out1 text (reply h cut.0) (records_of_line keeps reply h cut.0) same answer.1 (is ∙ answer.0) in (
        going-line keeps reply known told0 d.moment d.left_since log0.host start before now next p q log.host log1.host log2.host
            (standing d.seen d.heard log out) (standing d.seen d.heard log1 out1) (standing d.seen d.heard log2 (out1 ++ text)) l cut.0 G cut.2 T.passed_on T.any_moment same grown_is,
        stands-after stands2 G.done cut.0 answer.2,
      )
