-- A run is put together: its start lines, its pool, its job executions, its first line, its last write.
use Rattle.std.proofs.Common.{◌≡◌, inl, inr, ℕ, ◌+◌, List, [], ◌∷◌, ◌++◌, None, Result, Ok, Err, refl, sym, ap, subst, arith}
use Rattle.std.proofs.lemmas.List.{append-nil}
use Rattle.batch_ids.specs.declared.refusal.Refusal.{Refusal}
use Rattle.batch_ids.specs.declared.refusal.Refusal.TheVariants.{RepositoryFull}
use Rattle.jsl_model.specs.Jobs.{JobTree}
use Rattle.batch_history.proofs.Legal.{legal-nothing}
use Rattle.batch_history.specs.Legal.{most_operations}
use Rattle.batch_history.specs.declared.call.Entry.{Entry}
use Rattle.seat_rules.specs.Places.{IsLegalLog}
use Rattle.seat_rules.specs.declared.view.SessionView.{SessionView}
use Rattle.script_lines.specs.Device.{Told, Held}
use Rattle.script_lines.specs.Unread.{Unread}
use Rattle.script_text.specs.Replies.{reply_text}
use Rattle.script_engine.specs.declared.fault.EngineFault.{EngineFault}
use Rattle.script_engine.specs.declared.fault.EngineFault.TheVariants.{Catalogue, Read, Write, OutOfMemory}
use Rattle.batch_commands.specs.Listing.{AreListed}
use Rattle.batch_commands.specs.Putting.{Grows, Breaks, Puts, Flushes}
use Rattle.batch_commands.specs.Reads.{AreRead, AreReadTo}
use Rattle.batch_commands.specs.Runs.{AreReplied, IsPoolText, IsRunText}
use Rattle.batch_commands.specs.Starts.{AreStarted}
use Rattle.batch_commands.specs.Turns.{IsPartOf, ListsAll, PutsReply, Runs, Started, Starts, pool_text}
use Rattle.batch_commands.proofs.Putting.{put_nothing, grows_on, grows_broken, grows_no_more, broken_no_more}
use Rattle.batch_commands.proofs.Reading.{read_none}

-- ---- Behind the first line

started_from_none : (catalogue : List JobTree) (by : ℕ) (seen : List Entry) (lines : List (List ℕ)) (text : List ℕ) (made : ℕ) (last : List Entry) → AreStarted catalogue by seen lines text made last → AreStarted catalogue by [] lines text made last
started_from_none catalogue by seen [] text made last s = (s.0, s.1, (last, refl))
started_from_none catalogue by seen (line ∷ lines) text made last s = (s.0, s.1, s.2, (s.0, refl), s.4, s.5, s.6)

replied : (catalogue : List JobTree) (s : SessionView) (lines : List (List ℕ)) (text : List ℕ) (made : ℕ) (last : List Entry) → IsLegalLog catalogue s.seen → Started catalogue s lines text made last → AreReplied catalogue lines text
replied catalogue s lines text made last legal S = record { session = s.number; made = made; log = last; started = started_from_none catalogue s.number s.seen lines text made last S.started; legal = S.legal legal }

-- no start line was read
nothing_part : (catalogue : List JobTree) (r : Told) (p : Unread) → IsPartOf catalogue r r p p []
nothing_part catalogue r p = inl ([], [], inl (read_none r p), record { session = 0; made = 0; log = []; started = (refl, refl, ([], refl)); legal = legal-nothing most_operations catalogue })

-- memory was refused before a line was read
pub nothing_done : (catalogue : List JobTree) (r : Told) (p : Unread) (w : Held) (waited : List ℕ) → Runs catalogue r r p p w waited w waited (Err OutOfMemory)
nothing_done catalogue r p w waited = record { text = []; due = nothing_part catalogue r p; put = put_nothing w waited }

-- not all start lines are replied to
pub not_started : (catalogue : List JobTree) (before after : SessionView) (r r' : Told) (p p' : Unread) (w w' : Held) (waited waits : List ℕ) (fault : EngineFault) → IsLegalLog catalogue before.seen
    → Starts catalogue before after r r' p p' w waited w' waits (Err fault) → Runs catalogue r r' p p' w waited w' waits (Err fault)
not_started catalogue before after r r' p p' w w' waited waits (Catalogue told) legal S = absurd S
not_started catalogue before after r r' p p' w w' waited waits Read legal S =
    record { text = S.1; due = (S.0, S.4, replied catalogue before S.0 S.1 S.2 S.3 legal S.5); put = S.6 }
not_started catalogue before after r r' p p' w w' waited waits Write legal S =
    let read = subst (λ (ls : List (List ℕ)). AreRead r p ls r' p') (sym (append-nil S.0)) S.4 in
    record { text = S.1; due = inl (inl (S.0, [], inl read, replied catalogue before S.0 S.1 S.2 S.3 legal S.5)); put = S.6 }
not_started catalogue before after r r' p p' w w' waited waits OutOfMemory legal S =
    record { text = S.2; due = inl (S.0, S.1, S.5, replied catalogue before S.0 S.2 S.3 S.4 legal S.6); put = S.7 }

-- all start lines are replied to, and this is put behind the replies
run_text : (catalogue : List JobTree) (s : SessionView) (lines : List (List ℕ)) (replies refused list : List ℕ) (made told : ℕ) (log last : List Entry) → Started catalogue s lines replies made log → IsPoolText refused → AreListed catalogue log told list last
    → IsLegalLog catalogue last → IsRunText catalogue lines made told ((replies ++ refused) ++ list)
run_text catalogue s lines replies refused list made told log last S pool listed legal = record {
  session = s.number;
  log = log;
  last = last;
  replies = replies;
  refused = refused;
  list = list;
  started = started_from_none catalogue s.number s.seen lines replies made log S.started;
  listed = listed;
  pool = pool;
  legal = legal;
  whole = refl;
}

none_told : (catalogue : List JobTree) (s : SessionView) (lines : List (List ℕ)) (replies refused : List ℕ) (made : ℕ) (log : List Entry) → IsLegalLog catalogue s.seen → Started catalogue s lines replies made log → IsPoolText refused → IsRunText catalogue lines made 0 (replies ++ refused)
none_told catalogue s lines replies refused made log legal S pool =
    subst (λ t. IsRunText catalogue lines made 0 t) (append-nil (replies ++ refused)) (run_text catalogue s lines replies refused [] made 0 log log S pool (refl, ([], append-nil log)) (S.legal legal))

replies_only : (catalogue : List JobTree) (s : SessionView) (lines : List (List ℕ)) (replies : List ℕ) (made : ℕ) (log : List Entry) → IsLegalLog catalogue s.seen → Started catalogue s lines replies made log → IsRunText catalogue lines made 0 replies
replies_only catalogue s lines replies made log legal S = subst (λ t. IsRunText catalogue lines made 0 t) (append-nil replies) (none_told catalogue s lines replies [] made log legal S (inl refl))

-- the replies could not be written
pub not_flushed : (catalogue : List JobTree) (before after : SessionView) (r r' : Told) (p p' : Unread) (w held w' : Held) (waited between waits : List ℕ) (made : ℕ) (fault : EngineFault) → IsLegalLog catalogue before.seen
    → Starts catalogue before after r r' p p' w waited held between (Ok made) → Flushes held between w' waits (Err fault) → Runs catalogue r r' p p' w waited w' waits (Err fault)
not_flushed catalogue before after r r' p p' w held w' waited between waits made (Catalogue told) legal S F = absurd F
not_flushed catalogue before after r r' p p' w held w' waited between waits made Read legal S F = absurd F
not_flushed catalogue before after r r' p p' w held w' waited between waits made Write legal S B = record {
  text = S.1;
  due = inl (inr (S.0, made, 0, S.2, omega arith, replies_only catalogue before S.0 S.1 made after.seen legal S.3));
  put = broken_no_more w held w' waited between S.1 S.4 B;
}
not_flushed catalogue before after r r' p p' w held w' waited between waits made OutOfMemory legal S F = absurd F

-- the start lines are replied to, and this is put behind
pub record Replied (catalogue : List JobTree) (before after : SessionView) (r r' : Told) (p p' : Unread) (w : Held) (waited : List ℕ) (w' : Held) (waits : List ℕ) (made : ℕ) (refused : List ℕ) : Type 0 where
  pub lines : List (List ℕ)
  pub replies : List ℕ
  pub read : AreReadTo r p lines (Ok None) r' p'
  pub started : Started catalogue before lines replies made after.seen
  pub grown : Grows w waited w' waits (replies ++ refused)

-- what is told of a pool is nothing or a refusal
pub pool_text_is : {A : Type 0} (ran : Result A Refusal) → IsPoolText (pool_text ran)
pool_text_is (Ok report) = inl refl
pool_text_is (Err refusal) = inr (refusal, refl)

-- the replies are written
pub replies_written : (catalogue : List JobTree) (before after : SessionView) (r r' : Told) (p p' : Unread) (w held w' : Held) (waited between waits : List ℕ) (made : ℕ)
    → Starts catalogue before after r r' p p' w waited held between (Ok made) → Flushes held between w' waits (Ok tt) → Replied catalogue before after r r' p p' w waited w' waits made []
replies_written catalogue before after r r' p p' w held w' waited between waits made S F = record {
  lines = S.0;
  replies = S.1;
  read = S.2;
  started = S.3;
  grown = grows_on w held w' waited between waits S.1 [] S.4 F.0;
}

-- what is told of the pool is put
pub pool_told : (catalogue : List JobTree) (before after : SessionView) (r r' : Told) (p p' : Unread) (w held w' : Held) (waited between waits : List ℕ) (made : ℕ) (text : List ℕ)
    → Replied catalogue before after r r' p p' w waited held between made [] → Puts held between w' waits text (Ok tt) → Replied catalogue before after r r' p p' w waited w' waits made text
pool_told catalogue before after r r' p p' w held w' waited between waits made text R G = record {
  lines = R.lines;
  replies = R.replies;
  read = R.read;
  started = R.started;
  grown = subst (λ t. Grows w waited w' waits (t ++ text)) (append-nil R.replies) (grows_on w held w' waited between waits (R.replies ++ []) text R.grown G);
}

-- it is not put, or not to its end
pub pool_not_told : (catalogue : List JobTree) (before after : SessionView) (r r' : Told) (p p' : Unread) (w held w' : Held) (waited between waits : List ℕ) (made : ℕ) (text : List ℕ) (fault : EngineFault) → IsLegalLog catalogue before.seen
    → Replied catalogue before after r r' p p' w waited held between made [] → IsPoolText text → Puts held between w' waits text (Err fault) → Runs catalogue r r' p p' w waited w' waits (Err fault)
pool_not_told catalogue before after r r' p p' w held w' waited between waits made text (Catalogue told) legal R pool P = absurd P
pool_not_told catalogue before after r r' p p' w held w' waited between waits made text Read legal R pool P = absurd P
pool_not_told catalogue before after r r' p p' w held w' waited between waits made text Write legal R pool B = record {
  text = R.replies ++ text;
  due = inl (inr (R.lines, made, 0, R.read, omega arith, none_told catalogue before R.lines R.replies text made after.seen legal R.started pool));
  put = subst (λ t. Breaks w waited w' (t ++ text)) (append-nil R.replies) (grows_broken w held w' waited between (R.replies ++ []) text R.grown B);
}
pool_not_told catalogue before after r r' p p' w held w' waited between waits made text OutOfMemory legal R pool G = record {
  text = R.replies ++ [];
  due = inr (R.lines, made, 0, R.read, omega arith, none_told catalogue before R.lines R.replies [] made after.seen legal R.started (inl refl));
  put = grows_no_more w held w' waited between waits (R.replies ++ []) R.grown G;
}

-- the job executions are told of, as far as it came
pub listed_behind : (catalogue : List JobTree) (before mid after : SessionView) (r r' : Told) (p p' : Unread) (w held w' : Held) (waited between waits : List ℕ) (made : ℕ) (text : List ℕ) (result : Result Unit EngineFault) → IsLegalLog catalogue before.seen
    → Replied catalogue before mid r r' p p' w waited held between made text → IsPoolText text → ListsAll catalogue mid after made held between w' waits result → Runs catalogue r r' p p' w waited w' waits result
listed_behind catalogue before mid after r r' p p' w held w' waited between waits made text (Ok done) legal R pool L =
    let T = run_text catalogue before R.lines R.replies text L.text made L.told mid.seen L.last R.started pool L.listed (L.legal (R.started.legal legal)) in
    record {
      text = (R.replies ++ text) ++ L.text;
      due = inl (R.lines, made, R.read, subst (λ n. IsRunText catalogue R.lines made n ((R.replies ++ text) ++ L.text)) L.enough T);
      put = grows_on w held w' waited between waits (R.replies ++ text) L.text R.grown L.put;
    }
listed_behind catalogue before mid after r r' p p' w held w' waited between waits made text (Err (Catalogue told)) legal R pool L = absurd L.enough
listed_behind catalogue before mid after r r' p p' w held w' waited between waits made text (Err Read) legal R pool L = absurd L.enough
listed_behind catalogue before mid after r r' p p' w held w' waited between waits made text (Err Write) legal R pool L = record {
  text = (R.replies ++ text) ++ L.text;
  due = inl (inr (R.lines, made, L.told, R.read, L.enough, run_text catalogue before R.lines R.replies text L.text made L.told mid.seen L.last R.started pool L.listed (L.legal (R.started.legal legal))));
  put = grows_broken w held w' waited between (R.replies ++ text) L.text R.grown L.put;
}
listed_behind catalogue before mid after r r' p p' w held w' waited between waits made text (Err OutOfMemory) legal R pool L = record {
  text = (R.replies ++ text) ++ L.text;
  due = inr (R.lines, made, L.told, R.read, L.enough, run_text catalogue before R.lines R.replies text L.text made L.told mid.seen L.last R.started pool L.listed (L.legal (R.started.legal legal)));
  put = grows_on w held w' waited between waits (R.replies ++ text) L.text R.grown L.put;
}

-- no session is opened
pub not_opened : (catalogue : List JobTree) (r : Told) (p : Unread) (refusal : Refusal) (w w' : Held) (waited waits : List ℕ) (result : Result Unit EngineFault) → refusal ≡ RepositoryFull → PutsReply (Err refusal) w waited w' waits result
    → Runs catalogue r r p p w waited w' waits result
not_opened catalogue r p refusal w w' waited waits (Ok done) is (known, G) = record { text = reply_text (Err refusal); due = inr (refl, refl, ap (λ x. reply_text (Err x)) is); put = G }
not_opened catalogue r p refusal w w' waited waits (Err (Catalogue told)) is P = absurd P
not_opened catalogue r p refusal w w' waited waits (Err Read) is P = absurd P
not_opened catalogue r p refusal w w' waited waits (Err Write) is (known, B) = record { text = reply_text (Err refusal); due = inr (refl, refl, ap (λ x. reply_text (Err x)) is); put = B }
not_opened catalogue r p refusal w w' waited waits (Err OutOfMemory) is G = record { text = []; due = nothing_part catalogue r p; put = G }
