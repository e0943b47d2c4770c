-- A script that runs: the lines that were answered, and what is written or waits for them.
use Rattle.std.proofs.Common.{◌≡◌, ◌∙◌, inr, ℕ, ◌<◌, List, [], ◌∷◌, ◌++◌, length, take, Option, Some, None, Result, Ok, Err, refl, sym, ap, subst, append_assoc}
use Rattle.std.proofs.lemmas.Bool.{false≢true}
use Rattle.std.proofs.lemmas.List.{append-nil}
use Rattle.jsl_model.specs.Jobs.{JobTree}
use Rattle.batch_history.specs.Rows.{History}
use Rattle.script_lines.specs.declared.line.Line.{Line}
use Rattle.script_lines.specs.declared.line_fault.LineFault.{LineFault}
use Rattle.script_lines.specs.declared.line_fault.LineFault.TheVariants as line_faults
use Rattle.script_lines.specs.Device.{Told, Held, Tells, Takes}
use Rattle.script_lines.specs.Cut.{script_lines, whole_lines}
use Rattle.script_lines.specs.Lines.{Shows, LineRead, IsPartRead, AreComplete, IsPassedOn, PassedOn, IsPrompt, IsBounded}
use Rattle.script_lines.specs.Unread.{Unread, nothing_read}
use Rattle.script_lines.proofs.CutLaws.{whole_lines-none}
use Rattle.script_lines.proofs.Telling.{tells_more}
use Rattle.script_lines.proofs.Cutting.{Cutting, cut_next, cut_short, cut_so_far, cut_all, cut_fault, cut_bounded, next_bounded}
use Rattle.script_engine.specs.declared.summary.Kind.{Kind}
use Rattle.script_engine.specs.declared.summary.Summary.{Summary}
use Rattle.script_engine.specs.declared.fault.EngineFault.TheVariants as faults
use Rattle.script_engine.specs.Faults.{engine_fault}
use Rattle.script_engine.specs.Script.{catalogue_at, line_text, line_after, replies, history_past, begin, opened, entries_from, text_of_lines, entries_of_lines}
use Rattle.script_engine.specs.Summaries.{line_kind, kinds, kinds_from, kinds_of_lines, tally, counted, summary_of}
use Rattle.script_engine.specs.InTurn.{MayReadInTurn}
use Rattle.script_engine.specs.Ran.{RanSoFar}
use Rattle.script_engine.proofs.Tallying.{one-line-more}
use Rattle.script_engine.proofs.Turning.{turn_on, told_nothing}
use Rattle.script_engine.proofs.Passing.{Passing, Grew, turn_whole, all_written, passed_on, put_behind, Broken, broken, same_input}

-- these lines are answered, whatever lines come
pub record Running (start now : Told) (begun held : Held) (waits : List ℕ) (p : Unread) (h : History) (s : Summary) : Type 0 where
  pub first : List ℕ
  pub later : List (List ℕ)
  pub catalogue : List JobTree
  pub opening : catalogue_at first ≡ Ok catalogue
  pub cutting : Cutting start now p (first ∷ later)
  pub output : List ℕ
  pub passing : Passing begun held waits output cutting.input
  pub text : (lines : List (List ℕ)) → text_of_lines (first ∷ (later ++ lines)) ≡ output ++ replies h lines
  pub entries : (lines : List (List ℕ)) → entries_of_lines (first ∷ (later ++ lines)) ≡ length (history_past h lines).log
  pub past : List Kind
  pub became : (lines : List (List ℕ)) → kinds_of_lines (first ∷ (later ++ lines)) ≡ past ++ kinds h lines
  pub tallied : s ≡ tally past

-- what the first line leaves
pub begins : (start now : Told) (begun held : Held) (waits : List ℕ) (p : Unread) (line : List ℕ) (catalogue : List JobTree) (s : Summary) (C : Cutting start now p (line ∷ [])) → catalogue_at line ≡ Ok catalogue → Passing begun held waits [] C.input
    → s ≡ tally [] → Running start now begun held waits p (begin catalogue) s
begins start now begun held waits p line catalogue s C e P none = record {
  first = line;
  later = [];
  catalogue = catalogue;
  opening = e;
  cutting = C;
  output = [];
  passing = P;
  text = λ lines. ap (λ o. opened o lines) e;
  entries = λ lines. ap (λ o. entries_from o lines) e;
  past = [];
  became = λ lines. ap (λ o. kinds_from o lines) e;
  tallied = none;
}

-- the text of the lines so far is the output
text_so_far : {start now : Told} {begun held : Held} {waits : List ℕ} {p : Unread} {h : History} {s : Summary} (R : Running start now begun held waits p h s) → R.output ≡ text_of_lines (R.first ∷ R.later)
text_so_far {h = h} R = sym (ap (λ ls. text_of_lines (R.first ∷ ls)) (sym (append-nil R.later)) ∙ R.text [] ∙ append-nil R.output)

-- the reader may be called for the first line
pub asks_first : (start : Told) (begun : Held) (waits : List ℕ) (p : Unread) (may_read : Told → List ℕ → Type 0) → waits ≡ [] → p ≡ nothing_read → MayReadInTurn start begun may_read
    → (to : Told) → IsPartRead start to p → may_read to (begun.bytes ++ waits)
asks_first start begun waits p may_read none fresh may to part =
    let read = subst (λ (u : Unread). IsPartRead start to u) fresh part in
    may to (begun.bytes ++ waits) (record {
      input = read.more;
      told = read.told;
      going = read.going;
      quiet = read.quiet;
      replied = ap (λ b. begun.bytes ++ b) (none ∙ ap text_of_lines (sym (whole_lines-none read.more read.no_feed)));
    })

-- the reader may be called for the next line
pub asks_next : (start now : Told) (begun held : Held) (waits : List ℕ) (p : Unread) (h : History) (s : Summary) (may_read : Told → List ℕ → Type 0) → Running start now begun held waits p h s → MayReadInTurn start begun may_read
    → (to : Told) → IsPartRead now to p → may_read to (held.bytes ++ waits)
asks_next start now begun held waits p h s may_read R may to part =
    let done : List (List ℕ) = R.first ∷ R.later in
    let lines : whole_lines (R.cutting.input ++ part.more) ≡ done = R.cutting.whole part.running part.more ∙ ap (λ ls. done ++ ls) (whole_lines-none (p.bytes ++ part.more) part.no_feed) ∙ append-nil done in
    may to (held.bytes ++ waits) (record {
      input = R.cutting.input ++ part.more;
      told = tells_more start now to R.cutting.input part.more R.cutting.read part.told;
      going = part.going ∙ R.cutting.going part.running;
      quiet = part.quiet ∙ R.cutting.failures;
      replied = (all_written begun held waits R.output R.cutting.input R.passing).bytes ∙ ap (λ b. begun.bytes ++ b) (text_so_far R ∙ ap text_of_lines (sym lines));
    })

-- a call for the next line passes on what waits
passed : {start now : Told} {begun held : Held} {waited : List ℕ} {p : Unread} {h : History} {s : Summary} (R : Running start now begun held waited p h s) (next : Told) (new : Held) (waits : List ℕ) (q : Unread) (r : Result (Option Line) LineFault)
    → (t : LineRead now next p q r) → IsPassedOn held new waited waits → Grew held new → IsPrompt now next waits r → Passing begun new waits R.output (R.cutting.input ++ t.more)
passed {start = start} {now = now} {begun = begun} {held = held} {waited = waited} {p = p} R next new waits q r t on grew prompt =
    passed_on begun held new waited waits R.output R.cutting.input (R.cutting.input ++ t.more) R.passing on grew
    (turn_on start now next p q (R.first ∷ R.later) r R.cutting t R.output R.passing.sent waits (text_so_far R) R.passing.turn prompt)

-- a repository stands for the history after the lines that are answered
pub record Standing (St : History → Type 0) (start now : Told) (begun held : Held) (waits : List ℕ) (p : Unread) (s : Summary) : Type 0 where
  pub history : History
  pub stands : St history
  pub running : Running start now begun held waits p history s

-- one more line
pub goes_on : (St St' : History → Type 0) (start now next : Told) (begun held mid new : Held) (waited between waits : List ℕ) (p q : Unread) (s s' : Summary) (l : Line) (x : List ℕ) (k : Kind) (S : Standing St start now begun held waited p s) → LineRead now next p q (Ok (Some l))
    → IsPassedOn held mid waited between → Grew held mid → IsPrompt now next between (Ok (Some l))
    → ((line : List ℕ) → Shows l line → x ≡ line_text S.history line) → ((line : List ℕ) → Shows l line → St' (line_after S.history line))
    → ((line : List ℕ) → Shows l line → k ≡ line_kind S.history line) → s' ≡ counted k s
    → new.bytes ++ waits ≡ (mid.bytes ++ between) ++ x → Grew mid new → new.failures ≡ mid.failures → Standing St' start next begun new waits q s'
goes_on St St' start now next begun held mid new waited between waits p q s s' l x k S t on grew prompt text after kind more put grew_more quiet =
    let R = S.running in
    let h = S.history in
    let cut = cut_next start now next p q (R.first ∷ R.later) l R.cutting t in
    let line = cut.0 in
    let h' = line_after h line in
    let tail = λ (lines : List (List ℕ)). append_assoc R.later (line ∷ []) lines in
    let P = same_input begun mid between R.output (R.cutting.input ++ t.more) cut.2.0.input cut.2.1 (passed R next mid between q (Ok (Some l)) t on grew prompt) in
    record {
      history = h';
      stands = after line cut.1;
      running = record {
        first = R.first;
        later = R.later ++ line ∷ [];
        catalogue = R.catalogue;
        opening = R.opening;
        cutting = cut.2.0;
        output = R.output ++ x;
        passing = put_behind begun mid new between waits R.output x cut.2.0.input P put grew_more quiet;
        text = λ lines. ap (λ ls. text_of_lines (R.first ∷ ls)) (tail lines) ∙ R.text (line ∷ lines)
            ∙ sym (append_assoc R.output x (replies h' lines) ∙ ap (λ b. R.output ++ (b ++ replies h' lines)) (text line cut.1));
        entries = λ lines. ap (λ ls. entries_of_lines (R.first ∷ ls)) (tail lines) ∙ R.entries (line ∷ lines);
        past = R.past ++ k ∷ [];
        became = λ lines. ap (λ ls. kinds_of_lines (R.first ∷ ls)) (tail lines) ∙ R.became (line ∷ lines)
            ∙ sym (append_assoc R.past (k ∷ []) (kinds h' lines) ∙ ap (λ b. R.past ++ (b ∷ kinds h' lines)) (kind line cut.1));
        tallied = more ∙ ap (counted k) R.tallied ∙ one-line-more R.past k;
      };
    }

abbrev with-entries : Summary → ℕ → Summary
with-entries s number = record s { entries = number }

-- what came of the lines is what is told
summed : {start now : Told} {begun held : Held} {waits : List ℕ} {p : Unread} {h : History} {s : Summary} (R : Running start now begun held waits p h s) (lines : List (List ℕ)) → lines ≡ R.first ∷ R.later
    → (number : ℕ) → number ≡ length h.log → with-entries s number ≡ summary_of lines
summed {h = h} {s = s} R lines are number e =
    let all : lines ≡ R.first ∷ (R.later ++ []) = are ∙ ap (λ ls. R.first ∷ ls) (sym (append-nil R.later)) in
    let became : R.past ≡ kinds_of_lines lines = sym (ap kinds_of_lines all ∙ R.became [] ∙ append-nil R.past) in
    let entries : number ≡ entries_of_lines lines = e ∙ sym (ap entries_of_lines all ∙ R.entries []) in
    ap (λ t. with-entries t number) (R.tallied ∙ ap tally became) ∙ ap (with-entries (tally (kinds_of_lines lines))) entries

-- the end
pub ends : (start now next : Told) (begun held new : Held) (waited waits : List ℕ) (p q : Unread) (h : History) (s : Summary) (number : ℕ) → Running start now begun held waited p h s → LineRead now next p q (Ok None)
    → IsPassedOn held new waited waits → Grew held new → IsPrompt now next waits (Ok None) → number ≡ length h.log → RanSoFar start next begun new waits (Ok (with-entries s number))
ends start now next begun held new waited waits p q h s number R t on grew prompt e =
    let cut = cut_all start now next p q (R.first ∷ R.later) R.cutting t in
    let input : List ℕ = R.cutting.input ++ t.more in
    let P = passed R next new waits q (Ok None) t on grew prompt in
    record {
      ran = record {
        input = input;
        output = R.output;
        read = cut.0;
        written = all_written begun new waits R.output input P;
        outcome = (text_so_far R ∙ ap text_of_lines (sym cut.1), cut.2, summed R (script_lines input) cut.1 number e, (R.first, R.later, R.catalogue, cut.1, R.opening), t.cause ∙ R.cutting.failures, P.failures);
        bounded = next_bounded start now next p q (R.first ∷ R.later) (Ok None) R.cutting t;
      };
      front = record { sent = P.sent; grown = P.written; turn = P.turn };
      quiet = λ _. P.failures;
    }

-- memory was refused, whatever the reader did last
pub no_memory : (start now next : Told) (begun held new : Held) (waited waits : List ℕ) (p q : Unread) (h : History) (s : Summary) (r : Result (Option Line) LineFault) → Running start now begun held waited p h s → LineRead now next p q r
    → IsPassedOn held new waited waits → Grew held new → IsPrompt now next waits r → RanSoFar start next begun new waits (Err faults.OutOfMemory)
no_memory start now next begun held new waited waits p q h s r R t on grew prompt =
    let cut = cut_short start now next p q (R.first ∷ R.later) r R.cutting t in
    let input : List ℕ = R.cutting.input ++ t.more in
    let P = passed R next new waits q r t on grew prompt in
    record {
      ran = record {
        input = input;
        output = R.output;
        read = cut.0;
        written = all_written begun new waits R.output input P;
        outcome = ((R.first ∷ R.later, cut.1.0, cut.1.1, text_so_far R, inr (R.first, R.later, R.catalogue, refl, R.opening)), turn_whole begun new waits R.output input P);
        bounded = next_bounded start now next p q (R.first ∷ R.later) r R.cutting t;
      };
      front = record { sent = P.sent; grown = P.written; turn = P.turn };
      quiet = λ _. P.failures;
    }

-- the writer failed, and what it was to take is a front of the text of complete lines
pub breaks : (start next : Told) (begun held new : Held) (waits input whole others : List ℕ) (lines : List (List ℕ)) → Tells start next input → IsBounded start next → AreComplete start next input lines → text_of_lines lines ≡ whole ++ others → Broken begun new whole input
    → held.failures ≡ begun.failures → held.failures < new.failures → RanSoFar start next begun new waits (Err faults.Write)
breaks start next begun held new waits input whole others lines read bounded complete text B quiet failed = record {
  ran = record {
    input = input;
    output = B.front;
    read = read;
    written = B.written;
    outcome = (
      (lines, B.rest ++ others, complete, sym (append_assoc B.front B.rest others) ∙ ap (λ b. b ++ others) B.both ∙ sym text),
      B.turn,
      subst (λ k. k < new.failures) quiet failed,
    );
    bounded = bounded;
  };
  front = record { sent = B.front; grown = B.written; turn = B.turn };
  quiet = λ e. absurd (false≢true (sym e));
}

-- there is no next line
pub line_failed : (start now next : Told) (begun held new : Held) (waited waits : List ℕ) (p q : Unread) (h : History) (s : Summary) (f : LineFault) → Running start now begun held waited p h s → LineRead now next p q (Err f)
    → PassedOn held new waited waits (Err f) → Grew held new → IsPrompt now next waits (Err f) → RanSoFar start next begun new waits (Err (engine_fault f))
line_failed start now next begun held new waited waits p q h s line_faults.Read R t on grew prompt =
    let cut = cut_fault start now next p q (R.first ∷ R.later) R.cutting t in
    let input : List ℕ = R.cutting.input ++ t.more in
    let P = passed R next new waits q (Err line_faults.Read) t on grew prompt in
    record {
      ran = record {
        input = input;
        output = R.output;
        read = cut.0;
        written = all_written begun new waits R.output input P;
        outcome = (text_so_far R ∙ ap text_of_lines (sym cut.1), cut.2, inr (R.first, R.later, R.catalogue, cut.1, R.opening), cut.3);
        bounded = next_bounded start now next p q (R.first ∷ R.later) (Err line_faults.Read) R.cutting t;
      };
      front = record { sent = P.sent; grown = P.written; turn = P.turn };
      quiet = λ _. P.failures;
    }
line_failed start now next begun held new waited waits p q h s line_faults.Write R t on grew prompt =
    let cut = cut_short start now next p q (R.first ∷ R.later) (Err line_faults.Write) R.cutting t in
    let input : List ℕ = R.cutting.input ++ t.more in
    let others = replies h cut.1.0 in
    let text : text_of_lines (R.first ∷ (R.later ++ cut.1.0)) ≡ (R.output ++ []) ++ others = R.text cut.1.0 ∙ ap (λ b. b ++ others) (sym (append-nil R.output)) in
    let wrote : Takes held new (take on.0.0 (waited ++ [])) = subst (λ w. Takes held new (take on.0.0 w)) (sym (append-nil waited)) on.0.1 in
    let still : input ≡ R.cutting.input = ap (λ m. R.cutting.input ++ m) (told_nothing now next p q (Err line_faults.Write) t prompt) ∙ append-nil R.cutting.input in
    let P = same_input begun held waited R.output R.cutting.input input still R.passing in
    breaks start next begun held new waits input (R.output ++ []) others (R.first ∷ (R.later ++ cut.1.0)) cut.0 (next_bounded start now next p q (R.first ∷ R.later) (Err line_faults.Write) R.cutting t) cut.1.1 text (broken begun held new waited R.output [] input on.0.0 P wrote) R.passing.failures on.1
line_failed start now next begun held new waited waits p q h s line_faults.OutOfMemory R t on grew prompt =
    no_memory start now next begun held new waited waits p q h s (Err line_faults.OutOfMemory) R t on grew prompt

-- the writer failed while a reply was put behind what waited
pub put_failed : (start now next : Told) (begun held mid new : Held) (waited between waits : List ℕ) (p q : Unread) (h : History) (s : Summary) (l : Line) (x : List ℕ) (n : ℕ) → Running start now begun held waited p h s → LineRead now next p q (Ok (Some l))
    → IsPassedOn held mid waited between → Grew held mid → IsPrompt now next between (Ok (Some l))
    → ((line : List ℕ) → Shows l line → x ≡ line_text h line)
    → Takes mid new (take n (between ++ x)) → mid.failures < new.failures → RanSoFar start next begun new waits (Err faults.Write)
put_failed start now next begun held mid new waited between waits p q h s l x n R t on grew prompt text wrote failed =
    let cut = cut_next start now next p q (R.first ∷ R.later) l R.cutting t in
    let line = cut.0 in
    let D = cut.2.0 in
    let so_far = cut_so_far start next q ((R.first ∷ R.later) ++ line ∷ []) D in
    let lines : List (List ℕ) = ((R.first ∷ R.later) ++ line ∷ []) ++ so_far.0 in
    let others = replies (line_after h line) so_far.0 in
    let P = same_input begun mid between R.output (R.cutting.input ++ t.more) D.input cut.2.1 (passed R next mid between q (Ok (Some l)) t on grew prompt) in
    let all : text_of_lines lines ≡ (R.output ++ x) ++ others =
    ap (λ ls. text_of_lines (R.first ∷ ls)) (append_assoc R.later (line ∷ []) so_far.0) ∙ R.text (line ∷ so_far.0)
    ∙ ap (λ b. R.output ++ (b ++ others)) (sym (text line cut.1)) ∙ sym (append_assoc R.output x others) in
    breaks start next begun mid new waits D.input (R.output ++ x) others lines D.read (cut_bounded start next q ((R.first ∷ R.later) ++ line ∷ []) D) so_far.1 all (broken begun mid new between R.output x D.input n P wrote) P.failures failed
