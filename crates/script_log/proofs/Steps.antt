-- A run, one step after another: the lines that were answered, and where their records and replies are.
use Rattle.std.proofs.Common.{◌≡◌, inl, inr, ℕ, List, [], ◌∷◌, ◌++◌, Bool, refl, sym, ◌∙◌, ap, subst, append_assoc}
use Rattle.std.proofs.lemmas.List.{append-nil}
use Rattle.log_host.specs.Host.{Outcomes, LeavesOnly}
use Rattle.durable_log.specs.Format.{LogRecord}
use Rattle.durable_log.specs.Files.{StandsFor}
use Rattle.durable_log.proofs.Moments.{weaker, then_leaves}
use Rattle.script_log.specs.Runs.{History, answering, after_all, replies, records_of_line, records_of_lines, history_of}
use Rattle.script_log.specs.Covered.{Covered}
use Rattle.script_log.specs.Passing.{Standing, Passing, IsPassedOn}
use Rattle.script_log.specs.Outcomes.{AreAnswered}
use Rattle.script_log.specs.Hosts.{account}
use Rattle.script_log.proofs.Lines.{replies-push, records-push}

module _ (keeps : History → List ℕ → Bool) (reply : History → List ℕ → List ℕ) (records : List LogRecord) (heard : List ℕ) where
  -- these lines were answered; the first of them are on the disk, and what was heard is a beginning of the replies to those
  pub record Steady (lines : List (List ℕ)) (s : Standing) : Type 0 where
    pub records_are : s.records ++ s.waits ≡ records ++ records_of_lines keeps reply (history_of records) lines
    pub sent : List ℕ
    pub heard_is : s.heard ≡ heard ++ sent
    pub text_is : sent ++ s.text ≡ replies keeps reply (history_of records) lines
    pub done : List (List ℕ)
    pub others : List (List ℕ)
    pub first : done ++ others ≡ lines
    pub on_disk : s.records ≡ records ++ records_of_lines keeps reply (history_of records) done
    pub rest : List ℕ
    pub due : sent ++ rest ≡ replies keeps reply (history_of records) done

  pub steady-none : (s : Standing) → s.records ≡ records → s.waits ≡ [] → s.heard ≡ heard → s.text ≡ [] → Steady [] s
  steady-none s records_are none heard_is empty = record {
    records_are = ap (λ (r : List LogRecord). r ++ s.waits) records_are ∙ ap (λ (w : List LogRecord). records ++ w) none;
    sent = [];
    heard_is = heard_is ∙ sym (append-nil heard);
    text_is = empty;
    done = [];
    others = [];
    first = refl;
    on_disk = records_are ∙ sym (append-nil records);
    rest = [];
    due = refl;
  }

  pub steady-covers : (lines : List (List ℕ)) (s : Standing) (f o : List ℕ) → Steady lines s → Passing s f o → Covered keeps reply records lines heard f o
  steady-covers lines s f o S (inl at) = record {
    done = S.done;
    others = S.others;
    first = S.first;
    stands = subst (λ (r : List LogRecord). StandsFor r f) S.on_disk at.0;
    answers = (S.sent, S.rest, S.due, at.1 ∙ S.heard_is);
  }
  steady-covers lines s f o S (inr at) = record {
    done = lines;
    others = [];
    first = append-nil lines;
    stands = subst (λ (r : List LogRecord). StandsFor r f) S.records_are at.0;
    answers = (
      S.sent ++ at.1.0,
      at.1.1,
      append_assoc S.sent at.1.0 at.1.1 ∙ ap (λ (x : List ℕ). S.sent ++ x) at.1.2 ∙ S.text_is,
      at.1.3 ∙ ap (λ (x : List ℕ). x ++ at.1.0) S.heard_is ∙ append_assoc heard S.sent at.1.0,
    );
  }

  -- what waits was passed on
  pub steady-passed : (lines : List (List ℕ)) (s t : Standing) → Steady lines s → IsPassedOn s t → Steady lines t
  steady-passed lines s t S (inl same) = subst (λ (u : Standing). Steady lines u) (sym same) S
  steady-passed lines s t S (inr D) = record {
    records_are = ap (λ (r : List LogRecord). r ++ t.waits) D.records ∙ ap (λ (w : List LogRecord). (s.records ++ s.waits) ++ w) D.waits ∙ append-nil (s.records ++ s.waits) ∙ S.records_are;
    sent = S.sent ++ D.front;
    heard_is = D.heard ∙ ap (λ (x : List ℕ). x ++ D.front) S.heard_is ∙ append_assoc heard S.sent D.front;
    text_is = append_assoc S.sent D.front t.text ∙ ap (λ (x : List ℕ). S.sent ++ x) D.text ∙ S.text_is;
    done = lines;
    others = [];
    first = append-nil lines;
    on_disk = D.records ∙ S.records_are;
    rest = t.text;
    due = append_assoc S.sent D.front t.text ∙ ap (λ (x : List ℕ). S.sent ++ x) D.text ∙ S.text_is;
  }

  -- a line was answered: its record waits if it is kept, and its reply waits
  pub steady-line : (lines : List (List ℕ)) (line : List ℕ) (s t : Standing) → Steady lines s
      → t ≡ record { records = s.records; waits = s.waits ++ records_of_line keeps reply (after_all keeps (history_of records) lines) line; heard = s.heard; text = s.text ++ reply (after_all keeps (history_of records) lines) line }
      → Steady (lines ++ line ∷ []) t
  steady-line lines line s t S is =
      let h = after_all keeps (history_of records) lines in
      let more = records_of_line keeps reply h line in
      let text = reply h line in
      subst (λ (u : Standing). Steady (lines ++ line ∷ []) u) (sym is) (record {
        records_are = sym (append_assoc s.records s.waits more) ∙ ap (λ (r : List LogRecord). r ++ more) S.records_are
            ∙ append_assoc records (records_of_lines keeps reply (history_of records) lines) more ∙ ap (λ (r : List LogRecord). records ++ r) (sym (records-push keeps reply (history_of records) lines line));
        sent = S.sent;
        heard_is = S.heard_is;
        text_is = sym (append_assoc S.sent s.text text) ∙ ap (λ (x : List ℕ). x ++ text) S.text_is ∙ sym (replies-push keeps reply (history_of records) lines line);
        done = S.done;
        others = S.others ++ line ∷ [];
        first = sym (append_assoc S.done S.others (line ∷ [])) ∙ ap (λ (l : List (List ℕ)). l ++ line ∷ []) S.first;
        on_disk = S.on_disk;
        rest = S.rest;
        due = S.due;
      })

  -- all of it, once it is passed on
  pub steady-answered : (lines : List (List ℕ)) (s : Standing) → Steady lines s → AreAnswered (answering keeps reply) (account records heard) lines (account (s.records ++ s.waits) (s.heard ++ s.text))
  steady-answered lines s S = record {
    records_are = S.records_are;
    heard_is = ap (λ (x : List ℕ). x ++ s.text) S.heard_is ∙ append_assoc heard S.sent s.text ∙ ap (λ (x : List ℕ). heard ++ x) S.text_is;
  }

  -- what holds of some lines holds with more behind them
  pub covered-longer : (lines longer rest : List (List ℕ)) (f o : List ℕ) → longer ≡ lines ++ rest → Covered keeps reply records lines heard f o → Covered keeps reply records longer heard f o
  covered-longer lines longer rest f o is C = record {
    done = C.done;
    others = C.others ++ rest;
    first = sym (append_assoc C.done C.others rest) ∙ ap (λ (l : List (List ℕ)). l ++ rest) C.first ∙ sym is;
    stands = C.stands;
    answers = C.answers;
  }

  module _ {D : Type 0} (moment : D → ℕ) (left_since : D → ℕ → Outcomes) (start : D) where
    pub leaves-longer : (lines longer rest : List (List ℕ)) (host : D) → longer ≡ lines ++ rest → LeavesOnly moment left_since start host (Covered keeps reply records lines heard)
        → LeavesOnly moment left_since start host (Covered keeps reply records longer heard)
    leaves-longer lines longer rest host is leaves =
        weaker moment left_since start host (Covered keeps reply records lines heard) (Covered keeps reply records longer heard) leaves (λ f o at. covered-longer lines longer rest f o is at)

    -- a step that passes on what waits
    pub leaves-passing : (lines : List (List ℕ)) (s : Standing) (host host2 : D) → Steady lines s → LeavesOnly moment left_since start host (Covered keeps reply records lines heard)
        → LeavesOnly moment left_since host host2 (Passing s) → LeavesOnly moment left_since start host2 (Covered keeps reply records lines heard)
    leaves-passing lines s host host2 S before step =
        then_leaves moment left_since start host host2 (Covered keeps reply records lines heard) before
        (weaker moment left_since host host2 (Passing s) (Covered keeps reply records lines heard) step (λ f o at. steady-covers lines s f o S at))
