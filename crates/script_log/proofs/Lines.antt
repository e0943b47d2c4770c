-- Lines that are answered one after another: the history, the replies and the records that they leave.
use Rattle.std.proofs.Common.{◌≡◌, ℕ, List, [], ◌∷◌, ◌++◌, Bool, true, false, refl, sym, ◌∙◌, ap, append_assoc}
use Rattle.std.specs.Prelude.{if◌then◌else◌}
use Rattle.std.proofs.lemmas.List.{append-nil}
use Rattle.durable_log.specs.Format.{LogRecord}
use Rattle.script_log.specs.Runs.{History, after, after_all, replies, catalogue_record, line_record, records_of_line, records_of_lines, is_catalogue, is_base, has_no_reply, kept_lines, base_lines, last_catalogue, history_of}

kept-by : (v : Bool) (r : LogRecord) (xs ys : List LogRecord) → kept_lines (xs ++ ys) ≡ kept_lines xs ++ kept_lines ys
    → (if v then kept_lines (xs ++ ys) else r.line ∷ kept_lines (xs ++ ys)) ≡ (if v then kept_lines xs else r.line ∷ kept_lines xs) ++ kept_lines ys
kept-by true r xs ys e = e
kept-by false r xs ys e = ap (λ (l : List (List ℕ)). r.line ∷ l) e

-- the lines of records and of others behind them
pub kept-append : (xs ys : List LogRecord) → kept_lines (xs ++ ys) ≡ kept_lines xs ++ kept_lines ys
kept-append [] ys = refl
kept-append (r ∷ xs) ys = kept-by (has_no_reply r) r xs ys (kept-append xs ys)

base-by : (v : Bool) (r : LogRecord) (xs ys : List LogRecord) → base_lines (xs ++ ys) ≡ base_lines xs ++ base_lines ys
    → (if v then r.line ∷ base_lines (xs ++ ys) else base_lines (xs ++ ys)) ≡ (if v then r.line ∷ base_lines xs else base_lines xs) ++ base_lines ys
base-by true r xs ys e = ap (λ (l : List (List ℕ)). r.line ∷ l) e
base-by false r xs ys e = e

-- the base of records and of others behind them
pub base-append : (xs ys : List LogRecord) → base_lines (xs ++ ys) ≡ base_lines xs ++ base_lines ys
base-append [] ys = refl
base-append (r ∷ xs) ys = base-by (is_base r) r xs ys (base-append xs ys)

-- a catalogue is no line
pub kept-catalogue : (records : List LogRecord) (text : List ℕ) → kept_lines (records ++ catalogue_record text ∷ []) ≡ kept_lines records
kept-catalogue records text = kept-append records (catalogue_record text ∷ []) ∙ append-nil (kept_lines records)

-- a catalogue is not of the base
base-catalogue : (records : List LogRecord) (text : List ℕ) → base_lines (records ++ catalogue_record text ∷ []) ≡ base_lines records
base-catalogue records text = base-append records (catalogue_record text ∷ []) ∙ append-nil (base_lines records)

-- the last catalogue of records and of others behind them
pub catalogue-append : (known : List ℕ) (xs ys : List LogRecord) → last_catalogue known (xs ++ ys) ≡ last_catalogue (last_catalogue known xs) ys
catalogue-append known [] ys = refl
catalogue-append known (r ∷ xs) ys = catalogue-append (if is_catalogue r then r.line else known) xs ys

-- a history whose catalogue was replaced
pub history-catalogue : (records : List LogRecord) (text : List ℕ) → history_of (records ++ catalogue_record text ∷ []) ≡ record { catalogue = text; base = base_lines records; lines = kept_lines records }
history-catalogue records text = λ i. record { catalogue = catalogue-append [] records (catalogue_record text ∷ []) i; base = base-catalogue records text i; lines = kept-catalogue records text i }

-- a history with the lines of more records
abbrev with_kept : History → List LogRecord → History
with_kept h records = record h { lines = h.lines ++ kept_lines records }

line-by : (v : Bool) (h : History) (line text : List ℕ) → with_kept h (if v then line_record line text ∷ [] else []) ≡ (if v then record h { lines = h.lines ++ line ∷ [] } else h)
line-by true h line text = refl
line-by false h line text = λ i. record h { lines = append-nil h.lines i }

same-by : (v : Bool) (known line text : List ℕ) → last_catalogue known (if v then line_record line text ∷ [] else []) ≡ known
same-by true known line text = refl
same-by false known line text = refl

no-base-by : (v : Bool) (line text : List ℕ) (others : List LogRecord) → base_lines ((if v then line_record line text ∷ [] else []) ++ others) ≡ base_lines others
no-base-by true line text others = refl
no-base-by false line text others = refl

module _ (keeps : History → List ℕ → Bool) (reply : History → List ℕ → List ℕ) where
  pub after_all-append : (h : History) (xs ys : List (List ℕ)) → after_all keeps h (xs ++ ys) ≡ after_all keeps (after_all keeps h xs) ys
  after_all-append h [] ys = refl
  after_all-append h (x ∷ xs) ys = after_all-append (after keeps h x) xs ys

  replies-append : (h : History) (xs ys : List (List ℕ)) → replies keeps reply h (xs ++ ys) ≡ replies keeps reply h xs ++ replies keeps reply (after_all keeps h xs) ys
  replies-append h [] ys = refl
  replies-append h (x ∷ xs) ys = ap (λ (l : List ℕ). reply h x ++ l) (replies-append (after keeps h x) xs ys) ∙ sym (append_assoc (reply h x) (replies keeps reply (after keeps h x) xs) (replies keeps reply (after_all keeps (after keeps h x) xs) ys))

  records-append : (h : History) (xs ys : List (List ℕ)) → records_of_lines keeps reply h (xs ++ ys) ≡ records_of_lines keeps reply h xs ++ records_of_lines keeps reply (after_all keeps h xs) ys
  records-append h [] ys = refl
  records-append h (x ∷ xs) ys = ap (λ (l : List LogRecord). records_of_line keeps reply h x ++ l) (records-append (after keeps h x) xs ys)
      ∙ sym (append_assoc (records_of_line keeps reply h x) (records_of_lines keeps reply (after keeps h x) xs) (records_of_lines keeps reply (after_all keeps (after keeps h x) xs) ys))

  -- one line more
  pub replies-push : (h : History) (lines : List (List ℕ)) (line : List ℕ) → replies keeps reply h (lines ++ line ∷ []) ≡ replies keeps reply h lines ++ reply (after_all keeps h lines) line
  replies-push h lines line = replies-append h lines (line ∷ []) ∙ ap (λ (l : List ℕ). replies keeps reply h lines ++ l) (append-nil (reply (after_all keeps h lines) line))

  pub records-push : (h : History) (lines : List (List ℕ)) (line : List ℕ) → records_of_lines keeps reply h (lines ++ line ∷ []) ≡ records_of_lines keeps reply h lines ++ records_of_line keeps reply (after_all keeps h lines) line
  records-push h lines line = records-append h lines (line ∷ []) ∙ ap (λ (l : List LogRecord). records_of_lines keeps reply h lines ++ l) (append-nil (records_of_line keeps reply (after_all keeps h lines) line))

  -- lines bring no catalogue
  same-catalogue : (known : List ℕ) (h : History) (lines : List (List ℕ)) → last_catalogue known (records_of_lines keeps reply h lines) ≡ known
  same-catalogue known h [] = refl
  same-catalogue known h (line ∷ lines) =
      let others = records_of_lines keeps reply (after keeps h line) lines in
      catalogue-append known (records_of_line keeps reply h line) others
      ∙ ap (λ (k : List ℕ). last_catalogue k others) (same-by (keeps h line) known line (reply h line)) ∙ same-catalogue known (after keeps h line) lines

  -- nor records of the base
  no-base : (h : History) (lines : List (List ℕ)) → base_lines (records_of_lines keeps reply h lines) ≡ []
  no-base h [] = refl
  no-base h (line ∷ lines) = no-base-by (keeps h line) line (reply h line) (records_of_lines keeps reply (after keeps h line) lines) ∙ no-base (after keeps h line) lines

  same-base : (records : List LogRecord) (h : History) (lines : List (List ℕ)) → base_lines (records ++ records_of_lines keeps reply h lines) ≡ base_lines records
  same-base records h lines =
      base-append records (records_of_lines keeps reply h lines)
      ∙ ap (λ (l : List (List ℕ)). base_lines records ++ l) (no-base h lines) ∙ append-nil (base_lines records)

  kept-of-lines : (h : History) (lines : List (List ℕ)) → with_kept h (records_of_lines keeps reply h lines) ≡ after_all keeps h lines
  kept-of-lines h [] = λ i. record h { lines = append-nil h.lines i }
  kept-of-lines h (line ∷ lines) =
      let one = records_of_line keeps reply h line in
      let others = records_of_lines keeps reply (after keeps h line) lines in
      let split : with_kept h (one ++ others) ≡ with_kept (with_kept h one) others =
      λ i. record h { lines = (ap (λ (l : List (List ℕ)). h.lines ++ l) (kept-append one others) ∙ sym (append_assoc h.lines (kept_lines one) (kept_lines others))) i } in
      split ∙ ap (λ (k : History). with_kept k others) (line-by (keeps h line) h line (reply h line)) ∙ kept-of-lines (after keeps h line) lines

  -- the records of a run have its history
  pub history-after : (records : List LogRecord) (lines : List (List ℕ)) → history_of (records ++ records_of_lines keeps reply (history_of records) lines) ≡ after_all keeps (history_of records) lines
  history-after records lines =
      let more = records_of_lines keeps reply (history_of records) lines in
      let split : history_of (records ++ more) ≡ with_kept (history_of records) more =
      λ i. record { catalogue = (catalogue-append [] records more ∙ same-catalogue (last_catalogue [] records) (history_of records) lines) i; base = same-base records (history_of records) lines i; lines = kept-append records more i } in
      split ∙ kept-of-lines (history_of records) lines
