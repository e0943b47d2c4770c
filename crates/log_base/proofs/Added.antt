-- Rows that are added one after another.
use Rattle.std.proofs.Common.{◌≡◌, ℕ, List, [], ◌∷◌, ◌++◌, true, false, length, take, drop, map, slice_index_or, ◌≤◌, ◌-◌, refl, sym, ◌∙◌, ap, subst, append_assoc}
use Rattle.std.proofs.lemmas.List.{append-nil, length-map, map-append}
use Rattle.batch_history.specs.Rows.{Rows}
use Rattle.durable_log.specs.Format.{LogRecord}
use Rattle.durable_log.specs.Shown.{record_shown}
use Rattle.durable_log.specs.declared.record.Record.{Record}
use Rattle.script_log.proofs.Splitting.{split-shown, number-is}
use Rattle.script_log.specs.Bases.{lines_of_records}
use Rattle.log_base.specs.Bases.{AreNextLines, IsFirstBad, is_next_line, with_line, with_rows_of}

-- one line more behind lines
pub next_push : (r : Rows) (lines : List (List ℕ)) (line : List ℕ) → AreNextLines r lines → is_next_line (with_rows_of r lines) line ≡ true → AreNextLines r (lines ++ line ∷ [])
next_push r [] line all one = (one, tt)
next_push r (first ∷ lines) line all one = (all.0, next_push (with_line r first) lines line all.1 one)

pub with_push : (r : Rows) (lines : List (List ℕ)) (line : List ℕ) → with_rows_of r (lines ++ line ∷ []) ≡ with_line (with_rows_of r lines) line
with_push r [] line = refl
with_push r (first ∷ lines) line = with_push (with_line r first) lines line

lines-push : (done : List LogRecord) (x : LogRecord) → lines_of_records done ++ x.line ∷ [] ≡ lines_of_records (done ++ x ∷ [])
lines-push done x = sym (map-append (λ (r : LogRecord). r.line) done (x ∷ []))

module _ (first : Rows) where
  -- the rows of these records were added, and the others are left
  pub record Added (records rest : List LogRecord) (now : Rows) : Type 0 where
    pub done : List LogRecord
    pub split : done ++ rest ≡ records
    pub next : AreNextLines first (lines_of_records done)
    pub are : now ≡ with_rows_of first (lines_of_records done)

  pub added-none : (records : List LogRecord) → Added records records first
  added-none records = record { done = []; split = refl; next = tt; are = refl }

  added-more : (records rest : List LogRecord) (x : LogRecord) (now later : Rows) → Added records (x ∷ rest) now → is_next_line now x.line ≡ true → later ≡ with_line now x.line
      → Added records rest later
  added-more records rest x now later A next is = record {
    done = A.done ++ x ∷ [];
    split = append_assoc A.done (x ∷ []) rest ∙ A.split;
    next = subst (AreNextLines first) (lines-push A.done x) (next_push first (lines_of_records A.done) x.line A.next (subst (λ (r : Rows). is_next_line r x.line ≡ true) A.are next));
    are = is ∙ (ap (λ (r : Rows). with_line r x.line) A.are ∙ (sym (with_push first (lines_of_records A.done) x.line) ∙ ap (with_rows_of first) (lines-push A.done x)));
  }

  added-not : (records rest : List LogRecord) (x : LogRecord) (now : Rows) (place : ℕ) (A : Added records (x ∷ rest) now) → is_next_line now x.line ≡ false → place ≡ length A.done
      → IsFirstBad first (lines_of_records records) place
  added-not records rest x now place A bad is = record {
    before = lines_of_records A.done;
    line = x.line;
    others = lines_of_records rest;
    split = sym (map-append (λ (r : LogRecord). r.line) A.done (x ∷ rest)) ∙ ap lines_of_records A.split;
    place_is = is ∙ sym (length-map A.done (λ (r : LogRecord). r.line));
    next = A.next;
    bad = subst (λ (r : Rows). is_next_line r x.line ≡ false) A.are bad;
  }

  -- all of them
  pub added-all : (records : List LogRecord) (now : Rows) → Added records [] now → AreNextLines first (lines_of_records records) × (now ≡ with_rows_of first (lines_of_records records))
  added-all records now A =
      let whole : A.done ≡ records = sym (append-nil A.done) ∙ A.split in
      (subst (λ (rs : List LogRecord). AreNextLines first (lines_of_records rs)) whole A.next, A.are ∙ ap (λ (rs : List LogRecord). with_rows_of first (lines_of_records rs)) whole)

  -- by the slice that is left
  pub added-slice : (all rest : List Record) (d : Record) (now later : Rows) → 1 ≤ length rest → Added (map record_shown all) (map record_shown rest) now
      → is_next_line now (record_shown (slice_index_or rest 0 d)).line ≡ true → later ≡ with_line now (record_shown (slice_index_or rest 0 d)).line
      → Added (map record_shown all) (map record_shown (take (length rest - 1) (drop 1 rest))) later
  added-slice all rest d now later some A next is =
      added-more (map record_shown all) (map record_shown (take (length rest - 1) (drop 1 rest))) (record_shown (slice_index_or rest 0 d)) now later
      (subst (λ (l : List LogRecord). Added (map record_shown all) l now) (split-shown rest d some) A) next is

  pub added-bad : (all rest : List Record) (d : Record) (now : Rows) → 1 ≤ length rest → Added (map record_shown all) (map record_shown rest) now
      → is_next_line now (record_shown (slice_index_or rest 0 d)).line ≡ false
      → IsFirstBad first (lines_of_records (map record_shown all)) (length all - length rest)
  added-bad all rest d now some A bad =
      let split = split-shown rest d some in
      let S = subst (λ (l : List LogRecord). Added (map record_shown all) l now) split A in
      added-not (map record_shown all) (map record_shown (take (length rest - 1) (drop 1 rest))) (record_shown (slice_index_or rest 0 d)) now (length all - length rest) S bad
      (number-is all rest S.done (map record_shown (take (length rest - 1) (drop 1 rest))) (record_shown (slice_index_or rest 0 d)) S.split split)
