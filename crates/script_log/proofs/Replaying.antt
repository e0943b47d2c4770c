-- Records that are answered again, one after another.
use Rattle.std.proofs.Common.{◌≡◌, ℕ, List, [], ◌∷◌, ◌++◌, Bool, true, false, length, take, drop, map, slice_index_or, ◌≤◌, ◌-◌, refl, sym, ◌∙◌, subst, append_assoc}
use Rattle.std.specs.Prelude.{if◌then◌else◌}
use Rattle.std.proofs.lemmas.List.{append-nil}
use Rattle.durable_log.specs.Format.{LogRecord}
use Rattle.script_log.specs.Runs.{History, has_no_reply, kept_lines}
use Rattle.script_log.specs.Replays.{IsAlike, with_line, with_lines, begun, replayed, AreAlike, AnswersAlike, IsOtherReply}
use Rattle.durable_log.specs.Shown.{record_shown}
use Rattle.durable_log.specs.declared.record.Record.{Record}
use Rattle.script_log.proofs.Lines.{kept-append}
use Rattle.script_log.proofs.Splitting.{split-shown, number-is}

-- a history with more lines
abbrev over : History → List (List ℕ) → History
over h lines = record h { lines = h.lines ++ lines }

over-by : (v : Bool) (h : History) (line : List ℕ) (rest : List (List ℕ)) → over h (if v then rest else line ∷ rest) ≡ over (if v then h else record h { lines = h.lines ++ line ∷ [] }) rest
over-by true h line rest = refl
over-by false h line rest = λ i. record h { lines = sym (append_assoc h.lines (line ∷ []) rest) i }

module _ (keeps : History → List ℕ → Bool) (reply : History → List ℕ → List ℕ) where
  -- one record more
  alike-push : (h : History) (done : List LogRecord) (r : LogRecord) → AreAlike keeps reply h done → IsAlike keeps reply (over h (kept_lines done)) r → AreAlike keeps reply h (done ++ r ∷ [])
  alike-push h [] r all one = (subst (λ (k : History). IsAlike keeps reply k r) (λ i. record h { lines = append-nil h.lines i }) one, tt)
  alike-push h (x ∷ done) r all one = (all.0, alike-push (with_line h x) done r all.1 (subst (λ (k : History). IsAlike keeps reply k r) (over-by (has_no_reply x) h x.line (kept_lines done)) one))

  -- these records were answered alike, and the others are left
  pub record Replayed (catalogue : List ℕ) (records rest : List LogRecord) (stands : History → Type 0) : Type 0 where
    pub done : List LogRecord
    pub split : done ++ rest ≡ records
    pub alike : AreAlike keeps reply (begun catalogue records) done
    pub stands_now : stands (with_lines (begun catalogue records) done)

  pub replayed-none : (catalogue : List ℕ) (records : List LogRecord) (stands : History → Type 0) → stands (begun catalogue records) → Replayed catalogue records records stands
  replayed-none catalogue records stands fresh = record { done = []; split = refl; alike = tt; stands_now = fresh }

  line-by : (v : Bool) (h : History) (line : List ℕ) → (if v then h else record h { lines = h.lines ++ line ∷ [] }) ≡ over h (if v then [] else line ∷ [])
  line-by true h line = λ i. record h { lines = sym (append-nil h.lines) i }
  line-by false h line = refl

  pub replayed-more : (catalogue : List ℕ) (records rest : List LogRecord) (r : LogRecord) (stands later : History → Type 0) (R : Replayed catalogue records (r ∷ rest) stands)
      → AnswersAlike keeps reply (with_lines (begun catalogue records) R.done) r later true → Replayed catalogue records rest later
  replayed-more catalogue records rest r stands later R alike = record {
    done = R.done ++ r ∷ [];
    split = append_assoc R.done (r ∷ []) rest ∙ R.split;
    alike = alike-push (begun catalogue records) R.done r R.alike alike.0;
    stands_now = subst later (line-by (has_no_reply r) (with_lines (begun catalogue records) R.done) r.line ∙ (λ i. record (begun catalogue records) { lines = sym (kept-append R.done (r ∷ [])) i })) alike.1;
  }

  pub replayed-not : (catalogue : List ℕ) (records rest : List LogRecord) (r : LogRecord) (stands later : History → Type 0) (number : ℕ) (R : Replayed catalogue records (r ∷ rest) stands)
      → AnswersAlike keeps reply (with_lines (begun catalogue records) R.done) r later false → number ≡ length R.done → IsOtherReply keeps reply catalogue records number
  replayed-not catalogue records rest r stands later number R differs place = record {
    at = record { before = R.done; entry = r; others = rest; split = R.split; place = place };
    alike = R.alike;
    differs = differs;
  }

  -- all of them
  pub replayed-all : (catalogue : List ℕ) (records : List LogRecord) (stands : History → Type 0) → Replayed catalogue records [] stands → AreAlike keeps reply (begun catalogue records) records × stands (replayed catalogue records)
  replayed-all catalogue records stands R =
      let whole : R.done ≡ records = sym (append-nil R.done) ∙ R.split in
      (subst (λ (rs : List LogRecord). AreAlike keeps reply (begun catalogue records) rs) whole R.alike, subst (λ (rs : List LogRecord). stands (with_lines (begun catalogue records) rs)) whole R.stands_now)

  -- by the slice that is left
  pub replayed-slice : (catalogue : List ℕ) (all rest : List Record) (d : Record) (stands later : History → Type 0) → 1 ≤ length rest → Replayed catalogue (map record_shown all) (map record_shown rest) stands
      → ((h : History) → stands h → AnswersAlike keeps reply h (record_shown (slice_index_or rest 0 d)) later true)
      → Replayed catalogue (map record_shown all) (map record_shown (take (length rest - 1) (drop 1 rest))) later
  replayed-slice catalogue all rest d stands later some R alike =
      let S = subst (λ (l : List LogRecord). Replayed catalogue (map record_shown all) l stands) (split-shown rest d some) R in
      replayed-more catalogue (map record_shown all) (map record_shown (take (length rest - 1) (drop 1 rest))) (record_shown (slice_index_or rest 0 d)) stands later S (alike (with_lines (begun catalogue (map record_shown all)) S.done) S.stands_now)

  pub replayed-refused : (catalogue : List ℕ) (all rest : List Record) (d : Record) (stands later : History → Type 0) → 1 ≤ length rest → Replayed catalogue (map record_shown all) (map record_shown rest) stands
      → ((h : History) → stands h → AnswersAlike keeps reply h (record_shown (slice_index_or rest 0 d)) later false)
      → IsOtherReply keeps reply catalogue (map record_shown all) (length all - length rest)
  replayed-refused catalogue all rest d stands later some R differs =
      let first = split-shown rest d some in
      let S = subst (λ (l : List LogRecord). Replayed catalogue (map record_shown all) l stands) first R in
      replayed-not catalogue (map record_shown all) (map record_shown (take (length rest - 1) (drop 1 rest))) (record_shown (slice_index_or rest 0 d)) stands later (length all - length rest) S (differs (with_lines (begun catalogue (map record_shown all)) S.done) S.stands_now)
      (number-is all rest S.done (map record_shown (take (length rest - 1) (drop 1 rest))) (record_shown (slice_index_or rest 0 d)) S.split first)
