-- The base among records, one record after another.
use Rattle.std.proofs.Common.{◌≡◌, ◌-◌, ◌≤◌, List, [], ◌∷◌, ◌++◌, true, false, length, take, drop, map, slice_index_or, sym, ◌∙◌, ap, append_assoc}
use Rattle.durable_log.specs.Format.{LogRecord}
use Rattle.durable_log.specs.Shown.{record_shown}
use Rattle.durable_log.specs.declared.record.Record.{Record}
use Rattle.script_log.specs.Runs.{is_base}
use Rattle.script_log.specs.Bases.{AreBase, HasNoBase, IsFirstAt}
use Rattle.script_log.proofs.Splitting.{split-shown, number-is}

-- a walk over the records at the front that are of the base
pub record Along (records rest : List LogRecord) : Type 0 where
  pub done : List LogRecord
  pub split : done ++ rest ≡ records
  pub base_is : AreBase done

base-push : (done : List LogRecord) (r : LogRecord) → AreBase done → is_base r ≡ true → AreBase (done ++ r ∷ [])
base-push [] r all one = (one, tt)
base-push (x ∷ done) r all one = (all.0, base-push done r all.1 one)

pub along-on : (all rest : List Record) (d : Record) → 1 ≤ length rest → Along (map record_shown all) (map record_shown rest) → is_base (record_shown (slice_index_or rest 0 d)) ≡ true
    → Along (map record_shown all) (map record_shown (take (length rest - 1) (drop 1 rest)))
along-on all rest d some W mark =
    let r = record_shown (slice_index_or rest 0 d) in
    let later = map record_shown (take (length rest - 1) (drop 1 rest)) in
    record {
      done = W.done ++ r ∷ [];
      split = append_assoc W.done (r ∷ []) later ∙ ap (λ (l : List LogRecord). W.done ++ l) (sym (split-shown rest d some)) ∙ W.split;
      base_is = base-push W.done r W.base_is mark;
    }

-- a walk over records that are not of the base
pub record Past (records rest : List LogRecord) : Type 0 where
  pub done : List LogRecord
  pub split : done ++ rest ≡ records
  pub none : HasNoBase done

none-push : (done : List LogRecord) (r : LogRecord) → HasNoBase done → is_base r ≡ false → HasNoBase (done ++ r ∷ [])
none-push [] r none one = (one, tt)
none-push (x ∷ done) r none one = (none.0, none-push done r none.1 one)

pub past-on : (all rest : List Record) (d : Record) → 1 ≤ length rest → Past (map record_shown all) (map record_shown rest) → is_base (record_shown (slice_index_or rest 0 d)) ≡ false
    → Past (map record_shown all) (map record_shown (take (length rest - 1) (drop 1 rest)))
past-on all rest d some W other =
    let r = record_shown (slice_index_or rest 0 d) in
    let later = map record_shown (take (length rest - 1) (drop 1 rest)) in
    record {
      done = W.done ++ r ∷ [];
      split = append_assoc W.done (r ∷ []) later ∙ ap (λ (l : List LogRecord). W.done ++ l) (sym (split-shown rest d some)) ∙ W.split;
      none = none-push W.done r W.none other;
    }

pub past-found : (all rest : List Record) (d : Record) → 1 ≤ length rest → Past (map record_shown all) (map record_shown rest) → is_base (record_shown (slice_index_or rest 0 d)) ≡ true
    → IsFirstAt (map record_shown all) (length all - length rest)
past-found all rest d some W mark =
    let first = split-shown rest d some in
    let later = map record_shown (take (length rest - 1) (drop 1 rest)) in
    let r = record_shown (slice_index_or rest 0 d) in
    let split : W.done ++ r ∷ later ≡ map record_shown all = ap (λ (l : List LogRecord). W.done ++ l) (sym first) ∙ W.split in
    record {
      at = record { before = W.done; entry = r; others = later; split = split; place = number-is all rest W.done later r split first };
      mark = mark;
      none_before = W.none;
    }
