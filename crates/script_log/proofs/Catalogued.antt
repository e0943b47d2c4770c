-- The catalogues among records, one record after another.
use Rattle.std.proofs.Common.{◌≡◌, ℕ, List, [], ◌∷◌, ◌++◌, Bool, true, false, length, take, drop, map, slice_index_or, ◌≤◌, ◌-◌, Option, Some, None, refl, sym, ◌∙◌, ap, subst, append_assoc}
use Rattle.std.specs.Prelude.{if◌then◌else◌}
use Rattle.std.proofs.lemmas.List.{append-nil}
use Rattle.durable_log.specs.Format.{LogRecord}
use Rattle.script_log.specs.Runs.{is_catalogue, last_catalogue}
use Rattle.script_log.specs.Catalogues.{HasNoCatalogue, IsLastCatalogue}
use Rattle.durable_log.specs.Shown.{record_shown}
use Rattle.durable_log.specs.declared.record.Record.{Record}
use Rattle.script_log.proofs.Lines.{catalogue-append}
use Rattle.script_log.proofs.Splitting.{split-shown, number-is}

-- these records were walked over, and the others are left
pub record Walked (records rest : List LogRecord) (last : Option (ℕ × List ℕ)) : Type 0 where
  pub done : List LogRecord
  pub split : done ++ rest ≡ records
  pub found : IsLastCatalogue done last

pub walked-none : (records : List LogRecord) → Walked records records None
walked-none records = record { done = []; split = refl; found = tt }

none-push : (done : List LogRecord) (r : LogRecord) → HasNoCatalogue done → is_catalogue r ≡ false → HasNoCatalogue (done ++ r ∷ [])
none-push [] r none other = (other, tt)
none-push (x ∷ done) r none other = (none.0, none-push done r none.1 other)

other-push : (done : List LogRecord) (r : LogRecord) (last : Option (ℕ × List ℕ)) → IsLastCatalogue done last → is_catalogue r ≡ false → IsLastCatalogue (done ++ r ∷ []) last
other-push done r None none other = none-push done r none other
other-push done r (Some found) C other = record {
  at = record {
    before = C.at.before;
    entry = C.at.entry;
    others = C.at.others ++ r ∷ [];
    split = sym (append_assoc C.at.before (C.at.entry ∷ C.at.others) (r ∷ [])) ∙ ap (λ (rs : List LogRecord). rs ++ r ∷ []) C.at.split;
    place = C.at.place;
  };
  mark = C.mark;
  text_is = C.text_is;
  last = none-push C.at.others r C.last other;
  in_history = catalogue-append [] done (r ∷ []) ∙ ap (λ (v : Bool). if v then r.line else last_catalogue [] done) other ∙ C.in_history;
}

-- a record that is no catalogue
pub walked-other : (records rest : List LogRecord) (r : LogRecord) (last : Option (ℕ × List ℕ)) → Walked records (r ∷ rest) last → is_catalogue r ≡ false → Walked records rest last
walked-other records rest r last W other = record {
  done = W.done ++ r ∷ [];
  split = append_assoc W.done (r ∷ []) rest ∙ W.split;
  found = other-push W.done r last W.found other;
}

-- a record that is one
pub walked-catalogue : (records rest : List LogRecord) (r : LogRecord) (last : Option (ℕ × List ℕ)) (number : ℕ) (W : Walked records (r ∷ rest) last) → is_catalogue r ≡ true → number ≡ length W.done
    → Walked records rest (Some (number, r.line))
walked-catalogue records rest r last number W mark place = record {
  done = W.done ++ r ∷ [];
  split = append_assoc W.done (r ∷ []) rest ∙ W.split;
  found = record {
    at = record { before = W.done; entry = r; others = []; split = refl; place = place };
    mark = mark;
    text_is = refl;
    last = tt;
    in_history = catalogue-append [] W.done (r ∷ []) ∙ ap (λ (v : Bool). if v then r.line else last_catalogue [] W.done) mark;
  };
}

pub walked-all : (records : List LogRecord) (last : Option (ℕ × List ℕ)) → Walked records [] last → IsLastCatalogue records last
walked-all records last W = subst (λ (rs : List LogRecord). IsLastCatalogue rs last) (sym (append-nil W.done) ∙ W.split) W.found

-- by the slice that is left
pub walked-on : (all rest : List Record) (d : Record) (last : Option (ℕ × List ℕ)) → 1 ≤ length rest → Walked (map record_shown all) (map record_shown rest) last → is_catalogue (record_shown (slice_index_or rest 0 d)) ≡ false
    → Walked (map record_shown all) (map record_shown (take (length rest - 1) (drop 1 rest))) last
walked-on all rest d last some W other =
    walked-other (map record_shown all) (map record_shown (take (length rest - 1) (drop 1 rest))) (record_shown (slice_index_or rest 0 d)) last (subst (λ (l : List LogRecord). Walked (map record_shown all) l last) (split-shown rest d some) W) other

pub walked-found : (all rest : List Record) (d : Record) (last : Option (ℕ × List ℕ)) → 1 ≤ length rest → Walked (map record_shown all) (map record_shown rest) last → is_catalogue (record_shown (slice_index_or rest 0 d)) ≡ true
    → Walked (map record_shown all) (map record_shown (take (length rest - 1) (drop 1 rest))) (Some (length all - length rest, (slice_index_or rest 0 d).line.now))
walked-found all rest d last some W mark =
    let first = split-shown rest d some in
    let V = subst (λ (l : List LogRecord). Walked (map record_shown all) l last) first W in
    let later = map record_shown (take (length rest - 1) (drop 1 rest)) in
    let r = record_shown (slice_index_or rest 0 d) in
    walked-catalogue (map record_shown all) later r last (length all - length rest) V mark (number-is all rest V.done later r V.split first)
