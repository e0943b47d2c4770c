-- The place of the base in a log.
use Rattle.std.proofs.Common.{◌≡◌, ℕ, ◌+◌, ◌-◌, ◌≤◌, List, [], ◌∷◌, ◌++◌, Bool, true, false, length, take, drop, map, refl, sym, ◌∙◌, ap, subst, arith, append_assoc, length-append}
use Rattle.std.specs.Prelude.{if◌then◌else◌}
use Rattle.std.proofs.lemmas.Bool.{false≢true, eqb-true}
use Rattle.std.proofs.lemmas.List.{append-nil, take-append-drop, length-take-le, length-map, take-map, drop-map, take_rest}
use Rattle.durable_log.specs.Format.{LogRecord}
use Rattle.durable_log.specs.Shown.{record_shown}
use Rattle.durable_log.specs.declared.record.Record.{Record}
use Rattle.script_log.specs.Runs.{is_catalogue, is_base, base_lines}
use Rattle.script_log.specs.Catalogues.{BeginsWithCatalogue}
use Rattle.script_log.specs.Bases.{lines_of_records, AreBase, HasNoBase, AreFirst, IsBaseBehind, IsBaseOf, HasBaseInPlace, IsBeginning, IsOutOfPlace, IsFirstAt, BeginsOtherwise, IsBaseLength}
use Rattle.script_log.proofs.Lines.{base-append}

-- a catalogue is not of the base
catalogue-other : (r : LogRecord) → is_catalogue r ≡ true → is_base r ≡ false
catalogue-other r mark = ap (λ (m : ℕ). is_base (record r { mark = m })) (eqb-true r.mark 99 mark)

base-other : (r : LogRecord) → is_base r ≡ true → is_catalogue r ≡ false
base-other r mark = ap (λ (m : ℕ). is_catalogue (record r { mark = m })) (eqb-true r.mark 98 mark)

-- no record is of the base and is not
not-both : (r : LogRecord) → is_base r ≡ true → is_base r ≡ false → ⊥
not-both r mark other = false≢true (sym other ∙ mark)

-- among records of which none is of the base
none-at : (before others : List LogRecord) (r : LogRecord) → HasNoBase (before ++ r ∷ others) → is_base r ≡ false
none-at [] others r none = none.0
none-at (x ∷ before) others r none = none-at before others r none.1

-- and among records that are of the base
base-at : (before others : List LogRecord) (r : LogRecord) → AreBase (before ++ r ∷ others) → is_base r ≡ true
base-at [] others r all = all.0
base-at (x ∷ before) others r all = base-at before others r all.1

-- if the base are the first records, those before a record of the base are of it
all-before : (base others before later : List LogRecord) (r : LogRecord) → base ++ others ≡ before ++ r ∷ later → AreBase base → HasNoBase others → is_base r ≡ true → AreBase before
all-before base others [] later r split all none mark = tt
all-before [] others (b ∷ before) later r split all none mark = absurd (not-both r mark (none-at (b ∷ before) later r (subst HasNoBase split none)))
all-before (x ∷ base) others (b ∷ before) later r split all none mark =
    let same : x ≡ b = cc in
    let rest : base ++ others ≡ before ++ r ∷ later = cc in
    (subst (λ (y : LogRecord). is_base y ≡ true) same all.0, all-before base others before later r rest all.1 none mark)

-- a record that is out of place, in records whose base is in its place
misplaced-by : (v : Bool) (b r : LogRecord) (before later base : List LogRecord) → is_catalogue b ≡ v → IsBaseBehind v b (before ++ r ∷ later) base → is_base r ≡ true → (IsBeginning (b ∷ before) → ⊥) → ⊥
misplaced-by true b r before later base mark is one elsewhere = elsewhere (mark, all-before base is.others before later r is.split is.base_is is.nowhere_else one)
misplaced-by false b r before later base mark is one elsewhere = not-both r one (none-at (b ∷ before) later r is.1)

misplaced-at : (r : LogRecord) (before later base : List LogRecord) → IsBaseOf (before ++ r ∷ later) base → is_base r ≡ true → (IsBeginning before → ⊥) → ⊥
misplaced-at r [] later base is one elsewhere =
    let other = subst (λ (v : Bool). IsBaseBehind v r later base) (base-other r one) is in
    not-both r one other.1.0
misplaced-at r (b ∷ before) later base is one elsewhere = misplaced-by (is_catalogue b) b r before later base refl is one elsewhere

-- then the base is not in its place
pub not-in-place : (records : List LogRecord) (number : ℕ) → IsOutOfPlace records number → HasBaseInPlace records → ⊥
not-in-place records number out is =
    misplaced-at out.at.entry out.at.before out.at.others is.0 (subst (λ (rs : List LogRecord). IsBaseOf rs is.0) (sym out.at.split) is.1) out.mark out.elsewhere

-- behind a catalogue
found-behind : (r : LogRecord) (records : List LogRecord) (n : ℕ) → is_catalogue r ≡ true → IsBaseLength records n → HasNoBase (drop n records) → IsBaseOf (r ∷ records) (take n records)
found-behind r records n mark size none =
    subst (λ (v : Bool). IsBaseBehind v r records (take n records)) (sym mark)
    (record { others = drop n records; split = take-append-drop n records; base_is = size.0; nowhere_else = none })

base-found : (records : List LogRecord) (n : ℕ) → BeginsWithCatalogue records → IsBaseLength (drop 1 records) n → HasNoBase (drop n (drop 1 records)) → IsBaseOf records (take n (drop 1 records))
base-found [] n begins size none = absurd begins
base-found (r ∷ records) n begins size none = found-behind r records n begins size none

-- the first record of the base behind other records has a record of those before it
behind-other : (before others records front : List LogRecord) (r : LogRecord) → before ++ r ∷ others ≡ records → BeginsOtherwise records → HasNoBase before → is_base r ≡ true → AreBase (front ++ before) → ⊥
behind-other [] others records front r split other none mark all = not-both r mark (subst BeginsOtherwise (sym split) other)
behind-other (b ∷ before) others records front r split other none mark all = not-both b (base-at front before b all) none.0

lost-behind : (r : LogRecord) (records : List LogRecord) (n at : ℕ) → is_catalogue r ≡ true → n ≤ length records → IsBaseLength records n → IsFirstAt (drop n records) at → IsOutOfPlace (r ∷ records) (1 + n + at)
lost-behind r records n at mark bound size found =
    let front = take n records in
    let before = found.at.before in
    let split : front ++ (before ++ found.at.entry ∷ found.at.others) ≡ records = ap (λ (l : List LogRecord). front ++ l) found.at.split ∙ take-append-drop n records in
    record {
      at = record {
        before = r ∷ (front ++ before);
        entry = found.at.entry;
        others = found.at.others;
        split = ap (λ (l : List LogRecord). r ∷ l) (append_assoc front before (found.at.entry ∷ found.at.others) ∙ split);
        place = omega (arith, found.at.place, length-append front before, length-take-le n records bound);
      };
      mark = found.mark;
      elsewhere = λ is. behind-other before found.at.others (drop n records) front found.at.entry found.at.split size.1 found.none_before found.mark is.1;
      before = (front, subst (λ (v : Bool). IsBaseBehind v r (front ++ before) front) (sym mark) (record { others = before; split = refl; base_is = size.0; nowhere_else = found.none_before }));
    }

base-lost : (records : List LogRecord) (n at : ℕ) → BeginsWithCatalogue records → n ≤ length (drop 1 records) → IsBaseLength (drop 1 records) n → IsFirstAt (drop n (drop 1 records)) at → IsOutOfPlace records (1 + n + at)
base-lost [] n at begins bound size found = absurd begins
base-lost (r ∷ records) n at begins bound size found = lost-behind r records n at begins bound size found

-- where record 0 is no catalogue
none-behind : (v : Bool) (r : LogRecord) (records : List LogRecord) → (v ≡ true → ⊥) → HasNoBase (r ∷ records) → IsBaseBehind v r records []
none-behind true r records other none = absurd (other refl)
none-behind false r records other none = (refl, none)

pub base-none : (records : List LogRecord) → (BeginsWithCatalogue records → ⊥) → HasNoBase records → IsBaseOf records []
base-none [] other none = refl
base-none (r ∷ records) other none = none-behind (is_catalogue r) r records other none

begins-longer : (before others : List LogRecord) → BeginsWithCatalogue before → BeginsWithCatalogue (before ++ others)
begins-longer [] others begins = absurd begins
begins-longer (b ∷ before) others begins = begins

begins-first : (records : List LogRecord) → IsBeginning records → BeginsWithCatalogue records
begins-first [] is = is
begins-first (r ∷ records) is = is.0

pub base-alone : (records : List LogRecord) (number : ℕ) → (BeginsWithCatalogue records → ⊥) → IsFirstAt records number → IsOutOfPlace records number
base-alone records number other found =
    let before = found.at.before in
    let none : BeginsWithCatalogue before → ⊥ = λ is. other (subst BeginsWithCatalogue found.at.split (begins-longer before (found.at.entry ∷ found.at.others) is)) in
    record {
      at = found.at;
      mark = found.mark;
      elsewhere = λ is. none (begins-first before is);
      before = ([], base-none before none found.none_before);
    }

-- the lines of the base
no-lines : (records : List LogRecord) → HasNoBase records → base_lines records ≡ []
no-lines [] none = refl
no-lines (r ∷ records) none = ap (λ (v : Bool). if v then r.line ∷ base_lines records else base_lines records) none.0 ∙ no-lines records none.1

all-lines : (base : List LogRecord) → AreBase base → base_lines base ≡ lines_of_records base
all-lines [] all = refl
all-lines (r ∷ base) all = ap (λ (v : Bool). if v then r.line ∷ base_lines base else base_lines base) all.0 ∙ ap (λ (l : List (List ℕ)). r.line ∷ l) (all-lines base all.1)

first-lines : (records base : List LogRecord) → AreFirst records base → base_lines records ≡ lines_of_records base
first-lines records base is =
    ap base_lines (sym is.split) ∙ base-append base is.others ∙ ap (λ (l : List (List ℕ)). base_lines base ++ l) (no-lines is.others is.nowhere_else)
    ∙ append-nil (base_lines base) ∙ all-lines base is.base_is

behind-lines : (v : Bool) (r : LogRecord) (records base : List LogRecord) → is_catalogue r ≡ v → IsBaseBehind v r records base → base_lines (r ∷ records) ≡ lines_of_records base
behind-lines true r records base mark is = ap (λ (v : Bool). if v then r.line ∷ base_lines records else base_lines records) (catalogue-other r mark) ∙ first-lines records base is
behind-lines false r records base mark is = no-lines (r ∷ records) is.1 ∙ ap lines_of_records (sym is.0)

pub lines-of-base : (records base : List LogRecord) → IsBaseOf records base → base_lines records ≡ lines_of_records base
lines-of-base [] base is = ap lines_of_records (sym is)
lines-of-base (r ∷ records) base is = behind-lines (is_catalogue r) r records base refl is

-- by slices: the records from a place on
abbrev pub from_on : List Record → ℕ → List Record
from_on records n = take (length records - n) (drop n records)

shown-from : (records : List Record) (n : ℕ) → map record_shown (from_on records n) ≡ drop n (map record_shown records)
shown-from records n = ap (map record_shown) (take_rest records n) ∙ sym (drop-map record_shown n records)

pub slice-found : (records : List Record) (n : ℕ) → BeginsWithCatalogue (map record_shown records) → IsBaseLength (map record_shown (from_on records 1)) n
    → HasNoBase (map record_shown (from_on (from_on records 1) n)) → IsBaseOf (map record_shown records) (map record_shown (take n (from_on records 1)))
slice-found records n begins size none =
    let behind = shown-from records 1 in
    subst (IsBaseOf (map record_shown records)) (sym (sym (take-map record_shown n (from_on records 1)) ∙ ap (take n) behind))
    (base-found (map record_shown records) n begins (subst (λ (l : List LogRecord). IsBaseLength l n) behind size) (subst HasNoBase (shown-from (from_on records 1) n ∙ ap (drop n) behind) none))

pub slice-lost : (records : List Record) (n at : ℕ) → BeginsWithCatalogue (map record_shown records) → n ≤ length (from_on records 1) → IsBaseLength (map record_shown (from_on records 1)) n
    → IsFirstAt (map record_shown (from_on (from_on records 1) n)) at → IsOutOfPlace (map record_shown records) (1 + n + at)
slice-lost records n at begins bound size found =
    let behind = shown-from records 1 in
    base-lost (map record_shown records) n at begins (omega (arith, bound, length-map (from_on records 1) record_shown, ap length behind))
    (subst (λ (l : List LogRecord). IsBaseLength l n) behind size) (subst (λ (l : List LogRecord). IsFirstAt l at) (shown-from (from_on records 1) n ∙ ap (drop n) behind) found)
