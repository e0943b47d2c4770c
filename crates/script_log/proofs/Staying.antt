-- A log that begins with a base, and one whose base stays in its place.
use Rattle.std.proofs.Common.{◌≡◌, ℕ, List, [], ◌∷◌, ◌++◌, Bool, true, false, map, refl, sym, ◌∙◌, ap, subst, append_assoc}
use Rattle.std.specs.Prelude.{if◌then◌else◌}
use Rattle.std.proofs.lemmas.List.{append-nil}
use Rattle.durable_log.specs.Format.{LogRecord}
use Rattle.script_log.specs.Runs.{History, after, catalogue_record, base_record, line_record, records_of_lines, is_catalogue, kept_lines, base_lines, last_catalogue, history_of}
use Rattle.script_log.specs.Bases.{AreBase, HasNoBase, IsBaseBehind, IsBaseOf}

-- records of the base
base-catalogue : (known : List ℕ) (lines : List (List ℕ)) → last_catalogue known (map base_record lines) ≡ known
base-catalogue known [] = refl
base-catalogue known (line ∷ lines) = base-catalogue known lines

base-shown : (lines : List (List ℕ)) → base_lines (map base_record lines) ≡ lines
base-shown [] = refl
base-shown (line ∷ lines) = ap (λ (l : List (List ℕ)). line ∷ l) (base-shown lines)

base-kept : (lines : List (List ℕ)) → kept_lines (map base_record lines) ≡ []
base-kept [] = refl
base-kept (line ∷ lines) = base-kept lines

are-base : (lines : List (List ℕ)) → AreBase (map base_record lines)
are-base [] = tt
are-base (line ∷ lines) = (refl, are-base lines)

pub begun-history : (text : List ℕ) (lines : List (List ℕ)) → history_of (catalogue_record text ∷ map base_record lines) ≡ record { catalogue = text; base = lines; lines = [] }
begun-history text lines = λ i. record { catalogue = base-catalogue text lines i; base = base-shown lines i; lines = base-kept lines i }

pub begun-place : (text : List ℕ) (lines : List (List ℕ)) → IsBaseOf (catalogue_record text ∷ map base_record lines) (map base_record lines)
begun-place text lines = record { others = []; split = append-nil (map base_record lines); base_is = are-base lines; nowhere_else = tt }

-- more records that are not of the base
no-base-append : (xs ys : List LogRecord) → HasNoBase xs → HasNoBase ys → HasNoBase (xs ++ ys)
no-base-append [] ys none more = more
no-base-append (x ∷ xs) ys none more = (none.0, no-base-append xs ys none.1 more)

behind-more : (v : Bool) (r : LogRecord) (records more base : List LogRecord) → IsBaseBehind v r records base → HasNoBase more → IsBaseBehind v r (records ++ more) base
behind-more true r records more base is none = record {
  others = is.others ++ more;
  split = sym (append_assoc base is.others more) ∙ ap (λ (l : List LogRecord). l ++ more) is.split;
  base_is = is.base_is;
  nowhere_else = no-base-append is.others more is.nowhere_else none;
}
behind-more false r records more base is none = (is.0, no-base-append (r ∷ records) more is.1 none)

alone-by : (v : Bool) (r : LogRecord) (records base : List LogRecord) → base ≡ [] → HasNoBase (r ∷ records) → IsBaseBehind v r records base
alone-by true r records base is none = record {
  others = records;
  split = ap (λ (l : List LogRecord). l ++ records) is;
  base_is = subst AreBase (sym is) tt;
  nowhere_else = none.1;
}
alone-by false r records base is none = (is, none)

alone : (more base : List LogRecord) → base ≡ [] → HasNoBase more → IsBaseOf more base
alone [] base is none = is
alone (r ∷ more) base is none = alone-by (is_catalogue r) r more base is none

pub place-more : (records more base : List LogRecord) → IsBaseOf records base → HasNoBase more → IsBaseOf (records ++ more) base
place-more [] more base is none = alone more base is none
place-more (r ∷ records) more base is none = behind-more (is_catalogue r) r records more base is none

module _ (keeps : History → List ℕ → Bool) (reply : History → List ℕ → List ℕ) where
  line-by : (v : Bool) (line text : List ℕ) (others : List LogRecord) → HasNoBase others → HasNoBase ((if v then line_record line text ∷ [] else []) ++ others)
  line-by true line text others none = (refl, none)
  line-by false line text others none = none

  pub lines-no-base : (h : History) (lines : List (List ℕ)) → HasNoBase (records_of_lines keeps reply h lines)
  lines-no-base h [] = tt
  lines-no-base h (line ∷ lines) = line-by (keeps h line) line (reply h line) (records_of_lines keeps reply (after keeps h line) lines) (lines-no-base (after keeps h line) lines)
