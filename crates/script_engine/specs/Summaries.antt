-- The summary of a script, by the kinds of its lines.
use Rattle.std.specs.Prelude.{ℕ, ◌+◌, ◌-◌, ◌^◌, ◌==◌, min, List, [], ◌∷◌, length, count_by, Bool, true, false, Result, Ok, Err, if◌then◌else◌}
use Rattle.jsl_model.specs.Jobs.{JobTree}
use Rattle.jsl_json.specs.declared.fault.ReadFault.{ReadFault}
use Rattle.batch_history.specs.Legal.{most_operations}
use Rattle.batch_history.specs.Rows.{History, rows}
use Rattle.script_engine.specs.declared.summary.Kind.{Kind}
use Rattle.script_engine.specs.declared.summary.Kind.TheVariants.{Empty, Accepted, Refused, Bad}
use Rattle.script_engine.specs.declared.summary.Summary.{Summary}
use Rattle.script_engine.specs.ByRows.{line_kind_by}
use Rattle.script_engine.specs.Script.{line_after, begin, catalogue_at, entries_of_lines}

-- The kinds of lines

-- the kind of a line after a history
abbrev pub line_kind : History → List ℕ → Kind
line_kind h line = line_kind_by most_operations (rows h) line

-- the kinds of lines, one after another
abbrev pub kinds : History → List (List ℕ) → List Kind
kinds h [] = []
kinds h (line ∷ lines) = line_kind h line ∷ kinds (line_after h line) lines

-- the kinds of the lines after the first: after a line that is no catalogue, none is looked at
abbrev pub kinds_from : Result (List JobTree) ReadFault → List (List ℕ) → List Kind
kinds_from (Ok catalogue) lines = kinds (begin catalogue) lines
kinds_from (Err fault) lines = []

-- the kinds of lines, of which the first is the catalogue
abbrev pub kinds_of_lines : List (List ℕ) → List Kind
kinds_of_lines [] = []
kinds_of_lines (line ∷ lines) = kinds_from (catalogue_at line) lines

-- Counts

abbrev pub has_reply : Kind → Bool
has_reply Empty = false
has_reply Accepted = true
has_reply Refused = true
has_reply Bad = true

abbrev pub is_refused : Kind → Bool
is_refused Empty = false
is_refused Accepted = false
is_refused Refused = true
is_refused Bad = false

abbrev pub is_bad : Kind → Bool
is_bad Empty = false
is_bad Accepted = false
is_bad Refused = false
is_bad Bad = true

-- a number, at most the greatest of 64 bits
abbrev pub at_most_64_bits : ℕ → ℕ
at_most_64_bits n = min n (2 ^ 64 - 1)

-- the numbers of lines that had a reply, were refused, were bad
abbrev pub tally : List Kind → Summary
tally ks = record {
  lines = at_most_64_bits (count_by has_reply ks);
  entries = 0;
  refusals = at_most_64_bits (count_by is_refused ks);
  bad = at_most_64_bits (count_by is_bad ks);
}

-- the summary with one more line that had a reply
abbrev pub with_line : Summary → Summary
with_line s = record s { lines = at_most_64_bits (s.lines + 1) }

-- the summary with one more line
abbrev pub counted : Kind → Summary → Summary
counted Empty s = s
counted Accepted s = with_line s
counted Refused s = record (with_line s) { refusals = at_most_64_bits (s.refusals + 1) }
counted Bad s = record (with_line s) { bad = at_most_64_bits (s.bad + 1) }

-- THE SUMMARY OF A SCRIPT
abbrev pub summary_of : List (List ℕ) → Summary
summary_of lines = record (tally (kinds_of_lines lines)) { entries = entries_of_lines lines }
