-- The histories for which a log stands.
use Rattle.std.proofs.Common.{◌≡◌, ◌∙◌, ℕ, Bool, List, [], length, sym, ap, ap₂, subst}
use Rattle.std.proofs.lemmas.List.{append-nil, length-reverse}
use Rattle.std.specs.Prelude.{nat_lt}
use Rattle.batch_history.proofs.Legal.{legal-nothing}
use Rattle.batch_history.specs.Legal.{IsLegal, most_numbered}
use Rattle.batch_history.specs.Rows.{History, Rows, rows}
use Rattle.catalogue_laws.specs.Leaving.{AreNamed, StandsOver, over_hidden}
use Rattle.jsl_model.specs.Jobs.{JobTree}
use Rattle.log_base.specs.Bases.{rows_of_base}
use Rattle.script_engine.specs.ByRows.{line_rows_by, line_text_by}
use Rattle.script_engine.specs.Script.{begin, line_history}
use Rattle.script_log.specs.Runs.{History as LogHistory}
use Rattle.logged_script.proofs.HiddenLines.{line_over, lines_over, text_over}
use Rattle.logged_script.specs.Histories.{IsOfBase, history_at, is_kept, jobs_at, reply_at, rows_at, rows_begun}
use Rattle.logged_script.specs.Tags.{command_in, commands_in}

nothing-hidden : (r : Rows) → over_hidden [] r ≡ r
nothing-hidden r = λ i. record r { catalogue = append-nil r.catalogue i }

-- without a base it is the one without operations
pub begun_at : (h : LogHistory) → h.base ≡ [] → IsOfBase h (begin (jobs_at h))
begun_at h none =
    let are : rows_begun h ≡ rows (begin (jobs_at h)) = ap (rows_of_base (jobs_at h)) none in
    record {
      hidden = [];
      stands = record {
        legal = legal-nothing most_numbered (jobs_at h);
        rows_are = sym are ∙ sym (nothing-hidden (rows_begun h));
        named = subst AreNamed (sym are) tt;
      };
    }

-- it is legal, and has the log's rows
pub stands : (tags : Bool) (h : LogHistory) (g : History) → (from : IsOfBase h g) → StandsOver most_numbered from.hidden (rows_at tags h) (history_at tags h g)
stands tags h g from = lines_over most_numbered from.hidden (rows_begun h) g (commands_in tags h.lines) from.stands

pub legal_at : (tags : Bool) (h : LogHistory) (g : History) → IsOfBase h g → IsLegal most_numbered (history_at tags h g)
legal_at tags h g from = (stands tags h g from).legal

pub rows_of_log : (tags : Bool) (h : LogHistory) (g : History) → (from : IsOfBase h g) → rows (history_at tags h g) ≡ over_hidden from.hidden (rows_at tags h)
rows_of_log tags h g from = (stands tags h g from).rows_are

-- the operations of its rows are those of the history
count-at : (hidden : List JobTree) (r : Rows) (g : History) → rows g ≡ over_hidden hidden r → r.count ≡ length g.log
count-at hidden r g are = ap (λ (o : Rows). o.count) (sym are) ∙ length-reverse g.log

pub kept_at : (tags : Bool) (h : LogHistory) (g : History) (line : List ℕ) → IsOfBase h g
    → is_kept tags h line ≡ nat_lt (length (history_at tags h g).log) (length (line_history most_numbered (history_at tags h g) (command_in tags line)).log)
kept_at tags h g line from =
    let now = stands tags h g from in
    let command = command_in tags line in
    let next = line_over most_numbered from.hidden (rows_at tags h) (history_at tags h g) command now in
    ap₂ nat_lt (count-at from.hidden (rows_at tags h) (history_at tags h g) now.rows_are)
    (count-at from.hidden (line_rows_by most_numbered (rows_at tags h) command) (line_history most_numbered (history_at tags h g) command) next.rows_are)

pub reply_after : (tags : Bool) (h : LogHistory) (g : History) (line : List ℕ) → IsOfBase h g
    → reply_at tags h line ≡ line_text_by most_numbered (rows (history_at tags h g)) (command_in tags line)
reply_after tags h g line from =
    let now = stands tags h g from in
    sym (text_over most_numbered from.hidden (rows_at tags h) (command_in tags line) now.named)
    ∙ ap (λ (r : Rows). line_text_by most_numbered r (command_in tags line)) (sym now.rows_are)
