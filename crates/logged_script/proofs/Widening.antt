-- The histories over a log's catalogue, over a catalogue that has grown from it.
use Rattle.std.proofs.Common.{◌≡◌, ◌∙◌, ℕ, Bool, true, false, List, [], Result, Ok, sym, subst}
use Rattle.std.proofs.lemmas.List.{append-nil}
use Rattle.jsl_model.specs.Jobs.{JobTree}
use Rattle.batch_history.specs.Legal.{IsLegal}
use Rattle.batch_history.specs.Rows.{history, rows}
use Rattle.history_laws.proofs.Wider.{legal_wider, rows_wider}
use Rattle.catalogue_growth.specs.Growth.{IsGrown}
use Rattle.durable_log.specs.Format.{LogRecord}
use Rattle.jsl_json.specs.declared.fault.ReadFault.{ReadFault}
use Rattle.script_log.specs.Runs.{last_catalogue}
use Rattle.script_engine.specs.Script.{catalogue_at}
use Rattle.logged_script.specs.Faults.{HasCatalogue, HasGrown, GoesOnFrom}
use Rattle.logged_script.specs.Openings.{KeepsHistories}

pub is-grown : (kept given : List JobTree) (b : Bool) → HasGrown kept given b → IsGrown kept given
is-grown kept given true h = h.0
is-grown kept given false h = ([], h ∙ sym (append-nil kept))

-- a catalogue that has grown keeps the histories
grown-keeps : (kept given : List JobTree) → IsGrown kept given → KeepsHistories kept given
grown-keeps kept given (more, is) limit log legal =
    subst (λ (g : List JobTree). IsLegal limit (history g log) × (rows (history g log) ≡ record (rows (history kept log)) { catalogue = g })) (sym is)
    (legal_wider limit kept more log legal, rows_wider limit kept more log legal)

pub same-jobs : (read : Result (List JobTree) ReadFault) (a b : List JobTree) → read ≡ Ok a → read ≡ Ok b → a ≡ b
same-jobs read a b is was = cc (sym is ∙ was)

-- so does that of a log that goes on
pub goes-on-keeps : (records : List LogRecord) (line : List ℕ) (grown : Bool) (given kept : List JobTree) → GoesOnFrom records line grown → catalogue_at line ≡ Ok given → HasCatalogue records kept → KeepsHistories kept given
goes-on-keeps records line grown given kept G is has =
    let old : G.kept ≡ kept = same-jobs (catalogue_at (last_catalogue [] records)) G.kept kept G.has.read has.read in
    let new : G.given ≡ given = same-jobs (catalogue_at line) G.given given G.is_given is in
    subst (λ (g : List JobTree). KeepsHistories kept g) new (subst (λ (k : List JobTree). KeepsHistories k G.given) old (grown-keeps G.kept G.given (is-grown G.kept G.given grown G.has_grown)))
