use Rattle.std.proofs.Common.{List, map, not, eqb, sym, subst, ◌∙◌, ap}
use Rattle.durable_log.specs.Files.{StandsFor}
use Rattle.durable_log.specs.Logs.{records_of}
use Rattle.durable_log.specs.Format.{LogRecord}
use Rattle.durable_log.specs.Shown.{record_shown}
use Rattle.durable_log.proofs.Fronts.{records-stand}
use Rattle.script_log.specs.Replays.{IsReplayFault}
use Rattle.logged_script.specs.Histories.{is_kept, reply_at}
use Rattle.logged_script.specs.Faults.{HasBase, HasCatalogue, IsGrowthFault, IsNoBase, GoesOnFrom, IsOpeningFault}
use Rattle.logged_script.specs.declared.opening.OpeningFault.{OpeningFault}
use Rattle.logged_script.proofs.Opened.{not-based, not-grown, not-replayed}
use Rattle.logged_script.proofs.opening.replay_file.Goals as goal

pub returns-in-Err-has_grown-clause-fault : goal.returns-in-Err-has_grown-clause-fault
returns-in-Err-has_grown-clause-fault g c =
    let tags = not (eqb g.row.TAGS 0) in
    let file = c.args.file.now in
    let fault = c.in-Err-has_grown.fault in
    let records = map record_shown c.in-Ok.contents.records.items in
    let at = records-stand records file c.in-Ok.ensures.records in
    let same = ap (map record_shown) c.deref.ensures.value ∙ sym at in
    not-grown tags file c.args.line.now c.args.catalogue fault (subst (λ (rs : List LogRecord). StandsFor rs file) (sym at) c.in-Ok.ensures.records) c.requires.catalogue
    (subst (λ (rs : List LogRecord). IsGrowthFault rs c.args.catalogue fault) same c.in-Err-has_grown.ensures.fault)

pub returns-in-Err-engine_of_base-clause-fault : goal.returns-in-Err-engine_of_base-clause-fault
returns-in-Err-engine_of_base-clause-fault g c =
    let tags = not (eqb g.row.TAGS 0) in
    let file = c.args.file.now in
    let line = c.args.line.now in
    let fault = c.in-Err-engine_of_base.fault in
    let records = map record_shown c.in-Ok.contents.records.items in
    let at = records-stand records file c.in-Ok.ensures.records in
    let same = ap (map record_shown) c.deref.ensures.value ∙ sym at in
    let same-2 = ap (map record_shown) c.deref-2.ensures.value ∙ sym at in
    let grown = c.in-Ok-has_grown.ensures.grown in
    let goes_on : GoesOnFrom (records_of file) line c.in-Ok-has_grown.grown =
    record {
      kept = grown.0;
      given = c.args.catalogue;
      has = subst (λ (rs : List LogRecord). HasCatalogue rs grown.0) same grown.1;
      is_given = c.requires.catalogue;
      has_grown = grown.2;
    } in
    not-based tags file line c.in-Ok-has_grown.grown fault (subst (λ (rs : List LogRecord). StandsFor rs file) (sym at) c.in-Ok.ensures.records) goes_on
    (subst (λ (rs : List LogRecord). IsNoBase rs c.args.catalogue fault) same-2 c.in-Err-engine_of_base.ensures.fault)

pub returns-clause-fault : goal.returns-clause-fault
returns-clause-fault g c =
    let tags = not (eqb g.row.TAGS 0) in
    let file = c.args.file.now in
    let line = c.args.line.now in
    let records = map record_shown c.in-Ok.contents.records.items in
    let at = records-stand records file c.in-Ok.ensures.records in
    let same = ap (map record_shown) c.deref.ensures.value ∙ sym at in
    let same-2 = ap (map record_shown) c.deref-2.ensures.value ∙ sym at in
    let same-3 = ap (map record_shown) c.deref-3.ensures.value ∙ sym at in
    let grown = c.in-Ok-has_grown.ensures.grown in
    let goes_on : GoesOnFrom (records_of file) line c.in-Ok-has_grown.grown =
    record {
      kept = grown.0;
      given = c.args.catalogue;
      has = subst (λ (rs : List LogRecord). HasCatalogue rs grown.0) same grown.1;
      is_given = c.requires.catalogue;
      has_grown = grown.2;
    } in
    let base = subst (λ (rs : List LogRecord). HasBase rs c.args.catalogue) same-2 c.in-Ok-engine_of_base.ensures.base in
    let why = c.in-Err-replay_records.ensures.fault in
    subst (λ (fault : OpeningFault). IsOpeningFault tags file line fault) (sym why.1)
    (not-replayed tags file line c.in-Ok-has_grown.grown why.0 (subst (λ (rs : List LogRecord). StandsFor rs file) (sym at) c.in-Ok.ensures.records) goes_on base
    (subst (λ (rs : List LogRecord). IsReplayFault (is_kept tags) (reply_at tags) line rs why.0) same-3 why.2))
