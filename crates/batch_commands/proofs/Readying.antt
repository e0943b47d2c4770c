-- A log that is made ready, and the lines over it.
use Rattle.std.proofs.Common.{◌≡◌, ◌∙◌, inl, inr, ℕ, ◌+◌, List, [], ◌++◌, length, take, drop, Bool, true, false, Result, Ok, Err, refl, sym, ap, subst, arith, length-append}
use Rattle.std.proofs.lemmas.Bool.{false≢true}
use Rattle.std.proofs.lemmas.List.{append-nil, drop_all, take_at}
use Rattle.std.specs.Prelude.{◌⊎◌, Option, Some, None, IsErrAnd, IsTrue}
use Rattle.jsl_model.specs.Jobs.{JobTree}
use Rattle.log_host.specs.Host.{Holds}
use Rattle.log_host.specs.Past.{Call}
use Rattle.file_host.specs.Making.{AtEachMoment, IsBeforeOrWhole, IsOpening, IsReady as IsFileReady, keeping, reading as read_calls}
use Rattle.file_host.proofs.Opening.{opening-kept}
use Rattle.file_host.specs.declared.file_fault.FileFault.{FileFault}
use Rattle.durable_log.specs.Format.{LogRecord, shut, seal}
use Rattle.durable_log.specs.Logs.{records_of, Reopens}
use Rattle.script_lines.specs.Device.{Told}
use Rattle.script_lines.specs.Unread.{Unread, nothing_read}
use Rattle.script_engine.specs.Script.{catalogue_at}
use Rattle.script_log.specs.Reading.{reading}
use Rattle.script_log.specs.Runs.{history_of}
use Rattle.logged_script.specs.Compactions.{IsCompacted, IsCompactedOver}
use Rattle.logged_script.specs.Histories.{jobs_at, jobs_read}
use Rattle.logged_script.proofs.Compacting.{compacted_over_same}
use Rattle.batch_commands.specs.Devices.{Devices}
use Rattle.batch_commands.specs.Logging.{AnswersOver, HasFirst, HasBegun, IsBegunFrom, IsCompactedFrom, IsCutFrom, IsLogServed, IsReady, IsReopenedFrom, IsSafe, IsUnready, TellsUnready, getting_ready, unready_by_file}
use Rattle.batch_commands.specs.declared.logged.Unready.{Unready}
use Rattle.batch_commands.specs.declared.logged_fault.OverLogFault.{OverLogFault}

-- the file got ready
pub ready-by : (tags compact : Bool) (name line : List ℕ) (d m d' : List Call) (found : Option (List ℕ)) (bytes cut : List ℕ) (reopens : Bool) (end : ℕ)
    → HasBegun tags compact found line (records_of bytes) → IsCutFrom found cut → (IsTrue reopens → IsReopenedFrom found bytes end) → m ≡ read_calls name found d → d' ≡ getting_ready reopens name end cut bytes m
    → IsSafe reopens end bytes d' → IsReady tags compact name line d d' bytes
ready-by tags compact name line d m d' found bytes cut reopens end begun cut_off sealed read made moments = record {
  found = found;
  begun = begun;
  cut = cut;
  cut_off = cut_off;
  reopens = reopens;
  end = end;
  sealed = sealed;
  calls = made ∙ ap (getting_ready reopens name end cut bytes) read;
  any_moment = moments;
}

-- a file that was made anew
pub safe-anew : (reopens : Bool) (end : ℕ) (bytes bytes' : List ℕ) (d' : List Call) → reopens ≡ false → bytes' ≡ bytes → AtEachMoment d' (IsBeforeOrWhole bytes') → IsSafe reopens end bytes d'
safe-anew true end bytes bytes' d' anew same moments = absurd (false≢true (sym anew))
safe-anew false end bytes bytes' d' anew same moments = subst (λ (l : List ℕ). AtEachMoment d' (IsBeforeOrWhole l)) same moments

-- the file did not get ready
pub unmade-by : (tags compact : Bool) (name line : List ℕ) (d d' : List Call) (found : Option (List ℕ)) (bytes : List ℕ) (reopens : Bool) (end : ℕ) (fault : Unready) (why : FileFault)
    → HasBegun tags compact found line (records_of bytes) → (IsTrue reopens → IsReopenedFrom found bytes end) → IsSafe reopens end bytes d' → fault ≡ unready_by_file why → IsUnready tags compact name line d d' fault
unmade-by tags compact name line d d' found bytes reopens end fault why begun sealed moments is = inr (inr (record {
  found = found;
  bytes = bytes;
  begun = begun;
  reopens = reopens;
  end = end;
  sealed = sealed;
  any_moment = moments;
  why = why;
  named = is;
}))

opening-read : (name : List ℕ) (found : Option (List ℕ)) (calls : List Call) → IsOpening calls → IsOpening (read_calls name found calls)
opening-read name None calls opening = record { no_bytes = opening.no_bytes; no_rename = opening.no_rename }
opening-read name (Some bytes) calls opening = record { no_bytes = opening.no_bytes; no_rename = opening.no_rename }

-- a sealed file with a shut gate over its seal
reopened-holds : (file bytes : List ℕ) (end : ℕ) → Reopens file bytes end → Holds file end shut bytes
reopened-holds file bytes end r =
    let front : take end file ≡ r.base = ap (take end) r.before ∙ take_at r.base seal end (sym r.place) in
    let none : drop (end + 3) file ≡ [] = drop_all (end + 3) file (omega (arith, ap length r.before, length-append r.base seal, r.place)) in
    r.after ∙ sym (append-nil (r.base ++ shut)) ∙ (λ i. sym front i ++ shut ++ sym none i)

ready-of : (name : List ℕ) (d d' : List Call) (bytes : List ℕ) (reopens : Bool) (found : Option (List ℕ)) (cut : List ℕ) (end : ℕ) → IsOpening d → (reopens ≡ true → IsReopenedFrom found bytes end)
    → d' ≡ getting_ready reopens name end cut bytes (read_calls name found d) → IsFileReady d' name bytes
ready-of name d d' bytes true None cut end opening sealed calls = absurd (sealed refl)
ready-of name d d' bytes true (Some file) cut end opening sealed calls = inr (record {
  name = name;
  file = file;
  before = d;
  opening = opening;
  at = end;
  over = shut;
  calls_are = calls;
  bytes_are = reopened-holds file bytes end (sealed refl);
})
ready-of name d d' bytes false found cut end opening sealed calls = inl (keeping name cut (read_calls name found d), opening-kept name cut _ (opening-read name found d opening), calls)

-- a log that is ready has a file that is
pub file-ready : (tags compact : Bool) (name line : List ℕ) (d d' : List Call) (bytes : List ℕ) → IsOpening d → IsReady tags compact name line d d' bytes → (n : List ℕ) × IsFileReady d' n bytes
file-ready tags compact name line d d' bytes opening ready = (name, ready-of name d d' bytes ready.reopens ready.found ready.cut ready.end opening ready.sealed ready.calls)

-- the lines are answered
pub lines-by : (tags compact : Bool) (name : List ℕ) (x x' : Devices) (m : Told) (p0 p p' : Unread) (line line' : List ℕ) (catalogue : List JobTree) (bytes : List ℕ) (made : List Call) (result : Result Unit OverLogFault)
    → p0 ≡ nothing_read → line' ≡ line → HasFirst x.told m p0 p line catalogue → IsReady tags compact name line' x.disk made bytes
    → AnswersOver tags bytes (reading m x'.told p p') made x'.disk x'.held result → IsLogServed tags compact name x x' result
lines-by tags compact name x x' m p0 p p' line line' catalogue bytes made result nothing same first ready answers = inr (inr (inr (
  m,
  p,
  p',
  line,
  catalogue,
  bytes,
  made,
  subst (λ (u : Unread). HasFirst x.told m u p line catalogue) nothing first,
  subst (λ (l : List ℕ). IsReady tags compact name l x.disk made bytes) same ready,
  answers,
)))

-- there is no log
pub no-log-by : (tags compact : Bool) (name : List ℕ) (x x' : Devices) (p0 p : Unread) (line line' : List ℕ) (catalogue : List JobTree) (fault : Unready) (result : Result Unit OverLogFault)
    → p0 ≡ nothing_read → line' ≡ line → HasFirst x.told x'.told p0 p line catalogue → IsUnready tags compact name line' x.disk x'.disk fault
    → IsErrAnd result (TellsUnready fault x.held x'.held) → IsLogServed tags compact name x x' result
no-log-by tags compact name x x' p0 p line line' catalogue fault (Ok done) nothing same first unready tells = absurd tells
no-log-by tags compact name x x' p0 p line line' catalogue fault (Err end) nothing same first unready tells = inr (inr (inl (
  p,
  line,
  catalogue,
  fault,
  end,
  subst (λ (u : Unread). HasFirst x.told x'.told u p line catalogue) nothing first,
  subst (λ (l : List ℕ). IsUnready tags compact name l x.disk x'.disk fault) same unready,
  refl,
  tells,
)))

-- a log that begins over the given catalogue was compacted over that, or goes on as it is
compacted-from : (tags : Bool) (found : Option (List ℕ)) (line : List ℕ) (earlier now : List LogRecord) → IsBegunFrom tags found line earlier → IsCompactedOver tags (history_of earlier) line (history_of now)
    → IsCompactedFrom tags found line now
compacted-from tags None line earlier now begun compacted = (earlier, begun, compacted)
compacted-from tags (Some file) line earlier now begun compacted = record { kept = line; earlier = earlier; begun = begun; compacted = compacted }

pub begun-compacted : (tags : Bool) (found : Option (List ℕ)) (line : List ℕ) (jobs : List JobTree) (earlier now : List LogRecord) → IsBegunFrom tags found line earlier → jobs_at (history_of earlier) ≡ jobs
    → catalogue_at line ≡ Ok jobs → (now ≡ earlier) ⊎ IsCompacted tags (history_of earlier) line (history_of now) → HasBegun tags true found line now
begun-compacted tags found line jobs earlier now begun same read (inl stays) = inl (subst (IsBegunFrom tags found line) (sym stays) begun)
begun-compacted tags found line jobs earlier now begun same read (inr compacted) =
    inr (refl, compacted-from tags found line earlier now begun (compacted_over_same tags (history_of earlier) (history_of now) line (same ∙ sym (ap jobs_read read)) compacted))
