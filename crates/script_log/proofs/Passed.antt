-- What waits is passed on, one step after another.
use Rattle.std.proofs.Common.{◌≡◌, ◌⊎◌, inl, inr, ℕ, List, [], ◌++◌, take, drop, Result, Ok, Err, OnOk, refl, sym, ◌∙◌, ap, subst, append_assoc, take-append-drop}
use Rattle.std.proofs.lemmas.List.{append-nil}
use Rattle.log_host.specs.Host.{Outcomes}
use Rattle.durable_log.specs.Format.{LogRecord}
use Rattle.durable_log.specs.Files.{StandsFor}
use Rattle.durable_log.specs.Logs.{records_of, IsSettled, waiting_in, BeforeOrAfter, Told}
use Rattle.durable_log.specs.declared.log.Log.{Log}
use Rattle.durable_log.proofs.Waiting.{settled-leaves}
use Rattle.script_log.specs.Passing.{Standing, standing, Passing, AreOnDisk, IsPassedOn}

-- passing on loses no record
pub all-kept : (a b : Standing) → IsPassedOn a b → b.records ++ b.waits ≡ a.records ++ a.waits
all-kept a b (inl same) = ap (λ (s : Standing). s.records ++ s.waits) same
all-kept a b (inr D) = ap (λ (w : List LogRecord). b.records ++ w) D.waits ∙ append-nil b.records ∙ D.records

pub passed-two : (a b c : Standing) → IsPassedOn a b → IsPassedOn b c → IsPassedOn a c
passed-two a b c (inl e) p = subst (λ (s : Standing). IsPassedOn s c) e p
passed-two a b c (inr D) (inl e) = inr (subst (λ (s : Standing). AreOnDisk a s) (sym e) D)
passed-two a b c (inr D) (inr E) = inr (record {
  records = E.records ∙ ap (λ (w : List LogRecord). b.records ++ w) D.waits ∙ append-nil b.records ∙ D.records;
  waits = E.waits;
  front = D.front ++ E.front;
  text = append_assoc D.front E.front c.text ∙ ap (λ (x : List ℕ). D.front ++ x) E.text ∙ D.text;
  heard = E.heard ∙ ap (λ (x : List ℕ). x ++ E.front) D.heard ∙ append_assoc a.heard D.front E.front;
})

pub passing-two : (a b : Standing) (f o : List ℕ) → IsPassedOn a b → Passing b f o → Passing a f o
passing-two a b f o (inl e) at = subst (λ (s : Standing). Passing s f o) e at
passing-two a b f o (inr D) (inl at) = inr (subst (λ (r : List LogRecord). StandsFor r f) D.records at.0, (D.front, b.text, D.text, at.1 ∙ D.heard))
passing-two a b f o (inr D) (inr at) =
    inr (
      subst (λ (r : List LogRecord). StandsFor r f) (all-kept a b (inr D)) at.0,
      (
        D.front ++ at.1.0,
        at.1.1,
        append_assoc D.front at.1.0 at.1.1 ∙ ap (λ (x : List ℕ). D.front ++ x) at.1.2 ∙ D.text,
        at.1.3 ∙ ap (λ (x : List ℕ). x ++ at.1.0) D.heard ∙ append_assoc a.heard D.front at.1.0,
      ),
    )

-- with more text that waits
abbrev pub with_text : Standing → List ℕ → Standing
with_text s text = record { records = s.records; waits = s.waits; heard = s.heard; text = s.text ++ text }

pub passing-longer : (s : Standing) (text f o : List ℕ) → Passing s f o → Passing (with_text s text) f o
passing-longer s text f o (inl at) = inl at
passing-longer s text f o (inr at) = inr (
  at.0,
  (at.1.0, at.1.1 ++ text, sym (append_assoc at.1.0 at.1.1 text) ∙ ap (λ (x : List ℕ). x ++ text) at.1.2, at.1.3),
)

-- while the records are put on the disk
commit-by : (s : Standing) (f o : List ℕ) → o ≡ s.heard → StandsFor s.records f ⊎ StandsFor (s.records ++ s.waits) f → Passing s f o
commit-by s f o same (inl stands) = inl (stands, same)
commit-by s f o same (inr stands) = inr (stands, ([], s.text, refl, same ∙ sym (append-nil s.heard)))

pub commit-passing : (s : Standing) (f o : List ℕ) → BeforeOrAfter s.records s.waits s.heard f o → Passing s f o
commit-passing s f o at = commit-by s f o at.1 at.0

-- while a piece is told behind a front of the text that was told
pub told-passing : (s : Standing) (records : List LogRecord) (heard front piece f o : List ℕ) → records ≡ s.records ++ s.waits → heard ≡ s.heard ++ front → front ++ piece ≡ s.text
    → Told records heard piece f o → Passing s f o
told-passing s records heard front piece f o records_are heard_is text at =
    let n = at.1.0 in
    inr (
      subst (λ (r : List LogRecord). StandsFor r f) records_are at.0,
      (
        front ++ take n piece,
        drop n piece,
        append_assoc front (take n piece) (drop n piece) ∙ ap (λ (x : List ℕ). front ++ x) (take-append-drop n piece) ∙ text,
        at.1.1 ∙ ap (λ (x : List ℕ). x ++ take n piece) heard_is ∙ append_assoc s.heard front (take n piece),
      ),
    )

-- records and a text more wait
abbrev pub grown : Standing → List LogRecord → List ℕ → Standing
grown s records text = record { records = s.records; waits = s.waits ++ records; heard = s.heard; text = s.text ++ text }

module _ {D : Type 0} (seen heard : D → List ℕ) (may_leave : D → Outcomes) where
  -- where nothing was passed on
  pub settled-passing : (log : Log D) (text f o : List ℕ) → IsSettled seen heard may_leave log → may_leave log.host f o → Passing (standing seen heard log text) f o
  settled-passing log text f o s left = let same = settled-leaves seen heard may_leave log s f o left in inl (same.0, same.1)

  pub standing-grown : (log log2 : Log D) (out text text2 : List ℕ) (more : List LogRecord) → log2.host ≡ log.host → waiting_in log2 ≡ waiting_in log ++ more → text ≡ text2
      → standing seen heard log2 (out ++ text) ≡ grown (standing seen heard log out) more text2
  standing-grown log log2 out text text2 more same waits is = λ i. record {
    records = records_of (seen (same i));
    waits = waits i;
    heard = heard (same i);
    text = out ++ is i;
  }

  pub standing-same : (log log2 : Log D) (out : List ℕ) → log2.host ≡ log.host → waiting_in log2 ≡ waiting_in log → standing seen heard log2 out ≡ standing seen heard log out
  standing-same log log2 out same waits = λ i. record { records = records_of (seen (same i)); waits = waits i; heard = heard (same i); text = out }

  -- a text that has no room was told behind all that waited
  pub told-behind : (log mid log1 : Log D) (out mid_out text : List ℕ) → records_of (seen mid.host) ≡ records_of (seen log.host) ++ waiting_in log → heard mid.host ≡ heard log.host ++ out → mid_out ≡ []
      → seen log1.host ≡ seen mid.host → waiting_in log1 ≡ [] → heard log1.host ≡ heard mid.host ++ text → IsPassedOn (standing seen heard log (out ++ text)) (standing seen heard log1 mid_out)
  told-behind log mid log1 out mid_out text records before empty same none told = inr (record {
    records = ap records_of same ∙ records;
    waits = none;
    front = out ++ text;
    text = ap (λ (x : List ℕ). (out ++ text) ++ x) empty ∙ append-nil (out ++ text);
    heard = told ∙ ap (λ (x : List ℕ). x ++ text) before ∙ append_assoc (heard log.host) out text;
  })

pub ok-map : {T F : Type 0} (P Q : Type 0) (result : Result T F) → (P → Q) → OnOk result P → OnOk result Q
ok-map P Q (Ok x) to holds = to holds
ok-map P Q (Err e) to holds = tt
