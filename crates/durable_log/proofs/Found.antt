-- How reading goes on.
use Rattle.std.proofs.Common.{◌≡◌, ℕ, ◌+◌, ◌-◌, ◌<◌, ◌≤◌, List, [], ◌∷◌, ◌++◌, length, drop, Bool, true, false, refl, sym, ◌∙◌, ap, subst, arith, append_assoc, length-append}
use Rattle.std.specs.Prelude.{◌==◌, nat_lt, if◌then◌else◌}
use Rattle.std.proofs.lemmas.List.{append-nil, drop_at}
use Rattle.durable_log.specs.Format.{LogRecord, link_after, Next, End, Damaged, Found, Behind, max_batch, after_shut, after_gate, next, Reading, whole, then_read, read, prepended, frame, is_open}
use Rattle.durable_log.specs.Files.{opening, Ours, is_known, version_of, first_link, link_behind, StandsFor, Holding}
use Rattle.durable_log.specs.Logs.{records_by, records_of, link_of, EndsAt, EndsWith, IsDamagedAt}
use Rattle.durable_log.specs.Parts.{IsRead, IsPart, IsPartDamaged}
use Rattle.durable_log.specs.Shown.{HasFault, HasPartFault}
use Rattle.durable_log.specs.declared.reading.ReadFault.{ReadFault}
use Rattle.durable_log.specs.declared.reading.ReadFault.TheVariants as faults
use Rattle.durable_log.specs.declared.link.Link.{Link}
use Rattle.durable_log.proofs.Links.{IsLink, behind-fits, links-more}
use Rattle.durable_log.proofs.Places.{front-reads, front-found, gate-reads}
use Rattle.durable_log.proofs.Blocks.{IsShorter, next-shorter, read-step, read-end}
use Rattle.durable_log.proofs.Fronts.{prepended-two, records-stand}

-- A place that has a record: the bytes up to its end, which have it whatever stands behind them
pub record PlaceFound (link : Link) (bytes : List ℕ) (r : LogRecord) (after : Link) (rest : List ℕ) : Type 0 where
  pub block : List ℕ
  pub split : bytes ≡ block ++ rest
  pub reads : (x : List ℕ) → next link (block ++ x) ≡ Found r after x
  pub after_is : after ≡ link_after link r

shut-not_found : (bytes : List ℕ) (r : LogRecord) (after : Link) (rest : List ℕ) → after_shut bytes ≡ Found r after rest → ⊥
shut-not_found bytes r after rest =
    elim (nat_lt max_batch (length bytes)) as (λ v. (if v then Damaged else End) ≡ Found r after rest → ⊥) [ true ↦ λ is. cc | false ↦ λ is. cc ]

gate-found : (link : Link) (a b c : ℕ) (v : Bool) (bytes : List ℕ) (r : LogRecord) (after : Link) (rest : List ℕ) → IsLink link → is_open a b c ≡ v
    → after_gate link (Behind v bytes) ≡ Found r after rest → PlaceFound link (a ∷ b ∷ c ∷ bytes) r after rest
gate-found link a b c false bytes r after rest fits v_is is = absurd (shut-not_found bytes r after rest is)
gate-found link a b c true bytes r after rest fits v_is is =
    let f = front-found link bytes r after rest is in
    record {
      block = a ∷ b ∷ c ∷ frame link r;
      split = ap (λ (q : List ℕ). a ∷ b ∷ c ∷ q) f.split;
      reads = λ x. gate-reads link a b c (frame link r ++ x) v_is ∙ front-reads link r x f.small f.reply_small fits ∙ ap (λ (l : Link). Found r l x) (sym f.after_is);
      after_is = f.after_is;
    }

pub found : (link : Link) (bytes : List ℕ) (r : LogRecord) (after : Link) (rest : List ℕ) → IsLink link → next link bytes ≡ Found r after rest → PlaceFound link bytes r after rest
unfolding next
found link [] r after rest fits is = absurd (cc)
found link (a ∷ []) r after rest fits is = absurd (cc)
found link (a ∷ b ∷ []) r after rest fits is = absurd (cc)
found link (a ∷ b ∷ c ∷ bytes) r after rest fits is = gate-found link a b c (is_open a b c) bytes r after rest fits refl is

-- nothing is read yet
pub none-read : (bytes : List ℕ) → IsRead bytes [] bytes
none-read bytes = record { base = []; split = refl; reads = λ x. refl }

-- one record more
module _ (bytes : List ℕ) (records : List LogRecord) (at : List ℕ) (r : LogRecord) (after : Link) (rest : List ℕ) (so_far : IsRead bytes records at) (is : next (link_behind records) at ≡ Found r after rest) where
  place : PlaceFound (link_behind records) at r after rest
  place = found (link_behind records) at r after rest (behind-fits records) is

  pub more-link : after ≡ link_behind (records ++ r ∷ [])
  more-link = place.after_is ∙ sym (links-more first_link records (r ∷ []))

  pub more-read : IsRead bytes (records ++ r ∷ []) rest
  more-read =
      let f = place in
      record {
        base = so_far.base ++ f.block;
        split = so_far.split ∙ ap (λ (q : List ℕ). so_far.base ++ q) f.split ∙ sym (append_assoc so_far.base f.block rest);
        reads = λ x. ap (read first_link) (append_assoc so_far.base f.block x) ∙ so_far.reads (f.block ++ x)
            ∙ ap (prepended records) (read-step (link_behind records) (f.block ++ x) ∙ ap (then_read read) (f.reads x))
            ∙ prepended-two records (r ∷ []) (read after x)
            ∙ ap (λ (l : Link). prepended (records ++ r ∷ []) (read l x)) more-link;
      }

pub read-smaller : (link : Link) (at : List ℕ) (r : LogRecord) (after : Link) (rest : List ℕ) → next link at ≡ Found r after rest → length rest < length at
read-smaller link at r after rest is = subst (λ (x : Next). IsShorter x (length at)) is (next-shorter link at)

-- a header, whatever stands behind it
record Headed (file rest : List ℕ) : Type 0 where
  head : List ℕ
  split : file ≡ head ++ rest
  size : length head ≡ 8
  opens : (x : List ℕ) → opening (head ++ x) ≡ Ours x

headed-by : (a b c d e f g h : ℕ) (u v w : Bool) (bytes rest : List ℕ) → is_known a b c d e f h ≡ u → (g == 49) ≡ v → (g == 50) ≡ w → version_of u v w bytes ≡ Ours rest
    → Headed (a ∷ b ∷ c ∷ d ∷ e ∷ f ∷ g ∷ h ∷ bytes) rest
headed-by a b c d e f g h false v w bytes rest u_is v_is w_is is = absurd (cc)
headed-by a b c d e f g h true true w bytes rest u_is v_is w_is is = absurd (cc)
headed-by a b c d e f g h true false false bytes rest u_is v_is w_is is = absurd (cc)
headed-by a b c d e f g h true false true bytes rest u_is v_is w_is is =
    let same : bytes ≡ rest = cc in
    record {
      head = a ∷ b ∷ c ∷ d ∷ e ∷ f ∷ g ∷ h ∷ [];
      split = ap (λ (l : List ℕ). a ∷ b ∷ c ∷ d ∷ e ∷ f ∷ g ∷ h ∷ l) same;
      size = refl;
      opens = λ x. (λ i. version_of (u_is i) (v_is i) (w_is i) x);
    }

headed : (file rest : List ℕ) → opening file ≡ Ours rest → Headed file rest
headed (a ∷ b ∷ c ∷ d ∷ e ∷ f ∷ g ∷ h ∷ bytes) rest is = headed-by a b c d e f g h (is_known a b c d e f h) (g == 49) (g == 50) bytes rest refl refl refl is
headed file rest is = absurd (cc)

-- a file whose part behind the header was read so far
record FileRead (file : List ℕ) (records : List LogRecord) (rest : List ℕ) : Type 0 where
  base : List ℕ
  split : file ≡ base ++ rest
  holds : Holding records base
  size : length base + length rest ≡ length file

file-read : (file part : List ℕ) (records : List LogRecord) (rest : List ℕ) → opening file ≡ Ours part → IsRead part records rest → FileRead file records rest
file-read file part records rest ours so_far =
    let h = headed file part ours in
    let base = h.head ++ so_far.base in
    let split : file ≡ base ++ rest = h.split ∙ ap (λ (l : List ℕ). h.head ++ l) so_far.split ∙ sym (append_assoc h.head so_far.base rest) in
    record {
      base = base;
      split = split;
      holds = λ x. (so_far.base ++ x, ap opening (append_assoc h.head so_far.base x) ∙ h.opens (so_far.base ++ x), so_far.reads x);
      size = sym (ap length split ∙ length-append base rest);
    }

part-long : (file part : List ℕ) → opening file ≡ Ours part → length file ≡ length part + 8
part-long file part ours = let h = headed file part ours in omega (arith, ap length h.split, length-append h.head part, h.size)

module _ (file part : List ℕ) (ours : opening file ≡ Ours part) (records : List LogRecord) (rest : List ℕ) (all : IsPart part records rest) where
  pub part-stands : StandsFor records file
  part-stands = (part, ours, ap (read first_link) all.so_far.split ∙ all.so_far.reads rest ∙ ap (prepended records) (read-end (link_behind records) rest all.ends) ∙ (λ i. whole (append-nil records i)))

  pub part-ends : (end : ℕ) → end ≡ length file - length rest → EndsAt file end
  part-ends end is =
      let f = file-read file part records rest ours all.so_far in
      record {
        base = f.base;
        tail = rest;
        split = f.split;
        place = omega (arith, f.size, is);
        holds = subst (λ (rs : List LogRecord). Holding rs f.base) (sym (records-stand records file part-stands)) f.holds;
        ends = subst (λ (rs : List LogRecord). next (link_behind rs) rest ≡ End) (sym (records-stand records file part-stands)) all.ends;
      }

  pub part-within : length rest ≤ length file
  part-within = let f = file-read file part records rest ours all.so_far in omega (arith, f.size)

  pub part-link : link_of file ≡ link_behind records
  part-link = ap link_behind (records-stand records file part-stands)

  -- it ends with a gate if that is all that is left
  pub part-with : (gate : List ℕ) (end : ℕ) → end ≡ length file - length rest → rest ≡ gate → EndsWith gate file end
  unfolding part-ends
  part-with gate end is last =
      let e = part-ends end is in
      record { base = e.base; split = e.split ∙ ap (λ (l : List ℕ). e.base ++ l) last; place = e.place; holds = e.holds }

  pub part-gate : (gate : List ℕ) (end : ℕ) → end ≡ length file - length rest → EndsWith gate file end → rest ≡ gate
  unfolding part-ends
  part-gate gate end is ended =
      let e = part-ends end is in
      sym (drop_at e.base rest end (sym e.place)) ∙ ap (drop end) (sym e.split ∙ ended.split) ∙ drop_at ended.base gate end (sym ended.place)

-- what is damaged behind a header is so in the file
pub part-damaged : (file part : List ℕ) (number byte : ℕ) → opening file ≡ Ours part → IsPartDamaged part number byte → IsDamagedAt file number byte
part-damaged file part number byte ours d =
    let f = file-read file part d.records d.rest ours d.so_far in
    let at = f.holds d.rest in
    let records_are : records_of file ≡ d.records =
    ap records_of f.split ∙ ap records_by at.1 ∙ ap (λ (q : Reading). q.records) (at.2 ∙ ap (prepended d.records) (read-step (link_behind d.records) d.rest ∙ ap (then_read read) d.damaged)) ∙ append-nil d.records in
    record {
      base = f.base;
      tail = d.rest;
      split = f.split;
      place = omega (arith, f.size, d.place, part-long file part ours);
      holds = subst (λ (rs : List LogRecord). Holding rs f.base) (sym records_are) f.holds;
      damaged = subst (λ (rs : List LogRecord). next (link_behind rs) d.rest ≡ Damaged) (sym records_are) d.damaged;
      number_is = d.number_is ∙ ap length (sym records_are);
    }

-- what is wrong behind a header is so in the file
pub part-fault : (file part : List ℕ) (f : ReadFault) → opening file ≡ Ours part → HasPartFault part f → HasFault file f
part-fault file part faults.Foreign ours has = absurd has
part-fault file part faults.Later ours has = absurd has
part-fault file part (faults.Damaged number byte) ours has = part-damaged file part number byte ours has
part-fault file part faults.OutOfMemory ours has = tt
