-- A file is sealed at no moment before its run seals it.
use Rattle.std.proofs.Common.{◌≡◌, ◌⊎◌, inl, inr, ⊎_elim, ℕ, ◌+◌, ◌<◌, take, drop, List, [], ◌∷◌, ◌++◌, length, Bool, true, false, refl, sym, ◌∙◌, ap, subst, arith, append_assoc, length-append}
use Rattle.std.specs.Prelude.{◌==◌, ◌&&◌, nat_lt, if◌then◌else◌, Result, Ok, Err, OnOk, OnErr}
use Rattle.std.proofs.lemmas.List.{append-nil}
use Rattle.log_host.specs.Host.{Outcomes, Holds, Torn}
use Rattle.log_host.specs.declared.host.HostFault.{HostFault}
use Rattle.durable_log.specs.declared.link.Link.{Link}
use Rattle.durable_log.specs.Format.{LogRecord, Column, Absent, Number, column_of, max_batch, link_after, Next, End, Damaged, Found, Behind, Reading, with_record, then_read, read, fits, found, record_by, record_in, with_reply_check, with_check, with_number, with_again, with_length, after_front, after_shut, after_gate, next, blocks, shut, seal, is_open, frame}
use Rattle.durable_log.specs.Files.{link_behind, StandsFor, Holding}
use Rattle.durable_log.specs.Logs.{records_by, records_of, link_of, IsAtRest, IsBatch, IsSealed, IsSettled, IsUnsealed, Unsealed, ButForGate, Same}
use Rattle.durable_log.specs.declared.log.Log.{Log}
use Rattle.durable_log.proofs.Links.{behind-fits, next-fits}
use Rattle.durable_log.proofs.Blocks.{read-block, read-blocks, read-step, read-end, read-last, next-few, next-not_open}
use Rattle.durable_log.proofs.Fronts.{holds-more, stands-alone, records-stand}
use Rattle.durable_log.proofs.One.{open-first}
use Rattle.durable_log.proofs.Crash.{torn-behind, torn-gate, held-gate}
use Rattle.durable_log.proofs.Batches.{rest-length, rest-stands}

-- Only the end of a file is read as one

abbrev IsNoEnd : Next → Type 0
IsNoEnd End = ⊥
IsNoEnd Damaged = Unit {0}
IsNoEnd (Found r link rest) = Unit {0}

module _ (link : Link) (mark : ℕ) where
  no-end-in : (n check reply_check : ℕ) (body : List ℕ) → IsNoEnd (record_in link mark n check reply_check body)
  no-end-in n check reply_check body = elim (fits link mark n check reply_check body) as (λ v. IsNoEnd (if v then found link (record_by mark (take n body) reply_check) (drop (n + 1) body) else Damaged)) [ true ↦ tt | false ↦ tt ]

  no-end-reply : (n check : ℕ) (c : Column) → IsNoEnd (with_reply_check link mark n check c)
  no-end-reply n check Absent = tt
  no-end-reply n check (Number reply_check body) = no-end-in n check reply_check body

  no-end-check : (n : ℕ) (c : Column) → IsNoEnd (with_check link mark n c)
  no-end-check n Absent = tt
  no-end-check n (Number check rest) = no-end-reply n check (column_of rest)

  no-end-number : (n : ℕ) (c : Column) → IsNoEnd (with_number link mark n c)
  no-end-number n Absent = tt
  no-end-number n (Number number rest) = elim (number == link.number) as (λ v. IsNoEnd (if v then with_check link mark n (column_of rest) else Damaged)) [ true ↦ no-end-check n (column_of rest) | false ↦ tt ]

  no-end-again : (n : ℕ) (c : Column) → IsNoEnd (with_again link mark n c)
  no-end-again n Absent = tt
  no-end-again n (Number again rest) = elim (again == n) as (λ v. IsNoEnd (if v then with_number link mark n (column_of rest) else Damaged)) [ true ↦ no-end-number n (column_of rest) | false ↦ tt ]

  no-end-length : (c : Column) → IsNoEnd (with_length link mark c)
  no-end-length Absent = tt
  no-end-length (Number n rest) = no-end-again n (column_of rest)

-- nothing stands behind an open gate at the end
front-end : (link : Link) (bytes : List ℕ) → after_front link bytes ≡ End → bytes ≡ []
front-end link [] is = refl
front-end link (space ∷ []) is = absurd (cc)
front-end link (space ∷ mark ∷ []) is = absurd (cc)
front-end link (space ∷ mark ∷ also ∷ rest) is = absurd (subst IsNoEnd is
    (elim (space == 32 && also == 32) as (λ v. IsNoEnd (if v then with_length link mark (column_of rest) else Damaged)) [ true ↦ no-end-length link mark (column_of rest) | false ↦ tt ]))

-- No record is read where other bytes stand before its gate

abbrev IsNotFound : Next → Type 0
IsNotFound End = Unit {0}
IsNotFound Damaged = Unit {0}
IsNotFound (Found r link rest) = ⊥

shut-none : (bytes : List ℕ) → IsNotFound (after_shut bytes)
shut-none bytes = elim (nat_lt max_batch (length bytes)) as (λ v. IsNotFound (if v then Damaged else End)) [ true ↦ tt | false ↦ tt ]

two-none : (link : Link) (v : Bool) (x : List ℕ) → IsNotFound (after_gate link (Behind v (49 ∷ 49 ∷ 32 ∷ x)))
two-none link true x = tt
two-none link false x = shut-none (49 ∷ 49 ∷ 32 ∷ x)

three-none : (link : Link) (v : Bool) (d t x : List ℕ) → after_gate link (Behind v (d ++ t)) ≡ End → IsNotFound (after_gate link (Behind v (d ++ (49 ∷ 49 ∷ 49 ∷ x))))
three-none link false d t x ends = shut-none (d ++ (49 ∷ 49 ∷ 49 ∷ x))
three-none link true [] t x ends = tt
three-none link true (b ∷ d) t x ends = absurd (let none = front-end link (b ∷ (d ++ t)) ends in cc)

none-found : (link : Link) (b : ℕ) (d t : List ℕ) (mark : ℕ) (x : List ℕ) → next link ((b ∷ d) ++ t) ≡ End → IsNotFound (next link ((b ∷ d) ++ (49 ∷ 49 ∷ 49 ∷ 32 ∷ mark ∷ x)))
unfolding next
none-found link a [] t mark x ends = subst (λ (v : Bool). IsNotFound (after_gate link (Behind v (49 ∷ 32 ∷ mark ∷ x)))) (sym (open-first a)) tt
none-found link a (b ∷ []) t mark x ends = two-none link (is_open a b 49) (mark ∷ x)
none-found link a (b ∷ c ∷ d) t mark x ends = three-none link (is_open a b c) d t (32 ∷ mark ∷ x) ends

none-read : (n : Next) → IsNotFound n → (then_read read n).records ≡ []
none-read End none = refl
none-read Damaged none = refl
none-read (Found r link rest) none = absurd none

-- The records of a file end at one place

abbrev blank : LogRecord
blank = record { mark = 0; line = []; reply_check = 0 }

-- a record that is written there
probe : Link → List ℕ
probe link = 49 ∷ 49 ∷ 49 ∷ (frame link blank ++ shut)

probe-read : (records : List LogRecord) → (read (link_behind records) (probe (link_behind records))).records ≡ blank ∷ []
unfolding probe
probe-read records =
    ap (λ (r : Reading). r.records)
    (read-block (link_behind records) 49 49 49 blank shut refl (omega arith) (omega arith) (behind-fits records) ∙ ap (with_record blank) (read-last (link_after (link_behind records) blank)))

records-behind : (records : List LogRecord) (base x : List ℕ) → Holding records base → records_of (base ++ x) ≡ records ++ (read (link_behind records) x).records
records-behind records base x holds =
    let at = holds x in
    ap records_by at.1 ∙ ap (λ (r : Reading). r.records) at.2

one-base : (records : List LogRecord) (base d t : List ℕ) → Holding records base → Holding records (base ++ d) → next (link_behind records) (d ++ t) ≡ End → d ≡ []
unfolding probe
one-base records base [] t holds also ends = refl
one-base records base (b ∷ d) t holds also ends =
    let link = link_behind records in
    let none : (read link ((b ∷ d) ++ probe link)).records ≡ [] =
    ap (λ (r : Reading). r.records) (read-step link ((b ∷ d) ++ probe link)) ∙ none-read (next link ((b ∷ d) ++ probe link)) (none-found link b d t 0 _ ends) in
    let here : records ++ (read link ((b ∷ d) ++ probe link)).records ≡ records ++ (read link (probe link)).records =
    sym (records-behind records base ((b ∷ d) ++ probe link) holds) ∙ ap records_of (sym (append_assoc base (b ∷ d) (probe link))) ∙ records-behind records (base ++ (b ∷ d)) (probe link) also in
    let same : records ++ [] ≡ records ++ blank ∷ [] = ap (λ (l : List LogRecord). records ++ l) (sym none) ∙ here ∙ ap (λ (l : List LogRecord). records ++ l) (probe-read records) in
    absurd (omega (arith, ap length same, length-append records [], length-append records (blank ∷ [])))

-- one of two fronts begins with the other
fronts : (base base' t t' : List ℕ) → base ++ t ≡ base' ++ t'
    → ((d : List ℕ) × (base' ≡ base ++ d) × (t ≡ d ++ t')) ⊎ ((d : List ℕ) × (base ≡ base' ++ d) × (t' ≡ d ++ t))
fronts [] base' t t' is = inl (base', refl, is)
fronts (b ∷ base) [] t t' is = inr (b ∷ base, refl, sym is)
fronts (b ∷ base) (c ∷ base') t t' is =
    let head : b ≡ c = cc in
    let tail : base ++ t ≡ base' ++ t' = cc in
    ⊎_elim
    (λ (first : (d : List ℕ) × (base' ≡ base ++ d) × (t ≡ d ++ t')). inl (first.0, (λ i. sym head i ∷ first.1 i), first.2))
    (λ (second : (d : List ℕ) × (base ≡ base' ++ d) × (t' ≡ d ++ t)). inr (second.0, (λ i. head i ∷ second.1 i), second.2))
    (fronts base base' t t' tail)

-- a file whose records end before other bytes than a seal
pub unsealed-by : (records : List LogRecord) (file base tail : List ℕ) → file ≡ base ++ tail → Holding records base → StandsFor records file → next (link_behind records) tail ≡ End → (tail ≡ seal → ⊥) → IsUnsealed file
unsealed-by records file base tail split holds stands ends other end sealed =
    let link = link_behind records in
    let also : Holding records sealed.base = subst (λ (rs : List LogRecord). Holding rs sealed.base) (records-stand records file stands) sealed.holds in
    let here : next link seal ≡ End = next-few link seal (omega arith) in
    ⊎_elim
    (λ (first : (d : List ℕ) × (sealed.base ≡ base ++ d) × (tail ≡ d ++ seal)).
    let none = one-base records base first.0 seal holds (subst (Holding records) first.1 also) (ap (next link) (sym first.2) ∙ ends) in
    other (first.2 ∙ ap (λ (l : List ℕ). l ++ seal) none))
    (λ (second : (d : List ℕ) × (base ≡ sealed.base ++ d) × (seal ≡ d ++ tail)).
    let none = one-base records sealed.base second.0 tail also (subst (Holding records) second.1 holds) (ap (next link) (sym second.2) ∙ here) in
    other (sym (second.2 ∙ ap (λ (l : List ℕ). l ++ tail) none)))
    (fronts base sealed.base tail seal (sym split ∙ sealed.split))

not-seal : (x : List ℕ) → shut ++ x ≡ seal → ⊥
not-seal x is = absurd (let first : ◌≡◌ {A = ℕ} 48 115 = cc in omega (arith, first))

-- at rest
pub rest-unsealed : (file : List ℕ) (end : ℕ) → IsAtRest file end → IsUnsealed file
rest-unsealed file end rest = unsealed-by (records_of file) file rest.base shut rest.split rest.holds (rest-stands file end rest) (next-few (link_of file) shut (omega arith)) (not-seal [])

module _ (file : List ℕ) (end : ℕ) (rest : IsAtRest file end) (batch : List ℕ) (is : IsBatch (link_of file) batch) where
  abbrev behind : List ℕ
  behind = (frame (link_of file) is.first ++ blocks (link_after (link_of file) is.first) is.others) ++ shut

  -- while a batch is written
  pub batch-unsealed : (c : List ℕ) → Torn (end + 3) (length batch) file c → IsUnsealed c
  batch-unsealed c torn =
      let at = torn-behind file c (end + 3) (length batch) (sym (rest-length file end rest)) torn in
      let split : c ≡ rest.base ++ (shut ++ at.0) = at.1 ∙ ap (λ (l : List ℕ). l ++ at.0) rest.split ∙ append_assoc rest.base shut at.0 in
      let ends = next-not_open (link_of file) 48 48 48 at.0 refl (omega (arith, at.2, is.short)) in
      let stands = subst (StandsFor (records_of file)) (sym split) (stands-alone (records_of file) rest.base (shut ++ at.0) rest.holds (read-end (link_of file) (shut ++ at.0) ends)) in
      unsealed-by (records_of file) c rest.base (shut ++ at.0) split rest.holds stands ends (not-seal at.0)

  -- with an open gate before it
  opened : (a b c : ℕ) → is_open a b c ≡ true → IsUnsealed (rest.base ++ (a ∷ b ∷ c ∷ behind))
  opened a b c opens =
      let link = link_of file in
      let second = link_after link is.first in
      let front = a ∷ b ∷ c ∷ (frame link is.first ++ blocks second is.others) in
      let all = records_of file ++ is.first ∷ is.others in
      let holds : Holding all (rest.base ++ front) =
      holds-more (records_of file) (is.first ∷ is.others) rest.base front rest.holds
      (λ x.
      ap (λ (l : List ℕ). read link (a ∷ b ∷ c ∷ l)) (append_assoc (frame link is.first) (blocks second is.others) x)
      ∙ read-block link a b c is.first (blocks second is.others ++ x) opens is.small.0 is.small.1 (behind-fits (records_of file))
      ∙ ap (with_record is.first) (read-blocks second is.others x is.small.2 (next-fits link is.first (behind-fits (records_of file))))) in
      let split : rest.base ++ (a ∷ b ∷ c ∷ behind) ≡ (rest.base ++ front) ++ shut = sym (append_assoc rest.base front shut) in
      let stands = subst (StandsFor all) (sym split) (stands-alone all (rest.base ++ front) shut holds (read-last (link_behind all))) in
      unsealed-by all (rest.base ++ (a ∷ b ∷ c ∷ behind)) (rest.base ++ front) shut split holds stands (next-few (link_behind all) shut (omega arith)) (not-seal [])

  -- with a gate before it that is not open
  closed : (a b c : ℕ) → is_open a b c ≡ false → IsUnsealed (rest.base ++ (a ∷ b ∷ c ∷ behind))
  closed a b c shuts =
      let ends = next-not_open (link_of file) a b c behind shuts (omega (arith, ap length is.bytes, is.short)) in
      let stands = stands-alone (records_of file) rest.base (a ∷ b ∷ c ∷ behind) rest.holds (read-end (link_of file) (a ∷ b ∷ c ∷ behind) ends) in
      unsealed-by (records_of file) (rest.base ++ (a ∷ b ∷ c ∷ behind)) rest.base (a ∷ b ∷ c ∷ behind) refl rest.holds stands ends
      (λ same. omega (arith, ap length same, length-append (frame (link_of file) is.first ++ blocks (link_after (link_of file) is.first) is.others) shut))

  by-gate : (a b c : ℕ) (v : Bool) → is_open a b c ≡ v → IsUnsealed (rest.base ++ (a ∷ b ∷ c ∷ behind))
  by-gate a b c true is = opened a b c is
  by-gate a b c false is = closed a b c is

  -- while its gate is opened
  pub gate-unsealed : (f c : List ℕ) → f ≡ rest.base ++ (shut ++ behind) → Torn end 3 f c → IsUnsealed c
  gate-unsealed f c staged torn =
      let at = torn-gate rest.base shut behind c end rest.place refl (subst (λ (l : List ℕ). Torn end 3 l c) staged torn) in
      subst IsUnsealed (sym at.3) (by-gate at.0 at.1 at.2 (is_open at.0 at.1 at.2) refl)

-- any gate at the end of a file at rest leaves it its records
pub any-gate : (file : List ℕ) (end : ℕ) → IsAtRest file end → (c : List ℕ) → Torn end 3 file c → StandsFor (records_of file) c
any-gate file end rest c torn =
    let split : file ≡ rest.base ++ (shut ++ []) = rest.split ∙ ap (λ (l : List ℕ). rest.base ++ l) (sym (append-nil shut)) in
    let at = torn-gate rest.base shut [] c end rest.place refl (subst (λ (l : List ℕ). Torn end 3 l c) split torn) in
    let last = at.0 ∷ at.1 ∷ at.2 ∷ [] in
    subst (StandsFor (records_of file)) (sym at.3) (stands-alone (records_of file) rest.base last rest.holds (read-end (link_of file) last (next-few (link_of file) last (omega arith))))

module _ {D : Type 0} (seen heard : D → List ℕ) (may_leave : D → Outcomes) (log : Log D) (s : IsSettled seen heard may_leave log) where
  -- what a crash leaves now is not sealed
  pub settled-unsealed : (c o : List ℕ) → may_leave log.host c o → Unsealed c o
  settled-unsealed c o left = subst IsUnsealed (sym (s.durable c o left).0) (rest-unsealed (seen log.host) log.end s.rest)

  -- while it is sealed
  pub settled-gate : (d c o : List ℕ) → may_leave log.host d o → Torn log.end 3 d c → ButForGate (seen log.host) log.end (heard log.host) c o
  settled-gate d c o left torn = let only = s.durable d o left in (subst (λ (l : List ℕ). Torn log.end 3 l c) only.0 torn, only.1)

  pub settled-sealed : (d c o : List ℕ) → may_leave log.host d o → Torn log.end 3 d c → Same (records_of (seen log.host)) (heard log.host) c o
  settled-sealed d c o left torn = let but = settled-gate d c o left torn in (any-gate (seen log.host) log.end s.rest c but.0, but.1)

-- and then it is sealed, if its file didn't fail
held-sealed : (file now : List ℕ) (end : ℕ) → IsAtRest file end → Holds file end seal now → IsSealed now end
held-sealed file now end rest holds =
    let split : file ≡ rest.base ++ (shut ++ []) = rest.split ∙ ap (λ (l : List ℕ). rest.base ++ l) (sym (append-nil shut)) in
    let sealed : now ≡ rest.base ++ seal = held-gate rest.base shut [] seal now end rest.place refl refl (subst (λ (l : List ℕ). Holds l end seal now) split holds) ∙ ap (λ (l : List ℕ). rest.base ++ l) (append-nil seal) in
    let stands = subst (StandsFor (records_of file)) (sym sealed) (stands-alone (records_of file) rest.base seal rest.holds (read-end (link_of file) seal (next-few (link_of file) seal (omega arith)))) in
    record { base = rest.base; split = sealed; place = rest.place; holds = subst (λ (rs : List LogRecord). Holding rs rest.base) (sym (records-stand (records_of file) now stands)) rest.holds }

pub sealed-by : (r : Result Unit HostFault) (before after : ℕ) (file now : List ℕ) (end : ℕ) → IsAtRest file end → OnOk r (Holds file end seal now) → OnErr r (before < after) → after ≡ before → IsSealed now end
sealed-by (Ok done) before after file now end rest holds fails same = held-sealed file now end rest holds
sealed-by (Err fault) before after file now end rest holds fails same = absurd (omega (arith, fails, same))
