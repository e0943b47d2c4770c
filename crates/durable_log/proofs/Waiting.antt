-- Records that wait to be on the disk.
use Rattle.std.proofs.Common.{◌≡◌, ◌⊎◌, inl, inr, ⊎_elim, ℕ, ◌+◌, ◌<◌, ◌≤◌, ◌^◌, List, [], ◌∷◌, ◌++◌, length, take, refl, sym, ◌∙◌, ap, subst, append_assoc, length-append, arith}
use Rattle.std.proofs.lemmas.List.{append-nil}
use Rattle.log_host.specs.Host.{Outcomes}
use Rattle.durable_log.specs.declared.link.Link.{Link}
use Rattle.durable_log.specs.Format.{LogRecord, max_batch, link_after, links_after, Reading, prepended, blocks, shut, frame}
use Rattle.durable_log.specs.Files.{StandsFor}
use Rattle.durable_log.specs.Logs.{AreSmall, records_of, behind_gate, batch_records, IsBatch, IsSettled, BeforeOrAfter, Same, Told}
use Rattle.durable_log.specs.declared.log.Log.{Log}
use Rattle.durable_log.proofs.Links.{IsLink, links-more}
use Rattle.durable_log.proofs.Blocks.{read-blocks, read-last, read-end, next-few}
use Rattle.durable_log.proofs.Batches.{rest-stands}

-- where nothing waits
pub nothing-waits : (link : Link) (bytes : List ℕ) → bytes ≡ [] → batch_records link bytes ≡ []
nothing-waits link bytes is =
    ap (batch_records link) is ∙ ap (λ (r : Reading). r.records) (read-end link (49 ∷ 49 ∷ 49 ∷ []) (next-few link (49 ∷ 49 ∷ 49 ∷ []) (omega arith)))

-- a batch has the records that it was made of
pub batch-of : (link : Link) (records : List LogRecord) → AreSmall records → IsLink link → batch_records link (behind_gate link records) ≡ records
batch-of link [] small fits = nothing-waits link [] refl
batch-of link (r ∷ records) small fits =
    ap (λ (q : Reading). q.records)
    (read-blocks link (r ∷ records) shut small fits ∙ ap (prepended (r ∷ records)) (read-last (links_after link (r ∷ records))))
    ∙ append-nil (r ∷ records)

blocks-push : (link : Link) (records : List LogRecord) (r : LogRecord)
    → blocks link (records ++ r ∷ []) ≡ blocks link records ++ (49 ∷ 49 ∷ 49 ∷ frame (links_after link records) r)
blocks-push link [] r = ap (λ (l : List ℕ). 49 ∷ 49 ∷ 49 ∷ l) (append-nil (frame link r))
blocks-push link (q ∷ records) r =
    let after = link_after link q in
    ap (λ (l : List ℕ). 49 ∷ 49 ∷ 49 ∷ (frame link q ++ l)) (blocks-push after records r)
    ∙ ap (λ (l : List ℕ). 49 ∷ 49 ∷ 49 ∷ l) (sym (append_assoc (frame link q) (blocks after records) (49 ∷ 49 ∷ 49 ∷ frame (links_after after records) r)))

-- what stands behind a gate, with one record more: the first, or one behind the gate that stood at the end
pub record IsPushed (last : Link) (bytes grown : List ℕ) (r : LogRecord) : Type 0 where
  pub first : bytes ≡ [] → grown ≡ frame last r ++ shut
  pub later : (front : List ℕ) → bytes ≡ front ++ shut → grown ≡ front ++ (49 ∷ 49 ∷ 49 ∷ (frame last r ++ shut))

behind-push : (link : Link) (bytes grown : List ℕ) (records : List LogRecord) (r : LogRecord) → bytes ≡ behind_gate link records → IsPushed (links_after link records) bytes grown r
    → grown ≡ behind_gate link (records ++ r ∷ [])
behind-push link bytes grown [] r is p = p.first is ∙ ap (λ (l : List ℕ). l ++ shut) (sym (append-nil (frame link r)))
behind-push link bytes grown (q ∷ records) r is p =
    let after = link_after link q in
    let last = links_after after records in
    let front = frame link q ++ blocks after records in
    p.later front is
    ∙ sym (append_assoc front (49 ∷ 49 ∷ 49 ∷ frame last r) shut)
    ∙ ap (λ (l : List ℕ). l ++ shut)
    (append_assoc (frame link q) (blocks after records) (49 ∷ 49 ∷ 49 ∷ frame last r) ∙ ap (λ (l : List ℕ). frame link q ++ l) (sym (blocks-push after records r)))

small-push : (records : List LogRecord) (r : LogRecord) → AreSmall records → length r.line < 2 ^ 32 → r.reply_check < 2 ^ 32 → AreSmall (records ++ r ∷ [])
small-push [] r small here reply = (here, reply, tt)
small-push (q ∷ records) r small here reply = (small.0, small.1, small-push records r small.2 here reply)

-- what stands behind a gate is nothing, or ends with a shut gate
pub behind-ends : (link : Link) (bytes : List ℕ) (records : List LogRecord) → bytes ≡ behind_gate link records → (bytes ≡ []) ⊎ ((front : List ℕ) × (bytes ≡ front ++ shut))
behind-ends link bytes [] is = inl is
behind-ends link bytes (r ∷ records) is = inr (frame link r ++ blocks (link_after link r) records, is)

-- these bytes wait, and this is the link of the last record among them to the next
pub record Kept (link last : Link) (bytes : List ℕ) : Type 0 where
  pub last_is : last ≡ links_after link (batch_records link bytes)
  pub waits : bytes ≡ behind_gate link (batch_records link bytes)
  pub small : AreSmall (batch_records link bytes)
  pub short : length bytes ≤ max_batch

pub kept : (link last : Link) (bytes same : List ℕ) → same ≡ bytes → Kept link last bytes → Kept link last same
kept link last bytes same is k = subst (Kept link last) (sym is) k

pub kept-nothing : (link : Link) (bytes : List ℕ) → bytes ≡ [] → Kept link link bytes
kept-nothing link bytes is =
    let none : batch_records link [] ≡ [] = nothing-waits link [] refl in
    kept link link [] bytes is
    (record { last_is = ap (links_after link) (sym none); waits = ap (behind_gate link) (sym none); small = subst AreSmall (sym none) tt; short = omega arith })

frame-length : (link : Link) (r : LogRecord) → length (frame link r) ≡ length r.line + 49
frame-length link r = omega (arith, length-append r.line (10 ∷ []))

-- a record whose line is not too long makes no batch too long
still-short : (link last : Link) (bytes grown : List ℕ) (r : LogRecord) → bytes ≡ behind_gate link (batch_records link bytes) → length bytes ≤ 2 ^ 24 → length r.line ≤ 2 ^ 24
    → IsPushed last bytes grown r → length grown ≤ max_batch
still-short link last bytes grown r waits room small p = ⊎_elim
    (λ (none : bytes ≡ []). omega (arith, ap length (p.first none), length-append (frame last r) shut, frame-length last r))
    (λ (some : (front : List ℕ) × (bytes ≡ front ++ shut)).
    omega (arith, ap length (p.later some.0 some.1), ap length some.1, length-append some.0 shut, length-append some.0 (49 ∷ 49 ∷ 49 ∷ (frame last r ++ shut)), length-append (frame last r) shut, frame-length last r))
    (behind-ends link bytes (batch_records link bytes) waits)

-- with one record more
pub record Pushed (link last : Link) (bytes grown : List ℕ) (r : LogRecord) : Type 0 where
  pub kept : Kept link (link_after last r) grown
  pub records : batch_records link grown ≡ batch_records link bytes ++ r ∷ []

pub pushed : (link last : Link) (bytes grown : List ℕ) (r : LogRecord) → IsLink link → Kept link last bytes → length bytes ≤ 2 ^ 24 → length r.line ≤ 2 ^ 24 → r.reply_check < 2 ^ 32
    → IsPushed last bytes grown r → Pushed link last bytes grown r
pushed link last bytes grown r fits k room line reply p =
    let records = batch_records link bytes in
    let longer = small-push records r k.small (omega (arith, line)) reply in
    let written : grown ≡ behind_gate link (records ++ r ∷ []) =
    behind-push link bytes grown records r k.waits (subst (λ (l : Link). IsPushed l bytes grown r) k.last_is p) in
    let same : batch_records link grown ≡ records ++ r ∷ [] = ap (batch_records link) written ∙ batch-of link (records ++ r ∷ []) longer fits in
    record {
      kept = record {
        last_is = ap (λ (l : Link). link_after l r) k.last_is ∙ sym (ap (links_after link) same ∙ links-more link records (r ∷ []));
        waits = written ∙ ap (behind_gate link) (sym same);
        small = subst AreSmall (sym same) longer;
        short = still-short link last bytes grown r k.waits room line p;
      };
      records = same;
    }

-- what waits is a batch, if anything does
is-batch : (link : Link) (bytes : List ℕ) (records : List LogRecord) → batch_records link bytes ≡ records → bytes ≡ behind_gate link records → AreSmall records → length bytes ≤ max_batch
    → (bytes ≡ [] → ⊥) → IsBatch link bytes
is-batch link bytes [] same waits small short some = absurd (some waits)
is-batch link bytes (r ∷ records) same waits small short some = record { first = r; others = records; records = same; bytes = waits; small = small; short = short }

pub waiting-batch : (link last : Link) (bytes : List ℕ) → Kept link last bytes → (bytes ≡ [] → ⊥) → IsBatch link bytes
waiting-batch link last bytes k some = is-batch link bytes (batch_records link bytes) refl k.waits k.small k.short some

-- where no record waits, no byte does
pub no-bytes : (link : Link) (bytes : List ℕ) → bytes ≡ behind_gate link (batch_records link bytes) → batch_records link bytes ≡ [] → bytes ≡ []
no-bytes link bytes waits none = waits ∙ ap (behind_gate link) none

module _ {D : Type 0} (seen heard : D → List ℕ) (may_leave : D → Outcomes) (log : Log D) (s : IsSettled seen heard may_leave log) where
  pub settled-kept : Kept log.link log.last log.waiting.items
  settled-kept = record { last_is = s.last; waits = s.waits; small = s.small; short = s.short }

  -- what a crash leaves now
  pub settled-leaves : (c o : List ℕ) → may_leave log.host c o → Same (records_of (seen log.host)) (heard log.host) c o
  settled-leaves c o left =
      let only = s.durable c o left in
      (subst (StandsFor (records_of (seen log.host))) (sym only.0) (rest-stands (seen log.host) log.end s.rest), only.1)

  pub settled-both : (others : List LogRecord) (c o : List ℕ) → may_leave log.host c o → BeforeOrAfter (records_of (seen log.host)) others (heard log.host) c o
  settled-both others c o left = let same = settled-leaves c o left in (inl same.0, same.1)

  pub settled-told : (piece c o : List ℕ) → may_leave log.host c o → Told (records_of (seen log.host)) (heard log.host) piece c o
  settled-told piece c o left = let same = settled-leaves c o left in (same.0, (0, same.1 ∙ sym (append-nil (heard log.host))))

  pub settled-tells : (piece c p o : List ℕ) → may_leave log.host c p → (n : ℕ) × (o ≡ p ++ take n piece) → Told (records_of (seen log.host)) (heard log.host) piece c o
  settled-tells piece c p o left told = let same = settled-leaves c p left in (same.0, (told.0, told.1 ∙ ap (λ (l : List ℕ). l ++ take told.0 piece) same.1))
