-- What files stand for, by a front that has records.
use Rattle.std.proofs.Common.{◌≡◌, ◌⊎◌, inl, inr, ℕ, ◌≤◌, List, [], ◌∷◌, ◌++◌, length, Bool, true, false, refl, sym, ◌∙◌, ap, subst, append_assoc}
use Rattle.std.proofs.lemmas.List.{append-nil}
use Rattle.durable_log.specs.declared.link.Link.{Link}
use Rattle.durable_log.specs.Format.{LogRecord, link_after, links_after, Reading, whole, with_record, read, prepended, blocks, shut, is_open, frame, max_batch}
use Rattle.durable_log.specs.Files.{opening, header, first_link, link_behind, StandsFor, Holding}
use Rattle.durable_log.specs.Logs.{AreSmall, records_by, records_of}
use Rattle.durable_log.proofs.Links.{next-fits, behind-fits, links-more}
use Rattle.durable_log.proofs.Blocks.{read-block, read-blocks, read-end, read-last, next-not_open}

-- a header has no records
pub header-holds : Holding [] header
header-holds x = (x, refl, refl)

pub prepended-two : (records others : List LogRecord) (reading : Reading) → prepended records (prepended others reading) ≡ prepended (records ++ others) reading
prepended-two records others reading = ap (λ (l : List LogRecord). record { records = l; sound = reading.sound }) (sym (append_assoc records others reading.records))

-- a front grows by what is read as more records
pub holds-more : (records others : List LogRecord) (base more : List ℕ) → Holding records base
    → ((x : List ℕ) → read (link_behind records) (more ++ x) ≡ prepended others (read (links_after (link_behind records) others) x))
    → Holding (records ++ others) (base ++ more)
holds-more records others base more holds reads x =
    let at = holds (more ++ x) in (
      at.0,
      ap opening (append_assoc base more x) ∙ at.1,
      at.2 ∙ ap (prepended records) (reads x) ∙ prepended-two records others (read (links_after (link_behind records) others) x)
          ∙ ap (λ (l : Link). prepended (records ++ others) (read l x)) (sym (links-more first_link records others)),
    )

-- a file that begins with such a front stands for its records, and those behind it
pub stands-more : (records others : List LogRecord) (base x : List ℕ) → Holding records base → read (link_behind records) x ≡ whole others → StandsFor (records ++ others) (base ++ x)
stands-more records others base x holds is =
    let at = holds x in
    (at.0, at.1, at.2 ∙ ap (prepended records) is)

pub stands-alone : (records : List LogRecord) (base x : List ℕ) → Holding records base → read (link_behind records) x ≡ whole [] → StandsFor records (base ++ x)
stands-alone records base x holds is = subst (λ rs. StandsFor rs (base ++ x)) (append-nil records) (stands-more records [] base x holds is)

-- a file's records are those that it stands for
pub records-stand : (records : List LogRecord) (file : List ℕ) → StandsFor records file → records_of file ≡ records
records-stand records file stands = ap records_by stands.1 ∙ ap (λ (r : Reading). r.records) stands.2

-- a batch behind a gate counts or it does not
pub stands-gate : (records others : List LogRecord) (first : LogRecord) (base : List ℕ) (a b c : ℕ) → Holding records base → AreSmall (first ∷ others)
    → length ((frame (link_behind records) first ++ blocks (link_after (link_behind records) first) others) ++ shut) ≤ max_batch
    → (StandsFor records (base ++ (a ∷ b ∷ c ∷ ((frame (link_behind records) first ++ blocks (link_after (link_behind records) first) others) ++ shut))))
    ⊎ (StandsFor (records ++ first ∷ others) (base ++ (a ∷ b ∷ c ∷ ((frame (link_behind records) first ++ blocks (link_after (link_behind records) first) others) ++ shut))))
stands-gate records others first base a b c holds small short = by_gate (is_open a b c) refl
  where
    behind : List ℕ
    behind = (frame (link_behind records) first ++ blocks (link_after (link_behind records) first) others) ++ shut

    opened : is_open a b c ≡ true → read (link_behind records) (a ∷ b ∷ c ∷ behind) ≡ whole (first ∷ others)
    opened is =
        let second = link_after (link_behind records) first in
        ap (λ (l : List ℕ). read (link_behind records) (a ∷ b ∷ c ∷ l)) (append_assoc (frame (link_behind records) first) (blocks second others) shut)
        ∙ read-block (link_behind records) a b c first (blocks second others ++ shut) is small.0 small.1 (behind-fits records)
        ∙ ap (with_record first)
        (read-blocks second others shut small.2 (next-fits (link_behind records) first (behind-fits records)) ∙ ap (prepended others) (read-last (links_after second others)))
        ∙ (λ i. whole (first ∷ append-nil others i))

    by_gate : (v : Bool) → is_open a b c ≡ v
        → (StandsFor records (base ++ (a ∷ b ∷ c ∷ behind))) ⊎ (StandsFor (records ++ first ∷ others) (base ++ (a ∷ b ∷ c ∷ behind)))
    by_gate true is = inr (stands-more records (first ∷ others) base (a ∷ b ∷ c ∷ behind) holds (opened is))
    by_gate false is = inl (stands-alone records base (a ∷ b ∷ c ∷ behind) holds (read-end (link_behind records) _ (next-not_open (link_behind records) a b c behind is short)))
