-- A file that was just made.
use Rattle.std.proofs.Common.{◌≡◌, ℕ, List, [], ◌∷◌, ◌++◌, length, refl, sym, ◌∙◌, ap, subst}
use Rattle.std.proofs.lemmas.List.{append-nil}
use Rattle.durable_log.specs.Format.{LogRecord, whole, prepended, blocks, shut, frame}
use Rattle.durable_log.specs.Files.{header, first_link, link_behind, StandsFor, Holding}
use Rattle.durable_log.specs.Logs.{AreSmall, link_of, IsAtRest}
use Rattle.durable_log.proofs.Links.{behind-fits}
use Rattle.durable_log.proofs.Blocks.{read-blocks, read-last}
use Rattle.durable_log.proofs.Fronts.{header-holds, holds-more, records-stand}

pub fresh-bytes : (r : LogRecord) (file : List ℕ) → file ≡ header ++ (49 ∷ 49 ∷ 49 ∷ (frame first_link r ++ shut)) → file ≡ header ++ (blocks first_link (r ∷ []) ++ shut)
fresh-bytes r file is = is ∙ ap (λ (l : List ℕ). header ++ (49 ∷ 49 ∷ 49 ∷ (l ++ shut))) (sym (append-nil (frame first_link r)))

module _ (records : List LogRecord) (small : AreSmall records) where
  stands : StandsFor records (header ++ (blocks first_link records ++ shut))
  stands = (
    blocks first_link records ++ shut,
    refl,
    read-blocks first_link records shut small (behind-fits []) ∙ ap (prepended records) (read-last (link_behind records)) ∙ (λ i. whole (append-nil records i)),
  )

  at-rest : IsAtRest (header ++ (blocks first_link records ++ shut)) (length (header ++ blocks first_link records))
  at-rest = record {
    base = header ++ blocks first_link records;
    split = refl;
    place = refl;
    holds = subst (λ (rs : List LogRecord). Holding rs (header ++ blocks first_link records)) (sym (records-stand records (header ++ (blocks first_link records ++ shut)) stands))
        (holds-more [] records header (blocks first_link records) header-holds (λ x. read-blocks first_link records x small (behind-fits [])));
  }

  pub fresh-stands : (file : List ℕ) → file ≡ header ++ (blocks first_link records ++ shut) → StandsFor records file
  fresh-stands file is = subst (StandsFor records) (sym is) stands

  pub fresh-link : (file : List ℕ) → file ≡ header ++ (blocks first_link records ++ shut) → link_of file ≡ link_behind records
  fresh-link file is = ap link_behind (records-stand records file (fresh-stands file is))

  pub fresh-rests : (file : List ℕ) → file ≡ header ++ (blocks first_link records ++ shut) → (end : ℕ) × IsAtRest file end
  fresh-rests file is = (length (header ++ blocks first_link records), subst (λ (l : List ℕ). IsAtRest l (length (header ++ blocks first_link records))) (sym is) at-rest)
