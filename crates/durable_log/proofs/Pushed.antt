-- A log with one record more.
use Rattle.std.proofs.Common.{◌≡◌, ℕ, ◌<◌, ◌^◌, ◌-◌, List, [], ◌∷◌, ◌++◌, length, sym, ◌∙◌, ap, subst}
use Rattle.durable_log.specs.Format.{LogRecord, link_after, frame, shut}
use Rattle.durable_log.specs.Files.{StandsFor}
use Rattle.durable_log.specs.Logs.{records_of, IsAtRest, IsRest}
use Rattle.durable_log.specs.declared.link.Link.{Link}
use Rattle.durable_log.specs.declared.rest.Rest.{Rest}
use Rattle.durable_log.proofs.Links.{link-grown}
use Rattle.durable_log.proofs.Fronts.{records-stand}
use Rattle.durable_log.proofs.Batches.{rest-stands, at-gate, one-more}

module _ (file : List ℕ) (at : Rest) (is : IsRest file at) (r : LogRecord) (line : length r.line < 2 ^ 32) (reply : r.reply_check < 2 ^ 32)
    (more : List ℕ) (bytes : more ≡ is.at.base ++ (49 ∷ 49 ∷ 49 ∷ (frame at.link r ++ shut))) where
  grown : (end : ℕ) × IsAtRest more end × (records_of more ≡ records_of file ++ r ∷ [])
  grown =
      let known = bytes ∙ ap (λ (l : Link). is.at.base ++ (49 ∷ 49 ∷ 49 ∷ (frame l r ++ shut))) is.link in
      let one = one-more file at.end is.at r (line, reply, tt) more known in
      (_, one.0, one.1)

  pub pushed-records : records_of more ≡ records_of file ++ r ∷ []
  pushed-records = grown.2

  pub pushed-stands : (records : List LogRecord) → StandsFor records file → StandsFor (records ++ r ∷ []) more
  pushed-stands records stands =
      let known = grown.2 ∙ ap (λ (rs : List LogRecord). rs ++ r ∷ []) (records-stand records file stands) in
      subst (λ (rs : List LogRecord). StandsFor rs more) known (rest-stands more grown.0 grown.1)

  pub pushed-rest : (next : Rest) → next.end ≡ length more - 3 → next.link ≡ link_after at.link r → IsRest more next
  pushed-rest next end link = record {
    at = at-gate more grown.0 next.end grown.1 end;
    link = link ∙ ap (λ (l : Link). link_after l r) is.link ∙ sym (link-grown file more (r ∷ []) grown.2);
  }
