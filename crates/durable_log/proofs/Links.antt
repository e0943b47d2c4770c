-- Links fit into their columns, and go on.
use Rattle.std.proofs.Common.{◌≡◌, ℕ, ◌^◌, ◌<◌, List, [], ◌∷◌, ◌++◌, refl, ◌∙◌, ap, arith}
use Rattle.crc32c.proofs.Laws.{check-small}
use Rattle.durable_log.specs.declared.link.Link.{Link}
use Rattle.durable_log.specs.Format.{LogRecord, covered, link_after, links_after}
use Rattle.durable_log.specs.Files.{header, first_link, link_behind}
use Rattle.durable_log.specs.Logs.{records_of, link_of}

pub record IsLink (link : Link) : Type 0 where
  pub number : link.number < 2 ^ 32
  pub check : link.check < 2 ^ 32

pub next-fits : (link : Link) (r : LogRecord) → IsLink link → IsLink (link_after link r)
next-fits link r is = record { number = omega arith; check = check-small link.check (covered r) is.check }

links-fit : (link : Link) (records : List LogRecord) → IsLink link → IsLink (links_after link records)
links-fit link [] is = is
links-fit link (r ∷ records) is = links-fit (link_after link r) records (next-fits link r is)

first-fits : IsLink first_link
first-fits = record { number = omega arith; check = check-small 0 header (omega arith) }

pub behind-fits : (records : List LogRecord) → IsLink (link_behind records)
behind-fits records = links-fit first_link records first-fits

pub links-more : (link : Link) (records others : List LogRecord) → links_after link (records ++ others) ≡ links_after (links_after link records) others
links-more link [] others = refl
links-more link (r ∷ records) others = links-more (link_after link r) records others

-- a file with more records
pub link-grown : (file grown : List ℕ) (more : List LogRecord) → records_of grown ≡ records_of file ++ more → link_of grown ≡ links_after (link_of file) more
link-grown file grown more is = ap link_behind is ∙ links-more first_link (records_of file) more
