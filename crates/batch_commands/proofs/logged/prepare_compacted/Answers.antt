use Rattle.std.proofs.Common.{ap, inl, inr, not, eqb, refl}
use Rattle.durable_log.specs.Logs.{records_of}
use Rattle.batch_commands.proofs.Readying.{begun-compacted}
use Rattle.batch_commands.proofs.logged.prepare_compacted.Goals as goal

pub returns-then-is_compacted-clause-begun : goal.returns-then-is_compacted-clause-begun
returns-then-is_compacted-clause-begun g c = inr (refl, c.in_ok-made.ensures.compacted c.if-is_compacted.true)

pub returns-else-is_compacted-clause-begun : goal.returns-else-is_compacted-clause-begun
returns-else-is_compacted-clause-begun g c =
    begun-compacted (not (eqb g.row.TAGS 0)) _ c.args.line.now c.args.catalogue (records_of c.in_ok-made.made.log.file.bytes.items) (records_of c.compact_log.result.file.bytes.items)
    (c.in_ok-made.ensures.begun c.if-is_compacted.false) c.in_ok-made.ensures.jobs c.requires
    (elim c.compact_log.ensures.compacted [
      | inl same ↦ inl (ap (λ log. records_of log.file.bytes.items) same)
      | inr is ↦ inr is
    ])
