-- The parts of a job execution's row in which another row may differ.
use Rattle.std.specs.Prelude.{◌≡◌}
use Rattle.batch_history.specs.declared.rows.ExecutionRow.{ExecutionRow}

-- two rows of one job execution, begun in the same way
abbrev pub IsSameBegin : ExecutionRow → ExecutionRow → Type 0
IsSameBegin a b =
    (a.execution ≡ b.execution) × (a.instance ≡ b.instance) × (a.job ≡ b.job) × (a.parameters ≡ b.parameters) × (a.plan ≡ b.plan)

-- two rows with the same moments
abbrev pub AreSameMoments : ExecutionRow → ExecutionRow → Type 0
AreSameMoments a b = (a.create ≡ b.create) × (a.start ≡ b.start) × (a.end ≡ b.end) × (a.updated ≡ b.updated)

-- two rows with the same state
abbrev pub IsSameState : ExecutionRow → ExecutionRow → Type 0
IsSameState a b = (a.stop ≡ b.stop) × (a.abandoned ≡ b.abandoned) × (a.bare ≡ b.bare) × (a.exit ≡ b.exit)
