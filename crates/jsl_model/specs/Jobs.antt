-- The job, as contracts see it.
use Rattle.std.specs.Prelude.{ℕ, Bool, List}
use Rattle.jsl_model.specs.declared.element.Element.{Element}

-- a job: its id, whether it may be restarted, and its elements
pub record JobTree : Type 0 where
  pub id : List ℕ
  pub restartable : Bool
  pub elements : List Element
