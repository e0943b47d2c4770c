-- The line in a value that is no job execution.
use Rattle.std.proofs.Common.{◌≡◌, ℕ, List, Bool, false, Some, option_map, ap, ◌∙◌, if◌then◌else◌}
use Rattle.serde_json.specs.Data.{Data}
use Rattle.serde_json.specs.Read.{read}
use Rattle.base_text.specs.Executions.{execution_of}
use Rattle.base_text.specs.Lines.{has_job, short_line_in, base_line_in, line_in_read}
use Rattle.base_text.specs.declared.line.BaseLine.TheVariants.{Execution}

no_job : (d : Data) → has_job d ≡ false → base_line_in d ≡ short_line_in d
unfolding base_line_in
no_job d none = ap (λ (b : Bool). if b then option_map Execution (execution_of d) else short_line_in d) none

-- the line in what was read, if it is no job execution
pub short_line : (text : List ℕ) (d : Data) → read text ≡ Some d → has_job d ≡ false → line_in_read (read text) ≡ short_line_in d
short_line text d is none = ap line_in_read is ∙ no_job d none
